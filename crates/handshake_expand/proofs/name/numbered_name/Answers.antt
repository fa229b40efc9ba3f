use Rattle.std.proofs.Common.{◌<◌, ◌≤◌, ◌^◌, length, arith}
use Rattle.std.specs.Prelude.{decimal}
use Rattle.std.proofs.lemmas.Fmt.{length-decimal-le}
use Rattle.handshake_expand.proofs.name.numbered_name.Goals as goal

pub put_number-requires : goal.put_number-requires
put_number-requires c =
    let small : c.args.node < 2 ^ 32 = omega (arith, c.ranges.node) in
    let digits : length (decimal c.args.node) ≤ 10 = length-decimal-le 10 c.args.node (omega arith) (omega (arith, small)) (omega (arith, small)) in
    omega (arith, digits)
