use Rattle.std.proofs.Common.{◌≤◌, length, arith}
use Rattle.std.specs.Prelude.{decimal}
use Rattle.std.proofs.lemmas.Fmt.{length-decimal-le}
use Rattle.handshake_expand.proofs.name.bit_name.Goals as goal

pub put_number-at-requires : goal.put_number-at-requires
put_number-at-requires c =
    let digits : length (decimal c.args.bit) ≤ 2 =
    length-decimal-le 2 c.args.bit (omega arith) (omega (arith, c.requires.bit)) (omega (arith, c.requires.bit)) in
    omega (arith, digits)

pub put-requires : goal.put-requires
put-requires c =
    let digits : length (decimal c.args.bit) ≤ 2 =
    length-decimal-le 2 c.args.bit (omega arith) (omega (arith, c.requires.bit)) (omega (arith, c.requires.bit)) in
    omega (arith, digits)
