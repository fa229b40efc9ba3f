use Rattle.std.proofs.Common.{◌≤◌, length, drop, sym, ap, arith}
use Rattle.std.proofs.lemmas.List.{length-drop}
use Rattle.width_check.specs.Typed.{program_of}
use Rattle.handshake_expand.specs.Layout.{capped}
use Rattle.pace_bound.proofs.Members.{single_left}
use Rattle.pace_bound.proofs.within.between.Goals as goal

pub returns-else-place-parts : goal.returns-else-place-parts
returns-else-place-parts c =
    let parts = c.args.parts.now in
    let few : length (drop c.args.place parts) ≤ 1 = let l = length-drop c.args.place parts in omega arith in
    sym (ap capped (single_left c.args.halved (program_of c.args.program.now) (drop c.args.place parts) few))
