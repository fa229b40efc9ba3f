use Rattle.std.proofs.Common.{◌≡◌, suc, arith}
use Rattle.width_check.specs.Typed.{program_of}
use Rattle.width_check.specs.View.{process_of, members_in}
use Rattle.pace_bound.specs.Halving.{first_by, turn_first_by}
use Rattle.pace_bound.proofs.Members.{turn_first_is}
use Rattle.pace_bound.proofs.first.turn_first.Goals as goal

pub returns-then-members-gt1 : goal.returns-then-members-gt1
returns-then-members-gt1 c =
    let P = program_of c.args.program.now in
    let b = c.args.halved in
    let whole : turn_first_by b P (members_in c.args.members.now) ≡ suc (first_by b P (process_of c.index-members-0.result)) =
    turn_first_is b P c.args.members.now c.index-members-0.result (omega arith) c.index-members-0.is in
    omega (arith, whole)
