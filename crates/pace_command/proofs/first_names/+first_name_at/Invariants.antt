use Rattle.std.proofs.Common.{◌≡◌, drop}
use Rattle.width_check.specs.View.{process_of, members_in, choices_in}
use Rattle.pace_command.specs.FirstNames.{first_name_at, member_name_at, choice_name_at}
use Rattle.pace_command.proofs.first_names.+first_name_at.Given as goal

abbrev pub invariant-loop-part : goal.invariant-loop-part
invariant-loop-part l = first_name_at (process_of l.fn.s) ≡ member_name_at (members_in (drop l.part-index l.part-items))

abbrev pub invariant-loop-arm : goal.invariant-loop-arm
invariant-loop-arm l = first_name_at (process_of l.fn.s) ≡ choice_name_at (choices_in (drop l.arm-index l.arm-items))
