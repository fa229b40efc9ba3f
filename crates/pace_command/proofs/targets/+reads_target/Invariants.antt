use Rattle.std.proofs.Common.{◌≡◌, drop}
use Rattle.width_check.specs.View.{process_of, members_in, choices_in}
use Rattle.pace_command.specs.Targets.{reads_target, member_reads_target, choice_reads_target}
use Rattle.pace_command.proofs.targets.+reads_target.Given as goal

abbrev pub invariant-loop-part : goal.invariant-loop-part
invariant-loop-part l = reads_target (process_of l.fn.s) ≡ member_reads_target (members_in (drop l.part-index l.part-items))

abbrev pub invariant-loop-arm : goal.invariant-loop-arm
invariant-loop-arm l = reads_target (process_of l.fn.s) ≡ choice_reads_target (choices_in (drop l.arm-index l.arm-items))
