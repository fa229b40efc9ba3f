use Rattle.width_check.proofs.Statements.{MembersLeft, ArmsLeft}
use Rattle.width_check.proofs.fitting.+is_process.Given as goal

abbrev pub invariant-loop-part : goal.invariant-loop-part
invariant-loop-part l = MembersLeft l.channels l.vars l.part-items l.part-index

abbrev pub invariant-loop-arm : goal.invariant-loop-arm
invariant-loop-arm l = ArmsLeft l.channels l.vars l.arm-items l.arm-index
