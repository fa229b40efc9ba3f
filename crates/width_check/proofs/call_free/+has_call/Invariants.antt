use Rattle.std.proofs.Common.{◌≡◌, drop}
use Rattle.width_check.specs.Calls.{some_has_call, arm_has_call}
use Rattle.width_check.specs.Walk.{statements_in, arms_in}
use Rattle.width_check.proofs.call_free.+has_call.Given as goal

abbrev pub invariant-loop-part : goal.invariant-loop-part
invariant-loop-part l = some_has_call (statements_in (drop l.part-index l.part-items)) ≡ some_has_call (statements_in l.part-items)

abbrev pub invariant-loop-arm : goal.invariant-loop-arm
invariant-loop-arm l = arm_has_call (arms_in (drop l.arm-index l.arm-items)) ≡ arm_has_call (arms_in l.arm-items)
