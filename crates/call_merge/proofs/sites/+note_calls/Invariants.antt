use Rattle.std.proofs.Common.{◌≡◌, ◌++◌, drop}
use Rattle.width_check.specs.Walk.{statements_in, arms_in}
use Rattle.call_merge.specs.CallSites.{calls_in_each, calls_in_arms}
use Rattle.call_merge.proofs.sites.+note_calls.Given as goal

abbrev pub invariant-loop-part : goal.invariant-loop-part
invariant-loop-part l = l.found.items ++ calls_in_each (statements_in (drop l.part-index l.part-items))
    ≡ l.initial.found.items ++ calls_in_each (statements_in l.part-items)

abbrev pub invariant-loop-arm : goal.invariant-loop-arm
invariant-loop-arm l = l.found.items ++ calls_in_arms (arms_in (drop l.arm-index l.arm-items)) ≡ l.initial.found.items ++ calls_in_arms (arms_in l.arm-items)
