use Rattle.std.proofs.Common.{◌≡◌, ◌++◌, drop}
use Rattle.width_check.specs.Walk.{statements_in, arms_in}
use Rattle.call_merge.proofs.Mapping.{names_used_each, names_used_arms}
use Rattle.call_merge.proofs.own_vars.+note_uses.Given as goal

abbrev pub invariant-loop-part : goal.invariant-loop-part
invariant-loop-part l = l.names.items ++ names_used_each (statements_in (drop l.part-index l.part-items))
    ≡ l.initial.names.items ++ names_used_each (statements_in l.part-items)

abbrev pub invariant-loop-arm : goal.invariant-loop-arm
invariant-loop-arm l = l.names.items ++ names_used_arms (arms_in (drop l.arm-index l.arm-items))
    ≡ l.initial.names.items ++ names_used_arms (arms_in l.arm-items)
