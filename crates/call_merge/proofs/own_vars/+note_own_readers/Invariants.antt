use Rattle.std.proofs.Common.{◌≡◌, ◌++◌, drop}
use Rattle.width_check.specs.Walk.{statements_in, arms_in}
use Rattle.call_merge.specs.CallSplits.{own_readers_each, own_readers_arms}
use Rattle.call_merge.proofs.own_vars.+note_own_readers.Given as goal

abbrev pub invariant-loop-part : goal.invariant-loop-part
invariant-loop-part l = l.found.items ++ own_readers_each l.decls (statements_in (drop l.part-index l.part-items))
    ≡ l.initial.found.items ++ own_readers_each l.decls (statements_in l.part-items)

abbrev pub invariant-loop-arm : goal.invariant-loop-arm
invariant-loop-arm l = l.found.items ++ own_readers_arms l.decls (arms_in (drop l.arm-index l.arm-items))
    ≡ l.initial.found.items ++ own_readers_arms l.decls (arms_in l.arm-items)
