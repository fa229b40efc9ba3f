use Rattle.std.proofs.Common.{◌≡◌, ◌+◌, drop, length, map}
use Rattle.chp_syntax.specs.Trees.{and_member}
use Rattle.chp_syntax.specs.View.{statement_of, guarded_of, and_guarded, onto}
use Rattle.width_check.specs.Walk.{statements_in, arms_in}
use Rattle.call_merge.specs.CallSplits.{own_readers_each, own_readers_arms, split_members, split_arms, own_names}
use Rattle.call_merge.proofs.splits.+split.Given as goal

abbrev pub invariant-loop-part : goal.invariant-loop-part
invariant-loop-part l = record {
  made : onto and_member (map statement_of l.made.items) (split_members l.decls (own_names l.vars) l.place (statements_in (drop l.part-index l.part-items)))
      ≡ split_members l.decls (own_names l.vars) l.initial.place (statements_in l.part-items);
  place : l.place + length (own_readers_each l.decls (statements_in (drop l.part-index l.part-items)))
      ≡ l.initial.place + length (own_readers_each l.decls (statements_in l.part-items));
}

abbrev pub invariant-loop-arm : goal.invariant-loop-arm
invariant-loop-arm l = record {
  made : onto and_guarded (map guarded_of l.made.items) (split_arms l.decls (own_names l.vars) l.place (arms_in (drop l.arm-index l.arm-items)))
      ≡ split_arms l.decls (own_names l.vars) l.initial.place (arms_in l.arm-items);
  place : l.place + length (own_readers_arms l.decls (arms_in (drop l.arm-index l.arm-items)))
      ≡ l.initial.place + length (own_readers_arms l.decls (arms_in l.arm-items));
}
