use Rattle.std.proofs.Common.{length, sym, ◌∙◌, rules}
use Rattle.std.proofs.lemmas.List.{get_or_read}
use Rattle.chp_syntax.specs.declared.tree.Stmt.{the_lemmas}
use Rattle.chp_syntax.specs.View.{statement_of}
use Rattle.call_merge.specs.CallSplits.{own_names}
use Rattle.call_merge.proofs.SplitSteps.{member_added, member_placed, member_fits, group_placed, grouped_split, arm_added, arm_placed, arm_fits, select_placed, selected_split, of_made, if_made, group_room, select_room}
use Rattle.call_merge.proofs.OwnHalves.{assign_split}
use Rattle.call_merge.proofs.splits.+split.Goals as goal

pub loop-part-preserved : goal.loop-part-preserved
loop-part-preserved t c = record {
  made = member_added _ _ _ c.loop-part.part-index _ c.split-in-loop-part.result _ _ _ _ _ c.loop-part-test.true c.part-item.is c.loop-part.invariant.made
      c.split-in-loop-part.ensures.made c.split-in-loop-part.ensures.place c.in_ok-add-in-Then.ensures.made c.in_ok-add-in-Then.ensures.added;
  place = member_placed _ _ c.loop-part.part-index _ _ _ _ c.loop-part-test.true c.part-item.is c.loop-part.invariant.place
      (of_made c.split-in-loop-part.result _ c.in_ok-add-in-Then.ensures.made c.split-in-loop-part.ensures.place);
}

pub loop-arm-preserved : goal.loop-arm-preserved
loop-arm-preserved t c = record {
  made = arm_added _ _ _ c.loop-arm.arm-index _ c.split-body.result _ _ _ _ _ c.loop-arm-test.true c.arm-item.is c.loop-arm.invariant.made
      c.split-body.ensures.made c.split-body.ensures.place c.in_ok-add_arm-in-Select.ensures.made c.in_ok-add_arm-in-Select.ensures.added;
  place = arm_placed _ _ c.loop-arm.arm-index _ _ _ _ c.loop-arm-test.true c.arm-item.is c.loop-arm.invariant.place
      (of_made c.split-body.result _ c.in_ok-add_arm-in-Select.ensures.made c.split-body.ensures.place);
}

pub returns-after-loop-part-clause-made : goal.returns-after-loop-part-clause-made
returns-after-loop-part-clause-made t c = grouped_split c.args.decls.now (own_names c.args.vars.now) c.args.s.now c.grouped.result c.in-Then.parts
    c.loop-part.made c.deref-part-items.result.now c.loop-part.part-index c.args.place.now c.loop-part.place c.in-Then.is
    c.deref-part-items.ensures.value c.loop-part-test.false c.loop-part.invariant.made c.grouped.ensures.turns c.grouped.ensures.sides

pub returns-after-loop-part-clause-place : goal.returns-after-loop-part-clause-place
returns-after-loop-part-clause-place t c = if_made c.grouped.result _ (group_placed c.args.decls.now c.args.s.now c.in-Then.parts
    c.deref-part-items.result.now c.loop-part.part-index c.args.place.now c.loop-part.place c.in-Then.is c.deref-part-items.ensures.value
    c.loop-part-test.false c.loop-part.invariant.place)

pub returns-after-loop-arm-clause-place : goal.returns-after-loop-arm-clause-place
returns-after-loop-arm-clause-place t c = if_made c.selected.result _ (select_placed c.args.decls.now c.args.s.now c.in-Select.again c.in-Select.arms
    c.deref-arm-items.result.now c.loop-arm.arm-index c.args.place.now c.loop-arm.place c.in-Select.is c.deref-arm-items.ensures.value
    c.loop-arm-test.false c.loop-arm.invariant.place)

pub returns-after-loop-arm-clause-made : goal.returns-after-loop-arm-clause-made
returns-after-loop-arm-clause-made t c = selected_split c.args.decls.now (own_names c.args.vars.now) c.args.s.now c.selected.result c.in-Select.again
    c.in-Select.arms c.loop-arm.made c.deref-arm-items.result.now c.loop-arm.arm-index c.args.place.now c.loop-arm.place c.in-Select.is
    c.deref-arm-items.ensures.value c.loop-arm-test.false c.loop-arm.invariant.made c.selected.ensures

pub split-requires-in-loop-part : goal.split-requires-in-loop-part
split-requires-in-loop-part t c = (
  search (rules, the_lemmas, get_or_read),
  member_fits c.args.decls.now c.deref-part-items.result.now c.loop-part.part-index c.part-item.result c.loop-part.place _ (length c.args.vars.now)
      c.loop-part-test.true c.part-item.is c.loop-part.invariant.place
      (group_room c.args.decls.now c.args.s.now c.in-Then.parts c.deref-part-items.result.now c.args.place.now (length c.args.vars.now) c.in-Then.is
      c.deref-part-items.ensures.value c.requires),
)

pub split-body-requires : goal.split-body-requires
split-body-requires t c = (
  search (rules, the_lemmas, get_or_read),
  arm_fits c.args.decls.now c.deref-arm-items.result.now c.loop-arm.arm-index c.arm-item.result c.loop-arm.place _ (length c.args.vars.now)
      c.loop-arm-test.true c.arm-item.is c.loop-arm.invariant.place
      (select_room c.args.decls.now c.args.s.now c.in-Select.again c.in-Select.arms c.deref-arm-items.result.now c.args.place.now
      (length c.args.vars.now) c.in-Select.is c.deref-arm-items.ensures.value c.requires),
)

pub returns-in_ok-made-in-Assign-clause-made : goal.returns-in_ok-made-in-Assign-clause-made
returns-in_ok-made-in-Assign-clause-made t c = assign_split c.args.decls.now c.args.vars.now c.args.place.now c.args.s.now c.in-Assign.target
    c.in-Assign.value c.index-vars-place.result (statement_of c.in_ok-made-in-Assign.made.value) c.in-Assign.is
    (sym c.in_ok-reads_itself-in-Assign.ensures ∙ c.if-not-branch.false) c.requires c.index-vars-place.is c.in_ok-made-in-Assign.ensures
