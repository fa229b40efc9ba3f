use Rattle.call_merge.proofs.Copying.{grouped_mapped, selected_mapped, member_mapped, arm_mapped}
use Rattle.call_merge.specs.Bodies.{procedures_in}
use Rattle.call_merge.specs.Inlining.{inlined_statement}
use Rattle.call_merge.proofs.Mapping.{goes_inlined}
use Rattle.call_merge.proofs.inlining.+inlined.Goals as goal

pub loop-part-preserved : goal.loop-part-preserved
loop-part-preserved t c = member_mapped (inlined_statement (procedures_in c.args.procs.now)) _ c.loop-part.part-index c.part-item.result
    c.inlined-in-loop-part.result _ _ c.loop-part-test.true c.part-item.is c.loop-part.invariant c.inlined-in-loop-part.ensures
    c.in_ok-add-in-Then.ensures.made c.in_ok-add-in-Then.ensures.added

pub loop-arm-preserved : goal.loop-arm-preserved
loop-arm-preserved t c = arm_mapped (inlined_statement (procedures_in c.args.procs.now)) (λ e. e) _ c.loop-arm.arm-index c.arm-item.result
    c.inlined-body.result _ _ c.loop-arm-test.true c.arm-item.is c.loop-arm.invariant c.inlined-body.ensures c.in_ok-add_arm-in-Select.ensures.made
    c.in_ok-add_arm-in-Select.ensures.added

pub returns-after-loop-part : goal.returns-after-loop-part
returns-after-loop-part t c = grouped_mapped (goes_inlined (procedures_in c.args.procs.now)) c.args.s.now c.grouped.result c.in-Then.parts
    c.loop-part.made
    c.deref-part-items.result.now c.loop-part.part-index c.in-Then.is c.deref-part-items.ensures.value c.loop-part-test.false c.loop-part.invariant
    c.grouped.ensures.turns c.grouped.ensures.sides

pub returns-after-loop-arm : goal.returns-after-loop-arm
returns-after-loop-arm t c = selected_mapped (goes_inlined (procedures_in c.args.procs.now)) c.args.s.now c.selected.result c.in-Select.again c.in-Select.arms
    c.loop-arm.made
    c.deref-arm-items.result.now c.loop-arm.arm-index c.in-Select.is c.deref-arm-items.ensures.value c.loop-arm-test.false c.loop-arm.invariant
    c.selected.ensures
