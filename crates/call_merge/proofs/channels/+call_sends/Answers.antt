use Rattle.call_merge.specs.CallSites.{call_sends, zero_expression}
use Rattle.call_merge.proofs.Copying.{grouped_mapped, selected_mapped, member_mapped, arm_mapped}
use Rattle.call_merge.proofs.Mapping.{goes_sends}
use Rattle.call_merge.proofs.channels.+call_sends.Goals as goal

pub loop-part-preserved : goal.loop-part-preserved
loop-part-preserved t c = member_mapped call_sends _ c.loop-part.part-index c.part-item.result c.call_sends-in-loop-part.result _ _ c.loop-part-test.true
    c.part-item.is c.loop-part.invariant c.call_sends-in-loop-part.ensures c.in_ok-add-in-Then.ensures.made c.in_ok-add-in-Then.ensures.added

pub loop-arm-preserved : goal.loop-arm-preserved
loop-arm-preserved t c = arm_mapped call_sends (λ e. zero_expression) _ c.loop-arm.arm-index c.arm-item.result c.call_sends.result _ _
    c.loop-arm-test.true c.arm-item.is c.loop-arm.invariant c.call_sends.ensures c.in_ok-add_zero_arm-in-Select.ensures.made
    c.in_ok-add_zero_arm-in-Select.ensures.added

pub returns-after-loop-part : goal.returns-after-loop-part
returns-after-loop-part t c = grouped_mapped goes_sends c.args.s.now c.grouped.result c.in-Then.parts c.loop-part.made
    c.deref-part-items.result.now c.loop-part.part-index c.in-Then.is c.deref-part-items.ensures.value c.loop-part-test.false c.loop-part.invariant
    c.grouped.ensures.turns c.grouped.ensures.sides

pub returns-after-loop-arm : goal.returns-after-loop-arm
returns-after-loop-arm t c = selected_mapped goes_sends c.args.s.now c.selected.result c.in-Select.again c.in-Select.arms c.loop-arm.made
    c.deref-arm-items.result.now c.loop-arm.arm-index c.in-Select.is c.deref-arm-items.ensures.value c.loop-arm-test.false c.loop-arm.invariant
    c.selected.ensures
