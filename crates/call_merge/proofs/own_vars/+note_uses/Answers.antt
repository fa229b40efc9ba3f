use Rattle.call_merge.proofs.Collecting.{member_collected, arm_collected, group_collected, select_collected}
use Rattle.call_merge.proofs.Mapping.{collects_uses}
use Rattle.call_merge.proofs.own_vars.+note_uses.Goals as goal

pub loop-part-preserved : goal.loop-part-preserved
loop-part-preserved t c = member_collected collects_uses _ c.loop-part.part-index _ _ _ _ c.loop-part-test.true c.part-item.is c.loop-part.invariant
    c.in_ok-note_uses-in-Then.ensures

pub loop-arm-preserved : goal.loop-arm-preserved
loop-arm-preserved t c = arm_collected collects_uses _ c.loop-arm.arm-index _ _ _ _ _ c.loop-arm-test.true c.arm-item.is c.loop-arm.invariant
    c.in_ok-note_reads-in-Select.ensures c.in_ok-note_uses-in-Select.ensures

pub returns-after-loop-part : goal.returns-after-loop-part
returns-after-loop-part t c = group_collected collects_uses _ _ _ c.loop-part.part-index _ _ c.in-Then.is c.deref-part-items.ensures.value
    c.loop-part-test.false c.loop-part.invariant

pub returns-after-loop-arm : goal.returns-after-loop-arm
returns-after-loop-arm t c = select_collected collects_uses _ _ _ _ c.loop-arm.arm-index _ _ c.in-Select.is c.deref-arm-items.ensures.value
    c.loop-arm-test.false c.loop-arm.invariant
