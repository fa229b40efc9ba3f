use Rattle.width_check.proofs.Strolls.{member_step, group_done, arm_step, arms_done}
use Rattle.width_check.proofs.survey.+with_statement.Goals as goal

pub loop-part-preserved : goal.loop-part-preserved
loop-part-preserved t c =
    member_step _ _ c.loop-part.part-index _ _ _ _ c.loop-part-test.true c.part-item.is c.loop-part.invariant c.with_statement-findings-in-loop-part.ensures

pub loop-arm-preserved : goal.loop-arm-preserved
loop-arm-preserved t c =
    arm_step _ _ c.loop-arm.arm-index _ _ _ _ _ c.loop-arm-test.true c.arm-item.is c.loop-arm.invariant c.with_expression.ensures.findings
    c.with_statement-findings.ensures

pub returns-after-loop-part : goal.returns-after-loop-part
returns-after-loop-part t c =
    group_done _ _ _ _ c.loop-part.part-index _ _ c.in-Then.is c.deref-part-items.ensures.value c.loop-part-test.false c.loop-part.invariant

pub returns-after-loop-arm : goal.returns-after-loop-arm
returns-after-loop-arm t c =
    arms_done _ _ _ _ _ c.loop-arm.arm-index _ _ c.in-Select.is c.deref-arm-items.ensures.value c.loop-arm-test.false c.loop-arm.invariant
