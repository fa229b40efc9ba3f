use Rattle.call_merge.specs.Bodies.{procedures_in}
use Rattle.call_merge.proofs.FormSteps.{group_counted, select_counted}
use Rattle.call_merge.proofs.forms.+inlined_forms.Goals as goal

pub returns-after-loop-part : goal.returns-after-loop-part
returns-after-loop-part t c = group_counted (procedures_in c.args.procs.now) c.args.s.now c.in-Then.parts c.deref-part-items.result.now c.loop-part.part-index
    c.loop-part.forms c.in-Then.is c.deref-part-items.ensures.value c.loop-part-test.false c.loop-part.invariant.small c.loop-part.invariant.sum

pub returns-after-loop-arm : goal.returns-after-loop-arm
returns-after-loop-arm t c = select_counted (procedures_in c.args.procs.now) c.args.s.now c.in-Select.again c.in-Select.arms c.deref-arm-items.result.now
    c.loop-arm.arm-index c.loop-arm.forms c.in-Select.is c.deref-arm-items.ensures.value c.loop-arm-test.false c.loop-arm.invariant.small
    c.loop-arm.invariant.sum
