use Rattle.slack_buffer.proofs.Copies.{grouped_rerouted, selected_rerouted}
use Rattle.slack_buffer.proofs.copy.+rerouted_box.Goals as goal

pub returns-after-loop-part : goal.returns-after-loop-part
returns-after-loop-part t c = grouped_rerouted c.args.chan.now c.args.copy.now c.args.s.now c.grouped.result c.in-Then.parts c.loop-part.made
    c.deref-part-items.result.now c.loop-part.part-index c.in-Then.is c.deref-part-items.ensures.value c.loop-part-test.false c.loop-part.invariant
    c.grouped.ensures.turns c.grouped.ensures.sides

pub returns-after-loop-arm : goal.returns-after-loop-arm
returns-after-loop-arm t c = selected_rerouted c.args.chan.now c.args.copy.now c.args.s.now c.selected.result c.in-Select.again c.in-Select.arms c.loop-arm.made
    c.deref-arm-items.result.now c.loop-arm.arm-index c.in-Select.is c.deref-arm-items.ensures.value c.loop-arm-test.false c.loop-arm.invariant
    c.selected.ensures
