use Rattle.std.proofs.Common.{refl, rules, ◌∙◌}
use Rattle.std.proofs.lemmas.List.{get_or_read}
use Rattle.chp_syntax.specs.declared.tree.Stmt.{the_lemmas}
use Rattle.chp_syntax.specs.View.{statement_of}
use Rattle.width_check.specs.Calls.{has_call}
use Rattle.width_check.proofs.CallFree.{member_calls, member_passed, members_free, group_calls, arm_calls, arm_passed, arms_free, select_calls}
use Rattle.width_check.proofs.call_free.+has_call.Goals as goal

pub loop-part-init : goal.loop-part-init
loop-part-init t c = refl

pub loop-part-preserved : goal.loop-part-preserved
loop-part-preserved t c = member_passed c.deref-part-items.result.now c.loop-part.part-index c.part-item.result c.has_call-in-loop-part.result _
    c.loop-part-test.true c.part-item.is c.loop-part.invariant c.has_call-in-loop-part.ensures c.if-has_call-2.false

pub loop-arm-init : goal.loop-arm-init
loop-arm-init t c = refl

pub loop-arm-preserved : goal.loop-arm-preserved
loop-arm-preserved t c = arm_passed c.deref-arm-items.result.now c.loop-arm.arm-index c.arm-item.result c.has_call.result _ c.loop-arm-test.true
    c.arm-item.is c.loop-arm.invariant c.has_call.ensures c.if-has_call.false

pub has_call-requires : goal.has_call-requires
has_call-requires t c = (search (rules, the_lemmas, get_or_read), tt)

pub has_call-requires-in-loop-part : goal.has_call-requires-in-loop-part
has_call-requires-in-loop-part t c = (search (rules, the_lemmas, get_or_read), tt)

pub has_call-requires-in-Repeat : goal.has_call-requires-in-Repeat
has_call-requires-in-Repeat t c = (search (rules, the_lemmas, get_or_read), tt)

pub returns-then-has_call-2 : goal.returns-then-has_call-2
returns-then-has_call-2 t c =
    member_calls c.deref-part-items.result.now c.loop-part.part-index c.part-item.result c.has_call-in-loop-part.result (has_call (statement_of c.args.s.now))
    c.loop-part-test.true c.part-item.is (c.loop-part.invariant ∙ group_calls c.args.s.now c.in-Then.parts c.deref-part-items.result.now c.in-Then.is
    c.deref-part-items.ensures.value) c.has_call-in-loop-part.ensures c.if-has_call-2.true

pub returns-after-loop-part : goal.returns-after-loop-part
returns-after-loop-part t c =
    members_free c.deref-part-items.result.now c.loop-part.part-index (has_call (statement_of c.args.s.now)) c.loop-part-test.false (c.loop-part.invariant
    ∙ group_calls c.args.s.now c.in-Then.parts c.deref-part-items.result.now c.in-Then.is c.deref-part-items.ensures.value)

pub returns-then-has_call : goal.returns-then-has_call
returns-then-has_call t c =
    arm_calls c.deref-arm-items.result.now c.loop-arm.arm-index c.arm-item.result c.has_call.result (has_call (statement_of c.args.s.now))
    c.loop-arm-test.true c.arm-item.is (c.loop-arm.invariant ∙ select_calls c.args.s.now c.in-Select.again c.in-Select.arms c.deref-arm-items.result.now
    c.in-Select.is c.deref-arm-items.ensures.value) c.has_call.ensures c.if-has_call.true

pub returns-after-loop-arm : goal.returns-after-loop-arm
returns-after-loop-arm t c =
    arms_free c.deref-arm-items.result.now c.loop-arm.arm-index (has_call (statement_of c.args.s.now)) c.loop-arm-test.false (c.loop-arm.invariant
    ∙ select_calls c.args.s.now c.in-Select.again c.in-Select.arms c.deref-arm-items.result.now c.in-Select.is c.deref-arm-items.ensures.value)
