use Rattle.std.proofs.Common.{rules, refl}
use Rattle.std.proofs.lemmas.List.{get_or_read}
use Rattle.chp_syntax.specs.declared.tree.Stmt.{the_lemmas}
use Rattle.width_check.proofs.Doing.{group_left, member_ready, members_next, member_added, group_made, select_left, arm_ready, arms_next, arm_added, arms_selected, repeat_ready, repeat_made}
use Rattle.width_check.specs.Form.{processes_form, choices_form}
use Rattle.width_check.specs.Walk.{statements_in, arms_in}
use Rattle.width_check.proofs.Makings.{nothing_made, before_members, before_arms}
use Rattle.width_check.proofs.making.+make_statement.Goals as goal

pub loop-part-init : goal.loop-part-init
loop-part-init t c =
    let left = group_left c.args.scope.now.decls.now c.args.s.now c.in-Then.parts c.deref-part-items.result.now c.in-Then.is c.deref-part-items.ensures.value
    c.requires.shaped c.requires.call_free c.requires.sound in
    record { made = nothing_made c.with_capacity-made-in-Then.result (λ made. before_members made (processes_form c.args.scope.now.decls.now (statements_in c.deref-part-items.result.now))) c.with_capacity-made-in-Then.ensures.items; shaped = left.shaped; free = left.free; sound = left.sound }

pub make_statement-requires-in-loop-part : goal.make_statement-requires-in-loop-part
make_statement-requires-in-loop-part t c =
    let r = member_ready c.args.scope.now.decls.now c.deref-part-items.result.now c.loop-part.part-index c.part-item.result c.loop-part-test.true c.part-item.is
    (record { shaped = c.loop-part.invariant.shaped; free = c.loop-part.invariant.free; sound = c.loop-part.invariant.sound }) in
    (search (rules, the_lemmas, get_or_read), (c.requires.ranged, (r.shaped, (r.free, r.sound))))

pub loop-part-preserved : goal.loop-part-preserved
loop-part-preserved t c =
    let left = members_next c.args.scope.now.decls.now c.deref-part-items.result.now c.loop-part.part-index c.part-item.result c.loop-part-test.true
    c.part-item.is (record { shaped = c.loop-part.invariant.shaped; free = c.loop-part.invariant.free; sound = c.loop-part.invariant.sound }) in
    record {
      made = member_added c.args.scope.now.decls.now c.deref-part-items.result.now c.loop-part.part-index c.part-item.result c.loop-part.made
          c.extended-made-in-loop-part.result c.make_statement-in-loop-part.result _ c.loop-part-test.true c.part-item.is
          c.make_statement-in-loop-part.ensures c.extended-made-in-loop-part.ensures c.loop-part.invariant.made;
      shaped = left.shaped;
      free = left.free;
      sound = left.sound;
    }

pub loop-arm-init : goal.loop-arm-init
loop-arm-init t c =
    let left = select_left c.args.scope.now.decls.now c.args.s.now c.in-Select.again c.in-Select.arms c.deref-arm-items.result.now c.in-Select.is
    c.deref-arm-items.ensures.value c.requires.shaped c.requires.call_free c.requires.sound in
    record { made = nothing_made c.with_capacity-made.result (λ made. before_arms made (choices_form c.args.scope.now.decls.now (arms_in c.deref-arm-items.result.now))) c.with_capacity-made.ensures.items; shaped = left.shaped; free = left.free; sound = left.sound }

pub make_expression-guard-requires-clause-sound : goal.make_expression-guard-requires-clause-sound
make_expression-guard-requires-clause-sound t c =
    (arm_ready c.args.scope.now.decls.now c.deref-arm-items.result.now c.loop-arm.arm-index c.arm-item.result c.loop-arm-test.true c.arm-item.is
    (record { shaped = c.loop-arm.invariant.shaped; free = c.loop-arm.invariant.free; sound = c.loop-arm.invariant.sound })).guard_sound

pub make_statement-body-requires : goal.make_statement-body-requires
make_statement-body-requires t c =
    let r = arm_ready c.args.scope.now.decls.now c.deref-arm-items.result.now c.loop-arm.arm-index c.arm-item.result c.loop-arm-test.true c.arm-item.is
    (record { shaped = c.loop-arm.invariant.shaped; free = c.loop-arm.invariant.free; sound = c.loop-arm.invariant.sound }) in
    (search (rules, the_lemmas, get_or_read), (c.requires.ranged, (r.body.shaped, (r.body.free, r.body.sound))))

pub loop-arm-preserved : goal.loop-arm-preserved
loop-arm-preserved t c =
    let left = arms_next c.args.scope.now.decls.now c.deref-arm-items.result.now c.loop-arm.arm-index c.arm-item.result c.loop-arm-test.true c.arm-item.is
    (record { shaped = c.loop-arm.invariant.shaped; free = c.loop-arm.invariant.free; sound = c.loop-arm.invariant.sound }) in
    record {
      made = arm_added c.args.scope.now.decls.now c.deref-arm-items.result.now c.loop-arm.arm-index c.arm-item.result c.loop-arm.made
          c.extended-made.result c.guarded.result c.make_expression-guard.result c.make_statement-body.result _ c.loop-arm-test.true c.arm-item.is
          c.make_expression-guard.ensures c.make_statement-body.ensures c.guarded.ensures c.extended-made.ensures c.loop-arm.invariant.made;
      shaped = left.shaped;
      free = left.free;
      sound = left.sound;
    }

pub returns-in-Repeat : goal.returns-in-Repeat
returns-in-Repeat t c = repeat_made _ _ _ _ _ _ c.in-Repeat.is c.deref.ensures c.make_statement.ensures c.repeated.ensures

pub returns-in-Skip : goal.returns-in-Skip
returns-in-Skip t c = rw c.in-Skip.is refl

pub make_statement-requires : goal.make_statement-requires
make_statement-requires t c =
    let r = repeat_ready _ _ _ _ c.in-Repeat.is c.deref.ensures c.requires.shaped c.requires.call_free c.requires.sound in
    (search (rules, the_lemmas, get_or_read), (c.requires.ranged, (r.shaped, (r.free, r.sound))))

pub returns-after-loop-part : goal.returns-after-loop-part
returns-after-loop-part t c = group_made c.args.scope.now.decls.now c.args.s.now c.in-Then.parts c.deref-part-items.result.now c.loop-part.part-index
    c.loop-part.made c.grouped.result c.in-Then.is c.deref-part-items.ensures.value c.loop-part-test.false c.loop-part.invariant.made
    c.grouped.ensures.turns c.grouped.ensures.sides

pub returns-after-loop-arm : goal.returns-after-loop-arm
returns-after-loop-arm t c = arms_selected c.args.scope.now.decls.now c.args.s.now c.in-Select.again c.in-Select.arms c.deref-arm-items.result.now
    c.loop-arm.arm-index c.loop-arm.made c.selected.result c.in-Select.is c.deref-arm-items.ensures.value c.loop-arm-test.false c.loop-arm.invariant.made
    c.selected.ensures

pub returns-in-Assign : goal.returns-in-Assign
returns-in-Assign t c = rw c.in-Assign.is c.make_assign.ensures

pub returns-in-Send : goal.returns-in-Send
returns-in-Send t c = rw c.in-Send.is c.make_send.ensures

pub returns-in-Receive : goal.returns-in-Receive
returns-in-Receive t c = rw c.in-Receive.is c.make_receive.ensures

pub make_assign-requires-clause-sound : goal.make_assign-requires-clause-sound
make_assign-requires-clause-sound t c = rw c.in-Assign.is at c.requires.sound

pub make_send-requires-clause-sound : goal.make_send-requires-clause-sound
make_send-requires-clause-sound t c = rw c.in-Send.is at c.requires.sound

pub make_receive-requires : goal.make_receive-requires
make_receive-requires t c = rw c.in-Receive.is at c.requires.sound
