use Rattle.std.proofs.Common.{◌≡◌, ◌+◌, ◌<◌, true, List, [], ◌∷◌, ◌++◌, length, drop, refl, sym, ap, subst, ◌∙◌, arith}
use Rattle.width_check.specs.declared.typed.TArm.{TArm}
use Rattle.width_check.specs.Processes.{Process, side_by_side, choosing}
use Rattle.width_check.specs.Typed.{program_of}
use Rattle.width_check.specs.Typing.{IsProcess, AreProcesses, AreChoices}
use Rattle.width_check.specs.View.{process_of, members_in, choices_in}
use Rattle.handshake_expand.specs.Layout.{capped}
use Rattle.handshake_expand.specs.PartTree.{HasFormedGuards}
use Rattle.handshake_expand.proofs.Rows.{then_is, beside_is, select_is, member_at, arm_at, no_more_members, no_more_arms, arms_counted}
use Rattle.handshake_expand.proofs.Turns.{turn_typed, this_typed}
use Rattle.round_time.specs.Longest.{guards_depth, first, low}
use Rattle.round_time.specs.Ways.{step_of, way, first_step, last_step, to_branch, to_turn, ways_within, turn_ways, each_ways, choice_ways}
use Rattle.pace_bound.specs.Whereabouts.{IsWay, IsLongestOf, onward_ways}
use Rattle.pace_bound.proofs.Members.{formed_guards}
use Rattle.pace_bound.proofs.Picking.{arm_typed}
use Rattle.pace_bound.proofs.WaysJoined.{nothing, single, joined, turn_ways_at, once, again, repeated}
use Rattle.pace_bound.proofs.ways.+longest_within.Goals as goal

pub loop-place-init : goal.loop-place-init
loop-place-init t c =
    let typed = turn_typed _ _ _ c.in-Then.parts c.in-Then.is c.requires.process in record { longest = λ found h. h; formed = typed.1 }

pub loop-place-preserved : goal.loop-place-preserved
loop-place-preserved t c =
    let P = program_of c.args.program.now in
    let items = c.in-Then.parts.items in
    let i = c.loop-place.place in
    let s = c.index.result.now in
    let inside : i < length items = omega (arith, c.len-place-end.ensures, c.in-Then.parts.ok.0) in
    let rest = turn_ways P (members_in (drop (i + 1) items)) in
    let gap = subst (λ l. IsLongestOf c.longest_within-inner.result c.on_to_next-way.result (onward_ways P (members_in (drop i l)))) c.deref.ensures.value
    c.on_to_next-way.ensures in
    record {
      longest = λ found h. c.loop-place.invariant.longest found (subst (IsLongestOf c.loop-place.way found)
          (sym (turn_ways_at P items i s inside c.index.ensures))
          (joined c.loop-place.way c.longest_within-inner.result found (ways_within P (process_of s)) (onward_ways P (members_in (drop i items)) ++ rest)
          c.longest_within-inner.ensures
          (joined c.longest_within-inner.result c.on_to_next-way.result found (onward_ways P (members_in (drop i items))) rest gap h)));
      formed = (this_typed _ _ items i s c.index.ensures inside c.loop-place.invariant.formed).1;
    }

pub loop-part-init : goal.loop-part-init
loop-part-init t c =
    let facts = subst (λ (s : Process). IsProcess c.args.program.now.channels c.args.program.now.vars s) (beside_is _ _ c.in-Beside.is) c.requires.process in
    record {
      longest = λ found h. h;
      formed = subst (λ l. AreProcesses c.args.program.now.channels c.args.program.now.vars (members_in l)) (sym c.deref-part-items.ensures.value) facts.1;
    }

pub loop-part-preserved : goal.loop-part-preserved
loop-part-preserved t c =
    let P = program_of c.args.program.now in
    let items = c.deref-part-items.result.now in
    let i = c.loop-part.part-index in
    let s = c.part-item.result in
    let rest = each_ways P (members_in (drop (i + 1) items)) in
    record {
      longest = λ found h. c.loop-part.invariant.longest found (subst (IsLongestOf c.loop-part.way found)
          (sym (ap (each_ways P) (member_at items i s c.loop-part-test.true c.part-item.is)))
          (joined c.loop-part.way c.longest_within-way.result found (ways_within P (process_of s)) rest c.longest_within-way.ensures h));
      formed = (this_typed _ _ items i s c.part-item.is c.loop-part-test.true c.loop-part.invariant.formed).1;
    }

pub guards_depth-guards-requires : goal.guards_depth-guards-requires
guards_depth-guards-requires t c =
    let facts = subst (λ (s : Process). IsProcess c.args.program.now.channels c.args.program.now.vars s) (select_is _ _ _ c.in-Select.is) c.requires.process in
    subst (λ l. HasFormedGuards (choices_in l)) (sym c.deref-in-Select.ensures.value)
    (formed_guards c.args.program.now.channels c.args.program.now.vars (choices_in c.in-Select.arms.items) facts.2)

pub loop-arm-init : goal.loop-arm-init
loop-arm-init t c =
    let facts = subst (λ (s : Process). IsProcess c.args.program.now.channels c.args.program.now.vars s) (select_is _ _ _ c.in-Select.is) c.requires.process in
    record {
      longest = λ found h. h;
      formed = subst (λ l. AreChoices c.args.program.now.channels c.args.program.now.vars (choices_in l)) (sym c.deref-arm-items.ensures.value) facts.2;
    }

pub loop-arm-preserved : goal.loop-arm-preserved
loop-arm-preserved t c =
    let P = program_of c.args.program.now in
    let itself = process_of c.args.s.now in
    let items = c.deref-arm-items.result.now in
    let i = c.loop-arm.arm-index in
    let a = c.arm-item.result in
    let p = process_of a.body in
    let depth = guards_depth (choices_in c.in-Select.arms.items) in
    let rest = choice_ways P itself (3 + depth) (choices_in (drop (i + 1) items)) in
    let guards : c.guards_depth-guards.result ≡ capped depth =
    c.guards_depth-guards.ensures ∙ ap (λ l. capped (guards_depth (choices_in l))) c.deref-in-Select.ensures.value in
    let begun : c.saturating_add-begun.result ≡ capped (3 + depth) = omega (arith, guards, c.saturating_add-begun.ensures) in
    let way = single c.loop-arm.way c.to_first.result c.longer-inner.result (to_branch P itself (3 + depth) p) c.longer-inner.ensures
    (c.to_first.ensures (3 + depth) begun) in
    record {
      longest = λ found h. c.loop-arm.invariant.longest found (subst (IsLongestOf c.loop-arm.way found)
          (sym (ap (choice_ways P itself (3 + depth)) (arm_at items i a c.loop-arm-test.true c.arm-item.is)))
          (joined c.loop-arm.way c.longest_within-way-in-loop-arm.result found (to_branch P itself (3 + depth) p ∷ ways_within P p) rest
          (joined c.loop-arm.way c.longer-inner.result c.longest_within-way-in-loop-arm.result (to_branch P itself (3 + depth) p ∷ []) (ways_within P p) way
          c.longest_within-way-in-loop-arm.ensures) h));
      formed = (arm_typed _ _ items i a c.loop-arm-test.true c.arm-item.is c.loop-arm.invariant.formed).1;
    }

pub returns-after-loop-place : goal.returns-after-loop-place
returns-after-loop-place t c =
    let P = program_of c.args.program.now in
    let items = c.in-Then.parts.items in
    let none = ap (turn_ways P) (no_more_members items c.loop-place.place (omega (arith, c.len-place-end.ensures, c.in-Then.parts.ok.0))) in
    subst (λ p. IsLongestOf c.args.best c.loop-place.way (ways_within P p)) (sym (then_is _ _ c.in-Then.is))
    (c.loop-place.invariant.longest c.loop-place.way (subst (IsLongestOf c.loop-place.way c.loop-place.way) (sym none) (nothing c.loop-place.way)))

pub returns-after-loop-part : goal.returns-after-loop-part
returns-after-loop-part t c =
    let P = program_of c.args.program.now in
    let items = c.deref-part-items.result.now in
    let none = ap (each_ways P) (no_more_members items c.loop-part.part-index c.loop-part-test.false) in
    subst (λ p. IsLongestOf c.args.best c.loop-part.way (ways_within P p))
    (ap (λ l. side_by_side (members_in l)) c.deref-part-items.ensures.value ∙ sym (beside_is _ _ c.in-Beside.is))
    (c.loop-part.invariant.longest c.loop-part.way (subst (IsLongestOf c.loop-part.way c.loop-part.way) (sym none) (nothing c.loop-part.way)))

pub to_turn-requires-clause-some : goal.to_turn-requires-clause-some
to_turn-requires-clause-some t c =
    let facts = subst (λ (s : Process). IsProcess c.args.program.now.channels c.args.program.now.vars s) (select_is _ _ _ c.in-Select.is) c.requires.process in
    omega (arith, facts.0, arms_counted c.in-Select.arms.items, ap (λ (l : List TArm). length l) c.deref-then-again.ensures.value)

pub to_turn-requires-clause-arms : goal.to_turn-requires-clause-arms
to_turn-requires-clause-arms t c =
    let facts = subst (λ (s : Process). IsProcess c.args.program.now.channels c.args.program.now.vars s) (select_is _ _ _ c.in-Select.is) c.requires.process in
    subst (λ l. AreChoices c.args.program.now.channels c.args.program.now.vars (choices_in l)) (sym c.deref-then-again.ensures.value) facts.2

pub to_turn-requires-clause-itself : goal.to_turn-requires-clause-itself
to_turn-requires-clause-itself t c =
    select_is _ _ _ c.in-Select.is
    ∙ (ap (λ b. choosing b (choices_in c.in-Select.arms.items)) c.if-again.true
    ∙ ap (λ l. choosing true (choices_in l)) (sym c.deref-then-again.ensures.value))

pub to_turn-requires-clause-guards : goal.to_turn-requires-clause-guards
to_turn-requires-clause-guards t c =
    c.guards_depth-guards.ensures
    ∙ ap (λ l. capped (guards_depth (choices_in l))) (c.deref-in-Select.ensures.value ∙ sym c.deref-then-again.ensures.value)

pub returns-then-again : goal.returns-then-again
returns-then-again t c =
    let P = program_of c.args.program.now in
    let itself = process_of c.args.s.now in
    let items = c.deref-arm-items.result.now in
    let cs = choices_in c.in-Select.arms.items in
    let way = c.loop-arm.way in
    let is = select_is _ _ _ c.in-Select.is ∙ ap (λ b. choosing b cs) c.if-again.true in
    let none = ap (choice_ways P itself (3 + guards_depth cs)) (no_more_arms items c.loop-arm.arm-index c.loop-arm-test.false) in
    let all = subst (λ l. IsLongestOf c.args.best way (choice_ways P itself (3 + guards_depth cs) (choices_in l))) c.deref-arm-items.ensures.value
    (c.loop-arm.invariant.longest way (subst (IsLongestOf way way) (sym none) (nothing way))) in
    let turn = subst (λ l. IsWay (to_turn P (choices_in l)) c.to_turn.result) c.deref-then-again.ensures.value c.to_turn.ensures in
    again P itself cs c.args.best way c.longer.result is all (single way c.to_turn.result c.longer.result (to_turn P cs) c.longer.ensures turn)

pub returns-else-again : goal.returns-else-again
returns-else-again t c =
    let P = program_of c.args.program.now in
    let itself = process_of c.args.s.now in
    let items = c.deref-arm-items.result.now in
    let cs = choices_in c.in-Select.arms.items in
    let way = c.loop-arm.way in
    let is = select_is _ _ _ c.in-Select.is ∙ ap (λ b. choosing b cs) c.if-again.false in
    let none = ap (choice_ways P itself (3 + guards_depth cs)) (no_more_arms items c.loop-arm.arm-index c.loop-arm-test.false) in
    let all = subst (λ l. IsLongestOf c.args.best way (choice_ways P itself (3 + guards_depth cs) (choices_in l))) c.deref-arm-items.ensures.value
    (c.loop-arm.invariant.longest way (subst (IsLongestOf way way) (sym none) (nothing way))) in
    once P itself cs c.args.best way is all

pub returns-in-Repeat : goal.returns-in-Repeat
returns-in-Repeat t c =
    let P = program_of c.args.program.now in
    let p = process_of c.args.s.now in
    let body = c.in-Repeat.body.value in
    let to = subst (λ b. IsWay (way (step_of p) (step_of (first_step P (process_of b))) (0 + first P (process_of b))) c.to_first-in-Repeat.result)
    c.deref-in-Repeat.ensures (c.to_first-in-Repeat.ensures 0 refl) in
    let inner = subst (λ b. IsLongestOf c.longer-begun.result c.longest_within-inner-in-Repeat.result (ways_within P (process_of b)))
    c.deref-in-Repeat-2.ensures c.longest_within-inner-in-Repeat.ensures in
    let back = subst (λ b. IsWay (way (step_of (last_step P 1 (process_of b))) (step_of p) (low P 1 (process_of b) + 1)) c.from_last.result)
    c.deref-in-Repeat-3.ensures (c.from_last.ensures 1 refl) in
    repeated P p (process_of body) c.args.best c.to_first-in-Repeat.result c.longer-begun.result c.longest_within-inner-in-Repeat.result c.from_last.result
    c.longer-in-Repeat.result (ap process_of c.in-Repeat.is) to c.longer-begun.ensures inner back c.longer-in-Repeat.ensures
