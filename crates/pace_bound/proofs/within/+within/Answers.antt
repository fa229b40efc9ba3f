use Rattle.std.proofs.Common.{◌≡◌, ◌+◌, ◌<◌, ◌++◌, List, [], ◌∷◌, length, map, drop, sym, ap, subst, ◌∙◌, arith}
use Rattle.std.specs.Prelude.{max}
use Rattle.std.proofs.lemmas.List.{map-append, length-map}
use Rattle.width_check.specs.declared.typed.TArm.{TArm}
use Rattle.width_check.specs.Processes.{Process, repeating}
use Rattle.width_check.specs.Typed.{program_of}
use Rattle.width_check.specs.Typing.{IsProcess, AreProcesses, AreChoices}
use Rattle.width_check.specs.View.{process_of, members_in, choices_in}
use Rattle.handshake_expand.specs.Layout.{capped}
use Rattle.handshake_expand.specs.PartTree.{HasFormedGuards}
use Rattle.handshake_expand.proofs.Rows.{then_is, beside_is, select_is, member_at, arm_at, no_more_members, no_more_arms, arms_counted}
use Rattle.handshake_expand.proofs.Turns.{turn_typed, this_typed}
use Rattle.round_time.specs.Longest.{guards_depth, low}
use Rattle.round_time.specs.Ways.{loops_within, each_loops, choice_loops}
use Rattle.pace_bound.specs.declared.within.Loop.{Loop}
use Rattle.pace_bound.specs.Clearing.{turned_again}
use Rattle.pace_bound.specs.Whereabouts.{loop_of, measured}
use Rattle.pace_bound.specs.Halving.{first_by, onward, within_by, turn_within_by, each_within_by, choice_within_by}
use Rattle.pace_bound.proofs.Members.{formed_guards, turn_within_at, choosing_within, started_capped}
use Rattle.pace_bound.proofs.Ending.{stepped, left_none, two_capped, three_capped, max_capped, ended}
use Rattle.pace_bound.proofs.Picking.{arm_typed}
use Rattle.pace_bound.proofs.LoopsNoted.{noted_more, noted_all, number_put}
use Rattle.pace_bound.proofs.within.+within.Goals as goal

pub loop-place-init : goal.loop-place-init
loop-place-init t c =
    let typed = turn_typed _ _ _ c.in-Then.parts c.in-Then.is c.requires.process in record {
      longest = omega arith;
      noted = ap (λ p. map loop_of c.args.loops.now.items ++ map (measured c.args.halved (program_of c.args.program.now))
          (loops_within (program_of c.args.program.now) p)) (sym (then_is _ _ c.in-Then.is));
      formed = typed.1;
    }

pub loop-place-preserved : goal.loop-place-preserved
loop-place-preserved t c =
    let P = program_of c.args.program.now in
    let b = c.args.halved in
    let items = c.in-Then.parts.items in
    let i = c.loop-place.place in
    let s = c.index.result.now in
    let inside : i < length items = omega (arith, c.len-place-end.ensures, c.in-Then.parts.ok.0) in
    let here = within_by b P (process_of s) in
    let next = onward b P (members_in (drop i items)) in
    let rest = turn_within_by b P (members_in (drop (i + 1) items)) in
    let parts : capped (turn_within_by b P (members_in (drop i items))) ≡ max (max (capped here) (capped next)) (capped rest) =
    ap capped (turn_within_at b P items i s inside c.index.ensures) ∙ three_capped here next rest in
    let gap : c.between.result ≡ capped next = c.between.ensures ∙ ap (λ l. capped (onward b P (members_in (drop i l)))) c.deref.ensures.value in
    let own : c.max.result ≡ max (capped here) (capped next) =
    c.max.ensures ∙ (ap (λ k. max k c.between.result) c.in_ok-inner-in-Then.ensures.longest ∙ ap (max (capped here)) gap) in
    record {
      longest = stepped _ _ _ (max (capped here) (capped next)) _ _ c.loop-place.invariant.longest (c.max-most.ensures ∙ ap (max c.loop-place.most) own) parts;
      noted = noted_more (measured b P) (map loop_of c.loop-place.loops.items) (map loop_of c.within.new.loops.items) _
          (each_loops P (members_in (drop i items))) (loops_within P (process_of s)) (each_loops P (members_in (drop (i + 1) items)))
          c.loop-place.invariant.noted (ap (each_loops P) (member_at items i s inside c.index.ensures)) c.in_ok-inner-in-Then.ensures.loops;
      formed = (this_typed _ _ items i s c.index.ensures inside c.loop-place.invariant.formed).1;
    }

pub loop-part-init : goal.loop-part-init
loop-part-init t c =
    let facts = subst (λ (s : Process). IsProcess c.args.program.now.channels c.args.program.now.vars s) (beside_is _ _ c.in-Beside.is) c.requires.process in
    record {
      longest = omega arith;
      noted = ap (λ l. map loop_of c.args.loops.now.items ++ map (measured c.args.halved (program_of c.args.program.now)) l)
          (ap (λ l. each_loops (program_of c.args.program.now) (members_in l)) c.deref-part-items.ensures.value
          ∙ ap (loops_within (program_of c.args.program.now)) (sym (beside_is _ _ c.in-Beside.is)));
      formed = subst (λ l. AreProcesses c.args.program.now.channels c.args.program.now.vars (members_in l)) (sym c.deref-part-items.ensures.value) facts.1;
    }

pub guards_depth-guards-requires : goal.guards_depth-guards-requires
guards_depth-guards-requires t c =
    let facts = subst (λ (s : Process). IsProcess c.args.program.now.channels c.args.program.now.vars s) (select_is _ _ _ c.in-Select.is) c.requires.process in
    subst (λ l. HasFormedGuards (choices_in l)) (sym c.deref-in-Select.ensures.value)
    (formed_guards c.args.program.now.channels c.args.program.now.vars (choices_in c.in-Select.arms.items) facts.2)

pub turned_again-most-requires-clause-arms : goal.turned_again-most-requires-clause-arms
turned_again-most-requires-clause-arms t c =
    let facts = subst (λ (s : Process). IsProcess c.args.program.now.channels c.args.program.now.vars s) (select_is _ _ _ c.in-Select.is) c.requires.process in
    subst (λ l. AreChoices c.args.program.now.channels c.args.program.now.vars (choices_in l)) (sym c.deref-in-Select-2.ensures.value) facts.2

pub loop-part-preserved : goal.loop-part-preserved
loop-part-preserved t c =
    let P = program_of c.args.program.now in
    let b = c.args.halved in
    let items = c.deref-part-items.result.now in
    let i = c.loop-part.part-index in
    let s = c.part-item.result in
    let at = member_at items i s c.loop-part-test.true c.part-item.is in
    let here = within_by b P (process_of s) in
    let rest = each_within_by b P (members_in (drop (i + 1) items)) in
    let parts : capped (each_within_by b P (members_in (drop i items))) ≡ max (capped here) (capped rest) =
    ap (λ ms. capped (each_within_by b P ms)) at ∙ two_capped here rest in record {
      longest = stepped _ _ _ (capped here) _ _ c.loop-part.invariant.longest
          (c.max-most-in-loop-part.ensures ∙ ap (max c.loop-part.most) c.in_ok-within-in-Beside.ensures.longest) parts;
      noted = noted_more (measured b P) (map loop_of c.loop-part.loops.items) (map loop_of c.within-in-loop-part.new.loops.items) _
          (each_loops P (members_in (drop i items))) (loops_within P (process_of s)) (each_loops P (members_in (drop (i + 1) items)))
          c.loop-part.invariant.noted (ap (each_loops P) at) c.in_ok-within-in-Beside.ensures.loops;
      formed = (this_typed _ _ items i s c.part-item.is c.loop-part-test.true c.loop-part.invariant.formed).1;
    }

pub turned_again-most-requires-clause-some : goal.turned_again-most-requires-clause-some
turned_again-most-requires-clause-some t c =
    let facts = subst (λ (s : Process). IsProcess c.args.program.now.channels c.args.program.now.vars s) (select_is _ _ _ c.in-Select.is) c.requires.process in
    omega (arith, facts.0, arms_counted c.in-Select.arms.items, ap (λ (l : List TArm). length l) c.deref-in-Select-2.ensures.value)

pub loop-arm-init : goal.loop-arm-init
loop-arm-init t c =
    let facts = subst (λ (s : Process). IsProcess c.args.program.now.channels c.args.program.now.vars s) (select_is _ _ _ c.in-Select.is) c.requires.process in
    record {
      longest = omega arith;
      noted = ap (λ l. map loop_of c.args.loops.now.items ++ map (measured c.args.halved (program_of c.args.program.now)) l)
          (ap (λ l. choice_loops (program_of c.args.program.now) (choices_in l)) c.deref-arm-items.ensures.value
          ∙ ap (loops_within (program_of c.args.program.now)) (sym (select_is _ _ _ c.in-Select.is)));
      formed = subst (λ l. AreChoices c.args.program.now.channels c.args.program.now.vars (choices_in l)) (sym c.deref-arm-items.ensures.value) facts.2;
    }

pub loop-arm-preserved : goal.loop-arm-preserved
loop-arm-preserved t c =
    let P = program_of c.args.program.now in
    let b = c.args.halved in
    let items = c.deref-arm-items.result.now in
    let i = c.loop-arm.arm-index in
    let a = c.arm-item.result in
    let p = process_of a.body in
    let started = c.saturating_add-started.result in
    let at = arm_at items i a c.loop-arm-test.true c.arm-item.is in
    let rest = choice_within_by b P started (choices_in (drop (i + 1) items)) in
    let parts : capped (choice_within_by b P started (choices_in (drop i items))) ≡
    max (max (capped (within_by b P p)) (capped (started + first_by b P p))) (capped rest) =
    ap (λ cs. capped (choice_within_by b P started cs)) at ∙ three_capped (within_by b P p) (started + first_by b P p) rest in
    let reached : c.saturating_add-reached.result ≡ capped (started + first_by b P p) = omega (arith, c.first.ensures, c.saturating_add-reached.ensures) in
    let own : c.max-in-loop-arm.result ≡ max (capped (within_by b P p)) (capped (started + first_by b P p)) =
    c.max-in-loop-arm.ensures ∙ (ap (λ k. max k c.saturating_add-reached.result) c.in_ok-inner-in-Select.ensures.longest
    ∙ ap (max (capped (within_by b P p))) reached) in record {
      longest = stepped _ _ _ (max (capped (within_by b P p)) (capped (started + first_by b P p))) _ _ c.loop-arm.invariant.longest
          (c.max-most-in-loop-arm.ensures ∙ ap (max c.loop-arm.most) own) parts;
      noted = noted_more (measured b P) (map loop_of c.loop-arm.loops.items) (map loop_of c.within-in-loop-arm.new.loops.items) _
          (choice_loops P (choices_in (drop i items))) (loops_within P p) (choice_loops P (choices_in (drop (i + 1) items)))
          c.loop-arm.invariant.noted (ap (choice_loops P) at) c.in_ok-inner-in-Select.ensures.loops;
      formed = (arm_typed _ _ items i a c.loop-arm-test.true c.arm-item.is c.loop-arm.invariant.formed).1;
    }

pub returns-after-loop-place-clause-longest : goal.returns-after-loop-place-clause-longest
returns-after-loop-place-clause-longest t c =
    let P = program_of c.args.program.now in
    let b = c.args.halved in
    let items = c.in-Then.parts.items in
    let none = ap (turn_within_by b P) (no_more_members items c.loop-place.place (omega (arith, c.len-place-end.ensures, c.in-Then.parts.ok.0))) in
    left_none _ _ _ c.loop-place.invariant.longest none ∙ ap (λ p. capped (within_by b P p)) (sym (then_is _ _ c.in-Then.is))

pub returns-after-loop-part-clause-longest : goal.returns-after-loop-part-clause-longest
returns-after-loop-part-clause-longest t c =
    let P = program_of c.args.program.now in
    let b = c.args.halved in
    let items = c.deref-part-items.result.now in
    let none = ap (each_within_by b P) (no_more_members items c.loop-part.part-index c.loop-part-test.false) in
    left_none _ _ _ c.loop-part.invariant.longest none
    ∙ (ap (λ l. capped (each_within_by b P (members_in l))) c.deref-part-items.ensures.value
    ∙ ap (λ p. capped (within_by b P p)) (sym (beside_is _ _ c.in-Beside.is)))

pub returns-after-loop-arm-clause-longest : goal.returns-after-loop-arm-clause-longest
returns-after-loop-arm-clause-longest t c =
    let P = program_of c.args.program.now in
    let b = c.args.halved in
    let again = c.in-Select.again in
    let items = c.deref-arm-items.result.now in
    let cs = choices_in c.in-Select.arms.items in
    let started = c.saturating_add-started.result in
    let none = ap (choice_within_by b P started) (no_more_arms items c.loop-arm.arm-index c.loop-arm-test.false) in
    let most : c.loop-arm.most ≡ max c.turned_again-most.result (capped (choice_within_by b P started cs)) =
    ended _ _ _ _ (capped (choice_within_by b P started cs)) c.loop-arm.invariant.longest none
    (ap (λ l. capped (choice_within_by b P started (choices_in l))) (sym c.deref-arm-items.ensures.value)) in
    let turned : c.turned_again-most.result ≡ capped (turned_again P again cs) =
    c.turned_again-most.ensures ∙ ap (λ l. capped (turned_again P again (choices_in l))) c.deref-in-Select-2.ensures.value in
    let guards : c.guards_depth-guards.result ≡ capped (guards_depth cs) =
    c.guards_depth-guards.ensures ∙ ap (λ l. capped (guards_depth (choices_in l))) c.deref-in-Select.ensures.value in
    let begun : started ≡ capped (3 + guards_depth cs) = omega (arith, guards, c.saturating_add-started.ensures) in
    let same : capped (choice_within_by b P started cs) ≡ capped (choice_within_by b P (3 + guards_depth cs) cs) =
    ap (λ n. capped (choice_within_by b P n cs)) begun ∙ started_capped b P cs (3 + guards_depth cs) in
    max_capped _ (turned_again P again cs) (choice_within_by b P started cs) (choice_within_by b P (3 + guards_depth cs) cs)
    (most ∙ ap (λ k. max k (capped (choice_within_by b P started cs))) turned) same
    ∙ (ap capped (sym (choosing_within b P again cs)) ∙ ap (λ p. capped (within_by b P p)) (sym (select_is _ _ _ c.in-Select.is)))

pub returns-after-loop-place-clause-loops : goal.returns-after-loop-place-clause-loops
returns-after-loop-place-clause-loops t c =
    let P = program_of c.args.program.now in
    let items = c.in-Then.parts.items in
    noted_all (measured c.args.halved P) (map loop_of c.loop-place.loops.items) _ (each_loops P (members_in (drop c.loop-place.place items)))
    c.loop-place.invariant.noted
    (ap (each_loops P) (no_more_members items c.loop-place.place (omega (arith, c.len-place-end.ensures, c.in-Then.parts.ok.0))))

pub returns-after-loop-part-clause-loops : goal.returns-after-loop-part-clause-loops
returns-after-loop-part-clause-loops t c =
    let P = program_of c.args.program.now in
    let items = c.deref-part-items.result.now in
    noted_all (measured c.args.halved P) (map loop_of c.loop-part.loops.items) _ (each_loops P (members_in (drop c.loop-part.part-index items)))
    c.loop-part.invariant.noted (ap (each_loops P) (no_more_members items c.loop-part.part-index c.loop-part-test.false))

pub returns-after-loop-arm-clause-loops : goal.returns-after-loop-arm-clause-loops
returns-after-loop-arm-clause-loops t c =
    let P = program_of c.args.program.now in
    let items = c.deref-arm-items.result.now in
    noted_all (measured c.args.halved P) (map loop_of c.loop-arm.loops.items) _ (choice_loops P (choices_in (drop c.loop-arm.arm-index items)))
    c.loop-arm.invariant.noted (ap (choice_loops P) (no_more_arms items c.loop-arm.arm-index c.loop-arm-test.false))

pub returns-in_ok-inner-in-Repeat-clause-loops : goal.returns-in_ok-inner-in-Repeat-clause-loops
returns-in_ok-inner-in-Repeat-clause-loops t c =
    let P = program_of c.args.program.now in
    let b = c.args.halved in
    let old = c.args.loops.now.items in
    let q = process_of c.in-Repeat.body.value in
    let rest = map (measured b P) (loops_within P q) in
    let this : Loop = record { statement = c.args.s; longest = c.max-longest.result } in
    let empty : Loop = record { statement = c.args.s; longest = 0 } in
    let pushed = ap (map loop_of) c.in_ok-push-in-Repeat.ensures.items ∙ map-append loop_of old (empty ∷ []) in
    let inner = c.in_ok-inner-in-Repeat.ensures.loops
    ∙ (ap (λ s. map loop_of c.push.new.self.items ++ map (measured b P) (loops_within P (process_of s))) c.deref-in-Repeat.ensures
    ∙ ap (λ l. l ++ rest) pushed) in
    let place : length (map loop_of old) ≡ c.len-place.result = omega (arith, length-map old loop_of, c.len-place.ensures) in
    let is : process_of c.args.s.now ≡ repeating q = ap process_of c.in-Repeat.is in
    let own = c.in_ok-inner-in-Repeat.ensures.longest ∙ ap (λ s. capped (within_by b P (process_of s))) c.deref-in-Repeat.ensures in
    let around = c.to_body_and_back.ensures
    ∙ ap (λ s. capped (max (first_by b P (process_of s)) (low P 1 (process_of s) + 1))) c.deref-in-Repeat-2.ensures in
    let number : c.max-longest.result ≡ capped (max (within_by b P q) (max (first_by b P q) (low P 1 q + 1))) =
    omega (arith, own, around, c.max-longest.ensures) in
    number_put c.len-place.result (map loop_of old) rest c.within-in-Repeat.new.loops.items this (loop_of empty) place inner
    ∙ (ap (λ n. map loop_of old ++ record { statement = process_of c.args.s.now; length = n } ∷ rest) number
    ∙ (ap (λ p. map loop_of old ++ record { statement = p; length = capped (within_by b P (repeating q)) } ∷ rest) is
    ∙ ap (λ (p : Process). map loop_of old ++ map (measured b P) (loops_within P p)) (sym is)))
