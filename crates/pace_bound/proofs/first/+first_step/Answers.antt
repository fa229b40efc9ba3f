use Rattle.std.proofs.Common.{◌≡◌, suc, ◌+◌, ◌<◌, ◌-◌, ◌^◌, length, drop, sym, ap, subst, ◌∙◌, rules, arith}
use Rattle.std.specs.Prelude.{max}
use Rattle.std.proofs.lemmas.List.{get_or_read}
use Rattle.width_check.specs.declared.typed.TStmt.{the_lemmas}
use Rattle.width_check.specs.Processes.{Process, side_by_side, choosing}
use Rattle.width_check.specs.Typed.{program_of}
use Rattle.width_check.specs.Typing.{IsProcess}
use Rattle.width_check.specs.View.{process_of, members_in, choices_in}
use Rattle.handshake_expand.specs.PartTree.{HasFormedGuards}
use Rattle.handshake_expand.proofs.Rows.{then_is, beside_is, select_is, member_at, no_more_members, members_counted}
use Rattle.handshake_expand.proofs.Turns.{turn_typed, this_typed}
use Rattle.round_time.specs.Longest.{guards_depth, first, each_first}
use Rattle.round_time.specs.Ways.{first_step, each_first_step}
use Rattle.pace_bound.specs.Halving.{first_by, each_first_by}
use Rattle.pace_bound.proofs.Members.{formed_guards, turn_first_is, member_typed}
use Rattle.pace_bound.proofs.Picking.{picked_first, picked_more, picked_all, exact_first}
use Rattle.pace_bound.proofs.GroupSteps.{turn_begins}
use Rattle.pace_bound.proofs.first.+first_step.Goals as goal
use Rattle.pace_bound.proofs.first.+first_step.Goals.{then-again, else-again}

pub index-requires : goal.index-requires
index-requires t c = let typed = turn_typed _ _ _ c.in-Then.parts c.in-Then.is c.requires in omega (arith, typed.0, c.in-Then.parts.ok.0)

pub first_step-requires : goal.first_step-requires
first_step-requires t c =
    let typed = turn_typed _ _ _ c.in-Then.parts c.in-Then.is c.requires in
    (search (rules, the_lemmas, get_or_read), member_typed _ _ c.in-Then.parts.items 0 c.index.result.now typed.1 (omega (arith, typed.0)) c.index.ensures)

pub first_step-last-requires : goal.first_step-last-requires
first_step-last-requires t c =
    let facts = subst (λ (s : Process). IsProcess c.args.program.now.channels c.args.program.now.vars s) (beside_is _ _ c.in-Beside.is) c.requires in
    let some : 0 < length c.in-Beside.parts.items = omega (arith, facts.0, members_counted c.in-Beside.parts.items) in (
      search (rules, the_lemmas, get_or_read),
      member_typed _ _ c.in-Beside.parts.items 0 c.index-in-Beside.result.now facts.1 some c.index-in-Beside.ensures,
    )

pub index-requires-in-Beside : goal.index-requires-in-Beside
index-requires-in-Beside t c =
    let facts = subst (λ (s : Process). IsProcess c.args.program.now.channels c.args.program.now.vars s) (beside_is _ _ c.in-Beside.is) c.requires in
    omega (arith, facts.0, members_counted c.in-Beside.parts.items, c.in-Beside.parts.ok.0)

pub loop-place-init : goal.loop-place-init
loop-place-init t c =
    let P = program_of c.args.program.now in
    let b = c.args.halved in
    let parts = c.in-Beside.parts.items in
    let s = c.index-in-Beside.result.now in
    let p = process_of s in
    let facts = subst (λ (s : Process). IsProcess c.args.program.now.channels c.args.program.now.vars s) (beside_is _ _ c.in-Beside.is) c.requires in
    let some : 0 < length parts = omega (arith, facts.0, members_counted parts) in
    let at = member_at parts 0 s some c.index-in-Beside.ensures in
    let begun = c.first_step-last.ensures in
    let all : each_first_by b P (members_in parts) ≡ max (first_by b P p) (each_first_by b P (members_in (drop 1 parts))) = ap (each_first_by b P) at in
    let sum : each_first P (members_in parts) ≡ max (first P p) (each_first P (members_in (drop 1 parts))) = ap (each_first P) at in
    record {
      latest = omega (arith, all, begun.moves);
      picked = λ whole small. let few : first P p < 2 ^ 64 - 1 = omega (arith, sum, small) in
          picked_first c.first_step-last.result (first_step P p) (first P p) (each_first_step P (members_in (drop 1 parts)))
          (each_first_step P (members_in parts)) (begun.step whole few) (exact_first P p b _ whole begun.moves few) (ap (each_first_step P) at);
      below = omega (arith, sum);
      formed = (this_typed _ _ parts 0 s c.index-in-Beside.ensures some facts.1).1;
    }

pub loop-place-preserved : goal.loop-place-preserved
loop-place-preserved t c =
    let P = program_of c.args.program.now in
    let b = c.args.halved in
    let parts = c.in-Beside.parts.items in
    let i = c.loop-place.place in
    let s = c.index-in-loop-place.result.now in
    let p = process_of s in
    let inside : i < length parts = omega (arith, c.len-place-end.ensures, c.in-Beside.parts.ok.0) in
    let at = member_at parts i s inside c.index-in-loop-place.ensures in
    let next = c.first_step-in-loop-place.ensures in
    let all : each_first_by b P (members_in (drop i parts)) ≡ max (first_by b P p) (each_first_by b P (members_in (drop (i + 1) parts))) =
    ap (each_first_by b P) at in
    let sum : each_first P (members_in (drop i parts)) ≡ max (first P p) (each_first P (members_in (drop (i + 1) parts))) = ap (each_first P) at in
    let below = c.loop-place.invariant.below in
    record {
      latest = omega (arith, all, next.moves, c.farther-last.ensures.moves, c.loop-place.invariant.latest);
      picked = λ whole small. let few : first P p < 2 ^ 64 - 1 = omega (arith, sum, below, small) in
          picked_more c.loop-place.last c.first_step-in-loop-place.result c.farther-last.result (first_step P p) (first P p)
          (each_first_step P (members_in (drop (i + 1) parts))) (each_first_step P (members_in (drop i parts))) (each_first_step P (members_in parts))
          c.farther-last.ensures.farthest (next.step whole few) (exact_first P p b _ whole next.moves few) (ap (each_first_step P) at)
          (c.loop-place.invariant.picked whole small);
      below = omega (arith, sum, below);
      formed = (this_typed _ _ parts i s c.index-in-loop-place.ensures inside c.loop-place.invariant.formed).1;
    }

pub guards_depth-requires : goal.guards_depth-requires
guards_depth-requires t c =
    let facts = subst (λ (s : Process). IsProcess c.args.program.now.channels c.args.program.now.vars s) (select_is _ _ _ c.in-Select.is) c.requires in
    subst (λ l. HasFormedGuards (choices_in l)) (sym c.deref.ensures.value)
    (formed_guards c.args.program.now.channels c.args.program.now.vars (choices_in c.in-Select.arms.items) facts.2)

pub returns-in-Then-clause-moves : goal.returns-in-Then-clause-moves
returns-in-Then-clause-moves t c =
    let P = program_of c.args.program.now in
    let b = c.args.halved in
    let typed = turn_typed _ _ _ c.in-Then.parts c.in-Then.is c.requires in
    let whole : first_by b P (process_of c.args.s.now) ≡ suc (first_by b P (process_of c.index.result.now)) =
    ap (first_by b P) (then_is _ _ c.in-Then.is) ∙ turn_first_is b P c.in-Then.parts.items c.index.result.now typed.0 c.index.ensures in
    omega (arith, whole, c.first_step.ensures.moves, c.after.ensures.moves)

pub returns-in-Then-clause-step : goal.returns-in-Then-clause-step
returns-in-Then-clause-step t c whole small =
    let P = program_of c.args.program.now in
    let typed = turn_typed _ _ _ c.in-Then.parts c.in-Then.is c.requires in
    let is = then_is _ _ c.in-Then.is in
    let step = turn_begins P c.in-Then.parts.items c.index.result.now (omega (arith, typed.0)) c.index.ensures (subst (λ p. first P p < 2 ^ 64 - 1) is small) in
    ap process_of c.after.ensures.statement ∙ (c.first_step.ensures.step whole step.small ∙ (step.same ∙ ap (first_step P) (sym is)))

pub returns-after-loop-place-clause-moves : goal.returns-after-loop-place-clause-moves
returns-after-loop-place-clause-moves t c =
    let P = program_of c.args.program.now in
    let b = c.args.halved in
    let parts = c.in-Beside.parts.items in
    let whole : first_by b P (process_of c.args.s.now) ≡ suc (each_first_by b P (members_in parts)) = ap (first_by b P) (beside_is _ _ c.in-Beside.is) in
    let none = ap (each_first_by b P)
    (no_more_members parts c.loop-place.place (omega (arith, c.len-place-end.ensures, c.loop-place-test.false, c.in-Beside.parts.ok.0))) in
    omega (arith, whole, none, c.loop-place.invariant.latest, c.after-in-Beside.ensures.moves)

pub returns-after-loop-place-clause-step : goal.returns-after-loop-place-clause-step
returns-after-loop-place-clause-step t c whole small =
    let P = program_of c.args.program.now in
    let parts = c.in-Beside.parts.items in
    let is = ap (first_step P) (beside_is _ _ c.in-Beside.is) in
    let few : each_first P (members_in parts) < 2 ^ 64 - 1 = let sum = ap (first P) (beside_is _ _ c.in-Beside.is) in omega (arith, sum, small) in
    let none = ap (each_first_step P)
    (no_more_members parts c.loop-place.place (omega (arith, c.len-place-end.ensures, c.loop-place-test.false, c.in-Beside.parts.ok.0))) in
    ap process_of c.after-in-Beside.ensures.statement
    ∙ (picked_all c.loop-place.last _ (each_first_step P (members_in parts)) (side_by_side (members_in parts)) none (c.loop-place.invariant.picked whole few)
    ∙ sym is)

pub returns-after-again-clause-moves : goal.returns-after-again-clause-moves
returns-after-again-clause-moves t c =
    let P = program_of c.args.program.now in
    let b = c.args.halved in
    let cs = choices_in c.in-Select.arms.items in
    let is = ap (first_by b P) (select_is _ _ _ c.in-Select.is) in
    let guards : guards_depth (choices_in c.deref.result.now) ≡ guards_depth cs = ap (λ l. guards_depth (choices_in l)) c.deref.ensures.value in
    let whole : first_by b P (process_of c.args.s.now) ≡ c.if-again.before + guards_depth cs =
    elim c.if-again.branch [
      | then-again w ↦ is ∙ (ap (λ t. first_by b P (choosing t cs)) w.if-again.true ∙ ap (λ n. n + guards_depth cs) (sym w.before-is))
      | else-again w ↦ is ∙ (ap (λ t. first_by b P (choosing t cs)) w.if-again.false ∙ ap (λ n. n + guards_depth cs) (sym w.before-is))
    ] in
    omega (arith, whole, guards, c.guards_depth.ensures, c.saturating_add.ensures, c.own_step-in-Select.ensures.moves)
