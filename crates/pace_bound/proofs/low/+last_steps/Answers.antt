use Rattle.std.proofs.Common.{◌≡◌, ◌+◌, ◌*◌, ◌<◌, ◌-◌, ◌^◌, false, List, length, drop, refl, sym, ap, subst, ◌∙◌, rules, arith, ℕ}
use Rattle.std.specs.Prelude.{max}
use Rattle.std.proofs.lemmas.List.{get_or_read}
use Rattle.width_check.specs.declared.typed.TStmt.{the_lemmas}
use Rattle.width_check.specs.declared.typed.TArm.{TArm}
use Rattle.width_check.specs.Processes.{Process, side_by_side, choosing, member_count}
use Rattle.width_check.specs.Typed.{program_of}
use Rattle.width_check.specs.Typing.{IsProcess, AreChoices}
use Rattle.width_check.specs.View.{process_of, members_in, choices_in}
use Rattle.handshake_expand.specs.Layout.{capped}
use Rattle.handshake_expand.specs.PartTree.{HasFormedGuards}
use Rattle.handshake_expand.proofs.Rows.{then_is, beside_is, select_is, member_at, no_more_members, members_counted, arms_counted, arm_at, no_more_arms}
use Rattle.handshake_expand.proofs.Turns.{turn_typed, this_typed}
use Rattle.round_time.specs.Longest.{writes_fall, tree_height, guards_depth, low, each_low, choice_low}
use Rattle.round_time.specs.Ways.{farthest, last_step, each_last_step, choice_last_step}
use Rattle.pace_bound.proofs.Members.{formed_guards, turn_low_is, member_typed}
use Rattle.pace_bound.proofs.Holding.{low_capped, choice_low_capped}
use Rattle.pace_bound.proofs.Ending.{left_none, branches_sum, again_sum, one_after}
use Rattle.pace_bound.proofs.Picking.{picked_first, picked_more, picked_all, exact_of, arm_typed}
use Rattle.pace_bound.proofs.GroupSteps.{turn_ends}
use Rattle.pace_bound.proofs.low.+last_steps.Goals as goal

pub last_step-overflow_sub-last : goal.last_step-overflow_sub-last
last_step-overflow_sub-last t c =
    let typed = turn_typed _ _ _ c.in-Then.parts c.in-Then.is c.requires.process in omega (arith, typed.0, c.len-last.ensures, c.in-Then.parts.ok.0)

pub last_step-index-requires : goal.last_step-index-requires
last_step-index-requires t c =
    let typed = turn_typed _ _ _ c.in-Then.parts c.in-Then.is c.requires.process in omega (arith, typed.0, c.len-last.ensures, c.in-Then.parts.ok.0)

pub last_step-last_step-requires : goal.last_step-last_step-requires
last_step-last_step-requires t c =
    let typed = turn_typed _ _ _ c.in-Then.parts c.in-Then.is c.requires.process in (
      search (rules, the_lemmas, get_or_read),
      (
        c.requires.falls,
        member_typed _ _ c.in-Then.parts.items (c.len-last.result - 1) c.index.result.now typed.1
            (omega (arith, typed.0, c.len-last.ensures, c.in-Then.parts.ok.0)) c.index.ensures,
      ),
    )

pub last_step-last_step-latest-requires : goal.last_step-last_step-latest-requires
last_step-last_step-latest-requires t c =
    let facts = subst (λ (s : Process). IsProcess c.args.program.now.channels c.args.program.now.vars s) (beside_is _ _ c.in-Beside.is) c.requires.process in
    let some : 0 < length c.in-Beside.parts.items = omega (arith, facts.0, members_counted c.in-Beside.parts.items) in (
      search (rules, the_lemmas, get_or_read),
      (
        c.requires.falls,
        member_typed _ _ c.in-Beside.parts.items 0 c.index-in-Beside.result.now facts.1 some c.index-in-Beside.ensures,
      ),
    )

pub last_step-index-requires-in-Beside : goal.last_step-index-requires-in-Beside
last_step-index-requires-in-Beside t c =
    let facts = subst (λ (s : Process). IsProcess c.args.program.now.channels c.args.program.now.vars s) (beside_is _ _ c.in-Beside.is) c.requires.process in
    omega (arith, facts.0, members_counted c.in-Beside.parts.items, c.in-Beside.parts.ok.0)

pub last_step-loop-place-init : goal.last_step-loop-place-init
last_step-loop-place-init t c =
    let P = program_of c.args.program.now in
    let parts = c.in-Beside.parts.items in
    let s = c.index-in-Beside.result.now in
    let p = process_of s in
    let facts = subst (λ (s : Process). IsProcess c.args.program.now.channels c.args.program.now.vars s) (beside_is _ _ c.in-Beside.is) c.requires.process in
    let some : 0 < length parts = omega (arith, facts.0, members_counted parts) in
    let at = member_at parts 0 s some c.index-in-Beside.ensures in
    let first = c.last_step-latest.ensures in
    let sum : each_low P (members_in parts) ≡ max (low P 2 p) (each_low P (members_in (drop 1 parts))) = ap (each_low P) at in
    record {
      latest = omega (arith, sum, first.moves);
      picked = λ small. let few : low P 2 p < 2 ^ 64 - 1 = omega (arith, sum, small) in
          picked_first c.last_step-latest.result (last_step P 2 p) (low P 2 p) (each_last_step P (members_in (drop 1 parts)))
          (each_last_step P (members_in parts)) (first.step 2 refl few) (omega (arith, few, first.moves)) (ap (each_last_step P) at);
      below = omega (arith, sum);
      formed = (this_typed _ _ parts 0 s c.index-in-Beside.ensures some facts.1).1;
    }

pub last_step-loop-place-preserved : goal.last_step-loop-place-preserved
last_step-loop-place-preserved t c =
    let P = program_of c.args.program.now in
    let parts = c.in-Beside.parts.items in
    let i = c.loop-place.place in
    let s = c.index-in-loop-place.result.now in
    let p = process_of s in
    let inside : i < length parts = omega (arith, c.len-place-end.ensures, c.in-Beside.parts.ok.0) in
    let at = member_at parts i s inside c.index-in-loop-place.ensures in
    let next = c.last_step-in-loop-place.ensures in
    let sum : each_low P (members_in (drop i parts)) ≡ max (low P 2 p) (each_low P (members_in (drop (i + 1) parts))) = ap (each_low P) at in
    let below = c.loop-place.invariant.below in
    record {
      latest = omega (arith, sum, next.moves, c.farther-latest.ensures.moves, c.loop-place.invariant.latest);
      picked = λ small. let few : low P 2 p < 2 ^ 64 - 1 = omega (arith, sum, below, small) in
          picked_more c.loop-place.latest c.last_step-in-loop-place.result c.farther-latest.result (last_step P 2 p) (low P 2 p)
          (each_last_step P (members_in (drop (i + 1) parts))) (each_last_step P (members_in (drop i parts))) (each_last_step P (members_in parts))
          c.farther-latest.ensures.farthest (next.step 2 refl few) (omega (arith, few, next.moves)) (ap (each_last_step P) at)
          (c.loop-place.invariant.picked small);
      below = omega (arith, sum, below);
      formed = (this_typed _ _ parts i s c.index-in-loop-place.ensures inside c.loop-place.invariant.formed).1;
    }

pub last_step-guards_depth-requires : goal.last_step-guards_depth-requires
last_step-guards_depth-requires t c =
    let facts = subst (λ (s : Process). IsProcess c.args.program.now.channels c.args.program.now.vars s) (select_is _ _ _ c.in-Select.is) c.requires.process in
    subst (λ l. HasFormedGuards (choices_in l)) (sym c.deref-then-again.ensures.value)
    (formed_guards c.args.program.now.channels c.args.program.now.vars (choices_in c.in-Select.arms.items) facts.2)

pub last_step-last_of_arms-requires : goal.last_step-last_of_arms-requires
last_step-last_of_arms-requires t c =
    let facts = subst (λ (s : Process). IsProcess c.args.program.now.channels c.args.program.now.vars s) (select_is _ _ _ c.in-Select.is) c.requires.process in
    let value = c.deref-else-again.ensures.value in (
      search (rules, the_lemmas, get_or_read),
      (
        c.requires.falls,
        (
          omega (arith, facts.0, arms_counted c.in-Select.arms.items, ap (λ (l : List TArm). length l) value),
          subst (λ l. AreChoices c.args.program.now.channels c.args.program.now.vars (choices_in l)) (sym value) facts.2,
        ),
      ),
    )

pub last_step-returns-in-Assign-clause-moves : goal.last_step-returns-in-Assign-clause-moves
last_step-returns-in-Assign-clause-moves t c =
    c.own_step.ensures.moves
    ∙ (c.var_clears.ensures (writes_fall (program_of c.args.program.now)) (rw c.deref.ensures.value c.requires.falls.of_writes)
    ∙ ap (λ s. capped (low (program_of c.args.program.now) c.args.held (process_of s))) (sym c.in-Assign.is))

pub last_step-returns-in-Then-clause-moves : goal.last_step-returns-in-Then-clause-moves
last_step-returns-in-Then-clause-moves t c =
    let P = program_of c.args.program.now in
    let items = c.in-Then.parts.items in
    let i = c.len-last.result - 1 in
    let last = c.index.result.now in
    let typed = turn_typed _ _ _ c.in-Then.parts c.in-Then.is c.requires.process in
    let all : i + 1 ≡ length items = omega (arith, typed.0, c.len-last.ensures, c.in-Then.parts.ok.0) in
    let whole : low P c.args.held (process_of c.args.s.now) ≡ low P (c.args.held + 2 * i) (process_of last) =
    ap (low P c.args.held) (then_is _ _ c.in-Then.is) ∙ turn_low_is P c.args.held i items last all c.index.ensures in
    let its : c.saturating_add-its.result ≡ capped (c.args.held + 2 * i) = omega (arith, c.saturating_add-its.ensures, c.saturating_mul.ensures) in
    c.last_step.ensures.moves
    ∙ (ap (λ h. capped (low P h (process_of last))) its ∙ (low_capped P (process_of last) (c.args.held + 2 * i) ∙ ap capped (sym whole)))

pub last_step-returns-in-Then-clause-step : goal.last_step-returns-in-Then-clause-step
last_step-returns-in-Then-clause-step t c n held small =
    let P = program_of c.args.program.now in
    let i = c.len-last.result - 1 in
    let typed = turn_typed _ _ _ c.in-Then.parts c.in-Then.is c.requires.process in
    let is = then_is _ _ c.in-Then.is in
    let all : i + 1 ≡ length c.in-Then.parts.items = omega (arith, typed.0, c.len-last.ensures, c.in-Then.parts.ok.0) in
    let its : c.saturating_add-its.result ≡ capped (n + 2 * i) = omega (arith, held, c.saturating_add-its.ensures, c.saturating_mul.ensures) in
    let step = turn_ends P n i c.in-Then.parts.items c.index.result.now all c.index.ensures (subst (λ p. low P n p < 2 ^ 64 - 1) is small) in
    c.last_step.ensures.step (n + 2 * i) its step.small ∙ (step.same ∙ ap (last_step P n) (sym is))

pub last_step-returns-after-loop-place-clause-moves : goal.last_step-returns-after-loop-place-clause-moves
last_step-returns-after-loop-place-clause-moves t c =
    let P = program_of c.args.program.now in
    let parts = c.in-Beside.parts.items in
    let none = ap (each_low P)
    (no_more_members parts c.loop-place.place (omega (arith, c.len-place-end.ensures, c.loop-place-test.false, c.in-Beside.parts.ok.0))) in
    let latest = left_none _ _ _ c.loop-place.invariant.latest none in
    let count : c.len.result ≡ member_count (members_in parts) = let n = members_counted parts in omega (arith, n, c.len.ensures, c.in-Beside.parts.ok.0) in
    let tree : c.tree_height.result ≡ tree_height (member_count (members_in parts)) = c.tree_height.ensures ∙ ap tree_height count in
    branches_sum _ _ c.args.held c.tree_height.result _ _ _ _ latest c.saturating_mul-trees.ensures c.saturating_add.ensures
    c.saturating_add-in-Beside.ensures c.after.ensures.moves
    ∙ (ap (λ h. capped (each_low P (members_in parts) + 3 + c.args.held + 2 * h)) tree
    ∙ ap (λ p. capped (low P c.args.held p)) (sym (beside_is _ _ c.in-Beside.is)))

pub last_step-returns-after-loop-place-clause-step : goal.last_step-returns-after-loop-place-clause-step
last_step-returns-after-loop-place-clause-step t c n held small =
    let P = program_of c.args.program.now in
    let parts = c.in-Beside.parts.items in
    let is = ap (last_step P n) (beside_is _ _ c.in-Beside.is) in
    let few : each_low P (members_in parts) < 2 ^ 64 - 1 = let sum = ap (low P n) (beside_is _ _ c.in-Beside.is) in omega (arith, sum, small) in
    let none = ap (each_last_step P)
    (no_more_members parts c.loop-place.place (omega (arith, c.len-place-end.ensures, c.loop-place-test.false, c.in-Beside.parts.ok.0))) in
    ap process_of c.after.ensures.statement
    ∙ (picked_all c.loop-place.latest _ (each_last_step P (members_in parts)) (side_by_side (members_in parts)) none (c.loop-place.invariant.picked few)
    ∙ sym is)

pub last_step-returns-then-again-clause-moves : goal.last_step-returns-then-again-clause-moves
last_step-returns-then-again-clause-moves t c =
    let P = program_of c.args.program.now in
    let cs = choices_in c.in-Select.arms.items in
    let guards = c.guards_depth.ensures ∙ ap (λ l. capped (guards_depth (choices_in l))) c.deref-then-again.ensures.value in
    c.own_step-then-again.ensures.moves
    ∙ (again_sum _ (guards_depth cs) c.args.held _ _ guards c.saturating_add-then-again.ensures c.saturating_add-then-again-2.ensures
    ∙ (ap (λ b. capped (low P c.args.held (choosing b cs))) (sym c.if-again.true)
    ∙ ap (λ p. capped (low P c.args.held p)) (sym (select_is _ _ _ c.in-Select.is))))

pub last_step-returns-else-again-clause-moves : goal.last_step-returns-else-again-clause-moves
last_step-returns-else-again-clause-moves t c =
    let P = program_of c.args.program.now in
    let its = c.saturating_add-else-again.result in
    let cs = choices_in c.in-Select.arms.items in
    let same : capped (choice_low P its (choices_in c.deref-else-again.result.now)) ≡ capped (choice_low P (c.args.held + 3) cs) =
    ap (λ l. capped (choice_low P its (choices_in l))) c.deref-else-again.ensures.value
    ∙ (ap (λ h. capped (choice_low P h cs)) c.saturating_add-else-again.ensures ∙ choice_low_capped P cs (c.args.held + 3)) in
    one_after _ (choice_low P its (choices_in c.deref-else-again.result.now)) (choice_low P (c.args.held + 3) cs) _ c.last_of_arms.ensures.moves same
    c.after-else-again.ensures.moves
    ∙ (ap (λ b. capped (low P c.args.held (choosing b cs))) (sym c.if-again.false)
    ∙ ap (λ p. capped (low P c.args.held p)) (sym (select_is _ _ _ c.in-Select.is)))

pub last_step-returns-else-again-clause-step : goal.last_step-returns-else-again-clause-step
last_step-returns-else-again-clause-step t c n held small =
    let P = program_of c.args.program.now in
    let cs = choices_in c.in-Select.arms.items in
    let is = select_is _ _ _ c.in-Select.is ∙ ap (λ b. choosing b cs) c.if-again.false in
    let its : c.saturating_add-else-again.result ≡ capped (n + 3) = omega (arith, held, c.saturating_add-else-again.ensures) in
    let whole : low P n (choosing false cs) < 2 ^ 64 - 1 = subst (λ p. low P n p < 2 ^ 64 - 1) is small in
    let few : choice_low P (n + 3) cs < 2 ^ 64 - 1 = omega (arith, whole) in
    let own = subst (λ (l : List TArm). choice_low P (n + 3) (choices_in l) < 2 ^ 64 - 1
    → process_of c.last_of_arms.result.statement.now ≡ farthest (choosing false cs) (choice_last_step P (n + 3) (choices_in l)))
    c.deref-else-again.ensures.value (c.last_of_arms.ensures.step (n + 3) (choosing false cs) its) in
    ap process_of c.after-else-again.ensures.statement ∙ (own few ∙ ap (last_step P n) (sym is))

pub last_of_arms-last_step-latest-requires : goal.last_of_arms-last_step-latest-requires
last_of_arms-last_step-latest-requires t c = (
  search (rules, the_lemmas, get_or_read),
  (
    c.requires.falls,
    subst (λ (a : TArm). IsProcess c.args.program.now.channels c.args.program.now.vars (process_of a.body)) c.index-arms-0.is
        (arm_typed _ _ c.args.arms.now 0 c.index-arms-0.result c.requires.some c.index-arms-0.is c.requires.arms).0,
  ),
)

pub last_of_arms-loop-place-init : goal.last_of_arms-loop-place-init
last_of_arms-loop-place-init t c =
    let P = program_of c.args.program.now in
    let arms = c.args.arms.now in
    let p = process_of c.index-arms-0.result.body in
    let at = arm_at arms 0 c.index-arms-0.result c.requires.some c.index-arms-0.is in
    let first = c.last_step-latest.ensures in
    let own : c.last_step-latest.result.moves ≡ capped (low P c.args.held p) =
    first.moves ∙ ap (λ (a : TArm). capped (low P c.args.held (process_of a.body))) (sym c.index-arms-0.is) in
    let sum : (n : ℕ) → choice_low P n (choices_in arms) ≡ max (low P n p) (choice_low P n (choices_in (drop 1 arms))) = λ n. ap (choice_low P n) at in
    record {
      latest = let all = sum c.args.held in omega (arith, all, own);
      picked = λ n held small. let few : low P n p < 2 ^ 64 - 1 = let s = sum n in omega (arith, s, small) in
          let step = subst (λ (a : TArm). low P n (process_of a.body) < 2 ^ 64 - 1
          → process_of c.last_step-latest.result.statement.now ≡ last_step P n (process_of a.body)) (sym c.index-arms-0.is) (first.step n held) few in
          picked_first c.last_step-latest.result (last_step P n p) (low P n p) (choice_last_step P n (choices_in (drop 1 arms)))
          (choice_last_step P n (choices_in arms)) step
          (exact_of _ _ _ (choice_low P n (choices_in arms)) own (ap (λ h. capped (low P h p)) held ∙ low_capped P p n)
          (let s = sum n in omega (arith, s)) small) (ap (choice_last_step P n) at);
      below = λ n. let s = sum n in omega (arith, s);
      formed = (arm_typed _ _ arms 0 c.index-arms-0.result c.requires.some c.index-arms-0.is c.requires.arms).1;
    }

pub last_of_arms-loop-place-preserved : goal.last_of_arms-loop-place-preserved
last_of_arms-loop-place-preserved t c =
    let P = program_of c.args.program.now in
    let arms = c.args.arms.now in
    let i = c.loop-place.place in
    let a = c.index-arms-place.result in
    let p = process_of a.body in
    let inside = c.loop-place-test.true in
    let at = arm_at arms i a inside c.index-arms-place.is in
    let next = c.last_step.ensures in
    let own : c.last_step.result.moves ≡ capped (low P c.args.held p) =
    next.moves ∙ ap (λ (a : TArm). capped (low P c.args.held (process_of a.body))) (sym c.index-arms-place.is) in
    let sum : (n : ℕ) → choice_low P n (choices_in (drop i arms)) ≡ max (low P n p) (choice_low P n (choices_in (drop (i + 1) arms))) =
    λ n. ap (choice_low P n) at in
    let below = c.loop-place.invariant.below in
    record {
      latest = let all = sum c.args.held in omega (arith, all, own, c.farther-latest.ensures.moves, c.loop-place.invariant.latest);
      picked = λ n held small. let few : low P n p < 2 ^ 64 - 1 = let s = sum n in let b = below n in omega (arith, s, b, small) in
          let step = subst (λ (a : TArm). low P n (process_of a.body) < 2 ^ 64 - 1
          → process_of c.last_step.result.statement.now ≡ last_step P n (process_of a.body)) (sym c.index-arms-place.is) (next.step n held) few in
          picked_more c.loop-place.latest c.last_step.result c.farther-latest.result (last_step P n p) (low P n p)
          (choice_last_step P n (choices_in (drop (i + 1) arms))) (choice_last_step P n (choices_in (drop i arms))) (choice_last_step P n (choices_in arms))
          c.farther-latest.ensures.farthest step
          (exact_of _ _ _ (choice_low P n (choices_in arms)) own (ap (λ h. capped (low P h p)) held ∙ low_capped P p n)
          (let s = sum n in let b = below n in omega (arith, s, b)) small) (ap (choice_last_step P n) at) (c.loop-place.invariant.picked n held small);
      below = λ n. let s = sum n in let b = below n in omega (arith, s, b);
      formed = (arm_typed _ _ arms i a inside c.index-arms-place.is c.loop-place.invariant.formed).1;
    }

pub last_of_arms-returns-clause-moves : goal.last_of_arms-returns-clause-moves
last_of_arms-returns-clause-moves t c =
    let P = program_of c.args.program.now in
    let arms = c.args.arms.now in
    let none : choice_low P c.args.held (choices_in (drop c.loop-place.place arms)) ≡ c.args.held =
    ap (choice_low P c.args.held) (no_more_arms arms c.loop-place.place c.loop-place-test.false) in
    omega (arith, none, c.loop-place.invariant.latest, c.at_least.ensures.moves)

pub last_of_arms-returns-clause-step : goal.last_of_arms-returns-clause-step
last_of_arms-returns-clause-step t c n itself held small =
    let P = program_of c.args.program.now in
    let arms = c.args.arms.now in
    ap process_of c.at_least.ensures.statement
    ∙ picked_all c.loop-place.latest (choice_last_step P n (choices_in (drop c.loop-place.place arms))) (choice_last_step P n (choices_in arms)) itself
    (ap (choice_last_step P n) (no_more_arms arms c.loop-place.place c.loop-place-test.false)) (c.loop-place.invariant.picked n held small)
