-- The steps of a round, statement by statement.
use Rattle.std.proofs.Common.{◌≡◌, ◌⊎◌, ℕ, zero, suc, ◌<◌, Bool, true, false, List, [], ◌∷◌, map, refl, sym, ap, subst, ◌∙◌, inl, inr, arith}
use Rattle.std.specs.Prelude.{All, cond, filter, is_some, Option, Some, None}
use Rattle.chp_base.specs.declared.channel.Channel.{Channel}
use Rattle.width_check.specs.declared.typed.Var.{Var}
use Rattle.width_check.specs.Processes.{Process, skipping, assigning, sending, receiving, in_turn, side_by_side, choosing, repeating, Processes, no_members, and_member, member_count, Choices, no_choices, and_choice, choice_count}
use Rattle.width_check.specs.Typing.{IsProcess, AreProcesses, AreChoices}
use Rattle.chp_meaning.specs.declared.config.Config.{Config}
use Rattle.chp_meaning.specs.declared.effect.Move.{Move}
use Rattle.chp_meaning.specs.Fitting.{Fits}
use Rattle.chp_meaning.specs.Terms.{Place, statement_at, places}
use Rattle.chp_meaning.specs.Steps.{Configuration}
use Rattle.chp_meaning.specs.Rounds.{step_at, is_enabled, enabled_places}
use Rattle.chp_meaning.specs.Remaining.{remains_of, part_of, part_count, member_at, branch_of}
use Rattle.chp_meaning.specs.AtOnce.{statements, move_of, stepping}
use Rattle.chp_meaning.specs.Standing.{configuration_of, IsStanding, next_outset}
use Rattle.chp_meaning.proofs.Places.{In, in_map, in_filtered}
use Rattle.chp_meaning.proofs.Meeting.{found}
use Rattle.chp_meaning.proofs.Taken.{step_is}
use Rattle.chp_meaning.proofs.Remainders.{actives, statements_are, statements_have}
use Rattle.chp_meaning.proofs.AtOnceRounds.{outset_for, AllRun, step_move, move_can, move_or_none, At, places_at}
use Rattle.chp_meaning.proofs.NextRound.{all_from_in, runs_all, outset_same}

-- a place is enabled where its statement has a move
enabled_moves : (c : Configuration) (m : ℕ) → Fits c.term → AllRun c m → (a : Place) (q : Process) → statement_at c.term a ≡ Some q →
    is_enabled c a ≡ is_some (move_of (outset_for c) q)
enabled_moves c m f run a q h = by_step (step_at c a) refl
  where
    by_move : step_at c a ≡ None → (move_of (outset_for c) q ≡ None) ⊎ ((w : Move) × (move_of (outset_for c) q ≡ Some w)) →
        is_enabled c a ≡ is_some (move_of (outset_for c) q)
    by_move off (inl e) = ap is_some off ∙ sym (ap is_some e)
    by_move off (inr (w, e)) = let can = move_can c a q w h e in absurd (cc (sym off ∙ found f can.1))

    by_step : (o : Option Configuration) → step_at c a ≡ o → is_enabled c a ≡ is_some (move_of (outset_for c) q)
    by_step None e = by_move e (move_or_none (move_of (outset_for c) q))
    by_step (Some d) e = ap is_some e ∙ sym (ap is_some (step_move m f run (step_is c d a e) q h))

enabled_at : (c : Configuration) (m : ℕ) → Fits c.term → AllRun c m → (spots : List Place) (qs : List Process) → At c.term spots qs →
    map (statement_at c.term) (filter (is_enabled c) spots) ≡ map Some (stepping (outset_for c) qs)
enabled_at c m f run [] [] h = refl
enabled_at c m f run [] (q ∷ qs) h = absurd h
enabled_at c m f run (a ∷ spots) [] h = absurd h
enabled_at c m f run (a ∷ spots) (q ∷ qs) h =
    let later = filter (is_enabled c) spots in
    ap (λ b. map (statement_at c.term) (cond b (a ∷ later) later)) (enabled_moves c m f run a q h.0)
    ∙ by_move (is_some (move_of (outset_for c) q)) (enabled_at c m f run spots qs h.1)
  where
    by_move : (b : Bool) → map (statement_at c.term) (filter (is_enabled c) spots) ≡ map Some (stepping (outset_for c) qs) →
        map (statement_at c.term) (cond b (a ∷ filter (is_enabled c) spots) (filter (is_enabled c) spots))
        ≡ map Some (cond b (q ∷ stepping (outset_for c) qs) (stepping (outset_for c) qs))
    by_move true rest = ap (λ x. x ∷ map (statement_at c.term) (filter (is_enabled c) spots)) h.0 ∙ ap (λ xs. Some q ∷ xs) rest
    by_move false rest = rest

some_each : {X Y : Type 0} (f : X → Y) (xs : List X) → map (λ x. Some (f x)) xs ≡ map Some (map f xs)
some_each f [] = refl
some_each f (x ∷ xs) = ap (λ ys. Some (f x) ∷ ys) (some_each f xs)

-- of a program as it stands
pub steps_listed : {X : Type 0} (said : X → Process) (body : Process) (c : Config) (xs : List X) → IsStanding body c → Fits (configuration_of body c).term →
    map said xs ≡ stepping (next_outset body c) (statements body (remains_of c.left)) →
    map (λ x. Some (said x)) xs ≡ map (statement_at (configuration_of body c).term) (enabled_places (configuration_of body c))
steps_listed said body c xs s f is =
    let d = configuration_of body c in
    some_each said xs
    ∙ (ap (map Some) (is ∙ (ap (λ o. stepping o (statements body (remains_of c.left))) (sym (outset_same body c))
    ∙ ap (stepping (outset_for d)) (statements_are body (remains_of c.left))))
    ∙ sym (enabled_at d _ f (runs_all body c s) (places d.term) (actives d.term) (places_at d.term)))

-- the statements are typed as the program is
module _ (channels : List Channel) (vars : List Var) where
  member_typed : (ms : Processes) (k : ℕ) → k < member_count ms → AreProcesses channels vars ms → IsProcess channels vars (member_at ms k)
  member_typed no_members k lt h = absurd (omega (arith, lt))
  member_typed (and_member p more) zero lt h = h.0
  member_typed (and_member p more) (suc k) lt h = member_typed more k (omega (arith, lt)) h.1

  branch_typed : (cs : Choices) (k : ℕ) → k < choice_count cs → AreChoices channels vars cs → IsProcess channels vars (branch_of cs k)
  branch_typed no_choices k lt h = absurd (omega (arith, lt))
  branch_typed (and_choice g p more) zero lt h = h.1
  branch_typed (and_choice g p more) (suc k) lt h = branch_typed more k (omega (arith, lt)) h.2

  part_typed : (p : Process) (k : ℕ) → k < part_count p → IsProcess channels vars p → IsProcess channels vars (part_of p k)
  part_typed skipping k lt h = absurd (omega (arith, lt))
  part_typed (assigning x s e) k lt h = absurd (omega (arith, lt))
  part_typed (sending c s e) k lt h = absurd (omega (arith, lt))
  part_typed (receiving c s x t) k lt h = absurd (omega (arith, lt))
  part_typed (in_turn ms) k lt h = member_typed ms k lt h.1
  part_typed (side_by_side ms) k lt h = member_typed ms k lt h.1
  part_typed (choosing again cs) k lt h = branch_typed cs k lt h.2
  part_typed (repeating p) k lt h = h

  pub steps_typed : {X : Type 0} (said : X → Process) (body : Process) (c : Config) (xs : List X) → IsStanding body c → IsProcess channels vars body →
      map said xs ≡ stepping (next_outset body c) (statements body (remains_of c.left)) → All (λ x. IsProcess channels vars (said x)) xs
  steps_typed said body c xs s typed is = all_from_in (λ x. IsProcess channels vars (said x)) xs (λ x i.
      let listed = subst (λ ps. In ps (said x)) is (in_map said xs x i) in
      let among = in_filtered (λ p. is_some (move_of (next_outset body c) p)) (statements body (remains_of c.left)) (said x) listed in
      (statements_have (IsProcess channels vars) part_typed body (remains_of c.left) typed s.remains (said x) among.0).0)
