-- What is left of a program, with its receives on a channel put on another one.
use Rattle.std.proofs.Common.{◌≡◌, ℕ, zero, suc, Bool, true, false, refl, ap, ◌∙◌}
use Rattle.std.specs.Prelude.{if◌then◌else◌, ◌&&◌, Some}
use Rattle.width_check.specs.Processes.{Process, skipping, assigning, sending, receiving, in_turn, side_by_side, choosing, repeating, Processes, no_members, and_member}
use Rattle.chp_meaning.specs.Terms.{Term, Terms, finished, active, in_sequence, in_parallel, no_branches, and_branch, is_finished, all_finished, together, opened, opened_turn, opened_each, followed, Place, here, in_first, in_branch, statement_at, branch_at, with_left, with_branch}
use Rattle.slack_buffer.specs.Buffers.{rerouted, rerouted_each}

abbrev mutual
  pub rerouted_term : (chan copy : ℕ) → Term → Term
  rerouted_term chan copy finished = finished
  rerouted_term chan copy (active p) = active (rerouted chan copy p)
  rerouted_term chan copy (in_sequence t more) = in_sequence (rerouted_term chan copy t) (rerouted_each chan copy more)
  rerouted_term chan copy (in_parallel ts) = in_parallel (rerouted_terms chan copy ts)

  pub rerouted_terms : (chan copy : ℕ) → Terms → Terms
  rerouted_terms chan copy no_branches = no_branches
  rerouted_terms chan copy (and_branch t more) = and_branch (rerouted_term chan copy t) (rerouted_terms chan copy more)

ends_same : (x n : ℕ) (t : Term) → is_finished (rerouted_term x n t) ≡ is_finished t
ends_same x n finished = refl
ends_same x n (active p) = refl
ends_same x n (in_sequence t more) = refl
ends_same x n (in_parallel ts) = refl

all_end_same : (x n : ℕ) (ts : Terms) → all_finished (rerouted_terms x n ts) ≡ all_finished ts
all_end_same x n no_branches = refl
all_end_same x n (and_branch t more) =
    ap (λ b. b && all_finished (rerouted_terms x n more)) (ends_same x n t) ∙ ap (λ b. is_finished t && b) (all_end_same x n more)

together_same : (x n : ℕ) (ts : Terms) → together (rerouted_terms x n ts) ≡ rerouted_term x n (together ts)
together_same x n ts = ap (λ b. if b then finished else in_parallel (rerouted_terms x n ts)) (all_end_same x n ts) ∙ by_test (all_finished ts)
  where
    by_test : (b : Bool) → (if b then finished else in_parallel (rerouted_terms x n ts)) ≡ rerouted_term x n (if b then finished else in_parallel ts)
    by_test true = refl
    by_test false = refl

mutual
  pub opened_same : (x n : ℕ) (p : Process) → opened (rerouted x n p) ≡ rerouted_term x n (opened p)
  opened_same x n skipping = refl
  opened_same x n (assigning y at e) = refl
  opened_same x n (sending k at e) = refl
  opened_same x n (receiving k at y y_at) = refl
  opened_same x n (in_turn members) = turn_same x n members
  opened_same x n (side_by_side members) = ap together (each_same x n members) ∙ together_same x n (opened_each members)
  opened_same x n (choosing again _) = refl
  opened_same x n (repeating p) = refl

  turn_same : (x n : ℕ) (members : Processes) → opened_turn (rerouted_each x n members) ≡ rerouted_term x n (opened_turn members)
  turn_same x n no_members = refl
  turn_same x n (and_member p no_members) = opened_same x n p
  turn_same x n (and_member p (and_member q more)) =
      ap (λ t. in_sequence t (and_member (rerouted x n q) (rerouted_each x n more))) (opened_same x n p)

  each_same : (x n : ℕ) (members : Processes) → opened_each (rerouted_each x n members) ≡ rerouted_terms x n (opened_each members)
  each_same x n no_members = refl
  each_same x n (and_member p more) =
      ap (λ t. and_branch t (opened_each (rerouted_each x n more))) (opened_same x n p)
      ∙ ap (λ ts. and_branch (rerouted_term x n (opened p)) ts) (each_same x n more)

pub followed_same : (x n : ℕ) (t : Term) (more : Processes) → followed (rerouted_term x n t) (rerouted_each x n more) ≡ rerouted_term x n (followed t more)
followed_same x n finished more = turn_same x n more
followed_same x n (active p) more = refl
followed_same x n (in_sequence t ms) more = refl
followed_same x n (in_parallel ts) more = refl

mutual
  pub at_same : (x n : ℕ) (t : Term) (w : Place) (p : Process) → statement_at t w ≡ Some p → statement_at (rerouted_term x n t) w ≡ Some (rerouted x n p)
  at_same x n finished w p h = absurd (cc h)
  at_same x n (active q) here p h = let e : q ≡ p = cc h in ap (λ z. Some (rerouted x n z)) e
  at_same x n (active q) (in_first w) p h = absurd (cc h)
  at_same x n (active q) (in_branch k w) p h = absurd (cc h)
  at_same x n (in_sequence t more) here p h = absurd (cc h)
  at_same x n (in_sequence t more) (in_first w) p h = at_same x n t w p h
  at_same x n (in_sequence t more) (in_branch k w) p h = absurd (cc h)
  at_same x n (in_parallel ts) here p h = absurd (cc h)
  at_same x n (in_parallel ts) (in_first w) p h = absurd (cc h)
  at_same x n (in_parallel ts) (in_branch k w) p h = branch_at_same x n ts k w p h

  branch_at_same : (x n : ℕ) (ts : Terms) (k : ℕ) (w : Place) (p : Process) → branch_at ts k w ≡ Some p →
      branch_at (rerouted_terms x n ts) k w ≡ Some (rerouted x n p)
  branch_at_same x n no_branches k w p h = absurd (cc h)
  branch_at_same x n (and_branch t more) zero w p h = at_same x n t w p h
  branch_at_same x n (and_branch t more) (suc k) w p h = branch_at_same x n more k w p h

mutual
  pub with_same : (x n : ℕ) (t : Term) (w : Place) (l : Term) → with_left (rerouted_term x n t) w (rerouted_term x n l) ≡ rerouted_term x n (with_left t w l)
  with_same x n finished w l = refl
  with_same x n (active q) here l = refl
  with_same x n (active q) (in_first w) l = refl
  with_same x n (active q) (in_branch k w) l = refl
  with_same x n (in_sequence t more) here l = refl
  with_same x n (in_sequence t more) (in_first w) l =
      ap (λ z. followed z (rerouted_each x n more)) (with_same x n t w l) ∙ followed_same x n (with_left t w l) more
  with_same x n (in_sequence t more) (in_branch k w) l = refl
  with_same x n (in_parallel ts) here l = refl
  with_same x n (in_parallel ts) (in_first w) l = refl
  with_same x n (in_parallel ts) (in_branch k w) l = ap together (with_branch_same x n ts k w l) ∙ together_same x n (with_branch ts k w l)

  with_branch_same : (x n : ℕ) (ts : Terms) (k : ℕ) (w : Place) (l : Term) →
      with_branch (rerouted_terms x n ts) k w (rerouted_term x n l) ≡ rerouted_terms x n (with_branch ts k w l)
  with_branch_same x n no_branches k w l = refl
  with_branch_same x n (and_branch t more) zero w l = ap (λ z. and_branch z (rerouted_terms x n more)) (with_same x n t w l)
  with_branch_same x n (and_branch t more) (suc k) w l = ap (λ z. and_branch (rerouted_term x n t) z) (with_branch_same x n more k w l)

-- two branches side by side, of which the second isn't finished
pub together_open : (t u : Term) → is_finished u ≡ false →
    together (and_branch t (and_branch u no_branches)) ≡ in_parallel (and_branch t (and_branch u no_branches))
together_open t u open_still =
    ap (λ b. if is_finished t && (b && true) then finished else in_parallel (and_branch t (and_branch u no_branches))) open_still ∙ by_test (is_finished t)
  where
    by_test : (b : Bool) → (if b && (false && true) then finished else in_parallel (and_branch t (and_branch u no_branches)))
        ≡ in_parallel (and_branch t (and_branch u no_branches))
    by_test true = refl
    by_test false = refl
