-- What holds of each simple statement and of each guard in a program stays so in what is left of it.
use Rattle.std.proofs.Common.{◌≡◌, ℕ, zero, suc, Bool, true, false, List, [], ◌∷◌, subst}
use Rattle.std.specs.Prelude.{if◌then◌else◌, ◌==◌, Some}
use Rattle.width_check.specs.Processes.{Formula, Process, skipping, assigning, sending, receiving, in_turn, side_by_side, choosing, repeating, Processes, no_members, and_member, Choices, no_choices, and_choice}
use Rattle.chp_meaning.specs.Terms.{Term, Terms, finished, active, in_sequence, in_parallel, no_branches, and_branch, all_finished, together, opened, opened_turn, opened_each, followed, Place, here, in_first, in_branch, statement_at, branch_at, with_left, with_branch}
use Rattle.chp_meaning.specs.Steps.{Configuration, value_in, open_branches}

abbrev mutual
  pub Holds : (Process → Type 0) → (Formula → Type 0) → Process → Type 0
  Holds A G skipping = A skipping
  Holds A G (assigning x at e) = A (assigning x at e)
  Holds A G (sending k at e) = A (sending k at e)
  Holds A G (receiving k at x x_at) = A (receiving k at x x_at)
  Holds A G (in_turn members) = HoldsEach A G members
  Holds A G (side_by_side members) = HoldsEach A G members
  Holds A G (choosing again choices) = HoldsChoices A G choices
  Holds A G (repeating p) = Holds A G p

  pub HoldsEach : (Process → Type 0) → (Formula → Type 0) → Processes → Type 0
  HoldsEach A G no_members = Unit {0}
  HoldsEach A G (and_member p more) = Holds A G p × HoldsEach A G more

  pub HoldsChoices : (Process → Type 0) → (Formula → Type 0) → Choices → Type 0
  HoldsChoices A G no_choices = Unit {0}
  HoldsChoices A G (and_choice g p more) = G g × Holds A G p × HoldsChoices A G more

abbrev mutual
  pub HoldsIn : (Process → Type 0) → (Formula → Type 0) → Term → Type 0
  HoldsIn A G finished = Unit {0}
  HoldsIn A G (active p) = Holds A G p
  HoldsIn A G (in_sequence t more) = HoldsIn A G t × HoldsEach A G more
  HoldsIn A G (in_parallel ts) = HoldsInEach A G ts

  pub HoldsInEach : (Process → Type 0) → (Formula → Type 0) → Terms → Type 0
  HoldsInEach A G no_branches = Unit {0}
  HoldsInEach A G (and_branch t more) = HoldsIn A G t × HoldsInEach A G more

together_holds : (A : Process → Type 0) (G : Formula → Type 0) (ts : Terms) → HoldsInEach A G ts → HoldsIn A G (together ts)
together_holds A G ts h = by_test (all_finished ts)
  where
    by_test : (b : Bool) → HoldsIn A G (if b then finished else in_parallel ts)
    by_test true = tt
    by_test false = h

mutual
  pub opened_holds : (A : Process → Type 0) (G : Formula → Type 0) (p : Process) → Holds A G p → HoldsIn A G (opened p)
  opened_holds A G skipping h = h
  opened_holds A G (assigning x at e) h = h
  opened_holds A G (sending k at e) h = h
  opened_holds A G (receiving k at x x_at) h = h
  opened_holds A G (in_turn members) h = turn_holds A G members h
  opened_holds A G (side_by_side members) h = together_holds A G (opened_each members) (each_holds A G members h)
  opened_holds A G (choosing again _) h = h
  opened_holds A G (repeating p) h = h

  turn_holds : (A : Process → Type 0) (G : Formula → Type 0) (members : Processes) → HoldsEach A G members → HoldsIn A G (opened_turn members)
  turn_holds A G no_members h = tt
  turn_holds A G (and_member p no_members) h = opened_holds A G p h.0
  turn_holds A G (and_member p (and_member q more)) h = (opened_holds A G p h.0, h.1)

  each_holds : (A : Process → Type 0) (G : Formula → Type 0) (members : Processes) → HoldsEach A G members → HoldsInEach A G (opened_each members)
  each_holds A G no_members h = tt
  each_holds A G (and_member p more) h = (opened_holds A G p h.0, each_holds A G more h.1)

pub followed_holds : (A : Process → Type 0) (G : Formula → Type 0) (t : Term) (more : Processes) → HoldsIn A G t → HoldsEach A G more →
    HoldsIn A G (followed t more)
followed_holds A G finished more h k = turn_holds A G more k
followed_holds A G (active p) more h k = (h, k)
followed_holds A G (in_sequence t ms) more h k = (h, k)
followed_holds A G (in_parallel ts) more h k = (h, k)

mutual
  pub left_holds : (A : Process → Type 0) (G : Formula → Type 0) (t : Term) (w : Place) (l : Term) → HoldsIn A G t → HoldsIn A G l →
      HoldsIn A G (with_left t w l)
  left_holds A G finished w l h k = h
  left_holds A G (active q) here l h k = k
  left_holds A G (active q) (in_first w) l h k = h
  left_holds A G (active q) (in_branch i w) l h k = h
  left_holds A G (in_sequence t more) here l h k = h
  left_holds A G (in_sequence t more) (in_first w) l h k = followed_holds A G (with_left t w l) more (left_holds A G t w l h.0 k) h.1
  left_holds A G (in_sequence t more) (in_branch i w) l h k = h
  left_holds A G (in_parallel ts) here l h k = h
  left_holds A G (in_parallel ts) (in_first w) l h k = h
  left_holds A G (in_parallel ts) (in_branch i w) l h k = together_holds A G (with_branch ts i w l) (left_each_holds A G ts i w l h k)

  left_each_holds : (A : Process → Type 0) (G : Formula → Type 0) (ts : Terms) (i : ℕ) (w : Place) (l : Term) → HoldsInEach A G ts → HoldsIn A G l →
      HoldsInEach A G (with_branch ts i w l)
  left_each_holds A G no_branches i w l h k = h
  left_each_holds A G (and_branch t more) zero w l h k = (left_holds A G t w l h.0 k, h.1)
  left_each_holds A G (and_branch t more) (suc i) w l h k = (h.0, left_each_holds A G more i w l h.1 k)

mutual
  pub at_holds : (A : Process → Type 0) (G : Formula → Type 0) (t : Term) (w : Place) (p : Process) → HoldsIn A G t → statement_at t w ≡ Some p → Holds A G p
  at_holds A G finished w p h e = absurd (cc e)
  at_holds A G (active q) here p h e = let same : q ≡ p = cc e in subst (λ z. Holds A G z) same h
  at_holds A G (active q) (in_first w) p h e = absurd (cc e)
  at_holds A G (active q) (in_branch i w) p h e = absurd (cc e)
  at_holds A G (in_sequence t more) here p h e = absurd (cc e)
  at_holds A G (in_sequence t more) (in_first w) p h e = at_holds A G t w p h.0 e
  at_holds A G (in_sequence t more) (in_branch i w) p h e = absurd (cc e)
  at_holds A G (in_parallel ts) here p h e = absurd (cc e)
  at_holds A G (in_parallel ts) (in_first w) p h e = absurd (cc e)
  at_holds A G (in_parallel ts) (in_branch i w) p h e = at_each_holds A G ts i w p h e

  at_each_holds : (A : Process → Type 0) (G : Formula → Type 0) (ts : Terms) (i : ℕ) (w : Place) (p : Process) → HoldsInEach A G ts →
      branch_at ts i w ≡ Some p → Holds A G p
  at_each_holds A G no_branches i w p h e = absurd (cc e)
  at_each_holds A G (and_branch t more) zero w p h e = at_holds A G t w p h.0 e
  at_each_holds A G (and_branch t more) (suc i) w p h e = at_each_holds A G more i w p h.1 e

-- the branches whose guards are true

abbrev pub AllHold : (Process → Type 0) → (Formula → Type 0) → List Process → Type 0
AllHold A G [] = Unit {0}
AllHold A G (p ∷ ps) = Holds A G p × AllHold A G ps

pub open_hold : (A : Process → Type 0) (G : Formula → Type 0) (c : Configuration) (choices : Choices) → HoldsChoices A G choices →
    AllHold A G (open_branches c choices)
open_hold A G c no_choices h = tt
open_hold A G c (and_choice g p more) h = by_test (value_in c g == 1) (open_hold A G c more h.2)
  where
    by_test : (b : Bool) → AllHold A G (open_branches c more) → AllHold A G (if b then p ∷ open_branches c more else open_branches c more)
    by_test true k = (h.1, k)
    by_test false k = k

pub one_holds : (A : Process → Type 0) (G : Formula → Type 0) (c : Configuration) (choices : Choices) (p : Process) → HoldsChoices A G choices →
    open_branches c choices ≡ p ∷ [] → Holds A G p
one_holds A G c choices p h e = (subst (λ ps. AllHold A G ps) e (open_hold A G c choices h)).0
