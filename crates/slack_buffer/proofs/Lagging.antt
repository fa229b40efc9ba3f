-- The buffer is behind by one value at most: an invariant of the program with a buffer.
use Rattle.std.proofs.Common.{◌≡◌, ◌≢◌, ◌⊎◌, ℕ, zero, suc, ◌^◌, ◌<◌, ◌≤◌, true, false, List, [], ◌∷◌, ◌++◌, length, refl, sym, ap, ◌∙◌, inl, inr, arith}
use Rattle.std.specs.Prelude.{if◌then◌else◌, ◌==◌, slice_index, Some}
use Rattle.std.proofs.lemmas.Bool.Decides.{eqb_tells}
use Rattle.chp_base.specs.declared.channel.Channel.{Channel}
use Rattle.env_script.specs.Scripts.{nothing, offer_at}
use Rattle.env_script.specs.Runs.{history_at}
use Rattle.width_check.specs.declared.typed.Var.{Var}
use Rattle.width_check.specs.Processes.{Formula, Process, skipping, assigning, sending, receiving, in_turn, side_by_side, choosing, repeating, Processes, no_members, and_member, Choices, no_choices, and_choice}
use Rattle.width_check.specs.Values.{width_of, IsWellFormed}
use Rattle.width_check.specs.Typing.{channel_width, IsProcess, AreProcesses, AreChoices}
use Rattle.chp_meaning.specs.Terms.{Term, active, in_parallel, no_branches, and_branch, is_finished, Place, here, in_first, in_branch, statement_at}
use Rattle.chp_meaning.specs.Steps.{Configuration}
use Rattle.slack_buffer.specs.Buffers.{rerouted, rerouted_each, rerouted_choices, passing_on, IsOrLacksLast}
use Rattle.slack_buffer.proofs.Holding.{Holds, HoldsEach, HoldsChoices, HoldsIn}
use Rattle.slack_buffer.proofs.Filling.{taking, giving, empty, full}

-- What the simple statements of the program keep, where n channels and b variables are its own: the new ones are left to
-- the buffer, and so is receiving on the channel, on which values of its width are sent.
abbrev pub Leaves : (chan width copy slot : ℕ) → Process → Type 0
Leaves x w n b skipping = Unit {0}
Leaves x w n b (assigning y at e) = y < b
Leaves x w n b (sending k at e) = (k < n) × (k ≡ x → (IsWellFormed e × (width_of e ≡ w)))
Leaves x w n b (receiving k at y y_at) = (k ≢ x) × (y < b)
Leaves x w n b (in_turn _) = Unit {0}
Leaves x w n b (side_by_side _) = Unit {0}
Leaves x w n b (choosing again _) = Unit {0}
Leaves x w n b (repeating p) = Unit {0}

abbrev pub AnyGuard : Formula → Type 0
AnyGuard g = Unit {0}

abbrev pub Calm : (chan width copy slot : ℕ) → Term → Type 0
Calm x w n b t = HoldsIn (Leaves x w n b) AnyGuard t

elsewhere_received : (x n k : ℕ) → x < n → (if k == x then n else k) ≢ x
elsewhere_received x n k within same = by_test (eqb_tells k x)
  where
    by_test : (((k == x) ≡ true) × (k ≡ x)) ⊎ (((k == x) ≡ false) × (k ≢ x)) → ⊥
    by_test (inl h) = let e : n ≡ x = sym (ap (λ t. if t then n else k) h.0) ∙ same in omega (arith, e, within)
    by_test (inr h) = h.1 (sym (ap (λ t. if t then n else k) h.0) ∙ same)

mutual
  pub rerouted_leaves : (cs : List Channel) (vs : List Var) (x : ℕ) (p : Process) → x < length cs → IsProcess cs vs p →
      Holds (Leaves x (channel_width cs x) (length cs) (length vs)) AnyGuard (rerouted x (length cs) p)
  rerouted_leaves cs vs x skipping l t = tt
  rerouted_leaves cs vs x (assigning y at e) l t = t.0
  rerouted_leaves cs vs x (sending k at e) l t = (t.within, λ same. (t.sent.formed, t.sent.agrees ∙ ap (λ z. channel_width cs z) same))
  rerouted_leaves cs vs x (receiving k at y y_at) l t = (elsewhere_received x (length cs) k l, t.target)
  rerouted_leaves cs vs x (in_turn members) l t = each_leaves cs vs x members l t.1
  rerouted_leaves cs vs x (side_by_side members) l t = each_leaves cs vs x members l t.1
  rerouted_leaves cs vs x (choosing again choices) l t = choices_leave cs vs x choices l t.2
  rerouted_leaves cs vs x (repeating p) l t = rerouted_leaves cs vs x p l t

  each_leaves : (cs : List Channel) (vs : List Var) (x : ℕ) (members : Processes) → x < length cs → AreProcesses cs vs members →
      HoldsEach (Leaves x (channel_width cs x) (length cs) (length vs)) AnyGuard (rerouted_each x (length cs) members)
  each_leaves cs vs x no_members l t = tt
  each_leaves cs vs x (and_member p more) l t = (rerouted_leaves cs vs x p l t.0, each_leaves cs vs x more l t.1)

  choices_leave : (cs : List Channel) (vs : List Var) (x : ℕ) (choices : Choices) → x < length cs → AreChoices cs vs choices →
      HoldsChoices (Leaves x (channel_width cs x) (length cs) (length vs)) AnyGuard (rerouted_choices x (length cs) choices)
  choices_leave cs vs x no_choices l t = tt
  choices_leave cs vs x (and_choice g p more) l t = (tt, rerouted_leaves cs vs x p l t.1, choices_leave cs vs x more l t.2)

-- where the buffer stands: what is left of it, what has passed on the channel and on its copy, and what is in the variable
pub data Stage (x w n b : ℕ) : Term → List ℕ → List ℕ → ℕ → Type 0 where
  resting : {h : List ℕ} {v : ℕ} → Stage x w n b (active (passing_on x w n b)) h h v
  is_empty : {h : List ℕ} {v : ℕ} → Stage x w n b (empty x w n b) h h v
  is_full : {h : List ℕ} {v : ℕ} → 1 ≤ w → v < 2 ^ w → Stage x w n b (full x w n b) (h ++ v ∷ []) h v

pub stage_open : {x w n b v : ℕ} {u : Term} {h g : List ℕ} → Stage x w n b u h g v → is_finished u ≡ false
stage_open resting = refl
stage_open is_empty = refl
stage_open (is_full some small) = refl

pub stage_lags : {x w n b v : ℕ} {u : Term} {h g : List ℕ} → Stage x w n b u h g v → IsOrLacksLast h g
stage_lags resting = inl refl
stage_lags is_empty = inl refl
stage_lags (is_full {v = v} some small) = inr (v, refl)

pub record Lags (x w n b : ℕ) (c : Configuration) : Type 0 where
  pub main : Term
  pub turn : Term
  pub stands : c.term ≡ in_parallel (and_branch main (and_branch turn no_branches))
  pub calm : Calm x w n b main
  pub stage : Stage x w n b turn (history_at c.histories x) (history_at c.histories n) (slice_index c.store b)
  pub store : b < length c.store
  pub chan : x < length c.histories
  pub copy : n < length c.histories
  pub inner : offer_at c.rests x ≡ nothing
  pub new_inner : offer_at c.rests n ≡ nothing

-- a statement of two side by side is one of either
abbrev pub Sides : Term → Term → Place → Process → Type 0
Sides t u at p = ((w : Place) × (at ≡ in_branch zero w) × (statement_at t w ≡ Some p)) ⊎ ((w : Place) × (at ≡ in_branch (suc zero) w)
    × (statement_at u w ≡ Some p))

pub side_of : (t u : Term) (at : Place) (p : Process) → statement_at (in_parallel (and_branch t (and_branch u no_branches))) at ≡ Some p → Sides t u at p
side_of t u here p h = absurd (cc h)
side_of t u (in_first w) p h = absurd (cc h)
side_of t u (in_branch zero w) p h = inl (w, refl, h)
side_of t u (in_branch (suc zero) w) p h = inr (w, refl, h)
side_of t u (in_branch (suc (suc k)) w) p h = absurd (cc h)

-- the one statement of the buffer that is active
pub resting_at : (x w n b : ℕ) (at : Place) (p : Process) → statement_at (active (passing_on x w n b)) at ≡ Some p → (at ≡ here) × (p ≡ passing_on x w n b)
resting_at x w n b here p h = (refl, sym (cc h))
resting_at x w n b (in_first at) p h = absurd (cc h)
resting_at x w n b (in_branch k at) p h = absurd (cc h)

pub empty_at : (x w n b : ℕ) (at : Place) (p : Process) → statement_at (empty x w n b) at ≡ Some p → (at ≡ in_first (in_first here)) × (p ≡ taking x w n b)
empty_at x w n b here p h = absurd (cc h)
empty_at x w n b (in_branch k at) p h = absurd (cc h)
empty_at x w n b (in_first here) p h = absurd (cc h)
empty_at x w n b (in_first (in_branch k at)) p h = absurd (cc h)
empty_at x w n b (in_first (in_first here)) p h = (refl, sym (cc h))
empty_at x w n b (in_first (in_first (in_first at))) p h = absurd (cc h)
empty_at x w n b (in_first (in_first (in_branch k at))) p h = absurd (cc h)

pub full_at : (x w n b : ℕ) (at : Place) (p : Process) → statement_at (full x w n b) at ≡ Some p → (at ≡ in_first here) × (p ≡ giving x w n b)
full_at x w n b here p h = absurd (cc h)
full_at x w n b (in_branch k at) p h = absurd (cc h)
full_at x w n b (in_first here) p h = (refl, sym (cc h))
full_at x w n b (in_first (in_first at)) p h = absurd (cc h)
full_at x w n b (in_first (in_branch k at)) p h = absurd (cc h)

abbrev pub kind_of : Process → ℕ
kind_of skipping = 0
kind_of (assigning y at e) = 1
kind_of (sending k at e) = 2
kind_of (receiving k at y y_at) = 3
kind_of (in_turn _) = 4
kind_of (side_by_side _) = 5
kind_of (choosing again _) = 6
kind_of (repeating p) = 7

-- it begins a turn, receives, or sends
pub buffer_kind : {x w n b v : ℕ} {u : Term} {h g : List ℕ} (at : Place) (p : Process) → Stage x w n b u h g v → statement_at u at ≡ Some p →
    (kind_of p ≡ 7) ⊎ ((kind_of p ≡ 3) ⊎ (kind_of p ≡ 2))
buffer_kind {x = x} {w = w} {n = n} {b = b} at p resting h = inl (ap kind_of (resting_at x w n b at p h).1)
buffer_kind {x = x} {w = w} {n = n} {b = b} at p is_empty h = inr (inl (ap kind_of (empty_at x w n b at p h).1))
buffer_kind {x = x} {w = w} {n = n} {b = b} at p (is_full some small) h = inr (inr (ap kind_of (full_at x w n b at p h).1))

pub not_buffer : {x w n b v : ℕ} {u : Term} {h g : List ℕ} (at : Place) (p : Process) → Stage x w n b u h g v → statement_at u at ≡ Some p →
    kind_of p ≢ 7 → kind_of p ≢ 3 → kind_of p ≢ 2 → ⊥
not_buffer at p s h f g i = by_kind (buffer_kind at p s h)
  where
    by_kind : (kind_of p ≡ 7) ⊎ ((kind_of p ≡ 3) ⊎ (kind_of p ≡ 2)) → ⊥
    by_kind (inl e) = f e
    by_kind (inr (inl e)) = g e
    by_kind (inr (inr e)) = i e
