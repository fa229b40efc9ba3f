-- Terms whose branches may go on side by side.
use Rattle.std.proofs.Common.{◌≡◌, ◌≢◌, ◌⊎◌, ℕ, zero, suc, Bool, true, false, List, [], ◌∷◌, ◌++◌, refl, sym, ap, subst, inl, inr, arith}
use Rattle.std.specs.Prelude.{Contains, if◌then◌else◌, ◌==◌, Some}
use Rattle.width_check.specs.Processes.{Process, skipping, assigning, sending, receiving, in_turn, side_by_side, choosing, repeating, Processes, no_members, and_member, Choices, no_choices, and_choice}
use Rattle.chp_base.specs.declared.fault.FaultCode.TheVariants as code
use Rattle.width_check.specs.Sharing.{Deed, reads_var, writes_var, sends_on, receives_on, Occurrence, reads_of, occurrences, occurrences_of_each, occurrences_of_choices, Parallel, ParallelInside, ParallelInChoices, ParallelAcross, Clashes, MeetsSharing}
use Rattle.chp_meaning.specs.Terms.{Term, Terms, finished, active, in_sequence, in_parallel, no_branches, and_branch, all_finished, together, opened, opened_turn, opened_each, followed, Place, here, in_first, in_branch, statement_at, branch_at, with_left, with_branch}
use Rattle.chp_meaning.specs.Steps.{Configuration, value_in, open_branches}
pub use Rattle.chp_meaning.specs.Fitting.{Conflict, Apart, Sound, EachSound, EachApart, ChoicesSound, uses, uses_of_each, Fits, FitEach}
use Rattle.chp_meaning.proofs.Places.{In, in_left, in_right, in_either}

pub conflict_sym : (a b : Deed) → Conflict a b → Conflict b a
conflict_sym (writes_var x) (writes_var y) h = sym h
conflict_sym (writes_var x) (reads_var y) h = sym h
conflict_sym (reads_var x) (writes_var y) h = sym h
conflict_sym (sends_on x) (sends_on y) h = sym h
conflict_sym (receives_on x) (receives_on y) h = sym h
conflict_sym _ _ h = absurd h

abbrev pub Within : List Occurrence → List Occurrence → Type 0
Within xs ys = (u : Occurrence) → In xs u → In ys u

pub apart_sym : (xs ys : List Occurrence) → Apart xs ys → Apart ys xs
apart_sym xs ys h u v hu hv c = h v u hv hu (conflict_sym u.deed v.deed c)

within_append : (xs ys us vs : List Occurrence) → Within xs us → Within ys vs → Within (xs ++ ys) (us ++ vs)
within_append xs ys us vs f g u h = by_side (in_either xs ys u h)
  where
    by_side : In xs u ⊎ In ys u → In (us ++ vs) u
    by_side (inl k) = in_left us vs u (f u k)
    by_side (inr k) = in_right us vs u (g u k)

contains_from : (xs : List Occurrence) (x : Occurrence) → In xs x → Contains xs x
contains_from [] x h = absurd h
contains_from (y ∷ xs) x (inl e) = (0, omega arith, e)
contains_from (y ∷ xs) x (inr h) = let r = contains_from xs x h in (suc r.0, omega (arith, r.1), r.2)

abbrev Clean : (Occurrence → Occurrence → Type 0) → Type 0
Clean P = (a b : Occurrence) → P a b → ¬ Conflict a.deed b.deed

across_apart : (members : Processes) → Clean (ParallelAcross members) → EachApart members
across_apart no_members clean = tt
across_apart (and_member p more) clean = (
  λ u v hu hv c. clean u v (inl (inl (contains_from (occurrences p) u hu, contains_from (occurrences_of_each more) v hv))) c,
  across_apart more (λ a b h c. clean a b (inr h) c),
)

mutual
  clean_sound : (p : Process) → Clean (Parallel p) → Sound p
  clean_sound skipping clean = tt
  clean_sound (assigning x s e) clean = tt
  clean_sound (sending k s e) clean = tt
  clean_sound (receiving k s x t) clean = tt
  clean_sound (in_turn members) clean = clean_each members clean
  clean_sound (side_by_side members) clean = (clean_each members (λ a b h. clean a b (inl h)), across_apart members (λ a b h. clean a b (inr h)))
  clean_sound (choosing again choices) clean = clean_choices choices clean
  clean_sound (repeating p) clean = clean_sound p clean

  clean_each : (members : Processes) → Clean (ParallelInside members) → EachSound members
  clean_each no_members clean = tt
  clean_each (and_member p more) clean = (clean_sound p (λ a b h. clean a b (inl h)), clean_each more (λ a b h. clean a b (inr h)))

  clean_choices : (choices : Choices) → Clean (ParallelInChoices choices) → ChoicesSound choices
  clean_choices no_choices clean = tt
  clean_choices (and_choice g p more) clean = (clean_sound p (λ a b h. clean a b (inl h)), clean_choices more (λ a b h. clean a b (inr h)))

conflict_clashes : (a b : Deed) → Conflict a b → Clashes code.SharedVariable a b ⊎ (Clashes code.SharedSend a b ⊎ Clashes code.SharedReceive a b)
conflict_clashes (writes_var x) (writes_var y) h = inl h
conflict_clashes (writes_var x) (reads_var y) h = inl h
conflict_clashes (reads_var x) (writes_var y) h = inl h
conflict_clashes (sends_on x) (sends_on y) h = inr (inl h)
conflict_clashes (receives_on x) (receives_on y) h = inr (inr h)
conflict_clashes _ _ h = absurd h

pub meeting_sound : (p : Process) → MeetsSharing p → Sound p
meeting_sound p meets = clean_sound p (λ a b h c. by_code a b h (conflict_clashes a.deed b.deed c))
  where
    by_code : (a b : Occurrence) → Parallel p a b →
        Clashes code.SharedVariable a.deed b.deed ⊎ (Clashes code.SharedSend a.deed b.deed ⊎ Clashes code.SharedReceive a.deed b.deed) → ⊥
    by_code a b h (inl c) = meets.variables a b h c
    by_code a b h (inr (inl c)) = meets.sends a b h c
    by_code a b h (inr (inr c)) = meets.receives a b h c

together_fits : (ts : Terms) → FitEach ts → Fits (together ts)
together_fits ts h = by_test (all_finished ts)
  where
    by_test : (b : Bool) → Fits (if b then finished else in_parallel ts)
    by_test true = tt
    by_test false = h

together_within : (ts : Terms) → Within (uses (together ts)) (uses_of_each ts)
together_within ts u = by_test (all_finished ts)
  where
    by_test : (b : Bool) → In (uses (if b then finished else in_parallel ts)) u → In (uses_of_each ts) u
    by_test true h = absurd h
    by_test false h = h

mutual
  pub opened_within : (p : Process) → Within (uses (opened p)) (occurrences p)
  opened_within skipping u h = h
  opened_within (assigning x s e) u h = h
  opened_within (sending k s e) u h = h
  opened_within (receiving k s x t) u h = h
  opened_within (in_turn members) u h = turn_within members u h
  opened_within (side_by_side members) u h = each_within members u (together_within (opened_each members) u h)
  opened_within (choosing again cs) u h = h
  opened_within (repeating p) u h = h

  pub turn_within : (members : Processes) → Within (uses (opened_turn members)) (occurrences_of_each members)
  turn_within no_members u h = h
  turn_within (and_member p no_members) u h = in_left (occurrences p) [] u (opened_within p u h)
  turn_within (and_member p (and_member q more)) u h =
      within_append (uses (opened p)) (occurrences_of_each (and_member q more)) (occurrences p) (occurrences_of_each (and_member q more)) (opened_within p)
      (λ v k. k) u h

  each_within : (members : Processes) → Within (uses_of_each (opened_each members)) (occurrences_of_each members)
  each_within no_members u h = h
  each_within (and_member p more) u h =
      within_append (uses (opened p)) (uses_of_each (opened_each more)) (occurrences p) (occurrences_of_each more) (opened_within p) (each_within more) u h

mutual
  pub opened_fits : (p : Process) → Sound p → Fits (opened p)
  opened_fits skipping s = s
  opened_fits (assigning x at e) s = s
  opened_fits (sending k at e) s = s
  opened_fits (receiving k at x t) s = s
  opened_fits (in_turn members) s = turn_fits members s
  opened_fits (side_by_side members) s = together_fits (opened_each members) (each_fits members s.0 s.1)
  opened_fits (choosing again cs) s = s
  opened_fits (repeating p) s = s

  pub turn_fits : (members : Processes) → EachSound members → Fits (opened_turn members)
  turn_fits no_members s = tt
  turn_fits (and_member p no_members) s = opened_fits p s.0
  turn_fits (and_member p (and_member q more)) s = (opened_fits p s.0, s.1)

  each_fits : (members : Processes) → EachSound members → EachApart members → FitEach (opened_each members)
  each_fits no_members s a = tt
  each_fits (and_member p more) s a =
      (opened_fits p s.0, λ u v hu hv. a.0 u v (opened_within p u hu) (each_within more v hv), each_fits more s.1 a.1)

pub followed_within : (t : Term) (more : Processes) → Within (uses (followed t more)) (uses t ++ occurrences_of_each more)
followed_within finished more u h = turn_within more u h
followed_within (active p) more u h = h
followed_within (in_sequence t ms) more u h = h
followed_within (in_parallel ts) more u h = h

pub followed_fits : (t : Term) (more : Processes) → Fits t → EachSound more → Fits (followed t more)
followed_fits finished more f s = turn_fits more s
followed_fits (active p) more f s = (f, s)
followed_fits (in_sequence t ms) more f s = (f, s)
followed_fits (in_parallel ts) more f s = (f, s)

-- what an active statement does, its term does
mutual
  pub statement_within : (t : Term) (a : Place) (p : Process) → statement_at t a ≡ Some p → Within (occurrences p) (uses t)
  statement_within finished a p h u k = absurd (cc h)
  statement_within (active q) here p h u k = let e : q ≡ p = cc h in subst (λ r. In (occurrences r) u) (sym e) k
  statement_within (active q) (in_first a) p h u k = absurd (cc h)
  statement_within (active q) (in_branch i a) p h u k = absurd (cc h)
  statement_within (in_sequence t more) here p h u k = absurd (cc h)
  statement_within (in_sequence t more) (in_first a) p h u k = in_left (uses t) (occurrences_of_each more) u (statement_within t a p h u k)
  statement_within (in_sequence t more) (in_branch i a) p h u k = absurd (cc h)
  statement_within (in_parallel ts) here p h u k = absurd (cc h)
  statement_within (in_parallel ts) (in_first a) p h u k = absurd (cc h)
  statement_within (in_parallel ts) (in_branch i a) p h u k = branch_within ts i a p h u k

  branch_within : (ts : Terms) (i : ℕ) (a : Place) (p : Process) → branch_at ts i a ≡ Some p → Within (occurrences p) (uses_of_each ts)
  branch_within no_branches i a p h u k = absurd (cc h)
  branch_within (and_branch t more) zero a p h u k = in_left (uses t) (uses_of_each more) u (statement_within t a p h u k)
  branch_within (and_branch t more) (suc i) a p h u k = in_right (uses t) (uses_of_each more) u (branch_within more i a p h u k)

mutual
  pub statement_sound : (t : Term) (a : Place) (p : Process) → Fits t → statement_at t a ≡ Some p → Sound p
  statement_sound finished a p f h = absurd (cc h)
  statement_sound (active q) here p f h = let e : q ≡ p = cc h in subst Sound e f
  statement_sound (active q) (in_first a) p f h = absurd (cc h)
  statement_sound (active q) (in_branch i a) p f h = absurd (cc h)
  statement_sound (in_sequence t more) here p f h = absurd (cc h)
  statement_sound (in_sequence t more) (in_first a) p f h = statement_sound t a p f.0 h
  statement_sound (in_sequence t more) (in_branch i a) p f h = absurd (cc h)
  statement_sound (in_parallel ts) here p f h = absurd (cc h)
  statement_sound (in_parallel ts) (in_first a) p f h = absurd (cc h)
  statement_sound (in_parallel ts) (in_branch i a) p f h = branch_sound ts i a p f h

  branch_sound : (ts : Terms) (i : ℕ) (a : Place) (p : Process) → FitEach ts → branch_at ts i a ≡ Some p → Sound p
  branch_sound no_branches i a p f h = absurd (cc h)
  branch_sound (and_branch t more) zero a p f h = statement_sound t a p f.0 h
  branch_sound (and_branch t more) (suc i) a p f h = branch_sound more i a p f.2 h

-- the statements at two places aren't in conflict
mutual
  pub places_apart : (t : Term) (a b : Place) (p q : Process) → Fits t → a ≢ b → statement_at t a ≡ Some p → statement_at t b ≡ Some q →
      Apart (occurrences p) (occurrences q)
  places_apart finished a b p q f ne g h = absurd (cc h)
  places_apart (active r) here here p q f ne g h = absurd (ne refl)
  places_apart (active r) (in_first a) b p q f ne g h = absurd (cc g)
  places_apart (active r) (in_branch i a) b p q f ne g h = absurd (cc g)
  places_apart (active r) here (in_first b) p q f ne g h = absurd (cc h)
  places_apart (active r) here (in_branch j b) p q f ne g h = absurd (cc h)
  places_apart (in_sequence t more) here b p q f ne g h = absurd (cc g)
  places_apart (in_sequence t more) (in_branch i a) b p q f ne g h = absurd (cc g)
  places_apart (in_sequence t more) (in_first a) here p q f ne g h = absurd (cc h)
  places_apart (in_sequence t more) (in_first a) (in_branch j b) p q f ne g h = absurd (cc h)
  places_apart (in_sequence t more) (in_first a) (in_first b) p q f ne g h = places_apart t a b p q f.0 (λ e. ne (ap in_first e)) g h
  places_apart (in_parallel ts) here b p q f ne g h = absurd (cc g)
  places_apart (in_parallel ts) (in_first a) b p q f ne g h = absurd (cc g)
  places_apart (in_parallel ts) (in_branch i a) here p q f ne g h = absurd (cc h)
  places_apart (in_parallel ts) (in_branch i a) (in_first b) p q f ne g h = absurd (cc h)
  places_apart (in_parallel ts) (in_branch i a) (in_branch j b) p q f ne g h = branches_apart ts i a j b p q f ne g h

  branches_apart : (ts : Terms) (i : ℕ) (a : Place) (j : ℕ) (b : Place) (p q : Process) → FitEach ts → in_branch i a ≢ in_branch j b →
      branch_at ts i a ≡ Some p → branch_at ts j b ≡ Some q → Apart (occurrences p) (occurrences q)
  branches_apart no_branches i a j b p q f ne g h = absurd (cc h)
  branches_apart (and_branch t more) zero a zero b p q f ne g h = places_apart t a b p q f.0 (λ e. ne (ap (in_branch zero) e)) g h
  branches_apart (and_branch t more) zero a (suc j) b p q f ne g h = λ u v hu hv. f.1 u v (statement_within t a p g u hu) (branch_within more j b q h v hv)
  branches_apart (and_branch t more) (suc i) a zero b p q f ne g h =
      apart_sym (occurrences q) (occurrences p) (λ u v hu hv. f.1 u v (statement_within t b q h u hu) (branch_within more i a p g v hv))
  branches_apart (and_branch t more) (suc i) a (suc j) b p q f ne g h = branches_apart more i a j b p q f.2 (λ e. ne (cc e)) g h

-- what is left of a statement, in its place
mutual
  left_within : (t : Term) (a : Place) (l : Term) (p : Process) → statement_at t a ≡ Some p → Within (uses l) (occurrences p) →
      Within (uses (with_left t a l)) (uses t)
  left_within finished a l p h w = absurd (cc h)
  left_within (active q) here l p h w = let e : q ≡ p = cc h in subst (λ r. Within (uses l) (occurrences r)) (sym e) w
  left_within (active q) (in_first a) l p h w = absurd (cc h)
  left_within (active q) (in_branch i a) l p h w = absurd (cc h)
  left_within (in_sequence t more) here l p h w = absurd (cc h)
  left_within (in_sequence t more) (in_first a) l p h w = λ u k.
      within_append (uses (with_left t a l)) (occurrences_of_each more) (uses t) (occurrences_of_each more) (left_within t a l p h w) (λ v x. x) u
      (followed_within (with_left t a l) more u k)
  left_within (in_sequence t more) (in_branch i a) l p h w = absurd (cc h)
  left_within (in_parallel ts) here l p h w = absurd (cc h)
  left_within (in_parallel ts) (in_first a) l p h w = absurd (cc h)
  left_within (in_parallel ts) (in_branch i a) l p h w = λ u k. branch_left_within ts i a l p h w u (together_within (with_branch ts i a l) u k)

  branch_left_within : (ts : Terms) (i : ℕ) (a : Place) (l : Term) (p : Process) → branch_at ts i a ≡ Some p → Within (uses l) (occurrences p) →
      Within (uses_of_each (with_branch ts i a l)) (uses_of_each ts)
  branch_left_within no_branches i a l p h w = absurd (cc h)
  branch_left_within (and_branch t more) zero a l p h w =
      within_append (uses (with_left t a l)) (uses_of_each more) (uses t) (uses_of_each more) (left_within t a l p h w) (λ u k. k)
  branch_left_within (and_branch t more) (suc i) a l p h w =
      within_append (uses t) (uses_of_each (with_branch more i a l)) (uses t) (uses_of_each more) (λ u k. k) (branch_left_within more i a l p h w)

mutual
  pub left_fits : (t : Term) (a : Place) (l : Term) (p : Process) → Fits t → statement_at t a ≡ Some p → Fits l → Within (uses l) (occurrences p) →
      Fits (with_left t a l)
  left_fits finished a l p f h g w = absurd (cc h)
  left_fits (active q) here l p f h g w = g
  left_fits (active q) (in_first a) l p f h g w = absurd (cc h)
  left_fits (active q) (in_branch i a) l p f h g w = absurd (cc h)
  left_fits (in_sequence t more) here l p f h g w = absurd (cc h)
  left_fits (in_sequence t more) (in_first a) l p f h g w = followed_fits (with_left t a l) more (left_fits t a l p f.0 h g w) f.1
  left_fits (in_sequence t more) (in_branch i a) l p f h g w = absurd (cc h)
  left_fits (in_parallel ts) here l p f h g w = absurd (cc h)
  left_fits (in_parallel ts) (in_first a) l p f h g w = absurd (cc h)
  left_fits (in_parallel ts) (in_branch i a) l p f h g w = together_fits (with_branch ts i a l) (branch_left_fits ts i a l p f h g w)

  branch_left_fits : (ts : Terms) (i : ℕ) (a : Place) (l : Term) (p : Process) → FitEach ts → branch_at ts i a ≡ Some p → Fits l →
      Within (uses l) (occurrences p) → FitEach (with_branch ts i a l)
  branch_left_fits no_branches i a l p f h g w = absurd (cc h)
  branch_left_fits (and_branch t more) zero a l p f h g w = (left_fits t a l p f.0 h g w, λ u v hu hv. f.1 u v (left_within t a l p h w u hu) hv, f.2)
  branch_left_fits (and_branch t more) (suc i) a l p f h g w =
      (f.0, λ u v hu hv. f.1 u v hu (branch_left_within more i a l p h w v hv), branch_left_fits more i a l p f.2 h g w)

-- a branch that may be chosen
pub open_sound : (c : Configuration) (options : Choices) (p : Process) → ChoicesSound options → In (open_branches c options) p →
    Sound p × Within (occurrences p) (occurrences_of_choices options)
open_sound c no_choices p s h = absurd h
open_sound c (and_choice g q more) p s h = by_guard (value_in c g == 1) h (open_sound c more p s.1)
  where
    deeper : Sound p × Within (occurrences p) (occurrences_of_choices more) → Sound p × Within (occurrences p) (occurrences_of_choices (and_choice g q more))
    deeper r = (
      r.0,
      λ u k. in_right (reads_of g) (occurrences q ++ occurrences_of_choices more) u
          (in_right (occurrences q) (occurrences_of_choices more) u (r.1 u k)),
    )

    by_guard : (b : Bool) → In (if b then q ∷ open_branches c more else open_branches c more) p →
        (In (open_branches c more) p → Sound p × Within (occurrences p) (occurrences_of_choices more)) →
        Sound p × Within (occurrences p) (occurrences_of_choices (and_choice g q more))
    by_guard true (inl e) rest = (
      subst Sound e s.0,
      λ u k. in_right (reads_of g) (occurrences q ++ occurrences_of_choices more) u
          (in_left (occurrences q) (occurrences_of_choices more) u (subst (λ r. In (occurrences r) u) (sym e) k)),
    )
    by_guard true (inr k) rest = deeper (rest k)
    by_guard false k rest = deeper (rest k)
