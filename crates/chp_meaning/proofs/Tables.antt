-- Which ends wait on the channels, as noted.
use Rattle.std.proofs.Common.{◌≡◌, ◌⊎◌, ℕ, zero, suc, ◌<◌, ◌≤◌, Bool, true, false, List, [], ◌∷◌, length, get_or, set, replicate, refl, sym, ap, ◌∙◌, subst, inl, inr}
use Rattle.std.specs.Prelude.{fold, Option, Some, None}
use Rattle.std.proofs.lemmas.List.{get_or-set_other, get_or-set_same, set_past, length-replicate, ext_get_or}
use Rattle.std.proofs.lemmas.Bool.{cases_eq, cases_lt}
use Rattle.chp_base.specs.declared.span.Span.{Span}
use Rattle.width_check.specs.Processes.{Formula, Process, skipping, assigning, sending, receiving, in_turn, side_by_side, choosing, repeating}
use Rattle.chp_meaning.specs.Terms.{Term, Terms, finished, active, in_sequence, in_parallel, no_branches, and_branch, Place, here, in_first, in_branch, statement_at, branch_at}
use Rattle.chp_meaning.specs.AtOnce.{noted_send, noted_receive}
use Rattle.chp_meaning.proofs.Places.{In, in_left, in_right, in_either}
use Rattle.chp_meaning.proofs.Remainders.{actives, branch_actives}
use Rattle.chp_meaning.proofs.Planning.{send_length, receive_length, sends_length, receives_length}

-- active statements and their places

mutual
  pub active_in : (t : Term) (a : Place) (q : Process) → statement_at t a ≡ Some q → In (actives t) q
  active_in finished a q h = absurd (cc h)
  active_in (active p) here q h = inl (cc h)
  active_in (active p) (in_first a) q h = absurd (cc h)
  active_in (active p) (in_branch k a) q h = absurd (cc h)
  active_in (in_sequence t more) here q h = absurd (cc h)
  active_in (in_sequence t more) (in_first a) q h = active_in t a q h
  active_in (in_sequence t more) (in_branch k a) q h = absurd (cc h)
  active_in (in_parallel ts) here q h = absurd (cc h)
  active_in (in_parallel ts) (in_first a) q h = absurd (cc h)
  active_in (in_parallel ts) (in_branch k a) q h = branch_in ts k a q h

  branch_in : (ts : Terms) (k : ℕ) (a : Place) (q : Process) → branch_at ts k a ≡ Some q → In (branch_actives ts) q
  branch_in no_branches k a q h = absurd (cc h)
  branch_in (and_branch t more) zero a q h = in_left (actives t) (branch_actives more) q (active_in t a q h)
  branch_in (and_branch t more) (suc k) a q h = in_right (actives t) (branch_actives more) q (branch_in more k a q h)

mutual
  pub active_at : (t : Term) (q : Process) → In (actives t) q → (a : Place) × (statement_at t a ≡ Some q)
  active_at finished q i = absurd i
  active_at (active p) q (inl e) = (here, ap Some e)
  active_at (active p) q (inr i) = absurd i
  active_at (in_sequence t more) q i = let r = active_at t q i in (in_first r.0, r.1)
  active_at (in_parallel ts) q i = let r = branch_active ts q i in (in_branch r.0 r.1, r.2)

  branch_active : (ts : Terms) (q : Process) → In (branch_actives ts) q → (k : ℕ) × (a : Place) × (branch_at ts k a ≡ Some q)
  branch_active no_branches q i = absurd i
  branch_active (and_branch t more) q i = by_side (in_either (actives t) (branch_actives more) q i) (active_at t q) (branch_active more q)
    where
      by_side : In (actives t) q ⊎ In (branch_actives more) q → (In (actives t) q → (a : Place) × (statement_at t a ≡ Some q)) →
          (In (branch_actives more) q → (k : ℕ) × (a : Place) × (branch_at more k a ≡ Some q)) →
          (k : ℕ) × (a : Place) × (branch_at (and_branch t more) k a ≡ Some q)
      by_side (inl x) f g = let r = f x in (0, r.0, r.1)
      by_side (inr x) f g = let r = g x in (suc r.0, r.1, r.2)

-- an entry that is set

set_cases : {X : Type 0} (xs : List X) (j k : ℕ) (y d : X) → ((k ≡ j) × (get_or (set xs j y) k d ≡ y)) ⊎ (get_or (set xs j y) k d ≡ get_or xs k d)
set_cases xs j k y d = by_number (cases_eq k j) (cases_lt j (length xs))
  where
    by_number : (k ≡ j) ⊎ (k ≡ j → ⊥) → (j < length xs) ⊎ (length xs ≤ j) →
        ((k ≡ j) × (get_or (set xs j y) k d ≡ y)) ⊎ (get_or (set xs j y) k d ≡ get_or xs k d)
    by_number (inr ne) within = inr (get_or-set_other xs j k y d ne)
    by_number (inl e) (inr past) = inr (ap (λ ys. get_or ys k d) (set_past xs j y past))
    by_number (inl e) (inl within) = inl (e, ap (λ n. get_or (set xs j y) n d) e ∙ get_or-set_same xs j y d within)

set_at : {X : Type 0} (xs : List X) (k : ℕ) (y d : X) → k < length xs → get_or (set xs k y) k d ≡ y
set_at xs k y d lt = get_or-set_same xs k y d lt

-- a receive that is noted

abbrev Receiving : List Process → ℕ → ℕ → Type 0
Receiving ps k x = (s : Span) × (u : Span) × In ps (receiving k s x u)

later_receiving : (p : Process) (ps : List Process) (k x : ℕ) → Receiving ps k x → Receiving (p ∷ ps) k x
later_receiving p ps k x (s, u, i) = (s, u, inr i)

noted_once : (table : List (Option ℕ)) (p : Process) (ps : List Process) (k x : ℕ) → get_or (noted_receive true table p) k None ≡ Some x →
    (get_or table k None ≡ Some x) ⊎ Receiving (p ∷ ps) k x
noted_once table skipping ps k x h = inl h
noted_once table (assigning y s e) ps k x h = inl h
noted_once table (sending j s e) ps k x h = inl h
noted_once table (in_turn ms) ps k x h = inl h
noted_once table (side_by_side ms) ps k x h = inl h
noted_once table (choosing again cs) ps k x h = inl h
noted_once table (repeating q) ps k x h = inl h
noted_once table (receiving j s y u) ps k x h = by_case (set_cases table j k (Some y) None)
  where
    by_case : ((k ≡ j) × (get_or (set table j (Some y)) k None ≡ Some y)) ⊎ (get_or (set table j (Some y)) k None ≡ get_or table k None) →
        (get_or table k None ≡ Some x) ⊎ Receiving (receiving j s y u ∷ ps) k x
    by_case (inr e) = inl (sym e ∙ h)
    by_case (inl (e, f)) = let same : y ≡ x = cc (f, h) in inr (s, u, inl (cc (e, same)))

pub noted_receives : (ps : List Process) (table : List (Option ℕ)) (k x : ℕ) → get_or (fold (noted_receive true) table ps) k None ≡ Some x →
    (get_or table k None ≡ Some x) ⊎ Receiving ps k x
noted_receives [] table k x h = inl h
noted_receives (p ∷ ps) table k x h = by_rest (noted_receives ps (noted_receive true table p) k x h)
  where
    by_rest : (get_or (noted_receive true table p) k None ≡ Some x) ⊎ Receiving ps k x → (get_or table k None ≡ Some x) ⊎ Receiving (p ∷ ps) k x
    by_rest (inl e) = noted_once table p ps k x e
    by_rest (inr r) = inr (later_receiving p ps k x r)

abbrev OneReceives : List Process → ℕ → ℕ → Type 0
OneReceives ps k x = (s u : Span) (y : ℕ) → In ps (receiving k s y u) → y ≡ x

keeps_note : (table : List (Option ℕ)) (p : Process) (ps : List Process) (k x : ℕ) → OneReceives (p ∷ ps) k x → get_or table k None ≡ Some x →
    get_or (noted_receive true table p) k None ≡ Some x
keeps_note table skipping ps k x one h = h
keeps_note table (assigning y s e) ps k x one h = h
keeps_note table (sending j s e) ps k x one h = h
keeps_note table (in_turn ms) ps k x one h = h
keeps_note table (side_by_side ms) ps k x one h = h
keeps_note table (choosing again cs) ps k x one h = h
keeps_note table (repeating q) ps k x one h = h
keeps_note table (receiving j s y u) ps k x one h = by_case (set_cases table j k (Some y) None)
  where
    by_case : ((k ≡ j) × (get_or (set table j (Some y)) k None ≡ Some y)) ⊎ (get_or (set table j (Some y)) k None ≡ get_or table k None) →
        get_or (set table j (Some y)) k None ≡ Some x
    by_case (inr e) = e ∙ h
    by_case (inl (e, f)) = f ∙ ap Some (one s u y (inl (ap (λ n. receiving n s y u) (sym e))))

pub receive_noted : (ps : List Process) (table : List (Option ℕ)) (k x : ℕ) → k < length table → OneReceives ps k x →
    (get_or table k None ≡ Some x) ⊎ Receiving ps k x → get_or (fold (noted_receive true) table ps) k None ≡ Some x
receive_noted [] table k x lt one (inl e) = e
receive_noted [] table k x lt one (inr (s, u, i)) = absurd i
receive_noted (p ∷ ps) table k x lt one start =
    receive_noted ps (noted_receive true table p) k x (subst (λ n. k < n) (sym (receive_length true table p)) lt) (λ s u y i. one s u y (inr i))
    (by_start start)
  where
    by_start : (get_or table k None ≡ Some x) ⊎ Receiving (p ∷ ps) k x → (get_or (noted_receive true table p) k None ≡ Some x) ⊎ Receiving ps k x
    by_start (inl e) = inl (keeps_note table p ps k x one e)
    by_start (inr (s, u, inl e)) = inl (ap (λ q. get_or (noted_receive true table q) k None) e ∙ set_at table k (Some x) None lt)
    by_start (inr (s, u, inr i)) = inr (s, u, i)

-- a send that is noted

abbrev Sending : List Process → ℕ → Type 0
Sending ps k = (s : Span) × (e : Formula) × In ps (sending k s e)

send_once : (table : List Bool) (p : Process) (ps : List Process) (k : ℕ) → get_or (noted_send true table p) k false ≡ true →
    (get_or table k false ≡ true) ⊎ Sending (p ∷ ps) k
send_once table skipping ps k h = inl h
send_once table (assigning y s e) ps k h = inl h
send_once table (receiving j s y u) ps k h = inl h
send_once table (in_turn ms) ps k h = inl h
send_once table (side_by_side ms) ps k h = inl h
send_once table (choosing again cs) ps k h = inl h
send_once table (repeating q) ps k h = inl h
send_once table (sending j s e) ps k h = by_case (set_cases table j k true false)
  where
    by_case : ((k ≡ j) × (get_or (set table j true) k false ≡ true)) ⊎ (get_or (set table j true) k false ≡ get_or table k false) →
        (get_or table k false ≡ true) ⊎ Sending (sending j s e ∷ ps) k
    by_case (inr f) = inl (sym f ∙ h)
    by_case (inl (f, g)) = inr (s, e, inl (ap (λ n. sending n s e) (sym f)))

pub noted_sends : (ps : List Process) (table : List Bool) (k : ℕ) → get_or (fold (noted_send true) table ps) k false ≡ true →
    (get_or table k false ≡ true) ⊎ Sending ps k
noted_sends [] table k h = inl h
noted_sends (p ∷ ps) table k h = by_rest (noted_sends ps (noted_send true table p) k h)
  where
    by_rest : (get_or (noted_send true table p) k false ≡ true) ⊎ Sending ps k → (get_or table k false ≡ true) ⊎ Sending (p ∷ ps) k
    by_rest (inl e) = send_once table p ps k e
    by_rest (inr (s, e, i)) = inr (s, e, inr i)

keeps_send : (w : Bool) (table : List Bool) (p : Process) (k : ℕ) → get_or table k false ≡ w → get_or (noted_send w table p) k false ≡ w
keeps_send w table skipping k h = h
keeps_send w table (assigning y s e) k h = h
keeps_send w table (receiving j s y u) k h = h
keeps_send w table (in_turn ms) k h = h
keeps_send w table (side_by_side ms) k h = h
keeps_send w table (choosing again cs) k h = h
keeps_send w table (repeating q) k h = h
keeps_send w table (sending j s e) k h = by_case (set_cases table j k w false)
  where
    by_case : ((k ≡ j) × (get_or (set table j w) k false ≡ w)) ⊎ (get_or (set table j w) k false ≡ get_or table k false) → get_or (set table j w) k false ≡ w
    by_case (inr f) = f ∙ h
    by_case (inl (f, g)) = g

pub send_noted : (w : Bool) (ps : List Process) (table : List Bool) (k : ℕ) → k < length table → (get_or table k false ≡ w) ⊎ Sending ps k →
    get_or (fold (noted_send w) table ps) k false ≡ w
send_noted w [] table k lt (inl e) = e
send_noted w [] table k lt (inr (s, e, i)) = absurd i
send_noted w (p ∷ ps) table k lt start = send_noted w ps (noted_send w table p) k (subst (λ n. k < n) (sym (send_length w table p)) lt) (by_start start)
  where
    by_start : (get_or table k false ≡ w) ⊎ Sending (p ∷ ps) k → (get_or (noted_send w table p) k false ≡ w) ⊎ Sending ps k
    by_start (inl e) = inl (keeps_send w table p k e)
    by_start (inr (s, e, inl f)) = inl (ap (λ q. get_or (noted_send w table q) k false) f ∙ set_at table k w false lt)
    by_start (inr (s, e, inr i)) = inr (s, e, i)

-- a receive that is noted no more

clears_receive : (table : List (Option ℕ)) (p : Process) (k : ℕ) → get_or table k None ≡ None → get_or (noted_receive false table p) k None ≡ None
clears_receive table skipping k h = h
clears_receive table (assigning y s e) k h = h
clears_receive table (sending j s e) k h = h
clears_receive table (in_turn ms) k h = h
clears_receive table (side_by_side ms) k h = h
clears_receive table (choosing again cs) k h = h
clears_receive table (repeating q) k h = h
clears_receive table (receiving j s y u) k h = by_case (set_cases table j k None None)
  where
    by_case : ((k ≡ j) × (get_or (set table j None) k None ≡ None)) ⊎ (get_or (set table j None) k None ≡ get_or table k None) →
        get_or (set table j None) k None ≡ None
    by_case (inr e) = e ∙ h
    by_case (inl (e, f)) = f

receive_cleared : (ps : List Process) (table : List (Option ℕ)) (k : ℕ) → k < length table → (get_or table k None ≡ None) ⊎ ((x : ℕ) × Receiving ps k x) →
    get_or (fold (noted_receive false) table ps) k None ≡ None
receive_cleared [] table k lt (inl e) = e
receive_cleared [] table k lt (inr (x, (s, u, i))) = absurd i
receive_cleared (p ∷ ps) table k lt start =
    receive_cleared ps (noted_receive false table p) k (subst (λ n. k < n) (sym (receive_length false table p)) lt) (by_start start)
  where
    by_start : (get_or table k None ≡ None) ⊎ ((x : ℕ) × Receiving (p ∷ ps) k x) →
        (get_or (noted_receive false table p) k None ≡ None) ⊎ ((x : ℕ) × Receiving ps k x)
    by_start (inl e) = inl (clears_receive table p k e)
    by_start (inr (x, (s, u, inl e))) = inl (ap (λ q. get_or (noted_receive false table q) k None) e ∙ set_at table k None None lt)
    by_start (inr (x, (s, u, inr i))) = inr (x, (s, u, i))

-- in a table without an entry nothing is noted

pub none_there : {X : Type 0} (n k : ℕ) (d : X) → get_or (replicate n d) k d ≡ d
none_there zero k d = refl
none_there (suc n) zero d = refl
none_there (suc n) (suc k) d = none_there n k d

-- between rounds nothing is noted

either : (b : Bool) → (b ≡ false) ⊎ (b ≡ true)
either true = inr refl
either false = inl refl

some_or_none : (o : Option ℕ) → (o ≡ None) ⊎ ((x : ℕ) × (o ≡ Some x))
some_or_none None = inl refl
some_or_none (Some x) = inr (x, refl)

send_then_clear : (n : ℕ) (ps : List Process) (k : ℕ) → k < n → get_or (fold (noted_send false) (fold (noted_send true) (replicate n false) ps) ps) k false ≡
    false
send_then_clear n ps k lt = send_noted false ps noted k (subst (λ m. k < m) (sym count) lt) (by_entry (either (get_or noted k false)))
  where
    noted : List Bool
    noted = fold (noted_send true) (replicate n false) ps

    count : length (fold (noted_send true) (replicate n false) ps) ≡ n
    count = sends_length true (replicate n false) ps ∙ length-replicate n false

    by_noted : (get_or (replicate n false) k false ≡ true) ⊎ Sending ps k →
        (get_or (fold (noted_send true) (replicate n false) ps) k false ≡ false) ⊎ Sending ps k
    by_noted (inl e) = absurd (cc (sym (none_there n k false) ∙ e))
    by_noted (inr s) = inr s

    by_entry : (get_or (fold (noted_send true) (replicate n false) ps) k false ≡ false) ⊎ (get_or (fold (noted_send true) (replicate n false) ps) k false ≡
        true) → (get_or (fold (noted_send true) (replicate n false) ps) k false ≡ false) ⊎ Sending ps k
    by_entry (inl e) = inl e
    by_entry (inr e) = by_noted (noted_sends ps (replicate n false) k e)

receive_then_clear : (n : ℕ) (ps : List Process) (k : ℕ) → k < n →
    get_or (fold (noted_receive false) (fold (noted_receive true) (replicate n None) ps) ps) k None ≡ None
receive_then_clear n ps k lt = receive_cleared ps (fold (noted_receive true) (replicate n None) ps) k (subst (λ m. k < m) (sym count) lt)
    (by_entry (some_or_none (get_or (fold (noted_receive true) (replicate n None) ps) k None)))
  where
    count : length (fold (noted_receive true) (replicate n None) ps) ≡ n
    count = receives_length true (replicate n None) ps ∙ length-replicate n None

    by_noted : (x : ℕ) → (get_or (replicate n None) k None ≡ Some x) ⊎ Receiving ps k x →
        (get_or (fold (noted_receive true) (replicate n None) ps) k None ≡ None) ⊎ ((y : ℕ) × Receiving ps k y)
    by_noted x (inl e) = absurd (cc (sym (none_there n k None) ∙ e))
    by_noted x (inr r) = inr (x, r)

    by_entry : (get_or (fold (noted_receive true) (replicate n None) ps) k None ≡ None) ⊎ ((x : ℕ)
        × (get_or (fold (noted_receive true) (replicate n None) ps) k None ≡ Some x)) →
        (get_or (fold (noted_receive true) (replicate n None) ps) k None ≡ None) ⊎ ((y : ℕ) × Receiving ps k y)
    by_entry (inl e) = inl e
    by_entry (inr (x, e)) = by_noted x (noted_receives ps (replicate n None) k x e)

pub sends_clear : (n : ℕ) (ps : List Process) → fold (noted_send false) (fold (noted_send true) (replicate n false) ps) ps ≡ replicate n false
sends_clear n ps =
    let noted = fold (noted_send true) (replicate n false) ps in
    let count : length (fold (noted_send false) noted ps) ≡ n =
    sends_length false noted ps ∙ (sends_length true (replicate n false) ps ∙ length-replicate n false) in
    ext_get_or false (fold (noted_send false) noted ps) (replicate n false) (count ∙ sym (length-replicate n false))
    (λ k lt. send_then_clear n ps k (subst (λ m. k < m) count lt) ∙ sym (none_there n k false))

pub receives_clear : (n : ℕ) (ps : List Process) → fold (noted_receive false) (fold (noted_receive true) (replicate n None) ps) ps ≡ replicate n None
receives_clear n ps =
    let noted = fold (noted_receive true) (replicate n None) ps in
    let count : length (fold (noted_receive false) noted ps) ≡ n =
    receives_length false noted ps ∙ (receives_length true (replicate n None) ps ∙ length-replicate n None) in
    ext_get_or None (fold (noted_receive false) noted ps) (replicate n None) (count ∙ sym (length-replicate n None))
    (λ k lt. receive_then_clear n ps k (subst (λ m. k < m) count lt) ∙ sym (none_there n k None))
