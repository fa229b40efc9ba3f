-- A queue of moves: its entries, node by node, and the first of them.
use Rattle.std.proofs.Common.{◌≡◌, ℕ, zero, suc, ◌+◌, ◌<◌, ◌≤◌, Bool, true, false, List, [], ◌∷◌, length, set, replicate, refl, sym, ap, subst, ◌∙◌, arith}
use Rattle.std.specs.Prelude.{◌==◌, nat_lt, Option, Some, None, All}
use Rattle.std.specs.List.{sum_by}
use Rattle.std.proofs.lemmas.Bool.{ltb-true, lt-ltb, eqb-true, eq-eqb}
use Rattle.std.proofs.lemmas.List.{get_or-set_same, length-set, length-replicate, set-set, set-get_or}
use Rattle.std.proofs.lemmas.List.Elements.{All-nil, All-cons, All-head, All-tail}
use Rattle.std.proofs.lemmas.List.Sums.{sum_by-cons}
use Rattle.delay_script.specs.declared.due.Due.{Due}
use Rattle.delay_script.specs.TimedRuns.{ComesNoLater}
use Rattle.delay_script.specs.Calendars.{TakesFirst}
use Rattle.delay_script.specs.Dues.{due_at, IsFirstOf, next_due, without}
use Rattle.delay_script.specs.Queues.{entries_from, IsQueue}
use Rattle.delay_script.proofs.Entries.{failures, zero_of_all, passes_of_zero, same_first, ones}

-- sums over the entries

swapped : (a b c : ℕ) → a + (b + c) ≡ b + (a + c)
swapped a b c = omega arith

sum_put : (f : ℕ × ℕ → ℕ) (k : ℕ) (dues : List (Option Due)) (n : ℕ) (due : Due) → n < length dues → due_at dues n ≡ None →
    sum_by f (entries_from k (set dues n (Some due))) ≡ f (due.time, k + n) + sum_by f (entries_from k dues)
sum_put f k [] n due within none = absurd (omega arith)
sum_put f k (None ∷ ds) zero due within none =
    let e : k ≡ k + 0 = omega arith in
    sum_by-cons f (due.time, k) (entries_from (suc k) ds) ∙ ap (λ (i : ℕ). f (due.time, i) + sum_by f (entries_from (suc k) ds)) e
sum_put f k (Some d ∷ ds) zero due within none = absurd (cc none)
sum_put f k (None ∷ ds) (suc n) due within none =
    let e : suc k + n ≡ k + suc n = omega arith in
    sum_put f (suc k) ds n due (omega arith) none ∙ ap (λ (i : ℕ). f (due.time, i) + sum_by f (entries_from (suc k) ds)) e
sum_put f k (Some d ∷ ds) (suc n) due within none =
    let e : suc k + n ≡ k + suc n = omega arith in
    let rest : sum_by f (entries_from (suc k) (set ds n (Some due))) ≡ f (due.time, k + suc n) + sum_by f (entries_from (suc k) ds) =
    sum_put f (suc k) ds n due (omega arith) none ∙ ap (λ (i : ℕ). f (due.time, i) + sum_by f (entries_from (suc k) ds)) e in
    sum_by-cons f (d.time, k) (entries_from (suc k) (set ds n (Some due))) ∙ ap (λ (i : ℕ). f (d.time, k) + i) rest
    ∙ swapped (f (d.time, k)) (f (due.time, k + suc n)) (sum_by f (entries_from (suc k) ds))
    ∙ ap (λ (i : ℕ). f (due.time, k + suc n) + i) (sym (sum_by-cons f (d.time, k) (entries_from (suc k) ds)))

sum_take : (f : ℕ × ℕ → ℕ) (dues : List (Option Due)) (n : ℕ) (due : Due) → n < length dues → due_at dues n ≡ Some due →
    sum_by f (entries_from 0 dues) ≡ f (due.time, n) + sum_by f (entries_from 0 (set dues n None))
sum_take f dues n due within found =
    let e : 0 + n ≡ n = omega arith in
    ap (λ (ds : List (Option Due)). sum_by f (entries_from 0 ds)) (sym back)
    ∙ sum_put f 0 (set dues n None) n due (omega (arith, length-set dues n None)) (get_or-set_same dues n None None within)
    ∙ ap (λ (i : ℕ). f (due.time, i) + sum_by f (entries_from 0 (set dues n None))) e
  where
    back : set (set dues n None) n (Some due) ≡ dues
    back = set-set dues n None (Some due) ∙ ap (set dues n) (sym found) ∙ set-get_or dues n None

entries_few : (k : ℕ) (dues : List (Option Due)) → sum_by (λ (e : ℕ × ℕ). 1) (entries_from k dues) ≤ length dues
entries_few k [] = let none : 0 ≤ 0 = omega arith in none
entries_few k (None ∷ ds) = more _ _ (entries_few (suc k) ds)
  where
    more : (a b : ℕ) → a ≤ b → a ≤ suc b
    more a b less = omega arith
entries_few k (Some d ∷ ds) =
    one_more _ _ _ (sum_by-cons (λ (e : ℕ × ℕ). 1) (d.time, k) (entries_from (suc k) ds)) (entries_few (suc k) ds)
  where
    one_more : (s a b : ℕ) → s ≡ 1 + a → a ≤ b → s ≤ suc b
    one_more s a b same less = omega arith

pub entries_none : (k count : ℕ) → entries_from k (replicate count None) ≡ []
entries_none k zero = refl
entries_none k (suc n) = entries_none (suc k) n

-- all entries

all_entries : (P : ℕ × ℕ → Type 0) (k : ℕ) (dues : List (Option Due)) →
    ((n : ℕ) (due : Due) → n < length dues → due_at dues n ≡ Some due → P (due.time, k + n)) → All P (entries_from k dues)
all_entries P k [] each = All-nil P
all_entries P k (None ∷ ds) each =
    all_entries P (suc k) ds (λ n due within found. let e : k + suc n ≡ suc k + n = omega arith in
    subst (λ (i : ℕ). P (due.time, i)) e (each (suc n) due (omega arith) found))
all_entries P k (Some d ∷ ds) each =
    let e : k + 0 ≡ k = omega arith in
    All-cons P (d.time, k) (entries_from (suc k) ds) (subst (λ (i : ℕ). P (d.time, i)) e (each 0 d (omega arith) refl))
    (all_entries P (suc k) ds (λ n due within found. let e : k + suc n ≡ suc k + n = omega arith in
    subst (λ (i : ℕ). P (due.time, i)) e (each (suc n) due (omega arith) found)))

entry_of_all : (P : ℕ × ℕ → Type 0) (k : ℕ) (dues : List (Option Due)) (n : ℕ) (due : Due) → All P (entries_from k dues) → n < length dues →
    due_at dues n ≡ Some due → P (due.time, k + n)
entry_of_all P k [] n due all within found = absurd (omega arith)
entry_of_all P k (None ∷ ds) zero due all within found = absurd (cc found)
entry_of_all P k (None ∷ ds) (suc n) due all within found =
    let e : suc k + n ≡ k + suc n = omega arith in
    subst (λ (i : ℕ). P (due.time, i)) e (entry_of_all P (suc k) ds n due all (omega arith) found)
entry_of_all P k (Some d ∷ ds) zero due all within found =
    let same : d ≡ due = cc found in
    let e : k ≡ k + 0 = omega arith in
    subst (λ (i : ℕ). P (due.time, i)) e (subst (λ (x : Due). P (x.time, k)) same (All-head P (d.time, k) (entries_from (suc k) ds) all))
entry_of_all P k (Some d ∷ ds) (suc n) due all within found =
    let e : suc k + n ≡ k + suc n = omega arith in
    subst (λ (i : ℕ). P (due.time, i)) e
    (entry_of_all P (suc k) ds n due (All-tail P (d.time, k) (entries_from (suc k) ds) all) (omega arith) found)

abbrev pub SameSums : List (Option Due) → List (ℕ × ℕ) → Type 0
SameSums dues entries = (f : ℕ × ℕ → ℕ) → sum_by f entries ≡ sum_by f (entries_from 0 dues)

-- a test by which an entry is that of a move that is due
abbrev comes_at : Option Due → ℕ → Bool
comes_at None t = false
comes_at (Some due) t = due.time == t

abbrev is_entry : List (Option Due) → ℕ × ℕ → Bool
is_entry dues e = comes_at (due_at dues e.1) e.0

abbrev is_within : ℕ → ℕ × ℕ → Bool
is_within count e = nat_lt e.1 count

entries_are : (dues : List (Option Due)) → All (λ (e : ℕ × ℕ). is_entry dues e ≡ true) (entries_from 0 dues)
entries_are dues = all_entries (λ (e : ℕ × ℕ). is_entry dues e ≡ true) 0 dues (λ n due within found.
    let e : n ≡ 0 + n = omega arith in
    subst (λ (i : ℕ). comes_at (due_at dues i) due.time ≡ true) e
    (ap (λ (o : Option Due). comes_at o due.time) found ∙ eq-eqb due.time due.time refl))

entries_within : (dues : List (Option Due)) → All (λ (e : ℕ × ℕ). is_within (length dues) e ≡ true) (entries_from 0 dues)
entries_within dues = all_entries (λ (e : ℕ × ℕ). is_within (length dues) e ≡ true) 0 dues (λ n due within found.
    lt-ltb (0 + n) (length dues) (omega arith))

-- what is taken passes each test that all entries pass
passes_taken : (p : ℕ × ℕ → Bool) (dues : List (Option Due)) (entries rest : List (ℕ × ℕ)) (e : ℕ × ℕ) → SameSums dues entries →
    ((f : ℕ × ℕ → ℕ) → sum_by f entries ≡ f e + sum_by f rest) → All (λ (o : ℕ × ℕ). p o ≡ true) (entries_from 0 dues) → p e ≡ true
passes_taken p dues entries rest e same taken all =
    passes_of_zero (p e) (none_of _ _ _ _ (taken (failures p)) (same (failures p)) (zero_of_all p (entries_from 0 dues) all))
  where
    none_of : (s a b t : ℕ) → s ≡ a + b → s ≡ t → t ≡ 0 → a ≡ 0
    none_of s a b t one two three = omega arith

pub taken_within : (dues : List (Option Due)) (entries rest : List (ℕ × ℕ)) (e : ℕ × ℕ) → SameSums dues entries →
    ((f : ℕ × ℕ → ℕ) → sum_by f entries ≡ f e + sum_by f rest) → e.1 < length dues
taken_within dues entries rest e same taken =
    ltb-true e.1 (length dues) (passes_taken (is_within (length dues)) dues entries rest e same taken (entries_within dues))

pub taken_due : (dues : List (Option Due)) (entries rest : List (ℕ × ℕ)) (e : ℕ × ℕ) → SameSums dues entries →
    ((f : ℕ × ℕ → ℕ) → sum_by f entries ≡ f e + sum_by f rest) → (due : Due) × (due_at dues e.1 ≡ Some due) × (due.time ≡ e.0)
taken_due dues entries rest e same taken =
    by_due (due_at dues e.1) refl (passes_taken (is_entry dues) dues entries rest e same taken (entries_are dues))
  where
    by_due : (o : Option Due) → due_at dues e.1 ≡ o → comes_at o e.0 ≡ true → (due : Due) × (due_at dues e.1 ≡ Some due) × (due.time ≡ e.0)
    by_due None here at = absurd (cc at)
    by_due (Some due) here at = (due, here, eqb-true due.time e.0 at)

pub taken_first : (dues : List (Option Due)) (entries rest : List (ℕ × ℕ)) (e : ℕ × ℕ) → SameSums dues entries → TakesFirst e entries rest →
    IsFirstOf dues (length dues) (next_due e.1 (due_at dues e.1))
taken_first dues entries rest e same taken =
    let own = taken_due dues entries rest e same taken.sums in
    subst (λ (o : Option Due). IsFirstOf dues (length dues) (next_due e.1 o)) (sym own.1) (record {
      within = taken_within dues entries rest e same taken.sums;
      due = own.1;
      first = λ n due within found. let i : 0 + n ≡ n = omega arith in
          subst (λ (t : ℕ). ComesNoLater t e.1 due.time n) (sym own.2)
          (subst (λ (k : ℕ). ComesNoLater e.0 e.1 due.time k) i
          (entry_of_all (λ (o : ℕ × ℕ). ComesNoLater e.0 e.1 o.0 o.1) 0 dues n due all within found));
    })
  where
    all : All (λ (o : ℕ × ℕ). ComesNoLater e.0 e.1 o.0 o.1) (entries_from 0 dues)
    all = same_first e (entries_from 0 dues) entries (λ f. sym (same f)) taken.first

nothing_at : (dues : List (Option Due)) → sum_by (λ (e : ℕ × ℕ). 1) (entries_from 0 dues) ≡ 0 → (n : ℕ) → n < length dues → due_at dues n ≡ None
nothing_at dues none n within = by_due (due_at dues n) refl
  where
    by_due : (o : Option Due) → due_at dues n ≡ o → o ≡ None
    by_due None here = refl
    by_due (Some due) here = absurd (positive _ _ none (sum_take (λ (e : ℕ × ℕ). 1) dues n due within here))
      where
        positive : (a b : ℕ) → a ≡ 0 → a ≡ 1 + b → ⊥
        positive a b zero_is more = omega arith

-- the queue with one move more

pub put_room : (dues : List (Option Due)) (entries : List (ℕ × ℕ)) (room n : ℕ) → IsQueue dues entries room → n < length dues →
    due_at dues n ≡ None → length entries < room
put_room dues entries room n is within none =
    let due : Due = record { cause = 0; time = 0 } in
    fits _ _ _ _ _ _ (sym (ones entries) ∙ is.sums (λ (e : ℕ × ℕ). 1)) (sum_put (λ (e : ℕ × ℕ). 1) 0 dues n due within none)
    (entries_few 0 (set dues n (Some due))) (length-set dues n (Some due)) is.room_is
  where
    fits : (h s t l m r : ℕ) → h ≡ s → t ≡ 1 + s → t ≤ l → l ≡ m → m ≤ r → h < r
    fits h s t l m r one two three four five = omega arith

pub put_is : (dues : List (Option Due)) (entries more : List (ℕ × ℕ)) (room same_room n : ℕ) (due : Due) → IsQueue dues entries room → n < length dues →
    due_at dues n ≡ None → ((f : ℕ × ℕ → ℕ) → sum_by f more ≡ f (due.time, n) + sum_by f entries) → same_room ≡ room →
    IsQueue (set dues n (Some due)) more same_room
put_is dues entries more room same_room n due is within none put same = record {
  sums = λ f. let e : n ≡ 0 + n = omega arith in
      put f ∙ ap (λ (k : ℕ). f (due.time, n) + k) (is.sums f) ∙ ap (λ (i : ℕ). f (due.time, i) + sum_by f (entries_from 0 dues)) e
      ∙ sym (sum_put f 0 dues n due within none);
  room_is = omega (arith, is.room_is, same, length-set dues n (Some due));
}

-- without its first move
pub take_is : (dues : List (Option Due)) (entries rest : List (ℕ × ℕ)) (room same_room : ℕ) (e : ℕ × ℕ) → IsQueue dues entries room →
    ((f : ℕ × ℕ → ℕ) → sum_by f entries ≡ f e + sum_by f rest) → same_room ≡ room → IsQueue (set dues e.1 None) rest same_room
take_is dues entries rest room same_room e is taken same = record {
  sums = λ f. cancelled _ _ _ _ _ (taken f) (is.sums f) (gone f);
  room_is = omega (arith, is.room_is, same, length-set dues e.1 None);
}
  where
    own : (due : Due) × (due_at dues e.1 ≡ Some due) × (due.time ≡ e.0)
    own = taken_due dues entries rest e is.sums taken

    cancelled : (a b c d r : ℕ) → c ≡ b + a → c ≡ d → d ≡ b + r → a ≡ r
    cancelled a b c d r one two three = omega arith

    gone : (f : ℕ × ℕ → ℕ) → sum_by f (entries_from 0 dues) ≡ f e + sum_by f (entries_from 0 (set dues e.1 None))
    gone f = sum_take f dues e.1 own.0 (taken_within dues entries rest e is.sums taken) own.1
        ∙ ap (λ (t : ℕ). f (t, e.1) + sum_by f (entries_from 0 (set dues e.1 None))) own.2

-- and is what is left behind it
pub rest_is : (dues : List (Option Due)) (n : ℕ) (due : Due) → due_at dues n ≡ Some due → set dues n None ≡ without dues (next_due n (due_at dues n))
rest_is dues n due here = ap (λ (o : Option Due). without dues (next_due n o)) (sym here)

-- with no entries
pub empty_first : (dues : List (Option Due)) (entries : List (ℕ × ℕ)) (room : ℕ) → IsQueue dues entries room → entries ≡ [] →
    IsFirstOf dues (length dues) None
empty_first dues entries room is none = nothing_at dues (sym (is.sums (λ (e : ℕ × ℕ). 1)) ∙ ap (sum_by (λ (e : ℕ × ℕ). 1)) none)

pub still_is : (dues : List (Option Due)) (entries left : List (ℕ × ℕ)) (room same_room : ℕ) → IsQueue dues entries room → entries ≡ [] → left ≡ [] →
    same_room ≡ room → IsQueue dues left same_room
still_is dues entries left room same_room is none gone same = record {
  sums = λ f. ap (sum_by f) (gone ∙ sym none) ∙ is.sums f;
  room_is = omega (arith, is.room_is, same);
}

pub new_is : (dues : List (Option Due)) (entries : List (ℕ × ℕ)) (room nodes : ℕ) → dues ≡ replicate nodes None → entries ≡ [] → nodes ≡ room →
    IsQueue dues entries room
new_is dues entries room nodes fresh none wide = record {
  sums = λ f. ap (sum_by f) none ∙ sym (ap (sum_by f) (ap (entries_from 0) fresh ∙ entries_none 0 nodes));
  room_is = omega (arith, ap length fresh, length-replicate {A = Option Due} nodes None, wide);
}
