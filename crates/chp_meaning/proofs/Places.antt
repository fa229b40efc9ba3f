-- Places of a term: what is left at one place leaves the others as they are.
use Rattle.std.proofs.Common.{◌≡◌, ◌≢◌, ◌⊎◌, ℕ, zero, suc, ◌+◌, ◌≤◌, Bool, true, false, List, [], ◌∷◌, ◌++◌, map, refl, sym, ap, ◌∙◌, subst, inl, inr, arith}
use Rattle.std.specs.Prelude.{◌&&◌, cond, filter, if◌then◌else◌, Some}
use Rattle.std.proofs.lemmas.Bool.{cases_eq}
use Rattle.width_check.specs.Processes.{Process, Processes}
pub use Rattle.chp_meaning.specs.Fitting.{In}
use Rattle.chp_meaning.specs.Terms.{Term, Terms, finished, active, in_sequence, in_parallel, no_branches, and_branch, is_finished, all_finished, together, followed, Place, here, in_first, in_branch, statement_at, branch_at, with_left, with_branch, places, branch_places}

pub in_left : {X : Type 0} (xs ys : List X) (x : X) → In xs x → In (xs ++ ys) x
in_left [] ys x h = absurd h
in_left (y ∷ xs) ys x (inl e) = inl e
in_left (y ∷ xs) ys x (inr h) = inr (in_left xs ys x h)

pub in_right : {X : Type 0} (xs ys : List X) (x : X) → In ys x → In (xs ++ ys) x
in_right [] ys x h = h
in_right (y ∷ xs) ys x h = inr (in_right xs ys x h)

pub in_either : {X : Type 0} (xs ys : List X) (x : X) → In (xs ++ ys) x → In xs x ⊎ In ys x
in_either [] ys x h = inr h
in_either (y ∷ xs) ys x (inl e) = inl (inl e)
in_either (y ∷ xs) ys x (inr h) = by_side (in_either xs ys x h)
  where
    by_side : In xs x ⊎ In ys x → In (y ∷ xs) x ⊎ In ys x
    by_side (inl k) = inl (inr k)
    by_side (inr k) = inr k

pub in_map : {X Y : Type 0} (f : X → Y) (xs : List X) (x : X) → In xs x → In (map f xs) (f x)
in_map f [] x h = absurd h
in_map f (y ∷ xs) x (inl e) = inl (ap f e)
in_map f (y ∷ xs) x (inr h) = inr (in_map f xs x h)

pub in_mapped : {X Y : Type 0} (f : X → Y) (xs : List X) (y : Y) → In (map f xs) y → (x : X) × In xs x × (f x ≡ y)
in_mapped f [] y h = absurd h
in_mapped f (x ∷ xs) y (inl e) = (x, inl refl, e)
in_mapped f (x ∷ xs) y (inr h) = let r = in_mapped f xs y h in (r.0, inr r.1, r.2)

pub in_filter : {X : Type 0} (f : X → Bool) (xs : List X) (x : X) → In xs x → f x ≡ true → In (filter f xs) x
in_filter f [] x h e = absurd h
in_filter f (y ∷ xs) x (inl same) e = let e' : f y ≡ true = ap f same ∙ e in subst (λ b. In (cond b (y ∷ filter f xs) (filter f xs)) x) (sym e') (inl same)
in_filter f (y ∷ xs) x (inr h) e = by_test (f y) (in_filter f xs x h e)
  where
    by_test : (b : Bool) → In (filter f xs) x → In (cond b (y ∷ filter f xs) (filter f xs)) x
    by_test true k = inr k
    by_test false k = k

pub in_filtered : {X : Type 0} (f : X → Bool) (xs : List X) (x : X) → In (filter f xs) x → In xs x × (f x ≡ true)
in_filtered f [] x h = absurd h
in_filtered f (y ∷ xs) x h = by_test (f y) refl h (in_filtered f xs x)
  where
    by_test : (b : Bool) → f y ≡ b → In (cond b (y ∷ filter f xs) (filter f xs)) x → (In (filter f xs) x → In xs x × (f x ≡ true)) →
        In (y ∷ xs) x × (f x ≡ true)
    by_test true e (inl same) rest = (inl same, sym (ap f same) ∙ e)
    by_test true e (inr k) rest = (inr (rest k).0, (rest k).1)
    by_test false e k rest = (inr (rest k).0, (rest k).1)

-- no element stands twice
abbrev pub Distinct : {X : Type 0} → List X → Type 0
Distinct [] = Unit {0}
Distinct {X} (x ∷ xs) = ((y : X) → In xs y → x ≢ y) × Distinct xs

distinct_map : {X Y : Type 0} (f : X → Y) → ((x y : X) → f x ≡ f y → x ≡ y) → (xs : List X) → Distinct xs → Distinct (map f xs)
distinct_map f single [] d = tt
distinct_map f single (x ∷ xs) d = (λ y h e. let r = in_mapped f xs y h in d.0 r.0 r.1 (single x r.0 (e ∙ sym r.2)), distinct_map f single xs d.1)

distinct_append : {X : Type 0} (xs ys : List X) → Distinct xs → Distinct ys → ((x y : X) → In xs x → In ys y → x ≢ y) → Distinct (xs ++ ys)
distinct_append [] ys d e apart = e
distinct_append {X} (x ∷ xs) ys d e apart = (λ y h. other y (in_either xs ys y h), distinct_append xs ys d.1 e (λ u v hu hv. apart u v (inr hu) hv))
  where
    other : (y : X) → In xs y ⊎ In ys y → x ≢ y
    other y (inl h) = d.0 y h
    other y (inr h) = apart x y (inl refl) h

pub distinct_filter : {X : Type 0} (f : X → Bool) (xs : List X) → Distinct xs → Distinct (filter f xs)
distinct_filter f [] d = tt
distinct_filter f (x ∷ xs) d = by_test (f x) (distinct_filter f xs d.1)
  where
    by_test : (b : Bool) → Distinct (filter f xs) → Distinct (cond b (x ∷ filter f xs) (filter f xs))
    by_test true rest = (λ y h. d.0 y (in_filtered f xs y h).0, rest)
    by_test false rest = rest

-- two places are one or two
pub same_place : (a b : Place) → (a ≡ b) ⊎ (a ≢ b)
same_place here here = inl refl
same_place here (in_first b) = inr (λ e. absurd (cc e))
same_place here (in_branch j b) = inr (λ e. absurd (cc e))
same_place (in_first a) here = inr (λ e. absurd (cc e))
same_place (in_first a) (in_first b) = by_inner (same_place a b)
  where
    by_inner : (a ≡ b) ⊎ (a ≢ b) → (in_first a ≡ in_first b) ⊎ (in_first a ≢ in_first b)
    by_inner (inl e) = inl (ap in_first e)
    by_inner (inr n) = inr (λ e. n (cc e))
same_place (in_first a) (in_branch j b) = inr (λ e. absurd (cc e))
same_place (in_branch i a) here = inr (λ e. absurd (cc e))
same_place (in_branch i a) (in_first b) = inr (λ e. absurd (cc e))
same_place (in_branch i a) (in_branch j b) = by_both (cases_eq i j) (same_place a b)
  where
    by_both : (i ≡ j) ⊎ (i ≡ j → ⊥) → (a ≡ b) ⊎ (a ≢ b) → (in_branch i a ≡ in_branch j b) ⊎ (in_branch i a ≢ in_branch j b)
    by_both (inl e) (inl f) = inl (cc (e, f))
    by_both (inl e) (inr n) = inr (λ g. n (cc g))
    by_both (inr n) f = inr (λ g. n (cc g))

-- where a statement is active the term isn't finished
pub followed_on : (x : Term) (more : Processes) (b : Place) (q : Process) → statement_at x b ≡ Some q → followed x more ≡ in_sequence x more
followed_on finished more b q h = absurd (cc h)
followed_on (active p) more b q h = refl
followed_on (in_sequence t ms) more b q h = refl
followed_on (in_parallel ts) more b q h = refl

pub term_on : (x : Term) (b : Place) (q : Process) → statement_at x b ≡ Some q → is_finished x ≡ false
term_on finished b q h = absurd (cc h)
term_on (active p) b q h = refl
term_on (in_sequence t ms) b q h = refl
term_on (in_parallel ts) b q h = refl

pub branches_on : (ts : Terms) (j : ℕ) (b : Place) (q : Process) → branch_at ts j b ≡ Some q → all_finished ts ≡ false
branches_on no_branches j b q h = absurd (cc h)
branches_on (and_branch t more) zero b q h = ap (λ x. x && all_finished more) (term_on t b q h)
branches_on (and_branch t more) (suc j) b q h = ap (λ x. is_finished t && x) (branches_on more j b q h) ∙ neither (is_finished t)
  where
    neither : (x : Bool) → (x && false) ≡ false
    neither true = refl
    neither false = refl

pub together_on : (ts : Terms) (j : ℕ) (b : Place) (q : Process) → branch_at ts j b ≡ Some q → together ts ≡ in_parallel ts
together_on ts j b q h = ap (λ x. if x then finished else in_parallel ts) (branches_on ts j b q h)

-- a statement stays active at its place where something is left at another one
mutual
  pub still : (t : Term) (a b : Place) (l : Term) (q : Process) → a ≢ b → statement_at t b ≡ Some q → statement_at (with_left t a l) b ≡ Some q
  still finished a b l q ne h = absurd (cc h)
  still (active p) here here l q ne h = absurd (ne refl)
  still (active p) (in_first a) here l q ne h = h
  still (active p) (in_branch i a) here l q ne h = h
  still (active p) a (in_first b) l q ne h = absurd (cc h)
  still (active p) a (in_branch j b) l q ne h = absurd (cc h)
  still (in_sequence t more) a here l q ne h = absurd (cc h)
  still (in_sequence t more) a (in_branch j b) l q ne h = absurd (cc h)
  still (in_sequence t more) here (in_first b) l q ne h = h
  still (in_sequence t more) (in_branch i a) (in_first b) l q ne h = h
  still (in_sequence t more) (in_first a) (in_first b) l q ne h =
      let on = still t a b l q (λ e. ne (ap in_first e)) h in
      ap (λ x. statement_at x (in_first b)) (followed_on (with_left t a l) more b q on) ∙ on
  still (in_parallel ts) a here l q ne h = absurd (cc h)
  still (in_parallel ts) a (in_first b) l q ne h = absurd (cc h)
  still (in_parallel ts) here (in_branch j b) l q ne h = h
  still (in_parallel ts) (in_first a) (in_branch j b) l q ne h = h
  still (in_parallel ts) (in_branch i a) (in_branch j b) l q ne h =
      let on = branch_still ts i a j b l q ne h in
      ap (λ x. statement_at x (in_branch j b)) (together_on (with_branch ts i a l) j b q on) ∙ on

  pub branch_still : (ts : Terms) (i : ℕ) (a : Place) (j : ℕ) (b : Place) (l : Term) (q : Process) → in_branch i a ≢ in_branch j b → branch_at ts j b ≡ Some q →
      branch_at (with_branch ts i a l) j b ≡ Some q
  branch_still no_branches i a j b l q ne h = absurd (cc h)
  branch_still (and_branch t more) zero a zero b l q ne h = still t a b l q (λ e. ne (ap (in_branch zero) e)) h
  branch_still (and_branch t more) zero a (suc j) b l q ne h = h
  branch_still (and_branch t more) (suc i) a zero b l q ne h = h
  branch_still (and_branch t more) (suc i) a (suc j) b l q ne h = branch_still more i a j b l q (λ e. ne (cc e)) h

-- what is left at two places may be left in either order
mutual
  pub swapped : (t : Term) (a b : Place) (l m : Term) (p q : Process) → a ≢ b → statement_at t a ≡ Some p → statement_at t b ≡ Some q →
      with_left (with_left t a l) b m ≡ with_left (with_left t b m) a l
  swapped finished a b l m p q ne g h = absurd (cc h)
  swapped (active r) here here l m p q ne g h = absurd (ne refl)
  swapped (active r) (in_first a) b l m p q ne g h = absurd (cc g)
  swapped (active r) (in_branch i a) b l m p q ne g h = absurd (cc g)
  swapped (active r) here (in_first b) l m p q ne g h = absurd (cc h)
  swapped (active r) here (in_branch j b) l m p q ne g h = absurd (cc h)
  swapped (in_sequence t more) here b l m p q ne g h = absurd (cc g)
  swapped (in_sequence t more) (in_branch i a) b l m p q ne g h = absurd (cc g)
  swapped (in_sequence t more) (in_first a) here l m p q ne g h = absurd (cc h)
  swapped (in_sequence t more) (in_first a) (in_branch j b) l m p q ne g h = absurd (cc h)
  swapped (in_sequence t more) (in_first a) (in_first b) l m p q ne g h =
      let apart : a ≢ b = λ e. ne (ap in_first e) in
      let back : b ≢ a = λ e. ne (ap in_first (sym e)) in
      ap (λ x. with_left x (in_first b) m) (followed_on (with_left t a l) more b q (still t a b l q apart h))
      ∙ (ap (λ x. followed x more) (swapped t a b l m p q apart g h)
      ∙ sym (ap (λ x. with_left x (in_first a) l) (followed_on (with_left t b m) more a p (still t b a m p back g))))
  swapped (in_parallel ts) here b l m p q ne g h = absurd (cc g)
  swapped (in_parallel ts) (in_first a) b l m p q ne g h = absurd (cc g)
  swapped (in_parallel ts) (in_branch i a) here l m p q ne g h = absurd (cc h)
  swapped (in_parallel ts) (in_branch i a) (in_first b) l m p q ne g h = absurd (cc h)
  swapped (in_parallel ts) (in_branch i a) (in_branch j b) l m p q ne g h =
      let back : in_branch j b ≢ in_branch i a = λ e. ne (sym e) in
      ap (λ x. with_left x (in_branch j b) m) (together_on (with_branch ts i a l) j b q (branch_still ts i a j b l q ne h))
      ∙ (ap together (branch_swapped ts i a j b l m p q ne g h)
      ∙ sym (ap (λ x. with_left x (in_branch i a) l) (together_on (with_branch ts j b m) i a p (branch_still ts j b i a m p back g))))

  branch_swapped : (ts : Terms) (i : ℕ) (a : Place) (j : ℕ) (b : Place) (l m : Term) (p q : Process) → in_branch i a ≢ in_branch j b →
      branch_at ts i a ≡ Some p → branch_at ts j b ≡ Some q → with_branch (with_branch ts i a l) j b m ≡ with_branch (with_branch ts j b m) i a l
  branch_swapped no_branches i a j b l m p q ne g h = refl
  branch_swapped (and_branch t more) zero a zero b l m p q ne g h = ap (λ x. and_branch x more) (swapped t a b l m p q (λ e. ne (ap (in_branch zero) e)) g h)
  branch_swapped (and_branch t more) zero a (suc j) b l m p q ne g h = refl
  branch_swapped (and_branch t more) (suc i) a zero b l m p q ne g h = refl
  branch_swapped (and_branch t more) (suc i) a (suc j) b l m p q ne g h = ap (λ x. and_branch t x) (branch_swapped more i a j b l m p q (λ e. ne (cc e)) g h)

-- each active place is listed, and listed once
mutual
  pub listed : (t : Term) (a : Place) (p : Process) → statement_at t a ≡ Some p → In (places t) a
  listed finished a p h = absurd (cc h)
  listed (active q) here p h = inl refl
  listed (active q) (in_first a) p h = absurd (cc h)
  listed (active q) (in_branch i a) p h = absurd (cc h)
  listed (in_sequence t more) here p h = absurd (cc h)
  listed (in_sequence t more) (in_first a) p h = in_map in_first (places t) a (listed t a p h)
  listed (in_sequence t more) (in_branch i a) p h = absurd (cc h)
  listed (in_parallel ts) here p h = absurd (cc h)
  listed (in_parallel ts) (in_first a) p h = absurd (cc h)
  listed (in_parallel ts) (in_branch i a) p h = let e : 0 + i ≡ i = omega arith in
      subst (λ k. In (branch_places 0 ts) (in_branch k a)) e (branch_listed 0 ts i a p h)

  branch_listed : (k : ℕ) (ts : Terms) (i : ℕ) (a : Place) (p : Process) → branch_at ts i a ≡ Some p → In (branch_places k ts) (in_branch (k + i) a)
  branch_listed k no_branches i a p h = absurd (cc h)
  branch_listed k (and_branch t more) zero a p h =
      let e : k ≡ k + 0 = omega arith in
      in_left (map (in_branch k) (places t)) (branch_places (suc k) more) (in_branch (k + 0) a)
      (subst (λ i. In (map (in_branch k) (places t)) (in_branch i a)) e (in_map (in_branch k) (places t) a (listed t a p h)))
  branch_listed k (and_branch t more) (suc i) a p h =
      let e : suc k + i ≡ k + suc i = omega arith in
      in_right (map (in_branch k) (places t)) (branch_places (suc k) more) (in_branch (k + suc i) a)
      (subst (λ n. In (branch_places (suc k) more) (in_branch n a)) e (branch_listed (suc k) more i a p h))

numbered : (k : ℕ) (ts : Terms) (a : Place) → In (branch_places k ts) a → (i : ℕ) × (b : Place) × (k ≤ i) × (in_branch i b ≡ a)
numbered k no_branches a h = absurd h
numbered k (and_branch t more) a h = by_side (in_either (map (in_branch k) (places t)) (branch_places (suc k) more) a h) (numbered (suc k) more a)
  where
    by_side : In (map (in_branch k) (places t)) a ⊎ In (branch_places (suc k) more) a →
        (In (branch_places (suc k) more) a → (i : ℕ) × (b : Place) × (suc k ≤ i) × (in_branch i b ≡ a)) → (i : ℕ) × (b : Place) × (k ≤ i) × (in_branch i b ≡ a)
    by_side (inl x) rest = let r = in_mapped (in_branch k) (places t) a x in (k, r.0, omega arith, r.2)
    by_side (inr x) rest = let r = rest x in (r.0, r.1, omega (arith, r.2), r.3)

mutual
  pub places_distinct : (t : Term) → Distinct (places t)
  places_distinct finished = tt
  places_distinct (active p) = (λ y h e. h, tt)
  places_distinct (in_sequence t more) = distinct_map in_first (λ x y e. cc e) (places t) (places_distinct t)
  places_distinct (in_parallel ts) = branches_distinct 0 ts

  branches_distinct : (k : ℕ) (ts : Terms) → Distinct (branch_places k ts)
  branches_distinct k no_branches = tt
  branches_distinct k (and_branch t more) = distinct_append (map (in_branch k) (places t)) (branch_places (suc k) more)
      (distinct_map (in_branch k) (λ x y e. cc e) (places t) (places_distinct t)) (branches_distinct (suc k) more)
      (λ x y hx hy e. let r = in_mapped (in_branch k) (places t) x hx in let s = numbered (suc k) more y hy in
      let same : in_branch k r.0 ≡ in_branch s.0 s.1 = r.2 ∙ (e ∙ sym s.3) in
      let number : k ≡ s.0 = cc same in
      absurd (omega (arith, s.2, number)))
