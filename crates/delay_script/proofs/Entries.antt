-- Times and nodes: which comes first, and lists of them that have the same sums.
use Rattle.std.proofs.Common.{◌≡◌, ℕ, suc, ◌+◌, Bool, true, false, cond, List, [], ◌∷◌, length, refl, sym, ap, ◌∙◌, inl, inr, arith}
use Rattle.std.specs.Prelude.{◌==◌, not, ◌&&◌, ◌||◌, nat_lt, All}
use Rattle.std.specs.List.{sum_by}
use Rattle.std.specs.Ordering.{nat_cmp, ordering_then, is_lt}
use Rattle.std.specs.declared.cmp.Ordering.TheVariants.{Less, Equal, Greater}
use Rattle.std.proofs.lemmas.Bool.{ltb-true, ltb-false, lt-ltb, le-ltb, eqb-true, eqb-false, eq-eqb}
use Rattle.std.proofs.lemmas.List.Elements.{All-nil, All-cons, All-head, All-tail, All-weaker}
use Rattle.std.proofs.lemmas.List.Sums.{sum_by-cons}
use Rattle.delay_script.specs.TimedRuns.{ComesNoLater}

-- the order of the heap
pub order_says : (t n u m : ℕ) → is_lt (ordering_then (nat_cmp u t) (nat_cmp m n)) ≡ false → ComesNoLater t n u m
order_says t n u m says = by_order (nat_lt u t) (u == t) (nat_lt m n) refl refl refl says
  where
    by_order : (a b c : Bool) → nat_lt u t ≡ a → (u == t) ≡ b → nat_lt m n ≡ c →
        is_lt (ordering_then (cond a Less (cond b Equal Greater)) (cond c Less (cond (m == n) Equal Greater))) ≡ false → ComesNoLater t n u m
    by_order true b c ea eb ec e = absurd (cc e)
    by_order false true true ea eb ec e = absurd (cc e)
    by_order false true false ea eb ec e = inr (sym (eqb-true u t eb), ltb-false m n ec)
    by_order false false c ea eb ec e = let le = ltb-false u t ea in let apart = eqb-false u t eb in inl (omega arith)

-- the same as a test
abbrev precedes : ℕ × ℕ → ℕ × ℕ → Bool
precedes e o = nat_lt e.0 o.0 || ((e.0 == o.0) && not (nat_lt o.1 e.1))

precedes_says : (e o : ℕ × ℕ) → precedes e o ≡ true → ComesNoLater e.0 e.1 o.0 o.1
precedes_says e o says = by_test (nat_lt e.0 o.0) (e.0 == o.0) (nat_lt o.1 e.1) refl refl refl says
  where
    by_test : (a b c : Bool) → nat_lt e.0 o.0 ≡ a → (e.0 == o.0) ≡ b → nat_lt o.1 e.1 ≡ c → (a || (b && not c)) ≡ true → ComesNoLater e.0 e.1 o.0 o.1
    by_test true b c ea eb ec s = inl (ltb-true e.0 o.0 ea)
    by_test false true false ea eb ec s = inr (eqb-true e.0 o.0 eb, ltb-false o.1 e.1 ec)
    by_test false true true ea eb ec s = absurd (cc s)
    by_test false false c ea eb ec s = absurd (cc s)

says_precedes : (e o : ℕ × ℕ) → ComesNoLater e.0 e.1 o.0 o.1 → precedes e o ≡ true
says_precedes e o (inl less) = ap (λ (b : Bool). b || ((e.0 == o.0) && not (nat_lt o.1 e.1))) (lt-ltb e.0 o.0 less)
says_precedes e o (inr same) = by_first (nat_lt e.0 o.0)
  where
    by_first : (a : Bool) → (a || ((e.0 == o.0) && not (nat_lt o.1 e.1))) ≡ true
    by_first true = refl
    by_first false = ap (λ (b : Bool). b && not (nat_lt o.1 e.1)) (eq-eqb e.0 o.0 same.0) ∙ ap not (le-ltb o.1 e.1 same.1)

-- lists with the same sums pass a test alike

abbrev pub failures : {X : Type 0} → (X → Bool) → X → ℕ
failures p x = cond (p x) 0 1

pub zero_of_all : {X : Type 0} (p : X → Bool) (xs : List X) → All (λ x. p x ≡ true) xs → sum_by (failures p) xs ≡ 0
zero_of_all p [] all = refl
zero_of_all {X} p (x ∷ xs) all =
    sum_by-cons (failures p) x xs
    ∙ ap (λ (b : Bool). cond b 0 1 + sum_by (failures p) xs) (All-head (λ (y : X). p y ≡ true) x xs all)
    ∙ ap (λ (k : ℕ). 0 + k) (zero_of_all p xs (All-tail (λ (y : X). p y ≡ true) x xs all))

pub passes_of_zero : (b : Bool) → ◌≡◌ {A = ℕ} (cond b 0 1) 0 → b ≡ true
passes_of_zero true e = refl
passes_of_zero false e = absurd (apart 1 e refl)
  where
    apart : (a : ℕ) → a ≡ 0 → a ≡ 1 → ⊥
    apart a e f = omega arith

all_of_zero : {X : Type 0} (p : X → Bool) (xs : List X) → sum_by (failures p) xs ≡ 0 → All (λ x. p x ≡ true) xs
all_of_zero {X} p [] none = All-nil (λ (y : X). p y ≡ true)
all_of_zero {X} p (x ∷ xs) none =
    All-cons (λ (y : X). p y ≡ true) x xs (passes_of_zero (p x) (left _ _ both)) (all_of_zero p xs (right _ _ both))
  where
    both : failures p x + sum_by (failures p) xs ≡ 0
    both = sym (sum_by-cons (failures p) x xs) ∙ none

    left : (a b : ℕ) → a + b ≡ 0 → a ≡ 0
    left a b e = omega arith

    right : (a b : ℕ) → a + b ≡ 0 → b ≡ 0
    right a b e = omega arith

-- so what comes before all of one comes before all of the other
pub same_first : (e : ℕ × ℕ) (xs ys : List (ℕ × ℕ)) → ((f : ℕ × ℕ → ℕ) → sum_by f xs ≡ sum_by f ys) →
    All (λ (o : ℕ × ℕ). ComesNoLater e.0 e.1 o.0 o.1) ys → All (λ (o : ℕ × ℕ). ComesNoLater e.0 e.1 o.0 o.1) xs
same_first e xs ys same all =
    All-weaker (λ (o : ℕ × ℕ). precedes e o ≡ true) (λ (o : ℕ × ℕ). ComesNoLater e.0 e.1 o.0 o.1) (precedes_says e) xs
    (all_of_zero (precedes e) xs (same (failures (precedes e)) ∙ zero_of_all (precedes e) ys
    (All-weaker (λ (o : ℕ × ℕ). ComesNoLater e.0 e.1 o.0 o.1) (λ (o : ℕ × ℕ). precedes e o ≡ true) (says_precedes e) ys all)))

pub ones : {X : Type 0} (xs : List X) → sum_by (λ (x : X). 1) xs ≡ length xs
ones [] = refl
ones {X} (x ∷ xs) = sum_by-cons (λ (y : X). 1) x xs ∙ ap (λ (k : ℕ). 1 + k) (ones xs) ∙ one_suc (length xs)
  where
    one_suc : (k : ℕ) → 1 + k ≡ suc k
    one_suc k = omega arith
