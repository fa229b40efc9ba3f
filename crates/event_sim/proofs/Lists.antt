-- The least number that passes, lists of all nodes that pass, and the first of a list that does.
use Rattle.std.proofs.Common.{◌≡◌, ℕ, zero, suc, ◌+◌, ◌<◌, ◌≤◌, Bool, true, false, cond, List, [], ◌∷◌, ◌++◌, length, filter, refl, sym, ap, ◌∙◌, inl, inr, arith}
use Rattle.std.specs.Prelude.{◌⊎◌, ◌&&◌, ◌||◌, ◌==◌, if◌then◌else◌, Some, None}
use Rattle.std.specs.List.{find, list_any, range_with_len}
use Rattle.std.proofs.lemmas.Bool.{eqb-true, eqb-false, eq-eqb, ne_eqb, or_from, or_left, cases_eq}
use Rattle.std.proofs.lemmas.List.{map-id}
use Rattle.std.proofs.lemmas.List.Elements.{filter-append}
use Rattle.std.proofs.lemmas.List.FromFn.{map-range_with_len_more, length-range_with_len}
use Rattle.std.proofs.lemmas.List.Sums.{length-filter, count_by-le-length}
use Rattle.env_script.specs.Hazards.{least_below, or_else}

pub least_none : (count : ℕ) (p : ℕ → Bool) → ((k : ℕ) → k < count → p k ≡ false) → least_below count p ≡ None
least_none zero p none = refl
least_none (suc n) p none = rw (least_none n p (λ k h. none k (omega arith)), none n (omega arith)) refl

pub least_some : (count k : ℕ) (p : ℕ → Bool) → k < count → p k ≡ true → ((j : ℕ) → j < k → p j ≡ false) → least_below count p ≡ Some k
least_some zero k p within passes before = absurd (omega arith)
least_some (suc n) k p within passes before = here (k == n) refl (λ apart. least_some n k p (omega arith) passes before)
  where
    here : (b : Bool) → (k == n) ≡ b → ((k ≡ n → ⊥) → least_below n p ≡ Some k) → or_else (least_below n p) (if p n then Some n else None) ≡ Some k
    here true e rest =
        let same = eqb-true k n e in
        rw (least_none n p (λ j h. before j (omega arith)), ← same, passes) refl
    here false e rest = rw (rest (eqb-false k n e)) refl

pub least_agrees : (count : ℕ) (p q : ℕ → Bool) → ((k : ℕ) → k < count → p k ≡ q k) → least_below count p ≡ least_below count q
least_agrees zero p q agree = refl
least_agrees (suc n) p q agree = rw (least_agrees n p q (λ k h. agree k (omega arith)), agree n (omega arith)) refl

range_more : (n : ℕ) → range_with_len 0 (n + 1) ≡ range_with_len 0 n ++ n ∷ []
range_more n = sym (map-id (range_with_len 0 (n + 1))) ∙ map-range_with_len_more (λ k. k) 0 n n (omega arith)
    ∙ ap (λ xs. xs ++ n ∷ []) (map-id (range_with_len 0 n))

-- one more number that may pass
pub passes_more : (p : ℕ → Bool) (n : ℕ) → filter p (range_with_len 0 (n + 1)) ≡ filter p (range_with_len 0 n) ++ cond (p n) (n ∷ []) []
passes_more p n = ap (filter p) (range_more n) ∙ filter-append p (range_with_len 0 n) (n ∷ [])

pub passes_suc : (p : ℕ → Bool) (n : ℕ) → filter p (range_with_len 0 (suc n)) ≡ filter p (range_with_len 0 n) ++ cond (p n) (n ∷ []) []
passes_suc p n =
    let same : suc n ≡ n + 1 = omega arith in
    ap (λ k. filter p (range_with_len 0 k)) same ∙ passes_more p n

pub first_of_both : (q : ℕ → Bool) (xs ys : List ℕ) → find q (xs ++ ys) ≡ or_else (find q xs) (find q ys)
first_of_both q [] ys = refl
first_of_both q (x ∷ xs) ys = by_test (q x) (first_of_both q xs ys)
  where
    by_test : (b : Bool) → find q (xs ++ ys) ≡ or_else (find q xs) (find q ys) →
        (if b then Some x else find q (xs ++ ys)) ≡ or_else (if b then Some x else find q xs) (find q ys)
    by_test true rest = refl
    by_test false rest = rest

-- the first of the numbers that pass one test that passes another is the least that passes both
pub first_is_least : (p q : ℕ → Bool) (n : ℕ) → find q (filter p (range_with_len 0 n)) ≡ least_below n (λ k. p k && q k)
first_is_least p q zero = refl
first_is_least p q (suc n) =
    ap (find q) (passes_suc p n) ∙ first_of_both q _ _ ∙ ap (λ o. or_else o (find q (cond (p n) (n ∷ []) []))) (first_is_least p q n)
    ∙ ap (or_else (least_below n (λ k. p k && q k))) (last (p n))
  where
    last : (b : Bool) → find q (cond b (n ∷ []) []) ≡ (if b && q n then Some n else None)
    last true = refl
    last false = refl

any_of_both : (t : ℕ → Bool) (xs ys : List ℕ) → list_any t (xs ++ ys) ≡ (list_any t xs || list_any t ys)
any_of_both t [] ys = refl
any_of_both t (x ∷ xs) ys = by_test (t x) (any_of_both t xs ys)
  where
    by_test : (b : Bool) → list_any t (xs ++ ys) ≡ (list_any t xs || list_any t ys) → (b || list_any t (xs ++ ys)) ≡ ((b || list_any t xs) || list_any t ys)
    by_test true rest = refl
    by_test false rest = rest

none_past : (p : ℕ → Bool) (n m : ℕ) → n ≤ m → list_any (λ k. k == m) (filter p (range_with_len 0 n)) ≡ false
none_past p zero m past = refl
none_past p (suc n) m past =
    ap (list_any (λ k. k == m)) (passes_suc p n) ∙ any_of_both (λ k. k == m) (filter p (range_with_len 0 n)) (cond (p n) (n ∷ []) [])
    ∙ or_from _ _ (none_past p n m (omega arith)) (last (p n))
  where
    last : (b : Bool) → list_any (λ k. k == m) (cond b (n ∷ []) []) ≡ false
    last true = or_from _ _ (ne_eqb n m (omega arith)) refl
    last false = refl

-- a number is in the list of those that pass exactly where it passes
pub among_is : (p : ℕ → Bool) (n m : ℕ) → m < n → list_any (λ k. k == m) (filter p (range_with_len 0 n)) ≡ p m
among_is p zero m within = absurd (omega arith)
among_is p (suc n) m within =
    ap (list_any (λ k. k == m)) (passes_suc p n) ∙ any_of_both (λ k. k == m) (filter p (range_with_len 0 n)) (cond (p n) (n ∷ []) [])
    ∙ by_place (cases_eq m n) (λ less. among_is p n m less)
  where
    last : (b : Bool) → n ≡ m → list_any (λ k. k == m) (cond b (n ∷ []) []) ≡ b
    last true same = or_left _ _ (eq-eqb n m same)
    last false same = refl

    other : (b : Bool) → (n ≡ m → ⊥) → list_any (λ k. k == m) (cond b (n ∷ []) []) ≡ false
    other true apart = or_from _ _ (ne_eqb n m apart) refl
    other false apart = refl

    or_none : (x y : Bool) → y ≡ false → (x || y) ≡ x
    or_none true y none = refl
    or_none false y none = none

    by_place : (m ≡ n) ⊎ (m ≡ n → ⊥) → (m < n → list_any (λ k. k == m) (filter p (range_with_len 0 n)) ≡ p m) →
        (list_any (λ k. k == m) (filter p (range_with_len 0 n)) || list_any (λ k. k == m) (cond (p n) (n ∷ []) [])) ≡ p m
    by_place (inl same) below =
        let past : n ≤ m = omega arith in
        rw (none_past p n m past) (last (p n) (sym same) ∙ ap p (sym same))
    by_place (inr apart) below =
        or_none _ _ (other (p n) (λ e. apart (sym e))) ∙ below (omega arith)

pub passes_few : (p : ℕ → Bool) (n : ℕ) → length (filter p (range_with_len 0 n)) ≤ n
passes_few p n = omega (arith, length-filter p (range_with_len 0 n), count_by-le-length p (range_with_len 0 n), length-range_with_len 0 n)
