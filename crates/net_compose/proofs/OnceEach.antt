-- Moves of which no node makes two are no more than there are nodes; so are those of a run before reset falls.
use Rattle.std.proofs.Common.{◌≡◌, ◌≢◌, ℕ, zero, suc, ◌+◌, ◌<◌, ◌≤◌, ◌==◌, Bool, true, false, Some, List, [], ◌∷◌, length, refl, sym, ap, subst, arith}
use Rattle.std.specs.Prelude.{All, Option, if◌then◌else◌}
use Rattle.std.proofs.lemmas.Bool.{eqb-true}
use Rattle.std.proofs.lemmas.Bool.Decides.{nat_tests}
use Rattle.prs_core.specs.Nets.{NetValue, IsNet}
use Rattle.env_script.specs.Environment.{is_reset}
use Rattle.env_script.specs.Scripts.{OfferValue}
use Rattle.env_script.specs.Runs.{RunState, IsRun, moved, until_reset, moves_since_reset, IsOnceEach}
use Rattle.env_script.proofs.MovesWithin.{move_in}

abbrev Each : (ℕ → Type 0) → List ℕ → Type 0
Each P [] = Unit {0}
Each P (x ∷ xs) = P x × Each P xs

abbrev Apart : List ℕ → Type 0
Apart [] = Unit {0}
Apart (x ∷ xs) = Each (λ y. x ≢ y) xs × Apart xs

each_of : (P : ℕ → Type 0) (xs : List ℕ) → All P xs → Each P xs
each_of P [] all = tt
each_of P (x ∷ xs) all = (all 0 x (omega arith), each_of P xs (λ k d within. all (suc k) d (omega arith)))

apart_of : (xs : List ℕ) → IsOnceEach xs → Apart xs
apart_of [] once = tt
apart_of (x ∷ xs) once = (
  each_of (λ y. x ≢ y) xs (λ k d within. once 0 (suc k) d (omega arith) (omega arith)),
  apart_of xs (λ i j d less within. once (suc i) (suc j) d (omega arith) (omega arith)),
)

-- the list without a number
abbrev rid : ℕ → List ℕ → List ℕ
rid n [] = []
rid n (x ∷ xs) = if x == n then rid n xs else x ∷ rid n xs

each_rid : (P : ℕ → Type 0) (n : ℕ) (xs : List ℕ) → Each P xs → Each P (rid n xs)
each_rid P n [] each = tt
each_rid P n (x ∷ xs) each = by_test (x == n) (each_rid P n xs each.1)
  where
    by_test : (b : Bool) → Each P (rid n xs) → Each P (if b then rid n xs else x ∷ rid n xs)
    by_test true later = later
    by_test false later = (each.0, later)

apart_rid : (n : ℕ) (xs : List ℕ) → Apart xs → Apart (rid n xs)
apart_rid n [] apart = tt
apart_rid n (x ∷ xs) apart = by_test (x == n) (apart_rid n xs apart.1)
  where
    by_test : (b : Bool) → Apart (rid n xs) → Apart (if b then rid n xs else x ∷ rid n xs)
    by_test true later = later
    by_test false later = (each_rid (λ y. x ≢ y) n xs apart.0, later)

under : (x n : ℕ) → (x == n) ≡ false → x < suc n → x < n
under x n other below = grind (arith, nat_tests)

below_rid : (n : ℕ) (xs : List ℕ) → Each (λ x. x < suc n) xs → Each (λ x. x < n) (rid n xs)
below_rid n [] below = tt
below_rid n (x ∷ xs) below = by_test (x == n) refl (below_rid n xs below.1)
  where
    by_test : (b : Bool) → (x == n) ≡ b → Each (λ x. x < n) (rid n xs) → Each (λ x. x < n) (if b then rid n xs else x ∷ rid n xs)
    by_test true is later = later
    by_test false is later = (under x n is below.0, later)

same_rid : (n : ℕ) (xs : List ℕ) → Each (λ x. n ≢ x) xs → rid n xs ≡ xs
same_rid n [] others = refl
same_rid n (x ∷ xs) others = by_test (x == n) refl (same_rid n xs others.1)
  where
    by_test : (b : Bool) → (x == n) ≡ b → rid n xs ≡ xs → (if b then rid n xs else x ∷ rid n xs) ≡ x ∷ xs
    by_test true is later = absurd (others.0 (sym (eqb-true x n is)))
    by_test false is later = ap (λ ys. x ∷ ys) later

one_less : (n : ℕ) (xs : List ℕ) → Apart xs → length xs ≤ suc (length (rid n xs))
one_less n [] apart = omega arith
one_less n (x ∷ xs) apart = by_test (x == n) refl (one_less n xs apart.1)
  where
    by_test : (b : Bool) → (x == n) ≡ b → length xs ≤ suc (length (rid n xs)) → suc (length xs) ≤ suc (length (if b then rid n xs else x ∷ rid n xs))
    by_test true is less =
        let same = ap length (same_rid n xs (subst (λ k. Each (λ y. k ≢ y) xs) (eqb-true x n is) apart.0)) in
        omega (arith, same)
    by_test false is less = omega (arith, less)

no_more : (n : ℕ) (xs : List ℕ) → Each (λ x. x < n) xs → Apart xs → length xs ≤ n
no_more zero [] below apart = omega arith
no_more zero (x ∷ xs) below apart = let under = below.0 in absurd (omega (arith, under))
no_more (suc n) xs below apart =
    let fewer = one_less n xs apart in
    let rest = no_more n (rid n xs) (below_rid n xs below) (apart_rid n xs apart) in
    omega (arith, fewer, rest)

-- ---- of a run from power-up

split : (reset : Option ℕ) (ns : List ℕ) → length ns ≤ suc (length (until_reset reset ns) + moves_since_reset reset ns)
split reset [] = omega arith
split reset (n ∷ ns) = by_test (is_reset reset n) (split reset ns)
  where
    by_test : (b : Bool) → length ns ≤ suc (length (until_reset reset ns) + moves_since_reset reset ns)
        → suc (length ns) ≤ suc (length (if b then [] else n ∷ until_reset reset ns) + (if b then length ns else moves_since_reset reset ns))
    by_test true later = omega arith
    by_test false later = omega (arith, later)

module _ (net : NetValue) (script : List OfferValue) (node : ℕ) (long : length net.first ≡ suc node) (is : IsNet net) where
  until_below : (st : RunState) (ns : List ℕ) → IsRun net script st ns → Each (λ n. n < node) (until_reset (Some node) ns)
  until_below st [] run = tt
  until_below st (n ∷ ns) run = by_test (n == node) refl (until_below (moved net st n) ns run.1)
    where
      by_test : (b : Bool) → (n == node) ≡ b → Each (λ n. n < node) (until_reset (Some node) ns)
          → Each (λ n. n < node) (if b then [] else n ∷ until_reset (Some node) ns)
      by_test true same later = tt
      by_test false other later =
          let within = move_in net script st n is run.0 in
          (under n node other (omega (arith, within, long)), later)

  pub run_length : (st : RunState) (ns : List ℕ) → IsRun net script st ns → IsOnceEach (until_reset (Some node) ns)
      → length ns ≤ suc (node + moves_since_reset (Some node) ns)
  run_length st ns run once =
      let whole = split (Some node) ns in
      let few = no_more node (until_reset (Some node) ns) (until_below st ns run) (apart_of _ once) in
      omega (arith, whole, few)
