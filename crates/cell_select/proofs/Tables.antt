-- A test of every list of so many truth values, and of every number below a bound; and truth values by cases.
use Rattle.std.proofs.Common.{◌≡◌, ℕ, zero, suc, ◌<◌, Bool, true, false, not, List, [], ◌∷◌, length, arith, ap, ◌∙◌, refl, ◌==◌, ◌≢◌}
use Rattle.std.specs.Prelude.{◌&&◌}
use Rattle.std.proofs.Math.Nat.{eq-or-lt_of_le}
use Rattle.std.proofs.lemmas.Bool.Decides.{nat_tests}
use Rattle.std.proofs.Math.Logic.{⊎_elim}

abbrev pub implies : Bool → Bool → Bool
implies true b = b
implies false b = true

pub implies_at : (a b : Bool) → implies a b ≡ true → a ≡ true → b ≡ true
implies_at true b h e = h
implies_at false b h e = absurd (cc e)

pub and_left : (a b : Bool) → (a && b) ≡ true → a ≡ true
and_left true b h = refl
and_left false b h = h

pub and_right : (a b : Bool) → (a && b) ≡ true → b ≡ true
and_right true b h = h
and_right false b h = absurd (cc h)

pub both : (a b : Bool) → a ≡ true → b ≡ true → (a && b) ≡ true
both true b p q = q
both false b p q = p

pub not_true : (b : Bool) → not b ≡ true → b ≡ false
not_true true h = absurd (cc h)
not_true false h = refl

pub true_not : (b : Bool) → b ≡ false → not b ≡ true
true_not true h = absurd (cc h)
true_not false h = refl

pub true_false : {b : Bool} → b ≡ true → b ≡ false → ⊥
true_false p q = cc (p, q)

abbrev pub all_lists : ℕ → (List Bool → Bool) → Bool
all_lists zero test = test []
all_lists (suc w) test = all_lists w (λ xs. test (true ∷ xs)) && all_lists w (λ xs. test (false ∷ xs))

pub all_lists_at : (w : ℕ) (test : List Bool → Bool) → all_lists w test ≡ true → (xs : List Bool) → length xs ≡ w → test xs ≡ true
all_lists_at zero test h [] e = h
all_lists_at zero test h (x ∷ xs) e = absurd (omega arith)
all_lists_at (suc w) test h [] e = absurd (omega arith)
all_lists_at (suc w) test h (true ∷ xs) e = all_lists_at w (λ ys. test (true ∷ ys)) (and_left _ _ h) xs (omega arith)
all_lists_at (suc w) test h (false ∷ xs) e = all_lists_at w (λ ys. test (false ∷ ys)) (and_right (all_lists w (λ ys. test (true ∷ ys))) _ h) xs (omega arith)

abbrev pub all_below : ℕ → (ℕ → Bool) → Bool
all_below zero test = true
all_below (suc n) test = test n && all_below n test

pub all_below_at : (n : ℕ) (test : ℕ → Bool) → all_below n test ≡ true → (k : ℕ) → k < n → test k ≡ true
all_below_at zero test h k lt = absurd (omega arith)
all_below_at (suc n) test h k lt =
    ⊎_elim
    (λ (e : k ≡ n). ap test e ∙ and_left _ _ h)
    (λ (less : k < n). all_below_at n test (and_right (test n) _ h) k less)
    (eq-or-lt_of_le (omega arith))

pub other : (n m : ℕ) → n ≢ m → not (n == m) ≡ true
other n m h = grind (arith, nat_tests)

pub same_number : (n : ℕ) → (n == n) ≡ true
same_number n = grind (arith, nat_tests)

pub other_number : (n m : ℕ) → n ≢ m → (n == m) ≡ false
other_number n m h = grind (arith, nat_tests)

pub no_true : (b : Bool) → (b ≡ true → ⊥) → b ≡ false
no_true true h = absurd (h refl)
no_true false h = refl
