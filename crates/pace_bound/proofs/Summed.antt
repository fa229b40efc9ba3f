-- The sum over rounds, one round after the other.
use Rattle.std.proofs.Common.{◌≡◌, ℕ, zero, suc, ◌+◌, ◌<◌, ◌≤◌, ◌⊎◌, inl, inr, List, [], ◌∷◌, map, refl, sym, ap, subst, ◌∙◌, arith}
use Rattle.std.specs.Prelude.{Some}
use Rattle.std.proofs.lemmas.Bool.{cases_lt}
use Rattle.width_check.specs.Processes.{Process, TypedProgram}
use Rattle.chp_meaning.specs.Terms.{statement_at}
use Rattle.chp_meaning.specs.Steps.{Configuration}
use Rattle.chp_meaning.specs.Rounds.{enabled_places, round, rounds_from}
use Rattle.chp_meaning.specs.Ends.{CanStep}
use Rattle.round_time.specs.Longest.{greatest}
use Rattle.round_time.specs.Phases.{phase}
use Rattle.round_time.specs.Sums.{phase_of, round_phase, sum_from}

-- the phases of the statements whose steps a round takes
pub phases_listed : {X : Type 0} (P : TypedProgram) (c : Configuration) (said : X → Process) (xs : List X) →
    map (λ x. Some (said x)) xs ≡ map (statement_at c.term) (enabled_places c) → greatest (map (λ x. phase P (said x)) xs) ≡ round_phase P c
phases_listed P c said xs is =
    ap greatest (sym (twice (phase_of P) (λ x. Some (said x)) xs) ∙ (ap (map (phase_of P)) is ∙ twice (phase_of P) (statement_at c.term) (enabled_places c)))
  where
    twice : {A B C : Type 0} (f : B → C) (g : A → B) (xs : List A) → map f (map g xs) ≡ map (λ x. f (g x)) xs
    twice f g [] = refl
    twice f g (x ∷ xs) = ap (λ ys. f (g x) ∷ ys) (twice f g xs)

-- so many moves lead to the steps of the next round after so many, if so many lead to those of the first
abbrev pub begins_after : TypedProgram → (begins : ℕ) → Configuration → (n : ℕ) → ℕ
begins_after P begins c zero = begins
begins_after P begins c (suc n) = begins_after P (round_phase P c) (round c) n

pub begins_last : (P : TypedProgram) (b : ℕ) (c : Configuration) (n : ℕ) → begins_after P b c (suc n) ≡ round_phase P (rounds_from c n)
begins_last P b c zero = refl
begins_last P b c (suc n) = begins_last P (round_phase P c) (round c) n

pub sum_last : (P : TypedProgram) (b : ℕ) (c : Configuration) (n : ℕ) → sum_from P b c (suc n) ≡ sum_from P b c n + suc (begins_after P b c n)
sum_last P b c zero = omega arith
sum_last P b c (suc n) = let rest = sum_last P (round_phase P c) (round c) n in omega (arith, rest)

pub rounds_last : (c : Configuration) (n : ℕ) → rounds_from c (suc n) ≡ round (rounds_from c n)
rounds_last c zero = refl
rounds_last c (suc n) = rounds_last (round c) n

-- where each of so many rounds had a step, and so has the next
pub goes_further : (c : Configuration) (n : ℕ) → ((k : ℕ) → k < n → CanStep (rounds_from c k)) → CanStep (rounds_from c n) → (k : ℕ) → k < n + 1 →
    CanStep (rounds_from c k)
goes_further c n before can k h = by (cases_lt k n)
  where
    by : (k < n) ⊎ (n ≤ k) → CanStep (rounds_from c k)
    by (inl lt) = before k lt
    by (inr le) = let same : n ≡ k = omega arith in subst (λ m. CanStep (rounds_from c m)) same can
