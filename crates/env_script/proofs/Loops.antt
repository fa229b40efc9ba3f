-- Tests over pairs of rails and over numbers below a count, step by step.
use Rattle.std.proofs.Common.{◌≡◌, ℕ, zero, suc, ◌+◌, ◌*◌, ◌/◌, ◌<◌, Bool, true, false, List, ◌∷◌, length, get_or, drop, refl, sym, ap, ◌∙◌, arith}
use Rattle.std.specs.Prelude.{◌&&◌, ◌||◌, ◌==◌}
use Rattle.std.proofs.lemmas.List.{drop_more}
use Rattle.std.proofs.lemmas.Bool.{or_left, and_left, and_right, eqb-true, eqb-false}
use Rattle.env_script.specs.Environment.{raises_bit, raises_value, is_odd, all_below}
use Rattle.env_script.specs.Phases.{pair_keeps, rails_keep}

-- the pairs from k on are the pair k and those behind it
pub pair_front : (xs : List ℕ) (k : ℕ) → 2 * k + 1 < length xs → drop (2 * k) xs ≡ get_or xs (2 * k) 0 ∷ get_or xs (2 * k + 1) 0 ∷ drop (2 * (k + 1)) xs
pair_front xs k within =
    let here : 2 * k < length xs = omega arith in
    let next : 2 * (k + 1) ≡ 2 * k + 1 + 1 = omega arith in
    rw (drop_more xs (2 * k) 0 here, drop_more xs (2 * k + 1) 0 within, next) refl

or_skips : (b c : Bool) → b ≡ false → (b || c) ≡ c
or_skips true c e = absurd (cc e)
or_skips false c e = refl

and_skips : (b c : Bool) → b ≡ true → (b && c) ≡ c
and_skips true c e = refl
and_skips false c e = absurd (cc e)

pub raises_found : (v : ℕ → Bool) (value k n : ℕ) (rails : List ℕ) → 2 * k + 1 < length rails →
    raises_bit v (is_odd value) (get_or rails (2 * k) 0) (get_or rails (2 * k + 1) 0) n ≡ true → raises_value v value (drop (2 * k) rails) n ≡ true
raises_found v value k n rails within here = rw (pair_front rails k within) (or_left _ _ here)

pub raises_more : (v : ℕ → Bool) (value k n : ℕ) (rails : List ℕ) → 2 * k + 1 < length rails →
    raises_bit v (is_odd value) (get_or rails (2 * k) 0) (get_or rails (2 * k + 1) 0) n ≡ false →
    raises_value v (value / 2) (drop (2 * (k + 1)) rails) n ≡ raises_value v value (drop (2 * k) rails) n
raises_more v value k n rails within here = rw (pair_front rails k within) (sym (or_skips _ _ here))

pub keeps_not : (v : ℕ → Bool) (ack k n : ℕ) (rails : List ℕ) → 2 * k + 1 < length rails →
    pair_keeps v ack (get_or rails (2 * k) 0) (get_or rails (2 * k + 1) 0) n ≡ false → rails_keep v ack (drop (2 * k) rails) n ≡ false
keeps_not v ack k n rails within here = rw (pair_front rails k within) (and_left _ _ here)

pub keeps_more : (v : ℕ → Bool) (ack k n : ℕ) (rails : List ℕ) → 2 * k + 1 < length rails →
    pair_keeps v ack (get_or rails (2 * k) 0) (get_or rails (2 * k + 1) 0) n ≡ true →
    rails_keep v ack (drop (2 * (k + 1)) rails) n ≡ rails_keep v ack (drop (2 * k) rails) n
keeps_more v ack k n rails within here = rw (pair_front rails k within) (sym (and_skips _ _ here))

-- a number that fails
pub all_below_fails : (count n : ℕ) (p : ℕ → Bool) → n < count → p n ≡ false → all_below count p ≡ false
all_below_fails zero n p within fails = absurd (omega arith)
all_below_fails (suc count) n p within fails = here (n == count) refl (λ apart. all_below_fails count n p (omega arith) fails)
  where
    here : (b : Bool) → (n == count) ≡ b → ((n ≡ count → ⊥) → all_below count p ≡ false) → (all_below count p && p count) ≡ false
    here true e rest = and_right (all_below count p) (p count) (ap p (sym (eqb-true n count e)) ∙ fails)
    here false e rest = and_left _ _ (rest (eqb-false n count e))
