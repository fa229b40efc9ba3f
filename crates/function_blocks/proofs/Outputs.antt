-- The rails of an expression's value.
use Rattle.std.proofs.Common.{◌≡◌, ℕ, zero, suc, ◌+◌, ◌*◌, ◌<◌, Bool, true, false, List, [], ◌∷◌, length, refl, ap, ◌∙◌, arith}
use Rattle.std.specs.Prelude.{not, ◌&&◌, ◌||◌, Option, Some, None, is_some}
use Rattle.std.specs.List.{list_all}
use Rattle.prs_core.specs.Deciding.{implies, implies_at, left_of, right_of, both_of}
use Rattle.prs_core.specs.Moves.{bit_value, with_bit}
use Rattle.width_check.specs.Values.{one_if}
use Rattle.function_blocks.specs.Rails.{RailLevels, levels_of, side_of, cross, single, some, levels_neutral, same_bit, value_on, neutral_on}
use Rattle.function_blocks.specs.Parts.{Input}
use Rattle.function_blocks.specs.Waves.{inputs_taken, input_rails}
use Rattle.function_blocks.proofs.Guards.{arrived, above, above_cross, single_cross, bits_in}
use Rattle.function_blocks.proofs.BitNumbers.{number_of}

module _ (look : ℕ → RailLevels) where
  pub neutral_arrived : (us : List Input) → neutral_on (length us) (input_rails us look) ≡ true → list_all (arrived false) (inputs_taken look us) ≡ true
  neutral_arrived [] h = refl
  neutral_arrived (i ∷ us) h = both_of _ _ (left_of _ _ h) (neutral_arrived us (right_of (levels_neutral (cross i.crossed (look i.at))) _ h))

  pub arrived_neutral : (us : List Input) → list_all (arrived false) (inputs_taken look us) ≡ true → neutral_on (length us) (input_rails us look) ≡ true
  arrived_neutral [] h = refl
  arrived_neutral (i ∷ us) h = both_of _ _ (left_of _ _ h) (arrived_neutral us (right_of (levels_neutral (cross i.crossed (look i.at))) _ h))

  -- a number is told where each pair has a rail
  some_bit : (t f : Bool) (rest : Option ℕ) → is_some (with_bit (bit_value t f) rest) ≡ true → ((t || f) ≡ true) × (is_some rest ≡ true)
  some_bit true false (Some k) h = (refl, refl)
  some_bit false true (Some k) h = (refl, refl)
  some_bit true false None h = absurd (cc h)
  some_bit false true None h = absurd (cc h)
  some_bit true true rest h = absurd (cc h)
  some_bit false false rest h = absurd (cc h)

  pub full_arrived : (us : List Input) → is_some (value_on (length us) (input_rails us look)) ≡ true → list_all (arrived true) (inputs_taken look us) ≡ true
  full_arrived [] h = refl
  full_arrived (i ∷ us) h =
      let both = some_bit (cross i.crossed (look i.at)).t (cross i.crossed (look i.at)).f (value_on (length us) (input_rails us look)) h in
      both_of _ _ both.0 (full_arrived us both.1)

  bit_told : (c t f : Bool) (rest : Option ℕ) (n : ℕ) → single (levels_of t f) ≡ true → some (cross c (levels_of t f)) ≡ true → rest ≡ Some n
      → with_bit (bit_value (cross c (levels_of t f)).t (cross c (levels_of t f)).f) rest ≡ Some (one_if (same_bit (not c) t) + 2 * n)
  bit_told c true true rest n s a e = absurd (cc s)
  bit_told true false false rest n s a e = absurd (cc a)
  bit_told false false false rest n s a e = absurd (cc a)
  bit_told true true false rest n s a e = ap (with_bit (Some 0)) e
  bit_told true false true rest n s a e = ap (with_bit (Some 1)) e
  bit_told false true false rest n s a e = ap (with_bit (Some 1)) e
  bit_told false false true rest n s a e = ap (with_bit (Some 0)) e

  pub number_told : ((k : ℕ) → single (look k) ≡ true) → (us : List Input) → list_all (arrived true) (inputs_taken look us) ≡ true
      → value_on (length us) (input_rails us look) ≡ Some (number_of (bits_in (λ k. (look k).t) us))
  number_told s [] h = refl
  number_told s (i ∷ us) h =
      bit_told i.crossed (look i.at).t (look i.at).f (value_on (length us) (input_rails us look)) (number_of (bits_in (λ k. (look k).t) us)) (s i.at)
      (left_of _ _ h)
      (number_told s us (right_of (some (cross i.crossed (look i.at))) _ h))

  -- one rail of a bit at most
  both_high : (p : RailLevels) → single p ≡ true → p.t ≡ true → p.f ≡ true → ⊥
  both_high p s h k = let e : single p ≡ false = ap (λ z. not (z && p.f)) h ∙ ap (λ z. not z) k in cc (s, e)

  pub one_out : ((k : ℕ) → single (look k) ≡ true) → (us : List Input) (i : ℕ) → input_rails us look i true ≡ true → input_rails us look i false ≡ true → ⊥
  one_out s [] i h k = cc h
  one_out s (j ∷ us) zero h k = both_high (cross j.crossed (look j.at)) (single_cross j.crossed (look j.at) (s j.at)) h k
  one_out s (j ∷ us) (suc i) h k = one_out s us i h k

  pub wide_out : (us : List Input) (i : ℕ) (one : Bool) → input_rails us look i one ≡ true → i < length us
  wide_out [] i one h = absurd (cc h)
  wide_out (j ∷ us) zero one h = omega arith
  wide_out (j ∷ us) (suc i) one h = let e : i < length us = wide_out us i one h in omega (arith, e)

-- rails rise with their gates
above_side : (p q : RailLevels) (one : Bool) → above p q ≡ true → side_of p one ≡ true → side_of q one ≡ true
above_side p q true h k = implies_at p.t q.t (left_of _ _ h) k
above_side p q false h k = implies_at p.f q.f (right_of (implies p.t q.t) _ h) k

pub rails_up : (look see : ℕ → RailLevels) → ((k : ℕ) → above (look k) (see k) ≡ true) → (us : List Input) (i : ℕ) (one : Bool) →
    input_rails us look i one ≡ true
    → input_rails us see i one ≡ true
rails_up look see h [] i one m = m
rails_up look see h (j ∷ us) zero one m =
    above_side (cross j.crossed (look j.at)) (cross j.crossed (see j.at)) one (above_cross j.crossed (look j.at) (see j.at) (h j.at)) m
rails_up look see h (j ∷ us) (suc i) one m = rails_up look see h us i one m
