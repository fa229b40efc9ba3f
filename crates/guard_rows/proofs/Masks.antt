-- The words of the guards, bit by bit.
use Rattle.std.proofs.Common.{◌≡◌, ℕ, zero, suc, ◌+◌, ◌^◌, ◌-◌, ◌<◌, ◌≤◌, Bool, true, false, cond, not, List, [], ◌∷◌, length, get_or, take, refl, sym, ap, ◌∙◌, arith}
use Rattle.std.specs.Prelude.{◌==◌, ◌&&◌, ◌||◌, min, max}
use Rattle.std.specs.Int.{bit_at, w64}
use lib.Bits.{bit_and}
use Rattle.std.specs.Int.RustNames.{bit_or}
use Rattle.std.proofs.lemmas.Bool.{eqb-true, eqb-false}
use Rattle.std.proofs.lemmas.List.Folds.{list_any_more, list_all_more}
use Rattle.std.proofs.lemmas.Nat.Bits.{bit_at_and, bit_at_or, bit_at_not, bit_at_ones}
use Rattle.prs_core.specs.declared.rule.Literal.{Literal}
use Rattle.prs_core.specs.Nets.{GuardValue}
use Rattle.prs_core.specs.Moves.{literal_holds, term_holds, guard_holds}
use Rattle.prs_core.specs.Deciding.{left_of, right_of}
use Rattle.guard_rows.specs.Places.{as_bit, index_of}
use Rattle.guard_rows.proofs.Indexes.{index_small, bit_of_index}

abbrev values : List ℕ
values = 12297829382473034410 ∷ 14757395258967641292 ∷ 17361641481138401520 ∷ 18374966859414961920 ∷ 18446462603027742720 ∷ 18446744069414584320 ∷ []

abbrev all_below : (ℕ → Bool) → ℕ → Bool
all_below f zero = true
all_below f (suc n) = f n && all_below f n

at_below : (f : ℕ → Bool) (n k : ℕ) → all_below f n ≡ true → k < n → f k ≡ true
at_below f zero k all within = absurd (omega arith)
at_below f (suc n) k all within = by_test (k == n) refl (λ less. at_below f n k (right_of (f n) (all_below f n) all) less)
  where
    by_test : (b : Bool) → (k == n) ≡ b → (k < n → f k ≡ true) → f k ≡ true
    by_test true is rest = ap f (eqb-true k n is) ∙ left_of (f n) (all_below f n) all
    by_test false is rest = let apart = eqb-false k n is in rest (omega arith)

abbrev is_value : ℕ → ℕ → Bool
is_value p i = bit_at (get_or values p 0) i == bit_at i p

all_values : all_below (λ p. all_below (is_value p) 64) 6 ≡ true
all_values = refl

-- the bits of the words of the values
values_bits : (p i : ℕ) → p < 6 → i < 64 → bit_at (get_or values p 0) i ≡ bit_at i p
values_bits p i few small = eqb-true _ _ (at_below (is_value p) 64 i (at_below (λ p. all_below (is_value p) 64) 6 p all_values few) small)

abbrev is_small : ℕ → Bool
is_small p = 18446744073709551616 - get_or values p 0 == suc (18446744073709551615 - get_or values p 0)

all_small : all_below is_small 6 ≡ true
all_small = refl

values_small : (p : ℕ) → p < 6 → get_or values p 0 < 2 ^ 64
values_small p few = let is = eqb-true _ _ (at_below is_small 6 p all_small few) in omega arith

value_is : (v : ℕ → Bool) (ns : List ℕ) (p n : ℕ) → length ns ≤ 6 → p < length ns → get_or ns p 0 ≡ n →
    bit_at (get_or values p 0) (index_of v ns) ≡ as_bit (v n)
value_is v ns p n few within at = values_bits p (index_of v ns) (omega arith) (index_small v ns few) ∙ bit_of_index v ns p within ∙ ap (λ k. as_bit (v k)) at

unlike : (b : Bool) → 1 - as_bit b ≡ as_bit (not b)
unlike true = refl
unlike false = refl

pub high_literal : (v : ℕ → Bool) (ns : List ℕ) (p : ℕ) (l : Literal) → length ns ≤ 6 → p < length ns → get_or ns p 0 ≡ l.node → l.high ≡ true →
    bit_at (get_or values p 0) (index_of v ns) ≡ as_bit (literal_holds v l)
high_literal v ns p l few within at up = value_is v ns p l.node few within at ∙ sym (ap (λ b. as_bit (cond b (v l.node) (not (v l.node)))) up)

pub low_literal : (v : ℕ → Bool) (ns : List ℕ) (p : ℕ) (l : Literal) → length ns ≤ 6 → p < length ns → get_or ns p 0 ≡ l.node → l.high ≡ false →
    bit_at (18446744073709551615 - get_or values p 0) (index_of v ns) ≡ as_bit (literal_holds v l)
low_literal v ns p l few within at low =
    bit_at_not w64 (get_or values p 0) (index_of v ns) (values_small p (omega arith)) (index_small v ns few)
    ∙ ap (λ b. 1 - b) (value_is v ns p l.node few within at) ∙ unlike (v l.node)
    ∙ sym (ap (λ b. as_bit (cond b (v l.node) (not (v l.node)))) low)

pub all_ones : (v : ℕ → Bool) (ns : List ℕ) → length ns ≤ 6 → bit_at 18446744073709551615 (index_of v ns) ≡ 1
all_ones v ns few = bit_at_ones 64 (index_of v ns) (index_small v ns few)

pub both_bits : (a b : Bool) → min (as_bit a) (as_bit b) ≡ as_bit (a && b)
both_bits true true = refl
both_bits true false = refl
both_bits false true = refl
both_bits false false = refl

either_bits : (a b : Bool) → max (as_bit a) (as_bit b) ≡ as_bit (a || b)
either_bits true true = refl
either_bits true false = refl
either_bits false true = refl
either_bits false false = refl

pub term_more : (v : ℕ → Bool) (t : List Literal) (k i word other : ℕ) (d : Literal) → k < length t →
    bit_at word i ≡ as_bit (term_holds v (take k t)) → bit_at other i ≡ as_bit (literal_holds v (get_or t k d)) →
    bit_at (bit_and word other) i ≡ as_bit (term_holds v (take (k + 1) t))
term_more v t k i word other d within before now =
    bit_at_and word other i ∙ ap (λ b. min b (bit_at other i)) before ∙ ap (min (as_bit (term_holds v (take k t)))) now
    ∙ both_bits (term_holds v (take k t)) (literal_holds v (get_or t k d))
    ∙ sym (ap as_bit (list_all_more (literal_holds v) t k d within))

pub guard_more : (v : ℕ → Bool) (g : GuardValue) (k i word other : ℕ) (t : List Literal) → k < length g → t ≡ get_or g k t →
    bit_at word i ≡ as_bit (guard_holds v (take k g)) → bit_at other i ≡ as_bit (term_holds v t) →
    bit_at (bit_or word other) i ≡ as_bit (guard_holds v (take (k + 1) g))
guard_more v g k i word other t within is before now =
    bit_at_or word other i ∙ ap (λ b. max b (bit_at other i)) before ∙ ap (max (as_bit (guard_holds v (take k g)))) now
    ∙ either_bits (guard_holds v (take k g)) (term_holds v t)
    ∙ ap (λ (x : List Literal). as_bit (guard_holds v (take k g) || term_holds v x)) is
    ∙ sym (ap as_bit (list_any_more (term_holds v) g k t within))

-- the test of one bit

pub tested : (word place : ℕ) (b : Bool) → bit_at word place ≡ as_bit b → (bit_at word place == 1) ≡ b
tested word place b is = ap (λ n. n == 1) is ∙ one_bit b
  where
    one_bit : (b : Bool) → (as_bit b == 1) ≡ b
    one_bit true = refl
    one_bit false = refl
