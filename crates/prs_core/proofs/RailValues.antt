-- The number on a list of rails, pair by pair.
use Rattle.std.proofs.Common.{◌≡◌, ℕ, zero, suc, ◌+◌, ◌*◌, ◌-◌, ◌<◌, ◌≤◌, ◌^◌, Bool, true, false, List, [], ◌∷◌, length, get_or, drop, Option, Some, None, refl, ap, ◌∙◌, pow-suc, arith}
use mathlib.Core.Bool.{beq}
use mir.Val.{bool_byte}
use Rattle.std.proofs.lemmas.List.{drop_more, drop_all}
use Rattle.prs_core.specs.Moves.{rail_value_of, bit_value, with_bit}

with_bit_none : (bit : Option ℕ) → with_bit bit None ≡ None
with_bit_none None = refl
with_bit_none (Some b) = refl

twice_suc : (k : ℕ) → 2 * suc k ≡ suc (suc (2 * k))
twice_suc k = omega arith

-- where the pairs from some pair on give no number, all of them give none
pub none_from : (v : ℕ → Bool) (k : ℕ) (rails : List ℕ) → rail_value_of v (drop (2 * k) rails) ≡ None → rail_value_of v rails ≡ None
none_from v zero rails e = e
none_from v (suc k) [] e = rw (twice_suc k) at e
none_from v (suc k) (t ∷ []) e = refl
none_from v (suc k) (t ∷ f ∷ rest) e =
    let e' = rw (twice_suc k) at e in
    ap (with_bit (bit_value (v t) (v f))) (none_from v k rest e') ∙ with_bit_none (bit_value (v t) (v f))

-- the pairs from k on are the pair k and those behind it
pub pair_more : (v : ℕ → Bool) (k : ℕ) (rails : List ℕ) → 2 * k + 1 < length rails →
    rail_value_of v (drop (2 * k) rails) ≡ with_bit (bit_value (v (get_or rails (2 * k) 0)) (v (get_or rails (2 * k + 1) 0)))
    (rail_value_of v (drop (2 * (k + 1)) rails))
pair_more v k rails within =
    let here : 2 * k < length rails = omega arith in
    let next : 2 * (k + 1) ≡ 2 * k + 1 + 1 = omega arith in
    rw (drop_more rails (2 * k) 0 here, drop_more rails (2 * k + 1) 0 within, next) refl

taken : (one other : Bool) (n : ℕ) → beq one other ≡ false → with_bit (bit_value one other) (Some n) ≡ Some (2 * n + bool_byte one)
taken true true n apart = absurd (cc apart)
taken true false n apart = ap Some (omega arith)
taken false true n apart = ap Some (omega arith)
taken false false n apart = absurd (cc apart)

refused : (one other : Bool) (rest : Option ℕ) → beq one other ≡ true → with_bit (bit_value one other) rest ≡ None
refused true true rest e = refl
refused true false rest e = absurd (cc e)
refused false true rest e = absurd (cc e)
refused false false rest e = refl

pub pair_taken : (v : ℕ → Bool) (k : ℕ) (rails : List ℕ) (one other : Bool) (n : ℕ) → 2 * k + 1 < length rails → one ≡ v (get_or rails (2 * k) 0) →
    other ≡ v (get_or rails (2 * k + 1) 0) → beq one other ≡ false → rail_value_of v (drop (2 * (k + 1)) rails) ≡ Some n →
    rail_value_of v (drop (2 * k) rails) ≡ Some (2 * n + bool_byte one)
pair_taken v k rails one other n within first second apart rest =
    rw (pair_more v k rails within, rest, ← first, ← second) (taken one other n apart)

pub pair_refused : (v : ℕ → Bool) (k : ℕ) (rails : List ℕ) (one other : Bool) → 2 * k + 1 < length rails → one ≡ v (get_or rails (2 * k) 0) →
    other ≡ v (get_or rails (2 * k + 1) 0) → beq one other ≡ true → rail_value_of v rails ≡ None
pair_refused v k rails one other within first second same =
    none_from v k rails (rw (pair_more v k rails within, ← first, ← second) (refused one other _ same))

-- behind the last pair nothing is left
pub nothing_left : (v : ℕ → Bool) (bits n : ℕ) (rails : List ℕ) → length rails ≡ 2 * bits → n ≡ bits → rail_value_of v (drop (2 * n) rails) ≡ Some 0
nothing_left v bits n rails count whole = ap (rail_value_of v) (drop_all (2 * n) rails (omega arith))

-- a further bit takes a further power of two
pub one_more_bit : (n bit byte : ℕ) → 0 < bit → bit ≤ 64 → byte ≤ 1 → n < 2 ^ (64 - bit) → 2 * n + byte < 2 ^ (64 - (bit - 1))
one_more_bit n bit byte some most small within =
    let e : 64 - (bit - 1) ≡ suc (64 - bit) = omega arith in
    rw (e, pow-suc) (omega arith)

pub byte_small : (b : Bool) → bool_byte b ≤ 1
byte_small true = omega arith
byte_small false = omega arith
