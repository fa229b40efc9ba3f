-- The index of the values of a few nodes: its bits, and how a turn of one node changes it.
use Rattle.std.proofs.Common.{◌≡◌, ℕ, zero, suc, ◌+◌, ◌*◌, ◌^◌, ◌/◌, ◌%◌, ◌<◌, ◌≤◌, Bool, true, false, not, List, [], ◌∷◌, length, get_or, drop, ◌-◌, refl, sym, ap, subst, ◌∙◌, arith}
use Rattle.std.specs.Prelude.{◌==◌}
use Rattle.std.specs.Int.{bit_at}
use Rattle.std.proofs.Math.Nat.{pow-succ'}
use Rattle.std.proofs.lemmas.Bool.{eqb-true, eqb-false}
use Rattle.std.proofs.lemmas.List.{get_or-set_same, get_or-set_other, drop_more, length-drop}
use mir.Val.{bool_byte}
use Rattle.std.proofs.lemmas.Nat.Bits.{bit_at_lowest, bit_at-suc}
use Rattle.prs_core.specs.Moves.{high, fired}
use Rattle.guard_rows.specs.Places.{as_bit, index_of, weight_of}

pub bit_small : (b : Bool) → as_bit b ≤ 1
bit_small true = omega arith
bit_small false = omega arith

pub index_lt : (v : ℕ → Bool) (ns : List ℕ) → index_of v ns < 2 ^ length ns
index_lt v [] = omega arith
index_lt v (n ∷ ns) = omega (arith, index_lt v ns, bit_small (v n), pow-succ' 2 (length ns))

pub power_small : (k : ℕ) → k ≤ 6 → 2 ^ k ≤ 64
power_small zero h = omega arith
power_small (suc zero) h = omega arith
power_small (suc (suc zero)) h = omega arith
power_small (suc (suc (suc zero))) h = omega arith
power_small (suc (suc (suc (suc zero)))) h = omega arith
power_small (suc (suc (suc (suc (suc zero))))) h = omega arith
power_small (suc (suc (suc (suc (suc (suc zero)))))) h = omega arith
power_small (suc (suc (suc (suc (suc (suc (suc k))))))) h = absurd (omega arith)

pub index_small : (v : ℕ → Bool) (ns : List ℕ) → length ns ≤ 6 → index_of v ns < 64
index_small v ns few = omega (arith, index_lt v ns, power_small (length ns) few)

halved : (b : Bool) (x : ℕ) → (as_bit b + 2 * x) / 2 ≡ x
halved true x = omega arith
halved false x = omega arith

lowest : (b : Bool) (x : ℕ) → (as_bit b + 2 * x) % 2 ≡ as_bit b
lowest true x = omega arith
lowest false x = omega arith

-- its bits are the values
pub bit_of_index : (v : ℕ → Bool) (ns : List ℕ) (p : ℕ) → p < length ns → bit_at (index_of v ns) p ≡ as_bit (v (get_or ns p 0))
bit_of_index v [] p h = absurd (omega arith)
bit_of_index v (n ∷ ns) zero h = bit_at_lowest (index_of v (n ∷ ns)) ∙ lowest (v n) (index_of v ns)
bit_of_index v (n ∷ ns) (suc p) h = bit_at-suc (index_of v (n ∷ ns)) p ∙ ap (λ x. bit_at x p) (halved (v n) (index_of v ns))
    ∙ bit_of_index v ns p (omega arith)

pub bit_raised : (values : List Bool) (m n : ℕ) → m < length values → high values m ≡ false →
    as_bit (high (fired values m) n) ≡ as_bit (high values n) + as_bit (n == m)
bit_raised values m n within low = by_test (n == m) refl
  where
    by_test : (b : Bool) → (n == m) ≡ b → as_bit (high (fired values m) n) ≡ as_bit (high values n) + as_bit b
    by_test true is = rw (eqb-true n m is) (ap as_bit (get_or-set_same values m (not (high values m)) false within ∙ ap not low)
        ∙ sym (ap (λ b. as_bit b + 1) low))
    by_test false is = ap as_bit (get_or-set_other values m n (not (high values m)) false (eqb-false n m is)) ∙ omega arith

pub index_raised : (values : List Bool) (m : ℕ) (ns : List ℕ) → m < length values → high values m ≡ false →
    index_of (high (fired values m)) ns ≡ index_of (high values) ns + weight_of m ns
index_raised values m [] within low = refl
index_raised values m (n ∷ ns) within low = omega (arith, bit_raised values m n within low, index_raised values m ns within low)

pub bit_lowered : (values : List Bool) (m n : ℕ) → m < length values → high values m ≡ true →
    as_bit (high (fired values m) n) + as_bit (n == m) ≡ as_bit (high values n)
bit_lowered values m n within up = by_test (n == m) refl
  where
    by_test : (b : Bool) → (n == m) ≡ b → as_bit (high (fired values m) n) + as_bit b ≡ as_bit (high values n)
    by_test true is = rw (eqb-true n m is) (ap (λ b. as_bit b + 1) (get_or-set_same values m (not (high values m)) false within ∙ ap not up)
        ∙ sym (ap as_bit up))
    by_test false is = ap (λ b. as_bit b + 0) (get_or-set_other values m n (not (high values m)) false (eqb-false n m is)) ∙ omega arith

pub index_lowered : (values : List Bool) (m : ℕ) (ns : List ℕ) → m < length values → high values m ≡ true →
    index_of (high (fired values m)) ns + weight_of m ns ≡ index_of (high values) ns
index_lowered values m [] within up = refl
index_lowered values m (n ∷ ns) within up = omega (arith, bit_lowered values m n within up, index_lowered values m ns within up)

-- the index that is worked out from the last of them to the first
pub index_more : (v : ℕ → Bool) (ns : List ℕ) (p : ℕ) → p < length ns →
    index_of v (drop p ns) ≡ as_bit (v (get_or ns p 0)) + 2 * index_of v (drop (p + 1) ns)
index_more v ns p within = ap (index_of v) (drop_more ns p 0 within)

pub byte_of : (b : Bool) → bool_byte b ≡ as_bit b
byte_of true = refl
byte_of false = refl

pub index_part : (v : ℕ → Bool) (ns : List ℕ) (p : ℕ) → length ns ≤ 6 → index_of v (drop p ns) < 64
index_part v ns p few = index_small v (drop p ns) (omega (arith, length-drop p ns))

pub record IsStep (v : ℕ → Bool) (ns : List ℕ) (place index : ℕ) : Type 0 where
  pub small : index < 64
  pub is : index ≡ index_of v (drop (place - 1) ns)

pub index_step : (v : ℕ → Bool) (ns : List ℕ) (place index : ℕ) → length ns ≤ 6 → 0 < place → place ≤ length ns → index ≡ index_of v (drop place ns) →
    IsStep v ns place (2 * index + as_bit (v (get_or ns (place - 1) 0)))
index_step v ns place index few some within is =
    let next : (place - 1) + 1 ≡ place = omega arith in
    let more : index_of v (drop (place - 1) ns) ≡ as_bit (v (get_or ns (place - 1) 0)) + 2 * index_of v (drop place ns) =
    subst (λ k. index_of v (drop (place - 1) ns) ≡ as_bit (v (get_or ns (place - 1) 0)) + 2 * index_of v (drop k ns)) next
    (index_more v ns (place - 1) (omega arith)) in
    record { small = omega (arith, more, is, index_part v ns (place - 1) few); is = omega (arith, more, is) }
