-- Facts of rails alone, for proofs that use the law of an expression.
use Rattle.std.specs.Prelude.{◌≡◌, ℕ, zero, suc, ◌<◌, Bool, true, false, not, ◌&&◌, Option, Some, None, is_some}
use Rattle.std.proofs.Common.{refl, sym, ap, ◌∙◌, arith}
use Rattle.prs_core.specs.Moves.{bit_value, with_bit}
use Rattle.prs_core.specs.Deciding.{left_of, right_of, both_of}
use Rattle.function_blocks.specs.Rails.{Rails, value_on, neutral_on}

-- each rail of the one is a rail of the other
abbrev pub Within : (rail out : Rails) → Type 0
Within rail out = (i : ℕ) (one : Bool) → rail i one ≡ true → out i one ≡ true

-- of no bit both rails are high
abbrev pub OneEach : Rails → Type 0
OneEach out = (i : ℕ) → out i true ≡ true → out i false ≡ true → ⊥

some_both : (b rest : Option ℕ) → is_some (with_bit b rest) ≡ true → (is_some b ≡ true) × (is_some rest ≡ true)
some_both (Some x) (Some y) h = (refl, refl)
some_both (Some x) None h = absurd (cc h)
some_both None rest h = absurd (cc h)

-- of a valid pair within another one that isn't twice high
pair_covers : (t f x y : Bool) → (t ≡ true → x ≡ true) → (f ≡ true → y ≡ true) → (x ≡ true → y ≡ true → ⊥)
    → is_some (bit_value t f) ≡ true → (x ≡ t) × (y ≡ f)
pair_covers true true x y p q n h = absurd (cc h)
pair_covers false false x y p q n h = absurd (cc h)
pair_covers true false true true p q n h = absurd (n refl refl)
pair_covers true false true false p q n h = (refl, refl)
pair_covers true false false y p q n h = absurd (cc (p refl))
pair_covers false true true true p q n h = absurd (n refl refl)
pair_covers false true false true p q n h = (refl, refl)
pair_covers false true x false p q n h = absurd (cc (q refl))

-- where rails within others say a number, the others say it too, and are no more
pub covered : (n : ℕ) (rail out : Rails) → Within rail out → OneEach out → is_some (value_on n rail) ≡ true
    → value_on n out ≡ value_on n rail
covered zero rail out w o h = refl
covered (suc n) rail out w o h =
    let both = some_both (bit_value (rail zero true) (rail zero false)) (value_on n (λ i. rail (suc i))) h in
    let pair = pair_covers (rail zero true) (rail zero false) (out zero true) (out zero false) (w zero true)
    (w zero false) (o zero) both.0 in
    ap (λ b. with_bit (bit_value b (out zero false)) (value_on n (λ i. out (suc i)))) pair.0
    ∙ (ap (λ b. with_bit (bit_value (rail zero true) b) (value_on n (λ i. out (suc i)))) pair.1
    ∙ ap (with_bit (bit_value (rail zero true) (rail zero false)))
    (covered n (λ i. rail (suc i)) (λ i. out (suc i)) (λ i one. w (suc i) one) (λ i. o (suc i)) both.1))

pub covers : (n : ℕ) (rail out : Rails) → Within rail out → OneEach out → is_some (value_on n rail) ≡ true
    → (i : ℕ) (one : Bool) → i < n → out i one ≡ true → rail i one ≡ true
covers zero rail out w o h i one l k = absurd (let g : ⊥ = omega (arith, l) in g)
covers (suc n) rail out w o h zero true l k = sym (pair_covers (rail zero true) (rail zero false) (out zero true)
    (out zero false) (w zero true) (w zero false) (o zero)
    (some_both (bit_value (rail zero true) (rail zero false)) (value_on n (λ i. rail (suc i))) h).0).0 ∙ k
covers (suc n) rail out w o h zero false l k = sym (pair_covers (rail zero true) (rail zero false) (out zero true)
    (out zero false) (w zero true) (w zero false) (o zero)
    (some_both (bit_value (rail zero true) (rail zero false)) (value_on n (λ i. rail (suc i))) h).0).1 ∙ k
covers (suc n) rail out w o h (suc i) one l k = covers n (λ i. rail (suc i)) (λ i. out (suc i)) (λ i one. w (suc i) one)
    (λ i. o (suc i)) (some_both (bit_value (rail zero true) (rail zero false)) (value_on n (λ i. rail (suc i))) h).1 i
    one (let g : i < n = omega (arith, l) in g) k

low_within : (a b : Bool) → (a ≡ true → b ≡ true) → not b ≡ true → not a ≡ true
low_within true b f h = absurd (cc (f refl, h))
low_within false b f h = refl

-- what is within low rails is low
pub emptied : (n : ℕ) (rail out : Rails) → Within out rail → neutral_on n rail ≡ true → neutral_on n out ≡ true
emptied zero rail out w h = refl
emptied (suc n) rail out w h =
    let here = left_of (not (rail zero true) && not (rail zero false)) (neutral_on n (λ i. rail (suc i))) h in
    both_of _ _ (both_of _ _ (low_within (out zero true) (rail zero true) (w zero true) (left_of _ _ here))
    (low_within (out zero false) (rail zero false) (w zero false) (right_of (not (rail zero true)) _ here)))
    (emptied n (λ i. rail (suc i)) (λ i. out (suc i)) (λ i one. w (suc i) one)
    (right_of (not (rail zero true) && not (rail zero false)) _ h))

pub lows_in : (n : ℕ) (out : Rails) → neutral_on n out ≡ true → (i : ℕ) (one : Bool) → i < n → out i one ≡ false
lows_in zero out h i one l = absurd (let g : ⊥ = omega (arith, l) in g)
lows_in (suc n) out h zero true l =
    low (out zero true) (left_of (not (out zero true)) _ (left_of (not (out zero true) && not (out zero false)) _ h))
  where
    low : (b : Bool) → not b ≡ true → b ≡ false
    low true h = absurd (cc h)
    low false h = refl
lows_in (suc n) out h zero false l =
    low (out zero false) (right_of (not (out zero true)) _ (left_of (not (out zero true) && not (out zero false)) _ h))
  where
    low : (b : Bool) → not b ≡ true → b ≡ false
    low true h = absurd (cc h)
    low false h = refl
lows_in (suc n) out h (suc i) one l = lows_in n (λ i. out (suc i))
    (right_of (not (out zero true) && not (out zero false)) _ h) i one (let g : i < n = omega (arith, l) in g)

-- rails that give a value of at least one bit aren't neutral
pub told_high : (n : ℕ) (out : Rails) → 0 < n → is_some (value_on n out) ≡ true → neutral_on n out ≡ false
told_high zero out p h = absurd (let g : ⊥ = omega (arith, p) in g)
told_high (suc n) out p h = pair (out zero true) (out zero false) (neutral_on n (λ i. out (suc i)))
    (some_both (bit_value (out zero true) (out zero false)) (value_on n (λ i. out (suc i))) h).0
  where
    pair : (t f r : Bool) → is_some (bit_value t f) ≡ true → ((not t && not f) && r) ≡ false
    pair true f r h = refl
    pair false true r h = refl
    pair false false r h = absurd (cc h)
