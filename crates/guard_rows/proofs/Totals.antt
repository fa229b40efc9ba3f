-- Sums of weights, one edge more.
use Rattle.std.proofs.Common.{◌≡◌, ℕ, zero, suc, ◌+◌, ◌*◌, ◌^◌, ◌-◌, ◌<◌, ◌≤◌, Bool, true, false, cond, List, [], ◌∷◌, ◌++◌, length, get_or, set, take, refl, sym, ap, subst, ◌∙◌, arith}
use Rattle.std.specs.Prelude.{◌==◌}
use Rattle.std.proofs.Math.Nat.{pow-succ', pow-suc}
use Rattle.std.proofs.lemmas.List.{take_more, get_or-set_same, get_or-set_other, length-take-le}
use Rattle.std.proofs.lemmas.Bool.{eqb-true, eqb-false, eq-eqb}
use Rattle.std.proofs.lemmas.List.Elements.{All-get_or}
use Rattle.std.specs.Prelude.{All}
use Rattle.guard_rows.specs.Places.{as_bit, index_of, weight_of, total_to}

pub total_push : (r : ℕ) (es : List (ℕ × ℕ)) (e : ℕ × ℕ) → total_to r (es ++ e ∷ []) ≡ total_to r es + cond (e.0 == r) e.1 0
total_push r [] e = omega arith
total_push r (x ∷ es) e = omega (arith, total_push r es e)

pub total_more : (r : ℕ) (es : List (ℕ × ℕ)) (i : ℕ) → i < length es →
    total_to r (take (i + 1) es) ≡ total_to r (take i es) + cond ((get_or es i (0, 0)).0 == r) (get_or es i (0, 0)).1 0
total_more r es i within = ap (total_to r) (take_more es i (0, 0) within) ∙ total_push r (take i es) (get_or es i (0, 0))

pub total_part : (r : ℕ) (es : List (ℕ × ℕ)) (i : ℕ) → total_to r (take i es) ≤ total_to r es
total_part r es zero = omega arith
total_part r [] (suc i) = omega arith
total_part r (e ∷ es) (suc i) = omega (arith, total_part r es i)

pub weight_push : (m : ℕ) (ns : List ℕ) (n : ℕ) → weight_of m (ns ++ n ∷ []) ≡ weight_of m ns + 2 ^ length ns * as_bit (n == m)
weight_push m [] n = omega arith
weight_push m (k ∷ ns) n = doubled (as_bit (k == m)) (weight_of m ns) (2 ^ length ns) (as_bit (n == m)) (weight_of m (ns ++ n ∷ [])) (2 ^ suc (length ns))
    (pow-succ' 2 (length ns)) (weight_push m ns n)
  where
    doubled : (a b p c w q : ℕ) → q ≡ 2 * p → w ≡ b + p * c → a + 2 * w ≡ a + 2 * b + q * c
    doubled a b p c w q twice is = rw (twice, is) (grind (arith))

pub weight_more : (m : ℕ) (ns : List ℕ) (i : ℕ) → i < length ns →
    weight_of m (take (i + 1) ns) ≡ weight_of m (take i ns) + 2 ^ i * as_bit (get_or ns i 0 == m)
weight_more m ns i within = ap (weight_of m) (take_more ns i 0 within) ∙ weight_push m (take i ns) (get_or ns i 0)
    ∙ ap (λ k. weight_of m (take i ns) + 2 ^ k * as_bit (get_or ns i 0 == m)) (length-take-le i ns (omega arith))

-- more weight to one edge
pub total_set : (r : ℕ) (es : List (ℕ × ℕ)) (i weight : ℕ) → i < length es →
    total_to r (set es i ((get_or es i (0, 0)).0, (get_or es i (0, 0)).1 + weight)) ≡ total_to r es + cond ((get_or es i (0, 0)).0 == r) weight 0
total_set r [] i weight within = absurd (omega arith)
total_set r (e ∷ es) zero weight within = by_test (e.0 == r)
  where
    by_test : (b : Bool) → cond b (e.1 + weight) 0 + total_to r es ≡ cond b e.1 0 + total_to r es + cond b weight 0
    by_test true = omega arith
    by_test false = omega arith
total_set r (e ∷ es) (suc i) weight within = omega (arith, total_set r es i weight (omega arith))

-- one edge weighs no more than all
pub one_weight : (r : ℕ) (es : List (ℕ × ℕ)) (i : ℕ) → i < length es → (get_or es i (0, 0)).0 ≡ r → (get_or es i (0, 0)).1 ≤ total_to r es
one_weight r [] i within here = absurd (omega arith)
one_weight r (e ∷ es) zero within here = omega (arith, ap (λ b. cond b e.1 0) (eq-eqb e.0 r here))
one_weight r (e ∷ es) (suc i) within here = omega (arith, one_weight r es i (omega arith) here)

-- no place weighs more than its inputs allow
pub weight_small : (m : ℕ) (ns : List ℕ) → weight_of m ns ≡ index_of (λ n. n == m) ns
weight_small m [] = refl
weight_small m (n ∷ ns) = ap (λ k. as_bit (n == m) + 2 * k) (weight_small m ns)

pub power_more : (i : ℕ) → 2 ^ i * 2 ≡ 2 ^ (i + 1)
power_more i = sym (pow-suc 2 i) ∙ ap (λ k. 2 ^ k) (omega arith)

own : (r w : ℕ) → cond (r == r) w 0 ≡ w
own r w = ap (λ b. cond b w 0) (eq-eqb r r refl)

-- one edge after the other raises the place of its row

pub raise_fits : (was now : List ℕ) (es : List (ℕ × ℕ)) (i : ℕ) → All (λ (e : ℕ × ℕ). e.0 < length was) es → i < length es →
    ((r : ℕ) → r < length was → get_or was r 0 + total_to r es < 2 ^ 32) →
    ((r : ℕ) → r < length was → get_or now r 0 ≡ get_or was r 0 + total_to r (take i es)) →
    get_or now (get_or es i (0, 0)).0 0 + (get_or es i (0, 0)).1 < 2 ^ 32
raise_fits was now es i within inside room before =
    let e = get_or es i (0, 0) in
    let row = All-get_or (λ (e : ℕ × ℕ). e.0 < length was) es i (0, 0) inside within in
    omega (arith, before e.0 row, room e.0 row, total_more e.0 es i inside, own e.0 e.1, total_part e.0 es (i + 1))

pub raise_more : (was now : List ℕ) (es : List (ℕ × ℕ)) (i r : ℕ) → All (λ (e : ℕ × ℕ). e.0 < length was) es → i < length es →
    length now ≡ length was → r < length was → get_or now r 0 ≡ get_or was r 0 + total_to r (take i es) →
    get_or (set now (get_or es i (0, 0)).0 (get_or now (get_or es i (0, 0)).0 0 + (get_or es i (0, 0)).1)) r 0 ≡
    get_or was r 0 + total_to r (take (i + 1) es)
raise_more was now es i r within inside count row before = by_test (e.0 == r) refl
  where
    e : ℕ × ℕ
    e = get_or es i (0, 0)

    by_test : (b : Bool) → (e.0 == r) ≡ b →
        get_or (set now e.0 (get_or now e.0 0 + e.1)) r 0 ≡ get_or was r 0 + total_to r (take (i + 1) es)
    by_test true is =
        let here : e.0 ≡ r = eqb-true e.0 r is in
        let set_here = get_or-set_same now r (get_or now r 0 + e.1) 0 (omega (arith, count)) in
        subst (λ k. get_or (set now k (get_or now k 0 + e.1)) r 0 ≡ get_or was r 0 + total_to r (take (i + 1) es)) (sym here)
        (set_here ∙ omega (arith, before, total_more r es i inside, ap (λ b. cond b e.1 0) is))
    by_test false is =
        get_or-set_other now e.0 r (get_or now e.0 0 + e.1) 0 (λ k. eqb-false e.0 r is (sym k))
        ∙ omega (arith, before, total_more r es i inside, ap (λ b. cond b e.1 0) is)

-- and lowers it

pub lower_fits : (was now : List ℕ) (es : List (ℕ × ℕ)) (i : ℕ) → All (λ (e : ℕ × ℕ). e.0 < length was) es → i < length es →
    ((r : ℕ) → r < length was → total_to r es ≤ get_or was r 0) →
    ((r : ℕ) → r < length was → get_or now r 0 + total_to r (take i es) ≡ get_or was r 0) →
    (get_or es i (0, 0)).1 ≤ get_or now (get_or es i (0, 0)).0 0
lower_fits was now es i within inside room before =
    let e = get_or es i (0, 0) in
    let row = All-get_or (λ (e : ℕ × ℕ). e.0 < length was) es i (0, 0) inside within in
    omega (arith, before e.0 row, room e.0 row, total_more e.0 es i inside, own e.0 e.1, total_part e.0 es (i + 1))

pub lower_more : (was now : List ℕ) (es : List (ℕ × ℕ)) (i r : ℕ) → All (λ (e : ℕ × ℕ). e.0 < length was) es → i < length es →
    length now ≡ length was → r < length was → (get_or es i (0, 0)).1 ≤ get_or now (get_or es i (0, 0)).0 0 →
    get_or now r 0 + total_to r (take i es) ≡ get_or was r 0 →
    get_or (set now (get_or es i (0, 0)).0 (get_or now (get_or es i (0, 0)).0 0 - (get_or es i (0, 0)).1)) r 0
    + total_to r (take (i + 1) es) ≡ get_or was r 0
lower_more was now es i r within inside count row fits before = by_test (e.0 == r) refl
  where
    e : ℕ × ℕ
    e = get_or es i (0, 0)

    by_test : (b : Bool) → (e.0 == r) ≡ b →
        get_or (set now e.0 (get_or now e.0 0 - e.1)) r 0 + total_to r (take (i + 1) es) ≡ get_or was r 0
    by_test true is =
        let here : e.0 ≡ r = eqb-true e.0 r is in
        let enough : e.1 ≤ get_or now r 0 = subst (λ k. e.1 ≤ get_or now k 0) here fits in
        let set_here = get_or-set_same now r (get_or now r 0 - e.1) 0 (omega (arith, count)) in
        subst (λ k. get_or (set now k (get_or now k 0 - e.1)) r 0 + total_to r (take (i + 1) es) ≡ get_or was r 0) (sym here)
        (omega (arith, set_here, enough, before, total_more r es i inside, ap (λ b. cond b e.1 0) is))
    by_test false is =
        let set_there = get_or-set_other now e.0 r (get_or now e.0 0 - e.1) 0 (λ k. eqb-false e.0 r is (sym k)) in
        omega (arith, set_there, before, total_more r es i inside, ap (λ b. cond b e.1 0) is)
