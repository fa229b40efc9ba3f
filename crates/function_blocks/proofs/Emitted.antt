-- Guards of gates and operators while they are made.
use Rattle.std.proofs.Common.{◌≡◌, ℕ, zero, suc, ◌+◌, ◌-◌, ◌*◌, ◌/◌, ◌%◌, ◌<◌, ◌≤◌, ◌==◌, Bool, true, false, List, [], ◌∷◌, ◌++◌, length, map, take, drop, get_or, refl, sym, ap, ◌∙◌, arith, append_assoc, length-drop}
use Rattle.std.specs.Prelude.{not, filter}
use Rattle.std.proofs.lemmas.List.{drop_more}
use Rattle.std.proofs.lemmas.Nat.{mul-le}
use Rattle.prs_core.specs.declared.rule.Literal.{Literal}
use Rattle.prs_core.specs.Nets.{NodeRules}
use Rattle.prs_core.specs.Pairs.{Pair, pair_at}
use Rattle.function_blocks.specs.Gates.{odd_ones, exclusive, minterm, table, gate, bitwise, ripple, borrow_gates, borrows, conjunctions, equality, all_of_bits, result_pairs, ripple_result, all_one, alike}
use Rattle.function_blocks.specs.Expressions.{constant_bit, constant_bits, read_rail, read_bits}
use Rattle.function_blocks.specs.Blocks.{bits_apart}

pub odd_more : (odd b : Bool) (more : List Bool) → exclusive odd (odd_ones (b ∷ more)) ≡ exclusive (exclusive odd b) (odd_ones more)
odd_more true true more = not_not (odd_ones more)
  where
    not_not : (b : Bool) → not (not b) ≡ b
    not_not true = refl
    not_not false = refl
odd_more true false more = refl
odd_more false true more = refl
odd_more false false more = refl

-- the one at a place, and those behind it
pub behind : {X : Type 0} (xs : List X) (i : ℕ) (x : X) → i < length xs → x ≡ get_or xs i x → drop i xs ≡ x ∷ drop (i + 1) xs
behind xs i x within is = drop_more xs i x within ∙ ap (λ y. y ∷ drop (i + 1) xs) (sym is)

-- two that were added one after the other
pub two_more : {X : Type 0} (made there now rest whole : List X) (a b : X) → made ++ a ∷ b ∷ rest ≡ whole → there ≡ made ++ a ∷ [] → now ≡ there ++ b ∷ []
    → now ++ rest ≡ whole
two_more made there now rest whole a b h there_is is =
    ap (λ l. l ++ rest) (is ∙ ap (λ l. l ++ b ∷ []) there_is)
    ∙ (append_assoc (made ++ a ∷ []) (b ∷ []) rest ∙ (append_assoc made (a ∷ []) (b ∷ rest) ∙ h))

pub bitwise_step : (f : List Bool → Bool) (left right : List Pair) (i : ℕ) (a b : Pair) (made now whole : List NodeRules) → i < length left
    → length right ≡ length left → a ≡ get_or left i a → b ≡ get_or right i b → made ++ bitwise f (drop i left) (drop i right) ≡ whole
    → now ≡ made ++ gate (a ∷ b ∷ []) f → now ++ bitwise f (drop (i + 1) left) (drop (i + 1) right) ≡ whole
bitwise_step f left right i a b made now whole within agree a_is b_is h is =
    let xs = behind left i a within a_is in
    let ys = behind right i b (omega (arith, within, agree)) b_is in
    let rest = bitwise f (drop (i + 1) left) (drop (i + 1) right) in
    ap (λ l. l ++ rest) is
    ∙ (append_assoc made (gate (a ∷ b ∷ []) f) rest
    ∙ (ap (λ l. made ++ bitwise f l (b ∷ drop (i + 1) right)) (sym xs) ∙ (ap (λ l. made ++ bitwise f (drop i left) l) (sym ys) ∙ h)))

-- the bits of a sum or a difference that stand below its top bit
pub ripple_step : (carry : List Bool → Bool) (left right : List Pair) (i node : ℕ) (a b : Pair) (carried : List Pair) (made now whole : List NodeRules)
    → i + 1 < length left → length right ≡ length left → a ≡ get_or left i a → b ≡ get_or right i b
    → made ++ ripple carry (drop i left) (drop i right) carried node ≡ whole
    → now ≡ made ++ (gate (a ∷ b ∷ carried) odd_ones ++ gate (a ∷ b ∷ carried) carry)
    → now ++ ripple carry (drop (i + 1) left) (drop (i + 1) right) (pair_at (node + 2) ∷ []) (node + 4) ≡ whole
ripple_step carry left right i node a b carried made now whole within agree a_is b_is h is =
    let xs = behind left i a (omega (arith, within)) a_is in
    let ys = behind right i b (omega (arith, within, agree)) b_is in
    let rest = ripple carry (drop (i + 1) left) (drop (i + 1) right) (pair_at (node + 2) ∷ []) (node + 4) in
    let g = gate (a ∷ b ∷ carried) odd_ones in
    let k = gate (a ∷ b ∷ carried) carry in
    ap (λ l. l ++ rest) is
    ∙ (append_assoc made (g ++ k) rest
    ∙ (ap (λ l. made ++ l) (append_assoc g k rest
    ∙ sym (below (drop (i + 1) left) (drop (i + 1) right) (omega (arith, length-drop (i + 1) left, within))
    (omega (arith, length-drop (i + 1) right, within, agree))))
    ∙ (ap (λ l. made ++ ripple carry l (b ∷ drop (i + 1) right) carried node) (sym xs)
    ∙ (ap (λ l. made ++ ripple carry (drop i left) l carried node) (sym ys) ∙ h))))
  where
    below : (us vs : List Pair) → 0 < length us → 0 < length vs → ripple carry (a ∷ us) (b ∷ vs) carried node ≡ gate (a ∷ b ∷ carried) odd_ones
        ++ (gate (a ∷ b ∷ carried) carry ++ ripple carry us vs (pair_at (node + 2) ∷ []) (node + 4))
    below [] vs u v = absurd (omega (arith, u))
    below (x ∷ us) [] u v = absurd (omega (arith, v))
    below (x ∷ us) (y ∷ vs) u v = refl

pub borrow_step : (left right : List Pair) (i node : ℕ) (a b : Pair) (borrowed : List Pair) (made now whole : List NodeRules) → i < length left
    → length right ≡ length left → a ≡ get_or left i a → b ≡ get_or right i b → made ++ borrow_gates (drop i left) (drop i right) borrowed node ≡ whole
    → now ≡ made ++ gate (a ∷ b ∷ borrowed) borrows → now ++ borrow_gates (drop (i + 1) left) (drop (i + 1) right) (pair_at node ∷ []) (node + 2) ≡ whole
borrow_step left right i node a b borrowed made now whole within agree a_is b_is h is =
    let xs = behind left i a within a_is in
    let ys = behind right i b (omega (arith, within, agree)) b_is in
    let rest = borrow_gates (drop (i + 1) left) (drop (i + 1) right) (pair_at node ∷ []) (node + 2) in
    ap (λ l. l ++ rest) is
    ∙ (append_assoc made (gate (a ∷ b ∷ borrowed) borrows) rest
    ∙ (ap (λ l. made ++ borrow_gates l (b ∷ drop (i + 1) right) borrowed node) (sym xs)
    ∙ (ap (λ l. made ++ borrow_gates (drop i left) l borrowed node) (sym ys) ∙ h)))

pub conjunction_step : (width from i node : ℕ) (all p : Pair) (made now whole : List NodeRules) → i < width → p ≡ pair_at (from + 2 * i)
    → made ++ conjunctions all (bits_apart 2 (width - i) (from + 2 * i)) node ≡ whole → now ≡ made ++ gate (all ∷ p ∷ []) all_one
    → now ++ conjunctions (pair_at node) (bits_apart 2 (width - (i + 1)) (from + 2 * (i + 1))) (node + 2) ≡ whole
conjunction_step width from i node all p made now whole within p_is h is =
    let left : width - i ≡ suc (width - (i + 1)) = omega (arith, within) in
    let at : from + 2 * (i + 1) ≡ from + 2 * i + 2 = omega arith in
    let rest = conjunctions (pair_at node) (bits_apart 2 (width - (i + 1)) (from + 2 * i + 2)) (node + 2) in
    ap (λ n. now ++ conjunctions (pair_at node) (bits_apart 2 (width - (i + 1)) n) (node + 2)) at
    ∙ (ap (λ l. l ++ rest) (is ∙ ap (λ q. made ++ gate (all ∷ q ∷ []) all_one) p_is)
    ∙ (append_assoc made (gate (all ∷ pair_at (from + 2 * i) ∷ []) all_one) rest
    ∙ (ap (λ n. made ++ conjunctions all (bits_apart 2 n (from + 2 * i)) node) (sym left) ∙ h)))

-- the bits of results

pub results_apart : (xs : List Pair) (from : ℕ) → result_pairs xs from ≡ bits_apart 2 (length xs) from
results_apart [] from = refl
results_apart (x ∷ xs) from = ap (λ ps. pair_at from ∷ ps) (results_apart xs (from + 2))

pub ripples_apart : (xs : List Pair) (from : ℕ) → ripple_result xs from ≡ bits_apart 4 (length xs) from
ripples_apart [] from = refl
ripples_apart (x ∷ xs) from = ap (λ ps. pair_at from ∷ ps) (ripples_apart xs (from + 4))

-- rows of truth tables

two_inputs : (n : ℕ) → n < 4 → drop n (table 2) ≡ ((n % 2 == 1) ∷ (n / 2 % 2 == 1) ∷ []) ∷ drop (n + 1) (table 2)
two_inputs zero l = refl
two_inputs (suc zero) l = refl
two_inputs (suc (suc zero)) l = refl
two_inputs (suc (suc (suc zero))) l = refl
two_inputs (suc (suc (suc (suc n)))) l = absurd (omega (arith, l))

three_inputs : (n : ℕ) → n < 8 → drop n (table 3) ≡ ((n % 2 == 1) ∷ (n / 2 % 2 == 1) ∷ (n / 4 % 2 == 1) ∷ []) ∷ drop (n + 1) (table 3)
three_inputs zero l = refl
three_inputs (suc zero) l = refl
three_inputs (suc (suc zero)) l = refl
three_inputs (suc (suc (suc zero))) l = refl
three_inputs (suc (suc (suc (suc zero)))) l = refl
three_inputs (suc (suc (suc (suc (suc zero))))) l = refl
three_inputs (suc (suc (suc (suc (suc (suc zero)))))) l = refl
three_inputs (suc (suc (suc (suc (suc (suc (suc zero))))))) l = refl
three_inputs (suc (suc (suc (suc (suc (suc (suc (suc n)))))))) l = absurd (omega (arith, l))

pub row_at : (inputs n : ℕ) → 2 ≤ inputs → inputs ≤ 3 → n < length (table inputs)
    → drop n (table inputs) ≡ take inputs ((n % 2 == 1) ∷ (n / 2 % 2 == 1) ∷ (n / 4 % 2 == 1) ∷ []) ∷ drop (n + 1) (table inputs)
row_at zero n h k l = absurd (omega (arith, h))
row_at (suc zero) n h k l = absurd (omega (arith, h))
row_at (suc (suc zero)) n h k l = two_inputs n l
row_at (suc (suc (suc zero))) n h k l = three_inputs n l
row_at (suc (suc (suc (suc m)))) n h k l = absurd (omega (arith, k))

pub rows_step : (ps : List Pair) (p : List Bool → Bool) (n : ℕ) (row : List Bool) (terms now whole : List (List Literal))
    → drop n (table (length ps)) ≡ row ∷ drop (n + 1) (table (length ps)) → terms ++ map (minterm ps) (filter p (drop n (table (length ps)))) ≡ whole
    → now ≡ terms ++ map (minterm ps) (filter p (row ∷ [])) → now ++ map (minterm ps) (filter p (drop (n + 1) (table (length ps)))) ≡ whole
rows_step ps p n row terms now whole at h is =
    let rest = drop (n + 1) (table (length ps)) in
    ap (λ l. l ++ map (minterm ps) (filter p rest)) is
    ∙ (append_assoc terms (map (minterm ps) (filter p (row ∷ []))) (map (minterm ps) (filter p rest))
    ∙ (ap (λ l. terms ++ l) (one (p row) rest refl) ∙ (ap (λ l. terms ++ map (minterm ps) (filter p l)) (sym at) ∙ h)))
  where
    one : (b : Bool) (rest : List (List Bool)) → p row ≡ b → map (minterm ps) (filter p (row ∷ [])) ++ map (minterm ps) (filter p rest) ≡ map (minterm ps)
        (filter p (row ∷ rest))
    one true rest e = grind (arith, e)
    one false rest e = grind (arith, e)

-- constants and what is read

pub constant_step : (request width i value : ℕ) (made now whole : List NodeRules) → i < width → made ++ constant_bits request (width - i) value ≡ whole
    → now ≡ made ++ constant_bit request (value % 2 == 1) → now ++ constant_bits request (width - (i + 1)) (value / 2) ≡ whole
constant_step request width i value made now whole within h is =
    let left : width - i ≡ suc (width - (i + 1)) = omega (arith, within) in
    ap (λ l. l ++ constant_bits request (width - (i + 1)) (value / 2)) is
    ∙ (append_assoc made (constant_bit request (value % 2 == 1)) (constant_bits request (width - (i + 1)) (value / 2))
    ∙ (ap (λ n. made ++ constant_bits request n value) (sym left) ∙ h))

pub reading_step : (request first high bit : ℕ) (made there now whole : List NodeRules) → bit < high + 1
    → made ++ read_bits request (bits_apart 5 (high + 1 - bit) (first + 5 * bit)) ≡ whole → there ≡ made ++ read_rail request (first + 5 * bit) ∷ []
    → now ≡ there ++ read_rail request (first + 5 * bit + 1) ∷ []
    → now ++ read_bits request (bits_apart 5 (high + 1 - (bit + 1)) (first + 5 * (bit + 1))) ≡ whole
reading_step request first high bit made there now whole within h there_is is =
    let left : high + 1 - bit ≡ suc (high + 1 - (bit + 1)) = omega (arith, within) in
    let at : first + 5 * (bit + 1) ≡ first + 5 * bit + 5 = omega arith in
    let rest = read_bits request (bits_apart 5 (high + 1 - (bit + 1)) (first + 5 * bit + 5)) in
    ap (λ n. now ++ read_bits request (bits_apart 5 (high + 1 - (bit + 1)) n)) at
    ∙ (ap (λ l. l ++ rest) (is ∙ ap (λ l. l ++ read_rail request (first + 5 * bit + 1) ∷ []) there_is)
    ∙ (append_assoc (made ++ read_rail request (first + 5 * bit) ∷ []) (read_rail request (first + 5 * bit + 1) ∷ []) rest
    ∙ (append_assoc made (read_rail request (first + 5 * bit) ∷ []) (read_rail request (first + 5 * bit + 1) ∷ rest)
    ∙ (ap (λ n. made ++ read_bits request (bits_apart 5 n (first + 5 * bit))) (sym left) ∙ h))))

pub equality_begin : (left right : List Pair) (from : ℕ) (all : Pair) (old made : List NodeRules) → 1 ≤ length left
    → made ≡ old ++ bitwise alike left right → all ≡ pair_at from
    → made ++ conjunctions all (bits_apart 2 (length left - 1) (from + 2)) (from + 2 * length left) ≡ old ++ equality left right from
equality_begin left right from all old made some made_is all_is =
    let n = from + 2 * length left in
    let places = bits_apart 2 (length left - 1) (from + 2) in
    ap (λ l. l ++ conjunctions all places n) made_is
    ∙ (append_assoc old (bitwise alike left right) (conjunctions all places n)
    ∙ (ap (λ p. old ++ (bitwise alike left right ++ conjunctions p places n)) all_is
    ∙ ap (λ l. old ++ (bitwise alike left right ++ l)) (front left some)))
  where
    front : (us : List Pair) → 1 ≤ length us → conjunctions (pair_at from) (bits_apart 2 (length us - 1) (from + 2)) (from + 2 * length left) ≡ all_of_bits
        (result_pairs us from) (from + 2 * length left)
    front [] h = absurd (omega (arith, h))
    front (u ∷ us) h =
        let count : length (u ∷ us) - 1 ≡ length us = omega arith in
        ap (λ ps. conjunctions (pair_at from) ps (from + 2 * length left)) (ap (λ k. bits_apart 2 k (from + 2)) count ∙ sym (results_apart us (from + 2)))

pub step_fits : (step place count : ℕ) → place < count → step * place + step ≤ step * count
step_fits step place count h =
    let most : step * (place + 1) ≤ step * count = mul-le step (place + 1) step count (omega arith) (omega (arith, h)) in
    let more : step * (place + 1) ≡ step * place + step = grind arith in
    omega (arith, most, more)

pub apart_step : (step count from i : ℕ) (p : Pair) (made now whole : List Pair) → i < count → made ++ bits_apart step (count - i) (from + step * i) ≡ whole
    → p ≡ pair_at (from + step * i) → now ≡ made ++ p ∷ [] → now ++ bits_apart step (count - (i + 1)) (from + step * (i + 1)) ≡ whole
apart_step step count from i p made now whole within h p_is is =
    let left : count - i ≡ suc (count - (i + 1)) = omega (arith, within) in
    let at : from + step * (i + 1) ≡ from + step * i + step = grind arith in
    ap (λ n. now ++ bits_apart step (count - (i + 1)) n) at
    ∙ (ap (λ l. l ++ bits_apart step (count - (i + 1)) (from + step * i + step)) (is ∙ ap (λ q. made ++ q ∷ []) p_is)
    ∙ (append_assoc made (pair_at (from + step * i) ∷ []) (bits_apart step (count - (i + 1)) (from + step * i + step))
    ∙ (ap (λ n. made ++ bits_apart step n (from + step * i)) (sym left) ∙ h)))
