-- As many rules as nodes, and as many bits of a value as its width.
use Rattle.std.proofs.Common.{◌≡◌, ℕ, suc, ◌+◌, ◌-◌, ◌*◌, ◌≤◌, Bool, true, false, List, [], ◌∷◌, length, refl, sym, ap, ◌∙◌, arith}
use Rattle.std.proofs.lemmas.List.{length-append, length-map}
use Rattle.chp_syntax.specs.declared.tree.Op.{Op}
use Rattle.chp_syntax.specs.declared.tree.Op.TheVariants.{And, Or, Xor, Add, Sub, Eq, Ne, Lt, Le, Gt, Ge}
use Rattle.prs_core.specs.Pairs.{Pair, pair_at}
use Rattle.width_check.specs.declared.typed.Var.{Var}
use Rattle.width_check.specs.Processes.{Formula}
use Rattle.width_check.specs.Values.{width_of, is_comparison, IsWellFormed}
use Rattle.width_check.specs.Typing.{ReadsFrom}
use Rattle.handshake_expand.specs.Layout.{operator_size, formula_size}
use Rattle.function_blocks.specs.Gates.{all_one, some_one, odd_ones, carries, alike, bitwise, ripple, ripple_result, borrow_gates, borrows, conjunctions, all_of_bits, result_pairs, equality, operator_rules, operator_result}
use Rattle.function_blocks.specs.Expressions.{HasBits, formula_result, formula_rules}
use Rattle.function_blocks.specs.Parts.{BlockPart, fixed, read_bit, made, outs_of, block_parts}
use Rattle.function_blocks.specs.Listed.{placed, rules_listed}
use Rattle.function_blocks.proofs.PartSizes.{outs_length, parts_length, count_doubled}
use Rattle.function_blocks.proofs.ListedHolds.{result_put, formula_list}

results_length : (xs : List Pair) (from : ℕ) → length (result_pairs xs from) ≡ length xs
results_length [] from = refl
results_length (x ∷ xs) from = ap suc (results_length xs (from + 2))

ripples_length : (xs : List Pair) (from : ℕ) → length (ripple_result xs from) ≡ length xs
ripples_length [] from = refl
ripples_length (x ∷ xs) from = ap suc (ripples_length xs (from + 4))

-- gates bit by bit

bitwise_length : (f : List Bool → Bool) (xs ys : List Pair) → length ys ≡ length xs → length (bitwise f xs ys) ≡ 2 * length xs
bitwise_length f [] ys h = refl
bitwise_length f (x ∷ xs) [] h = absurd (omega (arith, h))
bitwise_length f (x ∷ xs) (y ∷ ys) h = let e : length (bitwise f xs ys) ≡ 2 * length xs = bitwise_length f xs ys (omega (arith, h)) in omega arith

borrows_length : (xs ys borrowed : List Pair) (from : ℕ) → length ys ≡ length xs → length (borrow_gates xs ys borrowed from) ≡ 2 * length xs
borrows_length [] ys borrowed from h = refl
borrows_length (x ∷ xs) [] borrowed from h = absurd (omega (arith, h))
borrows_length (x ∷ xs) (y ∷ ys) borrowed from h =
    let e : length (borrow_gates xs ys (pair_at from ∷ []) (from + 2)) ≡ 2 * length xs =
    borrows_length xs ys (pair_at from ∷ []) (from + 2) (omega (arith, h)) in
    omega arith

ripple_length : (carry : List Bool → Bool) (xs ys carried : List Pair) (from : ℕ) → length ys ≡ length xs → 1 ≤ length xs
    → length (ripple carry xs ys carried from) ≡ 4 * length xs - 2
ripple_length carry [] ys carried from h some = absurd (omega (arith, some))
ripple_length carry (x ∷ xs) [] carried from h some = absurd (omega (arith, h))
ripple_length carry (x ∷ []) (y ∷ []) carried from h some = refl
ripple_length carry (x ∷ []) (y ∷ z ∷ ys) carried from h some = absurd (omega (arith, h))
ripple_length carry (x ∷ w ∷ xs) (y ∷ []) carried from h some = absurd (omega (arith, h))
ripple_length carry (x ∷ w ∷ xs) (y ∷ z ∷ ys) carried from h some =
    let e : length (ripple carry (w ∷ xs) (z ∷ ys) (pair_at (from + 2) ∷ []) (from + 4)) ≡ 4 * length (w ∷ xs) - 2 =
    ripple_length carry (w ∷ xs) (z ∷ ys) (pair_at (from + 2) ∷ []) (from + 4) (omega (arith, h)) (omega arith) in
    omega arith

conjunctions_length : (p : Pair) (qs : List Pair) (from : ℕ) → length (conjunctions p qs from) ≡ 2 * length qs
conjunctions_length p [] from = refl
conjunctions_length p (q ∷ qs) from = let e : length (conjunctions (pair_at from) qs (from + 2)) ≡ 2 * length qs =
    conjunctions_length (pair_at from) qs (from + 2) in omega arith

all_length : (ps : List Pair) (from : ℕ) → length (all_of_bits ps from) ≡ 2 * (length ps - 1)
all_length [] from = refl
all_length (p ∷ ps) from = let e = conjunctions_length p ps from in omega (arith, e)

equality_length : (xs ys : List Pair) (from : ℕ) → length ys ≡ length xs → length (equality xs ys from) ≡ 4 * length xs - 2
equality_length xs ys from h =
    let parts : length (equality xs ys from) ≡ length (bitwise alike xs ys) + length (all_of_bits (result_pairs xs from) (from + 2 * length xs)) =
    length-append _ _ in
    let bits = bitwise_length alike xs ys h in
    let all = all_length (result_pairs xs from) (from + 2 * length xs) in
    let pairs = results_length xs from in
    omega (arith, parts, bits, all, pairs)

pub operator_length : (op : Op) (xs ys : List Pair) (from : ℕ) → length ys ≡ length xs → 1 ≤ length xs
    → length (operator_rules op xs ys from) ≡ operator_size op (length xs)
operator_length And xs ys from h some = bitwise_length all_one xs ys h
operator_length Or xs ys from h some = bitwise_length some_one xs ys h
operator_length Xor xs ys from h some = bitwise_length odd_ones xs ys h
operator_length Add xs ys from h some = ripple_length carries xs ys [] from h some
operator_length Sub xs ys from h some = ripple_length borrows xs ys [] from h some
operator_length Eq xs ys from h some = equality_length xs ys from h
operator_length Ne xs ys from h some = equality_length xs ys from h
operator_length Lt xs ys from h some = borrows_length xs ys [] from h
operator_length Ge xs ys from h some = borrows_length xs ys [] from h
operator_length Gt xs ys from h some = borrows_length ys xs [] from (sym h) ∙ ap (λ n. 2 * n) h
operator_length Le xs ys from h some = borrows_length ys xs [] from (sym h) ∙ ap (λ n. 2 * n) h

pub each_bit : (op : Op) (xs : List Pair) (from : ℕ) → is_comparison op ≡ false → length (operator_result op xs from) ≡ length xs
each_bit And xs from h = results_length xs from
each_bit Or xs from h = results_length xs from
each_bit Xor xs from h = results_length xs from
each_bit Add xs from h = ripples_length xs from
each_bit Sub xs from h = ripples_length xs from
each_bit Eq xs from h = absurd (cc h)
each_bit Ne xs from h = absurd (cc h)
each_bit Lt xs from h = absurd (cc h)
each_bit Le xs from h = absurd (cc h)
each_bit Gt xs from h = absurd (cc h)
each_bit Ge xs from h = absurd (cc h)

-- of an expression: two rules for each of its gates, and as many bits as outputs

rules_doubled : (bits : ℕ → List Pair) (request from : ℕ) (gs : List BlockPart) → length (rules_listed bits request from gs) ≡ 2 * length gs
rules_doubled bits request from [] = refl
rules_doubled bits request from (fixed true ∷ gs) = let e = rules_doubled bits request from gs in omega (arith, e)
rules_doubled bits request from (fixed false ∷ gs) = let e = rules_doubled bits request from gs in omega (arith, e)
rules_doubled bits request from (read_bit x i ∷ gs) = let e = rules_doubled bits request from gs in omega (arith, e)
rules_doubled bits request from (made f i more ∷ gs) = let e = rules_doubled bits request from gs in omega (arith, e)

pub result_length : (e : Formula) (from : ℕ) → IsWellFormed e → length (formula_result e from) ≡ width_of e
result_length e from h = ap length (result_put from e 0 from (omega arith) h) ∙ (length-map (outs_of e 0) (placed from) ∙ outs_length e 0 h)

pub rules_length : (vars : List Var) (bits : ℕ → List Pair) → HasBits vars bits → (e : Formula) (request from : ℕ) → IsWellFormed e → ReadsFrom vars e
    → length (formula_rules bits e request from) ≡ formula_size e
rules_length vars bits has e request from h r =
    ap length (formula_list vars bits has request from e 0 from (omega arith) h r)
    ∙ (rules_doubled bits request from (block_parts e 0) ∙ (ap (λ n. 2 * n) (parts_length e 0 h) ∙ sym (count_doubled e)))
