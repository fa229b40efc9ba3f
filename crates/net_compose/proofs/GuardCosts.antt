-- How many literals the guards of gates, cells and expressions have.
use Rattle.std.proofs.Common.{◌≡◌, ℕ, zero, suc, ◌+◌, ◌*◌, ◌/◌, ◌%◌, ◌≤◌, Bool, true, false, List, [], ◌∷◌, ◌++◌, map, length, refl, arith, length-append}
use Rattle.std.specs.Prelude.{not, ◌==◌, filter, replicate, sum_by}
use Rattle.std.proofs.lemmas.List.{length-map}
use Rattle.std.proofs.lemmas.List.Sums.{sum_by-append}
use Rattle.std.proofs.lemmas.List.Filters.{length-filter_both}
use Rattle.chp_syntax.specs.declared.tree.Op.{Op}
use Rattle.chp_syntax.specs.declared.tree.Op.TheVariants.{And, Or, Xor, Add, Sub, Eq, Ne, Lt, Le, Gt, Ge}
use Rattle.prs_core.specs.declared.rule.Literal.{Literal}
use Rattle.prs_core.specs.Nets.{GuardValue, NodeRules, guard_literals, is_high}
use Rattle.prs_core.specs.Pairs.{Pair, pair_at, no_rules, or_of, lows}
use Rattle.width_check.specs.Processes.{Formula, constant, reading, joined, inverted, chained, compared, Formulas, no_parts, and_part, Operations, no_operations, and_operation}
use Rattle.width_check.specs.Values.{width_of, widths_of, IsWellFormed, AreWellFormed}
use Rattle.width_check.proofs.Bounds.{width_some}
use Rattle.handshake_expand.specs.Layout.{operator_size, formula_size, parts_size}
use Rattle.cell_parallel.specs.Trees.{level_rules, next_level, levels_rules, tree_rules}
use Rattle.function_blocks.specs.Gates.{table, minterm, gate, all_one, some_one, odd_ones, carries, borrows, alike, bitwise, ripple, borrow_gates, conjunctions, all_of_bits, equality, result_pairs, operator_rules, operator_result}
use Rattle.function_blocks.specs.Expressions.{constant_bit, constant_bits, read_bits, bits_between, formula_result, formula_rules, joined_rules, chained_rules}

-- the literals of a guard, of a node's two guards, and of the guards of some nodes
abbrev pub literals_in : GuardValue → ℕ
literals_in [] = 0
literals_in (t ∷ g) = length t + literals_in g

abbrev pub cost : List NodeRules → ℕ
cost [] = 0
cost (r ∷ rs) = literals_in r.up + literals_in r.down + cost rs

pub cost-append : (rs ss : List NodeRules) → cost (rs ++ ss) ≡ cost rs + cost ss
cost-append [] ss = omega arith
cost-append (r ∷ rs) ss = let e = cost-append rs ss in omega (arith, e)

literals_are : (g : GuardValue) → guard_literals g ≡ literals_in g
literals_are [] = refl
literals_are (t ∷ g) =
    let e : guard_literals (t ∷ g) ≡ 0 + length t + guard_literals g = sum_by-append (λ (t : List Literal). length t) (t ∷ []) g in
    let r = literals_are g in
    omega (arith, e, r)

-- as a net counts them
pub net_cost : (rs : List NodeRules) → sum_by guard_literals (map (λ (r : NodeRules). r.up) rs) + sum_by guard_literals (map (λ (r : NodeRules). r.down) rs) ≡
    cost rs
net_cost [] = refl
net_cost (r ∷ rs) =
    let ups : sum_by guard_literals (map (λ (r : NodeRules). r.up) (r ∷ rs)) ≡ 0 + guard_literals r.up +
    sum_by guard_literals (map (λ (r : NodeRules). r.up) rs) = sum_by-append guard_literals (r.up ∷ []) (map (λ (r : NodeRules). r.up) rs) in
    let downs : sum_by guard_literals (map (λ (r : NodeRules). r.down) (r ∷ rs)) ≡ 0 + guard_literals r.down +
    sum_by guard_literals (map (λ (r : NodeRules). r.down) rs) = sum_by-append guard_literals (r.down ∷ []) (map (λ (r : NodeRules). r.down) rs) in
    let up = literals_are r.up in
    let down = literals_are r.down in
    let rest = net_cost rs in
    omega (arith, ups, downs, up, down, rest)

-- at most 30 for each node
abbrev pub Cheap : List NodeRules → Type 0
Cheap rs = cost rs ≤ 30 * length rs

pub cheap-append : (rs ss : List NodeRules) → Cheap rs → Cheap ss → Cheap (rs ++ ss)
cheap-append rs ss h k =
    let e = cost-append rs ss in
    let n : length (rs ++ ss) ≡ length rs + length ss = length-append rs ss in
    omega (arith, e, n, h, k)

-- gates

minterm_length : (ps : List Pair) (row : List Bool) → length (minterm ps row) ≤ length ps
minterm_length [] row = omega arith
minterm_length (p ∷ ps) [] = omega arith
minterm_length (p ∷ ps) (b ∷ bs) = let e = minterm_length ps bs in omega (arith, e)

rows_of_two : (a b : Pair) (rows : List (List Bool)) → literals_in (map (minterm (a ∷ b ∷ [])) rows) ≤ 2 * length rows
rows_of_two a b [] = omega arith
rows_of_two a b (row ∷ rows) =
    let one : length (minterm (a ∷ b ∷ []) row) ≤ 2 = minterm_length (a ∷ b ∷ []) row in
    let rest = rows_of_two a b rows in
    omega (arith, one, rest)

rows_of_three : (a b c : Pair) (rows : List (List Bool)) → literals_in (map (minterm (a ∷ b ∷ c ∷ [])) rows) ≤ 3 * length rows
rows_of_three a b c [] = omega arith
rows_of_three a b c (row ∷ rows) =
    let one : length (minterm (a ∷ b ∷ c ∷ []) row) ≤ 3 = minterm_length (a ∷ b ∷ c ∷ []) row in
    let rest = rows_of_three a b c rows in
    omega (arith, one, rest)

two_cheap : (a b : Pair) (f : List Bool → Bool) → Cheap (gate (a ∷ b ∷ []) f)
two_cheap a b f =
    let both : length (filter f (table 2)) + length (filter (λ row. not (f row)) (table 2)) ≡ 4 =
    length-filter_both f (λ row. not (f row)) (λ row. refl) (table 2) in
    let t = rows_of_two a b (filter f (table 2)) in
    let u = rows_of_two a b (filter (λ row. not (f row)) (table 2)) in
    let whole : cost (gate (a ∷ b ∷ []) f) ≡ literals_in (map (minterm (a ∷ b ∷ [])) (filter f (table 2))) + 4 +
    (literals_in (map (minterm (a ∷ b ∷ [])) (filter (λ row. not (f row)) (table 2))) + 4 + 0) = refl in
    omega (arith, both, t, u, whole)

three_cheap : (a b c : Pair) (f : List Bool → Bool) → Cheap (gate (a ∷ b ∷ c ∷ []) f)
three_cheap a b c f =
    let both : length (filter f (table 3)) + length (filter (λ row. not (f row)) (table 3)) ≡ 8 =
    length-filter_both f (λ row. not (f row)) (λ row. refl) (table 3) in
    let t = rows_of_three a b c (filter f (table 3)) in
    let u = rows_of_three a b c (filter (λ row. not (f row)) (table 3)) in
    let whole : cost (gate (a ∷ b ∷ c ∷ []) f) ≡ literals_in (map (minterm (a ∷ b ∷ c ∷ [])) (filter f (table 3))) + 6 +
    (literals_in (map (minterm (a ∷ b ∷ c ∷ [])) (filter (λ row. not (f row)) (table 3))) + 6 + 0) = refl in
    omega (arith, both, t, u, whole)

-- of two bits, and of what is carried from below
carrying_cheap : (a b : Pair) (carried : List Pair) (f : List Bool → Bool) → length carried ≤ 1 → Cheap (gate (a ∷ b ∷ carried) f)
carrying_cheap a b [] f few = two_cheap a b f
carrying_cheap a b (c ∷ []) f few = three_cheap a b c f
carrying_cheap a b (c ∷ d ∷ more) f few = absurd (omega (arith, few))

bitwise_cheap : (f : List Bool → Bool) (xs ys : List Pair) → Cheap (bitwise f xs ys)
bitwise_cheap f [] ys = omega arith
bitwise_cheap f (x ∷ xs) [] = omega arith
bitwise_cheap f (x ∷ xs) (y ∷ ys) = cheap-append (gate (x ∷ y ∷ []) f) (bitwise f xs ys) (two_cheap x y f) (bitwise_cheap f xs ys)

ripple_cheap : (carry : List Bool → Bool) (xs ys carried : List Pair) (from : ℕ) → length carried ≤ 1 → Cheap (ripple carry xs ys carried from)
ripple_cheap carry [] ys carried from few = omega arith
ripple_cheap carry (x ∷ []) [] carried from few = omega arith
ripple_cheap carry (x ∷ w ∷ xs) [] carried from few = omega arith
ripple_cheap carry (x ∷ []) (y ∷ []) carried from few = carrying_cheap x y carried odd_ones few
ripple_cheap carry (x ∷ []) (y ∷ z ∷ ys) carried from few =
    cheap-append (gate (x ∷ y ∷ carried) odd_ones) (gate (x ∷ y ∷ carried) carry ++ ripple carry [] (z ∷ ys) (pair_at (from + 2) ∷ []) (from + 4))
    (carrying_cheap x y carried odd_ones few)
    (cheap-append (gate (x ∷ y ∷ carried) carry) (ripple carry [] (z ∷ ys) (pair_at (from + 2) ∷ []) (from + 4)) (carrying_cheap x y carried carry few)
    (ripple_cheap carry [] (z ∷ ys) (pair_at (from + 2) ∷ []) (from + 4) (omega arith)))
ripple_cheap carry (x ∷ w ∷ xs) (y ∷ ys) carried from few =
    cheap-append (gate (x ∷ y ∷ carried) odd_ones) (gate (x ∷ y ∷ carried) carry ++ ripple carry (w ∷ xs) ys (pair_at (from + 2) ∷ []) (from + 4))
    (carrying_cheap x y carried odd_ones few)
    (cheap-append (gate (x ∷ y ∷ carried) carry) (ripple carry (w ∷ xs) ys (pair_at (from + 2) ∷ []) (from + 4)) (carrying_cheap x y carried carry few)
    (ripple_cheap carry (w ∷ xs) ys (pair_at (from + 2) ∷ []) (from + 4) (omega arith)))

borrows_cheap : (xs ys borrowed : List Pair) (from : ℕ) → length borrowed ≤ 1 → Cheap (borrow_gates xs ys borrowed from)
borrows_cheap [] ys borrowed from few = omega arith
borrows_cheap (x ∷ xs) [] borrowed from few = omega arith
borrows_cheap (x ∷ xs) (y ∷ ys) borrowed from few =
    cheap-append (gate (x ∷ y ∷ borrowed) borrows) (borrow_gates xs ys (pair_at from ∷ []) (from + 2)) (carrying_cheap x y borrowed borrows few)
    (borrows_cheap xs ys (pair_at from ∷ []) (from + 2) (omega arith))

conjunctions_cheap : (p : Pair) (qs : List Pair) (from : ℕ) → Cheap (conjunctions p qs from)
conjunctions_cheap p [] from = omega arith
conjunctions_cheap p (q ∷ qs) from = cheap-append (gate (p ∷ q ∷ []) all_one) (conjunctions (pair_at from) qs (from + 2)) (two_cheap p q all_one)
    (conjunctions_cheap (pair_at from) qs (from + 2))

all_cheap : (ps : List Pair) (from : ℕ) → Cheap (all_of_bits ps from)
all_cheap [] from = omega arith
all_cheap (p ∷ ps) from = conjunctions_cheap p ps from

equality_cheap : (xs ys : List Pair) (from : ℕ) → Cheap (equality xs ys from)
equality_cheap xs ys from = cheap-append (bitwise alike xs ys) (all_of_bits (result_pairs xs from) (from + 2 * length xs)) (bitwise_cheap alike xs ys)
    (all_cheap (result_pairs xs from) (from + 2 * length xs))

operator_cheap : (op : Op) (xs ys : List Pair) (from : ℕ) → Cheap (operator_rules op xs ys from)
operator_cheap And xs ys from = bitwise_cheap all_one xs ys
operator_cheap Or xs ys from = bitwise_cheap some_one xs ys
operator_cheap Xor xs ys from = bitwise_cheap odd_ones xs ys
operator_cheap Add xs ys from = ripple_cheap carries xs ys [] from (omega arith)
operator_cheap Sub xs ys from = ripple_cheap borrows xs ys [] from (omega arith)
operator_cheap Eq xs ys from = equality_cheap xs ys from
operator_cheap Ne xs ys from = equality_cheap xs ys from
operator_cheap Lt xs ys from = borrows_cheap xs ys [] from (omega arith)
operator_cheap Le xs ys from = borrows_cheap ys xs [] from (omega arith)
operator_cheap Gt xs ys from = borrows_cheap ys xs [] from (omega arith)
operator_cheap Ge xs ys from = borrows_cheap xs ys [] from (omega arith)

-- expressions

bit_cheap : (request : ℕ) (b : Bool) (rest : List NodeRules) → Cheap rest → Cheap (constant_bit request b ++ rest)
bit_cheap request true rest h = omega (arith, h)
bit_cheap request false rest h = omega (arith, h)

constant_cheap : (request width value : ℕ) → Cheap (constant_bits request width value)
constant_cheap request zero value = omega arith
constant_cheap request (suc n) value = bit_cheap request (value % 2 == 1) (constant_bits request n (value / 2)) (constant_cheap request n (value / 2))

pub reads_cheap : (request : ℕ) (xs : List Pair) → Cheap (read_bits request xs)
reads_cheap request [] = omega arith
reads_cheap request (x ∷ xs) = let e = reads_cheap request xs in omega (arith, e)

mutual
  pub formula_cheap : (bits : ℕ → List Pair) (e : Formula) (request from : ℕ) → Cheap (formula_rules bits e request from)
  formula_cheap bits (constant width v) request from = constant_cheap request width v
  formula_cheap bits (reading var high low at) request from = reads_cheap request (bits_between high low (bits var))
  formula_cheap bits (joined parts) request from = joined_cheap bits parts request from
  formula_cheap bits (inverted e) request from = formula_cheap bits e request from
  formula_cheap bits (chained e more) request from =
      cheap-append (formula_rules bits e request from) (chained_rules bits (width_of e) (formula_result e from) more request (from + formula_size e))
      (formula_cheap bits e request from)
      (chained_cheap bits (width_of e) (formula_result e from) more request (from + formula_size e))
  formula_cheap bits (compared op e f) request from =
      cheap-append (formula_rules bits e request from) (formula_rules bits f request (from + formula_size e)
      ++ operator_rules op (formula_result e from) (formula_result f (from + formula_size e)) (from + formula_size e + formula_size f))
      (formula_cheap bits e request from)
      (cheap-append (formula_rules bits f request (from + formula_size e)) (operator_rules op (formula_result e from) (formula_result f (from + formula_size e))
      (from + formula_size e + formula_size f)) (formula_cheap bits f request (from + formula_size e))
      (operator_cheap op (formula_result e from) (formula_result f (from + formula_size e)) (from + formula_size e + formula_size f)))

  joined_cheap : (bits : ℕ → List Pair) (parts : Formulas) (request from : ℕ) → Cheap (joined_rules bits parts request from)
  joined_cheap bits no_parts request from = omega arith
  joined_cheap bits (and_part e more) request from =
      cheap-append (formula_rules bits e request from) (joined_rules bits more request (from + formula_size e)) (formula_cheap bits e request from)
      (joined_cheap bits more request (from + formula_size e))

  chained_cheap : (bits : ℕ → List Pair) (width : ℕ) (left : List Pair) (more : Operations) (request from : ℕ) →
      Cheap (chained_rules bits width left more request from)
  chained_cheap bits width left no_operations request from = omega arith
  chained_cheap bits width left (and_operation op e more) request from =
      cheap-append (formula_rules bits e request from)
      (operator_rules op left (formula_result e from) (from + formula_size e) ++ chained_rules bits width (operator_result op left (from + formula_size e)) more
      request (from + formula_size e + operator_size op width))
      (formula_cheap bits e request from)
      (cheap-append (operator_rules op left (formula_result e from) (from + formula_size e))
      (chained_rules bits width (operator_result op left (from + formula_size e)) more request (from + formula_size e + operator_size op width))
      (operator_cheap op left (formula_result e from) (from + formula_size e))
      (chained_cheap bits width (operator_result op left (from + formula_size e)) more request (from + formula_size e + operator_size op width)))

-- each bit of an expression's value has two rails of its own
mutual
  pub size_wide : (e : Formula) → IsWellFormed e → 2 * width_of e ≤ formula_size e
  size_wide (constant width v) h = omega arith
  size_wide (reading var high low at) h = omega arith
  size_wide (joined parts) h = parts_wide parts h.2
  size_wide (inverted e) h = size_wide e h
  size_wide (chained e more) h = let one = size_wide e h.0 in omega (arith, one)
  size_wide (compared op e f) h =
      let one = size_wide e h.2 in
      let some = width_some e h.2 in
      omega (arith, one, some)

  parts_wide : (parts : Formulas) → AreWellFormed parts → 2 * widths_of parts ≤ parts_size parts
  parts_wide no_parts h = omega arith
  parts_wide (and_part e more) h =
      let one = size_wide e h.0 in
      let rest = parts_wide more h.1 in
      omega (arith, one, rest)

-- cells

level_cheap : (ls : List ℕ) → Cheap (level_rules ls)
level_cheap [] = omega arith
level_cheap (p ∷ []) = omega arith
level_cheap (p ∷ q ∷ rest) = let e = level_cheap rest in omega (arith, e)

levels_cheap : (n : ℕ) (ls : List ℕ) (from : ℕ) → Cheap (levels_rules n ls from)
levels_cheap zero ls from = omega arith
levels_cheap (suc n) ls from = cheap-append (level_rules ls) (levels_rules n (next_level ls from) (from + length ls / 2)) (level_cheap ls)
    (levels_cheap n (next_level ls from) (from + length ls / 2))

pub tree_cheap : (leaves : List ℕ) (from : ℕ) → Cheap (tree_rules leaves from)
tree_cheap leaves from = levels_cheap (length leaves) leaves from

-- the OR of some nodes has two literals for each
pub singles_cost : (ns : List ℕ) → literals_in (map (λ k. is_high k ∷ []) ns) ≡ length ns
singles_cost [] = refl
singles_cost (n ∷ ns) = let e = singles_cost ns in omega (arith, e)

pub or_cost : (ns : List ℕ) → literals_in (or_of ns).up + literals_in (or_of ns).down ≡ 2 * length ns
or_cost [] = refl
or_cost (n ∷ ns) =
    let up = singles_cost (n ∷ ns) in
    let lows : length (lows (n ∷ ns)) ≡ length (n ∷ ns) = length-map (n ∷ ns) _ in
    omega (arith, up, lows)

pub silent_cost : (n : ℕ) → cost (replicate n no_rules) ≡ 0
silent_cost zero = refl
silent_cost (suc n) = let e = silent_cost n in omega (arith, e)
