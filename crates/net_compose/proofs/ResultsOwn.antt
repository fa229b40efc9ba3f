-- The rails of an expression's value are among its own nodes.
use Rattle.std.proofs.Common.{◌≡◌, ℕ, zero, suc, ◌+◌, ◌-◌, ◌*◌, ◌<◌, ◌≤◌, List, [], ◌∷◌, ◌++◌, length, map, All, ◌∙◌, arith}
use Rattle.std.proofs.lemmas.List.Elements.{All-nil, All-cons}
use Rattle.prs_core.specs.Pairs.{Pair, pairs_from, exchanged, rails_of}
use Rattle.chp_syntax.specs.declared.tree.Op.{Op}
use Rattle.chp_syntax.specs.declared.tree.Op.TheVariants.{And, Or, Xor, Add, Sub, Eq, Ne, Lt, Le, Gt, Ge}
use Rattle.width_check.specs.Processes.{Formula, constant, reading, joined, inverted, chained, compared, Formulas, no_parts, and_part, formula_count, Operations, no_operations, and_operation}
use Rattle.width_check.specs.Values.{width_of, widths_of, IsWellFormed, AreWellFormed, AreOperations}
use Rattle.handshake_expand.specs.Layout.{operator_size, formula_size, parts_size, operations_size}
use Rattle.function_blocks.specs.Expressions.{formula_result, joined_result, chained_result}
use Rattle.function_blocks.specs.Gates.{result_pairs, ripple_result, operator_result}
use Rattle.function_blocks.proofs.Sizes.{result_length, each_bit}

-- both rails of the bit lie from a node on and before another one
abbrev pub LiesIn : (low high : ℕ) → Pair → Type 0
LiesIn low high p = (low ≤ p.t) × (p.t < high) × (low ≤ p.f) × (p.f < high)

abbrev pub LieIn : (low high : ℕ) → List Pair → Type 0
LieIn low high [] = Unit {0}
LieIn low high (p ∷ ps) = LiesIn low high p × LieIn low high ps

pub lie_wider : (low high from to : ℕ) (ps : List Pair) → from ≤ low → high ≤ to → LieIn low high ps → LieIn from to ps
lie_wider low high from to [] down up h = tt
lie_wider low high from to (p ∷ ps) down up h =
    let a = h.0.0 in
    let b = h.0.1 in
    let c = h.0.2 in
    let d = h.0.3 in
    ((omega (arith, a, down), omega (arith, b, up), omega (arith, c, down), omega (arith, d, up)), lie_wider low high from to ps down up h.1)

lie_append : (low high : ℕ) (ps qs : List Pair) → LieIn low high ps → LieIn low high qs → LieIn low high (ps ++ qs)
lie_append low high [] qs h k = k
lie_append low high (p ∷ ps) qs h k = (h.0, lie_append low high ps qs h.1 k)

lie_exchanged : (low high : ℕ) (ps : List Pair) → LieIn low high ps → LieIn low high (map exchanged ps)
lie_exchanged low high [] h = tt
lie_exchanged low high (p ∷ ps) h = ((h.0.2, h.0.3, h.0.0, h.0.1), lie_exchanged low high ps h.1)

pub lie_from : (bits from : ℕ) → LieIn from (from + 2 * bits) (pairs_from bits from)
lie_from zero from = tt
lie_from (suc n) from = (
  (omega arith, omega arith, omega arith, omega arith),
  lie_wider (from + 2) (from + 2 + 2 * n) from (from + 2 * suc n) (pairs_from n (from + 2)) (omega arith) (omega arith) (lie_from n (from + 2)),
)

lie_results : (xs : List Pair) (from : ℕ) → LieIn from (from + 2 * length xs) (result_pairs xs from)
lie_results [] from = tt
lie_results (x ∷ xs) from = (
  (omega arith, omega arith, omega arith, omega arith),
  lie_wider (from + 2) (from + 2 + 2 * length xs) from (from + 2 * length (x ∷ xs)) (result_pairs xs (from + 2)) (omega arith) (omega arith)
      (lie_results xs (from + 2)),
)

lie_ripple : (xs : List Pair) (from : ℕ) → LieIn from (from + (4 * length xs - 2)) (ripple_result xs from)
lie_ripple [] from = tt
lie_ripple (x ∷ []) from = ((omega arith, omega arith, omega arith, omega arith), tt)
lie_ripple (x ∷ y ∷ xs) from = (
  (omega arith, omega arith, omega arith, omega arith),
  lie_wider (from + 4) (from + 4 + (4 * length (y ∷ xs) - 2)) from (from + (4 * length (x ∷ y ∷ xs) - 2)) (ripple_result (y ∷ xs) (from + 4)) (omega arith)
      (omega arith) (lie_ripple (y ∷ xs) (from + 4)),
)

-- of an operator on numbers of at least one bit
lie_operator : (op : Op) (xs : List Pair) (from width : ℕ) → length xs ≡ width → 1 ≤ width →
    LieIn from (from + operator_size op width) (operator_result op xs from)
lie_operator And xs from w n some = lie_wider from (from + 2 * length xs) from (from + 2 * w) (result_pairs xs from) (omega arith) (omega (arith, n))
    (lie_results xs from)
lie_operator Or xs from w n some = lie_wider from (from + 2 * length xs) from (from + 2 * w) (result_pairs xs from) (omega arith) (omega (arith, n))
    (lie_results xs from)
lie_operator Xor xs from w n some = lie_wider from (from + 2 * length xs) from (from + 2 * w) (result_pairs xs from) (omega arith) (omega (arith, n))
    (lie_results xs from)
lie_operator Add xs from w n some = lie_wider from (from + (4 * length xs - 2)) from (from + (4 * w - 2)) (ripple_result xs from) (omega arith)
    (omega (arith, n)) (lie_ripple xs from)
lie_operator Sub xs from w n some = lie_wider from (from + (4 * length xs - 2)) from (from + (4 * w - 2)) (ripple_result xs from) (omega arith)
    (omega (arith, n)) (lie_ripple xs from)
lie_operator Eq xs from w n some = ((omega (arith, n, some), omega (arith, n, some), omega (arith, n, some), omega (arith, n, some)), tt)
lie_operator Ne xs from w n some = ((omega (arith, n, some), omega (arith, n, some), omega (arith, n, some), omega (arith, n, some)), tt)
lie_operator Lt xs from w n some = ((omega (arith, n, some), omega (arith, n, some), omega (arith, n, some), omega (arith, n, some)), tt)
lie_operator Le xs from w n some = ((omega (arith, n, some), omega (arith, n, some), omega (arith, n, some), omega (arith, n, some)), tt)
lie_operator Gt xs from w n some = ((omega (arith, n, some), omega (arith, n, some), omega (arith, n, some), omega (arith, n, some)), tt)
lie_operator Ge xs from w n some = ((omega (arith, n, some), omega (arith, n, some), omega (arith, n, some), omega (arith, n, some)), tt)

-- a well-formed expression has at least one bit
mutual
  pub some_bits : (e : Formula) → IsWellFormed e → 1 ≤ width_of e
  some_bits (constant w v) h = h.0
  some_bits (reading var high low at) h = omega (arith, h.0)
  some_bits (joined parts) h = some_in_parts parts h.0 h.2
  some_bits (inverted e) h = some_bits e h
  some_bits (chained e more) h = some_bits e h.0
  some_bits (compared op e f) h = omega arith

  some_in_parts : (parts : Formulas) → 1 ≤ formula_count parts → AreWellFormed parts → 1 ≤ widths_of parts
  some_in_parts no_parts some h = absurd (omega (arith, some))
  some_in_parts (and_part e more) some h = let one = some_bits e h.0 in omega (arith, one)

mutual
  pub result_own : (e : Formula) (from : ℕ) → IsWellFormed e → LieIn from (from + formula_size e) (formula_result e from)
  result_own (constant w v) from h = lie_from w from
  result_own (reading var high low at) from h = lie_from (high + 1 - low) from
  result_own (joined parts) from h = joined_own parts from h.2
  result_own (inverted e) from h = lie_exchanged from (from + formula_size e) (formula_result e from) (result_own e from h)
  result_own (chained e more) from h =
      lie_wider from (from + formula_size e + operations_size (width_of e) more) from (from + formula_size (chained e more))
      (formula_result (chained e more) from) (omega arith) (omega arith)
      (chained_own (width_of e) (formula_result e from) more from (from + formula_size e) (result_length e from h.0) (some_bits e h.0) h.2 (omega arith)
      (result_own e from h.0))
  result_own (compared op e f) from h =
      let at = from + formula_size e + formula_size f in
      lie_wider at (at + operator_size op (width_of e)) from (from + formula_size (compared op e f)) (operator_result op (formula_result e from) at)
      (omega arith) (omega arith)
      (lie_operator op (formula_result e from) at (width_of e) (result_length e from h.2) (some_bits e h.2))

  joined_own : (parts : Formulas) (from : ℕ) → AreWellFormed parts → LieIn from (from + parts_size parts) (joined_result parts from)
  joined_own no_parts from h = tt
  joined_own (and_part e more) from h =
      lie_append from (from + parts_size (and_part e more)) (joined_result more (from + formula_size e)) (formula_result e from)
      (lie_wider (from + formula_size e) (from + formula_size e + parts_size more) from (from + parts_size (and_part e more))
      (joined_result more (from + formula_size e)) (omega arith) (omega arith) (joined_own more (from + formula_size e) h.1))
      (lie_wider from (from + formula_size e) from (from + parts_size (and_part e more)) (formula_result e from) (omega arith) (omega arith)
      (result_own e from h.0))

  chained_own : (width : ℕ) (left : List Pair) (more : Operations) (low from : ℕ) → length left ≡ width → 1 ≤ width → AreOperations width more → low ≤ from →
      LieIn low from left
      → LieIn low (from + operations_size width more) (chained_result width left more from)
  chained_own width left no_operations low from n some h le lies =
      lie_wider low from low (from + operations_size width no_operations) left (omega arith) (omega arith) lies
  chained_own width left (and_operation op e more) low from n some h le lies =
      let at = from + formula_size e in
      let next = at + operator_size op width in
      let result = operator_result op left at in
      let behind = lie_wider at next low next result (omega (arith, le)) (omega arith) (lie_operator op left at width n some) in
      lie_wider low (next + operations_size width more) low (from + operations_size width (and_operation op e more)) (chained_result width result more next)
      (omega arith) (omega arith)
      (chained_own width result more low next (each_bit op left at h.0 ∙ n) some h.3 (omega (arith, le)) behind)

-- so are they as a list
pub rails_lie : (low high : ℕ) (ps : List Pair) → LieIn low high ps → All (λ rail. (low ≤ rail) × (rail < high)) (rails_of ps)
rails_lie low high [] h = All-nil (λ rail. (low ≤ rail) × (rail < high))
rails_lie low high (p ∷ ps) h =
    All-cons (λ rail. (low ≤ rail) × (rail < high)) p.t (p.f ∷ rails_of ps) (h.0.0, h.0.1)
    (All-cons (λ rail. (low ≤ rail) × (rail < high)) p.f (rails_of ps) (h.0.2, h.0.3) (rails_lie low high ps h.1))

pub rails_own : (e : Formula) (from : ℕ) → IsWellFormed e → All (λ rail. (from ≤ rail) × (rail < from + formula_size e)) (rails_of (formula_result e from))
rails_own e from h = rails_lie from (from + formula_size e) (formula_result e from) (result_own e from h)
