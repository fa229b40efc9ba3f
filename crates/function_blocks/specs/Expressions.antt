-- The circuit of an expression: dual-rail bits that rise to its value under a request, and fall when that falls.
use Rattle.std.specs.Prelude.{◌≡◌, ℕ, ◌<◌, ◌≤◌, ◌^◌, length, zero, suc, ◌+◌, ◌-◌, ◌/◌, ◌%◌, ◌==◌, Bool, true, false, List, [], ◌∷◌, ◌++◌, map, take, drop}
use Rattle.prs_core.specs.Nets.{NodeRules, is_high, is_low, one_term}
use Rattle.prs_core.specs.Pairs.{Pair, pairs_from, exchanged, no_rules}
use Rattle.chp_syntax.specs.declared.tree.Op.{Op}
use Rattle.width_check.specs.declared.typed.Var.{Var}
use Rattle.width_check.specs.Processes.{Formula, constant, reading, joined, inverted, chained, compared, Formulas, no_parts, and_part, Operations, no_operations, and_operation}
use Rattle.width_check.specs.Values.{width_of}
use Rattle.width_check.specs.Typing.{var_width}
use Rattle.handshake_expand.specs.Layout.{formula_size, operator_size}
use Rattle.function_blocks.specs.Gates.{operator_rules, operator_result}

-- a rail that follows the request: e -> q+, ~e -> q-
abbrev pub following : (request : ℕ) → NodeRules
following request = record { up = one_term (is_high request ∷ []); down = one_term (is_low request ∷ []) }

-- of a constant bit the rail of its value follows the request, and the other one has no rules
abbrev pub constant_bit : (request : ℕ) → Bool → List NodeRules
constant_bit request true = following request ∷ no_rules ∷ []
constant_bit request false = no_rules ∷ following request ∷ []

abbrev pub constant_bits : (request width value : ℕ) → List NodeRules
constant_bits request zero value = []
constant_bits request (suc n) value = constant_bit request (value % 2 == 1) ++ constant_bits request n (value / 2)

-- a rail is read under the request: e & x -> q+, ~e -> q-
abbrev pub read_rail : (request rail : ℕ) → NodeRules
read_rail request rail =
    record { up = one_term (is_high request ∷ is_high rail ∷ []); down = one_term (is_low request ∷ []) }

abbrev pub read_bits : (request : ℕ) → List Pair → List NodeRules
read_bits request [] = []
read_bits request (x ∷ xs) = read_rail request x.t ∷ read_rail request x.f ∷ read_bits request xs

-- the bits high to low of these, the lowest first
abbrev pub bits_between : (high low : ℕ) → List Pair → List Pair
bits_between high low xs = take (high + 1 - low) (drop low xs)

-- the bits of an expression's value whose own nodes are numbered from a node on, the lowest first
abbrev mutual
  pub formula_result : Formula → (from : ℕ) → List Pair
  formula_result (constant width v) from = pairs_from width from
  formula_result (reading var high low at) from = pairs_from (high + 1 - low) from
  formula_result (joined parts) from = joined_result parts from
  formula_result (inverted e) from = map exchanged (formula_result e from)
  formula_result (chained e more) from =
      chained_result (width_of e) (formula_result e from) more (from + formula_size e)
  formula_result (compared op e f) from =
      operator_result op (formula_result e from) (from + formula_size e + formula_size f)

  -- the last part has the lowest bits
  pub joined_result : Formulas → (from : ℕ) → List Pair
  joined_result no_parts from = []
  joined_result (and_part e more) from = joined_result more (from + formula_size e) ++ formula_result e from

  -- of a number and what is applied to it
  pub chained_result : (width : ℕ) → List Pair → Operations → (from : ℕ) → List Pair
  chained_result width left no_operations from = left
  chained_result width left (and_operation op e more) from =
      chained_result width (operator_result op left (from + formula_size e)) more
      (from + formula_size e + operator_size op width)

-- the rules of its nodes in order, where the variables have these bits
abbrev mutual
  pub formula_rules : (ℕ → List Pair) → Formula → (request from : ℕ) → List NodeRules
  formula_rules bits (constant width v) request from = constant_bits request width v
  formula_rules bits (reading var high low at) request from = read_bits request (bits_between high low (bits var))
  formula_rules bits (joined parts) request from = joined_rules bits parts request from
  formula_rules bits (inverted e) request from = formula_rules bits e request from
  formula_rules bits (chained e more) request from =
      formula_rules bits e request from ++ chained_rules bits (width_of e) (formula_result e from) more request
      (from + formula_size e)
  formula_rules bits (compared op e f) request from =
      formula_rules bits e request from ++ (formula_rules bits f request (from + formula_size e)
      ++ operator_rules op (formula_result e from) (formula_result f (from + formula_size e))
      (from + formula_size e + formula_size f))

  pub joined_rules : (ℕ → List Pair) → Formulas → (request from : ℕ) → List NodeRules
  joined_rules bits no_parts request from = []
  joined_rules bits (and_part e more) request from =
      formula_rules bits e request from ++ joined_rules bits more request (from + formula_size e)

  pub chained_rules : (ℕ → List Pair) → (width : ℕ) → List Pair → Operations → (request from : ℕ) → List NodeRules
  chained_rules bits width left no_operations request from = []
  chained_rules bits width left (and_operation op e more) request from =
      formula_rules bits e request from ++ (operator_rules op left (formula_result e from) (from + formula_size e)
      ++ chained_rules bits width (operator_result op left (from + formula_size e)) more request
      (from + formula_size e + operator_size op width))

-- each of the variables has as many bits as its width
abbrev pub HasBits : List Var → (ℕ → List Pair) → Type 0
HasBits vars bits = (x : ℕ) → x < length vars → length (bits x) ≡ var_width vars x

-- both sides of an operator are of one width, and its gates fit behind what was made
pub record OperatorFits (from : ℕ) (made : List NodeRules) (op : Op) (left right : List Pair) : Type 0 where
  pub some : 1 ≤ length left
  pub most : length left ≤ 64
  pub agree : length right ≡ length left
  pub room : from + length made + operator_size op (length left) < 2 ^ 32
