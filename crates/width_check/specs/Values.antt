-- The widths and the values of expressions. All numbers are unsigned.
use Rattle.std.specs.Prelude.{◌≡◌, ℕ, ◌+◌, ◌-◌, ◌*◌, ◌/◌, ◌%◌, ◌^◌, ◌<◌, ◌≤◌, Bool, true, false, not, nat_lt, nat_le, ◌==◌, bit_and, bit_or, bit_xor}
use Rattle.chp_syntax.specs.declared.tree.Op.{Op}
use Rattle.chp_syntax.specs.declared.tree.Op.TheVariants.{And, Or, Xor, Add, Sub, Eq, Ne, Lt, Le, Gt, Ge}
pub use Rattle.chp_syntax.specs.Shape.{is_comparison}
use Rattle.width_check.specs.Processes.{Formula, constant, reading, joined, inverted, chained, compared, Formulas, no_parts, and_part, Operations, no_operations, and_operation, formula_count, operation_count}

abbrev mutual
  pub width_of : Formula → ℕ
  width_of (constant width value) = width
  width_of (reading var high low at) = high + 1 - low
  width_of (joined parts) = widths_of parts
  width_of (inverted e) = width_of e
  width_of (chained e more) = width_of e
  width_of (compared op e f) = 1

  -- of the parts together
  pub widths_of : Formulas → ℕ
  widths_of no_parts = 0
  widths_of (and_part e more) = width_of e + widths_of more

abbrev pub one_if : Bool → ℕ
one_if true = 1
one_if false = 0

-- an operator on two numbers of a width: `&`, `|` and `^` bit by bit, `+` and `-` modulo 2 to the width, a comparison 1
-- or 0
abbrev pub operated : Op → (width a b : ℕ) → ℕ
operated And width a b = bit_and a b
operated Or width a b = bit_or a b
operated Xor width a b = bit_xor a b
operated Add width a b = (a + b) % 2 ^ width
operated Sub width a b = (a + (2 ^ width - b)) % 2 ^ width
operated Eq width a b = one_if (a == b)
operated Ne width a b = one_if (not (a == b))
operated Lt width a b = one_if (nat_lt a b)
operated Le width a b = one_if (nat_le a b)
operated Gt width a b = one_if (nat_lt b a)
operated Ge width a b = one_if (nat_le b a)

-- The value of an expression, where the store has a number for each variable. `~` turns each bit over; in `{e, ..}`
-- the last part is lowest.
abbrev mutual
  pub value : (ℕ → ℕ) → Formula → ℕ
  value store (constant width v) = v
  value store (reading var high low at) = store var / 2 ^ low % 2 ^ (high + 1 - low)
  value store (joined parts) = joined_value store parts
  value store (inverted e) = 2 ^ width_of e - 1 - value store e
  value store (chained e more) = chained_value store (width_of e) (value store e) more
  value store (compared op e f) = operated op (width_of e) (value store e) (value store f)

  pub joined_value : (ℕ → ℕ) → Formulas → ℕ
  joined_value store no_parts = 0
  joined_value store (and_part e more) = value store e * 2 ^ widths_of more + joined_value store more

  -- from a number on, applied from the left
  pub chained_value : (ℕ → ℕ) → (width : ℕ) → ℕ → Operations → ℕ
  chained_value store width v no_operations = v
  chained_value store width v (and_operation op e more) =
      chained_value store width (operated op width v (value store e)) more

-- a number is of its width; the bits that are read are bits 63 to 0; a join has parts, and at most 64 bits; a chain has
-- operators that are no comparisons, between expressions of one width; a comparison is one between two of one width
abbrev mutual
  pub IsWellFormed : Formula → Type 0
  IsWellFormed (constant width v) = (1 ≤ width) × (width ≤ 64) × (v < 2 ^ width)
  IsWellFormed (reading var high low at) = (low ≤ high) × (high ≤ 63)
  IsWellFormed (joined parts) = (1 ≤ formula_count parts) × (widths_of parts ≤ 64) × AreWellFormed parts
  IsWellFormed (inverted e) = IsWellFormed e
  IsWellFormed (chained e more) = IsWellFormed e × (1 ≤ operation_count more) × AreOperations (width_of e) more
  IsWellFormed (compared op e f) = (is_comparison op ≡ true) × (width_of f ≡ width_of e) × IsWellFormed e
      × IsWellFormed f

  pub AreWellFormed : Formulas → Type 0
  AreWellFormed no_parts = Unit {0}
  AreWellFormed (and_part e more) = IsWellFormed e × AreWellFormed more

  pub AreOperations : ℕ → Operations → Type 0
  AreOperations width no_operations = Unit {0}
  AreOperations width (and_operation op e more) = (is_comparison op ≡ false) × (width_of e ≡ width) × IsWellFormed e
      × AreOperations width more
