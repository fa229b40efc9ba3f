-- The bits of variables that an expression reads.
use Rattle.std.specs.Prelude.{ℕ, ◌≤◌, List, [], ◌++◌}
use Rattle.prs_core.specs.Pairs.{Pair}
use Rattle.width_check.specs.Processes.{Formula, constant, reading, joined, inverted, chained, compared, Formulas, no_parts, and_part, Operations, no_operations, and_operation}
use Rattle.function_blocks.specs.Expressions.{bits_between}

-- of each bit that an expression reads
abbrev mutual
  pub EachRead : (ℕ → ℕ → Type 0) → Formula → Type 0
  EachRead P (constant width v) = Unit {0}
  EachRead P (reading x high low at) = (bit : ℕ) → low ≤ bit → bit ≤ high → P x bit
  EachRead P (joined parts) = EachPart P parts
  EachRead P (inverted e) = EachRead P e
  EachRead P (chained e more) = EachRead P e × EachOperation P more
  EachRead P (compared op e f) = EachRead P e × EachRead P f

  pub EachPart : (ℕ → ℕ → Type 0) → Formulas → Type 0
  EachPart P no_parts = Unit {0}
  EachPart P (and_part e more) = EachRead P e × EachPart P more

  pub EachOperation : (ℕ → ℕ → Type 0) → Operations → Type 0
  EachOperation P no_operations = Unit {0}
  EachOperation P (and_operation op e more) = EachRead P e × EachOperation P more

-- their rails, where the variables have these bits; a bit that is read twice is listed twice
abbrev mutual
  pub bits_read : (ℕ → List Pair) → Formula → List Pair
  bits_read bits (constant width v) = []
  bits_read bits (reading x high low at) = bits_between high low (bits x)
  bits_read bits (joined parts) = bits_of_parts bits parts
  bits_read bits (inverted e) = bits_read bits e
  bits_read bits (chained e more) = bits_read bits e ++ bits_of_operations bits more
  bits_read bits (compared op e f) = bits_read bits e ++ bits_read bits f

  pub bits_of_parts : (ℕ → List Pair) → Formulas → List Pair
  bits_of_parts bits no_parts = []
  bits_of_parts bits (and_part e more) = bits_read bits e ++ bits_of_parts bits more

  pub bits_of_operations : (ℕ → List Pair) → Operations → List Pair
  bits_of_operations bits no_operations = []
  bits_of_operations bits (and_operation op e more) = bits_read bits e ++ bits_of_operations bits more
