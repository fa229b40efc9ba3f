-- The variables that an expression reads.
use Rattle.std.specs.Prelude.{ℕ, Bool, false, ◌||◌, ◌==◌}
use Rattle.width_check.specs.Processes.{Formula, constant, reading, joined, inverted, chained, compared, Formulas, no_parts, and_part, Operations, no_operations, and_operation}

-- whether an expression reads the variable
abbrev mutual
  pub reads : ℕ → Formula → Bool
  reads x (constant width v) = false
  reads x (reading var high low at) = var == x
  reads x (joined parts) = reads_in_parts x parts
  reads x (inverted e) = reads x e
  reads x (chained e more) = reads x e || reads_in_operations x more
  reads x (compared op e f) = reads x e || reads x f

  pub reads_in_parts : ℕ → Formulas → Bool
  reads_in_parts x no_parts = false
  reads_in_parts x (and_part e more) = reads x e || reads_in_parts x more

  pub reads_in_operations : ℕ → Operations → Bool
  reads_in_operations x no_operations = false
  reads_in_operations x (and_operation op e more) = reads x e || reads_in_operations x more
