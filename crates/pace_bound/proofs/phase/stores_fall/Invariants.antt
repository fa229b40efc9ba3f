use Rattle.std.proofs.Common.{◌+◌}
use Rattle.width_check.specs.Typed.{program_of}
use Rattle.round_time.specs.Longest.{var_height}
use Rattle.round_time.specs.Phases.{written}
use Rattle.pace_bound.specs.Clearing.{IsTableOf}
use Rattle.pace_bound.proofs.phase.stores_fall.Given as goal

abbrev pub invariant-loop-place : goal.invariant-loop-place
invariant-loop-place l = IsTableOf l.place (λ x. 2 + var_height (program_of l.program) x + written (program_of l.program) x) l.table.items
