use Rattle.width_check.specs.Faults.{naming_faults}
use Rattle.width_check.proofs.OneCause.{one_cause, no_cause}
use Rattle.width_check.proofs.laws.one_fault.Goals as goal

pub returns-clause-cause : goal.returns-clause-cause
returns-clause-cause r p c d s t f g = (one_cause p naming_faults c d s t f g).0

pub returns-clause-place : goal.returns-clause-place
returns-clause-place r p c d s t f g = (one_cause p naming_faults c d s t f g).1

pub returns-clause-none : goal.returns-clause-none
returns-clause-none r p c s none f = no_cause p naming_faults c s none f
