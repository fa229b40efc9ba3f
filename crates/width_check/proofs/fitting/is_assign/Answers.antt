use Rattle.width_check.proofs.Statements.{assign_decided}
use Rattle.width_check.proofs.fitting.is_assign.Goals as goal

pub returns-in-Some : goal.returns-in-Some
returns-in-Some c = assign_decided _ _ _ _ _ c.in-Some.ensures.lookup.0 c.in-Some.ensures.lookup.1 c.is_of_width.ensures
