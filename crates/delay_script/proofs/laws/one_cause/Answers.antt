use Rattle.delay_script.proofs.Sinces.{is_enabled, some_cause, one_cause}
use Rattle.delay_script.proofs.laws.one_cause.Goals as goal

pub returns-clause-some : goal.returns-clause-some
returns-clause-some c = some_cause

pub returns-clause-only : goal.returns-clause-only
returns-clause-only c = one_cause

pub returns-clause-enabled : goal.returns-clause-enabled
returns-clause-enabled c = is_enabled
