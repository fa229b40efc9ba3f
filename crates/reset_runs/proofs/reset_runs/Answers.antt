use Rattle.reset_runs.proofs.Whole.{each_from_power}
use Rattle.reset_runs.proofs.reset_runs.Goals as goal

pub returns : goal.returns
returns c = each_from_power
