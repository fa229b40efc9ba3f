use Rattle.chp_cli.proofs.TimedCarried.{timed_no_hazard}
use Rattle.chp_cli.proofs.laws.timed_runs_are_safe.Goals as goal

pub returns : goal.returns
returns c = timed_no_hazard c.power_is_powered.ensures c.safe_moves_bring_no_hazard.ensures
