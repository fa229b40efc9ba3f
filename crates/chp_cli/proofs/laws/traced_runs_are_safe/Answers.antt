use Rattle.chp_cli.proofs.TracedCarried.{trace_no_hazard}
use Rattle.chp_cli.proofs.laws.traced_runs_are_safe.Goals as goal

pub returns : goal.returns
returns c = trace_no_hazard c.power_is_powered.ensures c.safe_moves_bring_no_hazard.ensures
