use Rattle.chp_cli.proofs.CalmRuns.{carried_no_hazard}
use Rattle.chp_cli.proofs.laws.carried_runs_are_safe.Goals as goal

pub returns : goal.returns
returns c = carried_no_hazard c.power_is_powered.ensures c.safe_moves_bring_no_hazard.ensures
