use Rattle.chp_cli.proofs.CalmRuns.{simulation_written}
use Rattle.chp_cli.proofs.laws.simulated_right.Goals as goal

pub returns : goal.returns
returns c = simulation_written
