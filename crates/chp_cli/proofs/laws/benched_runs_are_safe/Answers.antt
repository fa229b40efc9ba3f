use Rattle.chp_cli.proofs.Benched.{benched_safe}
use Rattle.chp_cli.proofs.laws.benched_runs_are_safe.Goals as goal

pub returns : goal.returns
returns c = benched_safe c.power_is_powered.ensures c.bench_runs_are_calm.ensures
