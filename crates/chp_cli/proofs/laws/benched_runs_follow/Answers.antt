use Rattle.chp_cli.proofs.Benched.{benched_follow}
use Rattle.chp_cli.proofs.laws.benched_runs_follow.Goals as goal

pub returns : goal.returns
returns c = benched_follow c.power_is_powered.ensures c.rounds_hold.ensures c.bench_rests_are_rests.ensures c.compiled_files_carry.ensures
