use Rattle.chp_cli.proofs.Benched.{bench_written}
use Rattle.chp_cli.proofs.laws.benched_right.Goals as goal

pub returns : goal.returns
returns c = bench_written
