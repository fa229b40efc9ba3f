use Rattle.chp_cli.proofs.TimedCarried.{timing_written}
use Rattle.chp_cli.proofs.laws.timed_right.Goals as goal

pub returns : goal.returns
returns c = timing_written
