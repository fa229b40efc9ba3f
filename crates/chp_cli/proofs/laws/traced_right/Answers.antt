use Rattle.chp_cli.proofs.TracedCarried.{trace_written}
use Rattle.chp_cli.proofs.laws.traced_right.Goals as goal

pub returns : goal.returns
returns c = trace_written
