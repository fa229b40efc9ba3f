use Rattle.chp_cli.proofs.Written.{written_right}
use Rattle.chp_cli.proofs.laws.compiled_right.Goals as goal

pub returns : goal.returns
returns c = written_right
