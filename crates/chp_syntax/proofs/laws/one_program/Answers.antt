use Rattle.chp_syntax.proofs.Once.{program_once}
use Rattle.chp_syntax.proofs.laws.one_program.Goals as goal

pub returns : goal.returns
returns c = program_once
