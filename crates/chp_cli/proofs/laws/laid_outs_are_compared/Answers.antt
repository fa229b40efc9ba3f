use Rattle.chp_cli.proofs.SameFiles.{laid_outs_compared}
use Rattle.chp_cli.proofs.laws.laid_outs_are_compared.Goals as goal

pub returns : goal.returns
returns c = laid_outs_compared c.meant_programs_are_shaped.ensures
