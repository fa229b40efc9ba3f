use Rattle.chp_meaning.proofs.OneEnd.{one_end}
use Rattle.chp_meaning.proofs.laws.one_end.Goals as goal

pub returns : goal.returns
returns c = one_end
