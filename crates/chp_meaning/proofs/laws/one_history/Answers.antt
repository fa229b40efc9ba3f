use Rattle.chp_meaning.proofs.RoundRuns.{one_history}
use Rattle.chp_meaning.proofs.laws.one_history.Goals as goal

pub returns : goal.returns
returns c = one_history
