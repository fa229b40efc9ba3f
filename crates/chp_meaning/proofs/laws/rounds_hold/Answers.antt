use Rattle.chp_meaning.proofs.RoundRuns.{rounds_hold}
use Rattle.chp_meaning.proofs.laws.rounds_hold.Goals as goal

pub returns : goal.returns
returns c = rounds_hold
