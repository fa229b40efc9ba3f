use Rattle.chp_meaning.proofs.Late.{halves_pace}
use Rattle.chp_meaning.proofs.laws.halves_keep_pace.Goals as goal

pub returns : goal.returns
returns c = halves_pace
