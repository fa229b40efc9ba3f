use Rattle.chp_meaning.proofs.Taken.{step_is}
use Rattle.chp_meaning.proofs.laws.steps_taken.Goals as goal

pub returns : goal.returns
returns c = step_is
