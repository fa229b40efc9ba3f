use Rattle.chp_meaning.proofs.HalvedTyping.{halves_follow}
use Rattle.chp_meaning.proofs.laws.halves_follow.Goals as goal

pub returns : goal.returns
returns c = halves_follow
