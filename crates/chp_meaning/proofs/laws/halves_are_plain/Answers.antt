use Rattle.chp_meaning.proofs.HalvedTyping.{halves_plain}
use Rattle.chp_meaning.proofs.laws.halves_are_plain.Goals as goal

pub returns : goal.returns
returns c = halves_plain
