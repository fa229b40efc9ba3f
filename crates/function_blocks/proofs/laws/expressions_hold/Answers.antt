use Rattle.function_blocks.proofs.WavesHold.{expression_holds}
use Rattle.function_blocks.proofs.laws.expressions_hold.Goals as goal

pub returns : goal.returns
returns c = expression_holds
