use Rattle.function_blocks.proofs.ExpressionKeeps.{expression_rests}
use Rattle.function_blocks.proofs.laws.expressions_wait.Goals as goal

pub returns : goal.returns
returns c = expression_rests
