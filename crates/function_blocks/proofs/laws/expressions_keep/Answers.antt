use Rattle.function_blocks.proofs.ExpressionKeeps.{expression_keeps}
use Rattle.function_blocks.proofs.laws.expressions_keep.Goals as goal

pub returns : goal.returns
returns c = expression_keeps
