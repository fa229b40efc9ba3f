use Rattle.function_blocks.proofs.ExpressionKeeps.{all_neutral_inside}
use Rattle.function_blocks.proofs.laws.all_neutral.Goals as goal

pub returns : goal.returns
returns c = all_neutral_inside
