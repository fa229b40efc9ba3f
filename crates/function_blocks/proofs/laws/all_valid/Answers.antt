use Rattle.function_blocks.proofs.ExpressionKeeps.{all_valid_inside}
use Rattle.function_blocks.proofs.laws.all_valid.Goals as goal

pub returns : goal.returns
returns c = all_valid_inside
