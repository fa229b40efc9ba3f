use Rattle.function_blocks.proofs.Sizes.{rules_length}
use Rattle.function_blocks.proofs.laws.rules_counted.Goals as goal

pub returns : goal.returns
returns c = rules_length
