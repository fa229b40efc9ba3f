use Rattle.function_blocks.proofs.Sizes.{result_length}
use Rattle.function_blocks.proofs.laws.bits_counted.Goals as goal

pub returns : goal.returns
returns c = result_length
