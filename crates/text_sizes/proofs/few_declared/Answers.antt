use Rattle.text_sizes.proofs.Declared.{few_declared}
use Rattle.text_sizes.proofs.few_declared.Goals as goal

pub returns : goal.returns
returns c = few_declared
