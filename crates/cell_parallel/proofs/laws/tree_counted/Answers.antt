use Rattle.cell_parallel.specs.Sizes.{tree_length}
use Rattle.cell_parallel.proofs.laws.tree_counted.Goals as goal

pub returns : goal.returns
returns c = tree_length
