use Rattle.cell_parallel.proofs.TreeKeeps.{keeps}
use Rattle.cell_parallel.proofs.laws.tree_keeps.Goals as goal

pub returns : goal.returns
returns c = keeps
