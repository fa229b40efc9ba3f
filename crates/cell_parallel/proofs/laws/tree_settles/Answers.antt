use Rattle.cell_parallel.proofs.Settling.{settles}
use Rattle.cell_parallel.proofs.laws.tree_settles.Goals as goal

pub returns : goal.returns
returns c = settles
