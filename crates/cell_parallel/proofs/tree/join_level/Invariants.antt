use Rattle.std.proofs.Common.{length}
use Rattle.cell_parallel.proofs.Levels.{Joined}
use Rattle.cell_parallel.proofs.tree.join_level.Given as goal

abbrev pub invariant-loop-left : goal.invariant-loop-left
invariant-loop-left l = Joined l.nodes l.from l.fn.rules l.left l.above.items l.rules

abbrev pub decreases-loop-left : goal.decreases-loop-left
decreases-loop-left l = length l.left
