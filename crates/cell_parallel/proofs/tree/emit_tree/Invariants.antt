use Rattle.std.proofs.Common.{length}
use Rattle.cell_parallel.proofs.Grown.{Grown}
use Rattle.cell_parallel.proofs.tree.emit_tree.Given as goal

abbrev pub invariant-loop-alloc : goal.invariant-loop-alloc
invariant-loop-alloc l = Grown l.leaves l.from l.fn.rules l.level.items l.node l.rules

abbrev pub decreases-loop-alloc : goal.decreases-loop-alloc
decreases-loop-alloc l = length l.level.items
