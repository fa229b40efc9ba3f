use Rattle.std.proofs.Common.{◌≡◌, ◌+◌, ◌≤◌, ◌++◌, length}
use Rattle.cell_parallel.specs.Trees.{tree_rules}
use Rattle.net_compose.proofs.tree.tree.Given as goal

abbrev pub invariant-loop-alloc : goal.invariant-loop-alloc
invariant-loop-alloc l = record {
  made : l.drivers.items ++ tree_rules l.level.items l.node ≡ l.fn.drivers.items ++ tree_rules l.leaves l.from;
  room : l.node + length l.level.items ≤ l.from + length l.leaves;
}

abbrev pub decreases-loop-alloc : goal.decreases-loop-alloc
decreases-loop-alloc l = length l.level.items
