use Rattle.std.proofs.Common.{◌≡◌, ◌+◌, ◌-◌, ◌*◌, ◌++◌}
use Rattle.cell_variable.specs.Variables.{written_leaves}
use Rattle.net_compose.proofs.block.leaves.Given as goal

abbrev pub invariant-loop-bit : goal.invariant-loop-bit
invariant-loop-bit l = record {
  nodes : l.nodes.items ++ written_leaves (l.width - l._bit) l.node ≡ written_leaves l.width l.from;
  node : l.node ≡ l.from + 5 * l._bit;
}
