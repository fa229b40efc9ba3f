use Rattle.std.proofs.Common.{◌≡◌, ◌+◌, ◌-◌, ◌≤◌}
use Rattle.round_time.specs.Longest.{levels_in, tree_height}
use Rattle.pace_bound.proofs.height.tree_height.Given as goal

abbrev pub invariant-loop-nodes : goal.invariant-loop-nodes
invariant-loop-nodes l = record {
  counted : l.height + levels_in (l.fn.leaves - l.height) l.nodes ≡ tree_height l.fn.leaves;
  few : l.nodes + l.height ≤ l.fn.leaves;
}

abbrev pub decreases-loop-nodes : goal.decreases-loop-nodes
decreases-loop-nodes l = l.nodes
