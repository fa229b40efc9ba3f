use Rattle.std.proofs.Common.{◌≡◌, ◌+◌, ◌-◌, ◌≤◌, ◌++◌, length, drop}
use Rattle.cell_parallel.specs.Trees.{level_rules, next_level}
use Rattle.net_compose.proofs.tree.join_level.Given as goal

abbrev pub invariant-loop-place : goal.invariant-loop-place
invariant-loop-place l = record {
  made : l.drivers.items ++ level_rules (drop l.place l.nodes) ≡ l.fn.drivers.items ++ level_rules l.nodes;
  above : l.above.items ++ next_level (drop l.place l.nodes) l.node ≡ next_level l.nodes l.from;
  room : l.node ≤ l.from + l.place;
  within : l.place ≤ length l.nodes;
}

abbrev pub decreases-loop-place : goal.decreases-loop-place
decreases-loop-place l = length l.nodes - l.place
