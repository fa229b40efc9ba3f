use Rattle.std.proofs.Common.{◌≡◌, ◌+◌, ◌*◌, ◌≤◌, take}
use Rattle.std.specs.Prelude.{sum_by}
use Rattle.grown_commands.specs.Summing.{guard_rules}
use Rattle.grown_commands.proofs.grow_summary.rule_count.Given as goal

abbrev pub invariant-loop-node : goal.invariant-loop-node
invariant-loop-node l = record {
  count : l.count ≡ sum_by guard_rules (take l.node l.net.up) + sum_by guard_rules (take l.node l.net.down);
  few : l.count ≤ 2 * l.node;
}
