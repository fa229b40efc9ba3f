use Rattle.std.proofs.Common.{◌≡◌, ℕ, ◌+◌, ◌≤◌, [], length, get_or}
use Rattle.reset_net.specs.Resets.{reset_up, reset_down}
use Rattle.reset_net.proofs.Laid.{laid}
use Rattle.reset_net.proofs.Whole.{bare}
use Rattle.reset_net.proofs.rules_with_reset.Given as goal

abbrev pub invariant-loop-node : goal.invariant-loop-node
invariant-loop-node l = record {
  up : l.made.up ≡ laid (reset_up (bare l.first l.fn.rules)) l.node (length l.first + 1);
  down : l.made.down ≡ laid (reset_down (bare l.first l.fn.rules)) l.node (length l.first + 1);
  count : length l.left.up ≡ length l.first;
  ups : (k : ℕ) → l.node ≤ k → get_or l.left.up k [] ≡ get_or l.fn.rules.up k [];
  downs : (k : ℕ) → l.node ≤ k → get_or l.left.down k [] ≡ get_or l.fn.rules.down k [];
}
