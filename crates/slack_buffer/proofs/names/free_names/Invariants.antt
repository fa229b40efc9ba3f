use Rattle.std.proofs.Common.{◌≡◌, ℕ, ◌<◌, ◌^◌, length}
use Rattle.slack_buffer.specs.BufferedTrees.{IsTakenNumber}
use Rattle.slack_buffer.proofs.names.free_names.Given as goal

abbrev pub invariant-loop-number : goal.invariant-loop-number
invariant-loop-number l = record {
  taken : (j : ℕ) → j < l.number → IsTakenNumber l.decls j;
  most : l.most ≡ length l.decls;
  few : length l.decls < 2 ^ 64;
}
