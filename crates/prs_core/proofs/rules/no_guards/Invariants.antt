use Rattle.std.proofs.Common.{◌≡◌, [], replicate}
use Rattle.prs_core.proofs.rules.no_guards.Given as goal

abbrev pub invariant-loop-node : goal.invariant-loop-node
invariant-loop-node l = l.guards.items ≡ replicate l._node []
