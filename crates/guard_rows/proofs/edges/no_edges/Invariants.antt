use Rattle.std.proofs.Common.{◌≡◌, [], replicate}
use Rattle.guard_rows.proofs.edges.no_edges.Given as goal

abbrev pub invariant-loop-node : goal.invariant-loop-node
invariant-loop-node l = l.edges.items ≡ replicate l._node []
