use Rattle.std.proofs.Common.{◌≡◌, [], replicate}
use Rattle.prs_core.proofs.fan.no_readers.Given as goal

abbrev pub invariant-loop-node : goal.invariant-loop-node
invariant-loop-node l = l.readers.items ≡ replicate l._node []
