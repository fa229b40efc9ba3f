use Rattle.std.proofs.Common.{◌≡◌, take}
use Rattle.prs_core.specs.Moves.{high}
use Rattle.guard_rows.specs.Places.{count_of}
use Rattle.guard_rows.proofs.counts.count_now.Given as goal

abbrev pub invariant-loop-node : goal.invariant-loop-node
invariant-loop-node l = l.count ≡ count_of (high l.state) (take l.node-index l.nodes)
