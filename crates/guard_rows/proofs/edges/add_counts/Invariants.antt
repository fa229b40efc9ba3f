use Rattle.std.proofs.Common.{take}
use Rattle.guard_rows.specs.Places.{is_one_of, times_in, AreAdded}
use Rattle.guard_rows.proofs.edges.add_counts.Given as goal

abbrev pub invariant-loop-node : goal.invariant-loop-node
invariant-loop-node l = AreAdded l.row (is_one_of (take l.node-index l.nodes)) (λ m. times_in m (take l.node-index l.nodes)) l.fn.edges.items l.edges.items
