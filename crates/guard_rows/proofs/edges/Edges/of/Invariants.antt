use Rattle.std.proofs.Common.{◌≡◌, take, length}
use Rattle.guard_rows.specs.Places.{parts_by, AreStarts}
use Rattle.guard_rows.proofs.edges.Edges.of.Given as goal

abbrev pub invariant-loop-node : goal.invariant-loop-node
invariant-loop-node l = record {
  starts : AreStarts l.starts.items (length l.list.items);
  parts : parts_by l.starts.items l.list.items ≡ take l.node-index l.nodes;
}
