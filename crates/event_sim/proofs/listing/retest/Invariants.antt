use Rattle.std.proofs.Common.{take}
use Rattle.event_sim.specs.Locality.{is_ready, IsRetested}
use Rattle.event_sim.proofs.listing.retest.Given as goal

abbrev pub invariant-loop-node : goal.invariant-loop-node
invariant-loop-node l = IsRetested (is_ready l.indexed l.done l.state) (take l.node-index l.nodes) l.fn.moves l.moves l.fn.before l.lost
