use Rattle.cell_select.specs.PortNodes.{pairs_of}
use Rattle.cell_select.proofs.Emitted.{LatchesSoFar}
use Rattle.cell_select.proofs.emit.emit_latches.Given as goal

abbrev pub invariant-loop-guard : goal.invariant-loop-guard
invariant-loop-guard l = LatchesSoFar l.request l.nodes (pairs_of l.rails) l.guard l.fn.rules l.rules
