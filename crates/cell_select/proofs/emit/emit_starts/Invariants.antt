use Rattle.cell_select.specs.PortNodes.{pairs_of}
use Rattle.cell_select.proofs.Emitted.{StartsSoFar}
use Rattle.cell_select.proofs.emit.emit_starts.Given as goal

abbrev pub invariant-loop-branch : goal.invariant-loop-branch
invariant-loop-branch l = StartsSoFar l.nodes l.latched (pairs_of l.rails) l.branch l.fn.rules l.rules
