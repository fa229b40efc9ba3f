use Rattle.cell_variable.proofs.Filled.{Filling}
use Rattle.cell_variable.proofs.variable.emit_variable.Given as goal

abbrev pub invariant-loop-place : goal.invariant-loop-place
invariant-loop-place l = Filling l.width l.from l.fn.rules l._place l.bit l.leaves.items l.rules
