use Rattle.guard_rows.specs.Places.{AreRowsBelow}
use Rattle.guard_rows.proofs.rows.made_rows.Given as goal

abbrev pub invariant-loop-node : goal.invariant-loop-node
invariant-loop-node l = AreRowsBelow l.net l.state l.node l.node l.rows
