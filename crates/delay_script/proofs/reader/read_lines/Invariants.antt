use Rattle.delay_script.proofs.DelayReads.{AreReadTo}
use Rattle.delay_script.proofs.reader.read_lines.Given as goal

abbrev pub invariant-loop-at : goal.invariant-loop-at
invariant-loop-at l = AreReadTo l.names l.line-items l.at l.told.up.items l.told.down.items l.told.marks.items
