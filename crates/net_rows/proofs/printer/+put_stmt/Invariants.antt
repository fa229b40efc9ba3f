use denote.Text.{Utf8}
use denote.Shadow.{shadow}
use Rattle.net_rows.proofs.printer.+put_stmt.Given as goal

abbrev pub decreases-put_stmt : goal.decreases-put_stmt
decreases-put_stmt l = goal.size-put_stmt l

abbrev pub invariant-loop-arm : goal.invariant-loop-arm
invariant-loop-arm l = shadow (Utf8 l.before)

abbrev pub invariant-loop-part : goal.invariant-loop-part
invariant-loop-part l = shadow (Utf8 l.before)
