use denote.Text.{Utf8}
use denote.Shadow.{shadow}
use Rattle.net_rows.proofs.printer.+put_expr.Given as goal

abbrev pub decreases-put_expr : goal.decreases-put_expr
decreases-put_expr l = goal.size-put_expr l

abbrev pub invariant-loop-part : goal.invariant-loop-part
invariant-loop-part l = shadow (Utf8 l.before)
