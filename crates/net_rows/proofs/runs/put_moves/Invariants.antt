use Rattle.std.proofs.Common.{◌≡◌}
use Rattle.net_rows.proofs.runs.put_moves.Given as goal

abbrev pub invariant-loop-move : goal.invariant-loop-move
invariant-loop-move l = l.run.net ≡ l.initial.run.net
