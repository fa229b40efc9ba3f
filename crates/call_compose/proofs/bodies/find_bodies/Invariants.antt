use Rattle.std.proofs.Common.{◌≡◌, length}
use Rattle.call_compose.proofs.bodies.find_bodies.Given as goal

abbrev pub invariant-loop-procedure : goal.invariant-loop-procedure
invariant-loop-procedure l = length l.bodies.items ≡ l._procedure-index
