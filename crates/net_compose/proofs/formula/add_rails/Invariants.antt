use Rattle.std.proofs.Common.{◌≡◌, ◌++◌}
use Rattle.net_compose.proofs.formula.add_rails.Given as goal

abbrev pub invariant-loop-rail : goal.invariant-loop-rail
invariant-loop-rail l = l.drivers.items ≡ l.fn.drivers.items ++ l.yielded
