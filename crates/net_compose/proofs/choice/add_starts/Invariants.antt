use Rattle.std.proofs.Common.{◌≡◌, ◌++◌}
use Rattle.std.specs.List.{range_with_len}
use Rattle.cell_select.specs.Selections.{starts}
use Rattle.net_compose.proofs.choice.add_starts.Given as goal

abbrev pub invariant-loop-place : goal.invariant-loop-place
invariant-loop-place l = l.drivers.items ≡ l.fn.drivers.items ++ starts (range_with_len l.latched l.place) l.guards
