use Rattle.std.proofs.Common.{◌≡◌, ◌++◌, take}
use Rattle.cell_select.specs.Selections.{latches}
use Rattle.net_compose.proofs.choice.add_latches.Given as goal

abbrev pub invariant-loop-place : goal.invariant-loop-place
invariant-loop-place l = l.drivers.items ≡ l.fn.drivers.items ++ take l.place (latches l.request l.guards)
