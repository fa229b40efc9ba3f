use Rattle.std.proofs.Common.{◌≡◌, ◌++◌, ◌-◌, take, drop}
use Rattle.cell_select.specs.Selections.{all_false}
use Rattle.cell_select.specs.PortNodes.{pairs_of}
use Rattle.cell_select.proofs.guards.want_false.Given as goal

abbrev pub invariant-loop-guard : goal.invariant-loop-guard
invariant-loop-guard l = l.literals.items ≡ l.fn.literals.items ++ all_false (take (l.guard - l.from) (drop l.from (pairs_of l.rails)))
