use Rattle.std.proofs.Common.{◌≡◌, ◌++◌, take}
use Rattle.net_compose.specs.Shapes.{all_wanted}
use Rattle.net_compose.proofs.guard.want.Given as goal

abbrev pub invariant-loop-node : goal.invariant-loop-node
invariant-loop-node l = l.literals.items ≡ l.fn.literals.items ++ all_wanted l.value (take l.node-index l.nodes)
