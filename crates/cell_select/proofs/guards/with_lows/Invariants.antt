use Rattle.std.proofs.Common.{◌≡◌, ◌∷◌, take}
use Rattle.prs_core.specs.Pairs.{lows}
use Rattle.cell_select.proofs.guards.with_lows.Given as goal

abbrev pub invariant-loop-node : goal.invariant-loop-node
invariant-loop-node l = l.literals.items ≡ l.fn.first ∷ lows (take l.node-index l.nodes)
