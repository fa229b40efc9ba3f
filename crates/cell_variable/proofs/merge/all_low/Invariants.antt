use Rattle.std.proofs.Common.{◌≡◌, take}
use Rattle.prs_core.specs.Pairs.{lows}
use Rattle.cell_variable.proofs.merge.all_low.Given as goal

abbrev pub invariant-loop-node : goal.invariant-loop-node
invariant-loop-node l = l.literals.items ≡ lows (take l.node-index l.nodes)
