use Rattle.std.proofs.Common.{◌≡◌, [], ◌∷◌, map, take}
use Rattle.prs_core.specs.Nets.{is_high}
use Rattle.cell_select.proofs.guards.some_high.Given as goal

abbrev pub invariant-loop-node : goal.invariant-loop-node
invariant-loop-node l = l.terms.items ≡ map (λ node. is_high node ∷ []) (take l.node-index l.nodes)
