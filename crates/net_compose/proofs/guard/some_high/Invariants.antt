use Rattle.std.proofs.Common.{◌≡◌, [], ◌∷◌, map, take}
use Rattle.prs_core.specs.Nets.{is_high}
use Rattle.net_compose.proofs.guard.some_high.Given as goal

abbrev pub invariant-loop-node : goal.invariant-loop-node
invariant-loop-node l = l.terms.items ≡ map (λ k. is_high k ∷ []) (take l.node-index l.nodes)
