use Rattle.std.proofs.Common.{◌≡◌, ◌++◌, map, take}
use Rattle.reset_net.proofs.terms_with.Given as goal

abbrev pub invariant-loop-term : goal.invariant-loop-term
invariant-loop-term l = l.terms.items ≡ map (λ t. t ++ l.more) (take l.term-index l.term-items)
