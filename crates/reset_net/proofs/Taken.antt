-- Guards that are taken out of a list, one after the other, from its front.
use Rattle.std.proofs.Common.{◌≡◌, ℕ, ◌+◌, ◌≤◌, List, [], set, get_or, ◌∙◌, arith}
use Rattle.std.proofs.lemmas.List.{get_or-set_other}
use Rattle.prs_core.specs.Nets.{GuardValue}

pub taken_one : (xs before : List GuardValue) (node : ℕ) → ((k : ℕ) → node ≤ k → get_or xs k [] ≡ get_or before k []) →
    (k : ℕ) → node + 1 ≤ k → get_or (set xs node []) k [] ≡ get_or before k []
taken_one xs before node left k past = get_or-set_other xs node k [] [] (λ e. omega (arith, e)) ∙ left k (omega arith)
