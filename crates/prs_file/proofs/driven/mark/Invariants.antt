use Rattle.std.proofs.Common.{◌≡◌, ℕ, false, get_or, take}
use Rattle.std.specs.Prelude.{◌==◌, ◌||◌}
use Rattle.std.specs.List.{list_any}
use Rattle.prs_file.proofs.driven.mark.Given as goal

abbrev pub invariant-loop-node : goal.invariant-loop-node
invariant-loop-node l =
    (n : ℕ) → get_or l.driven n false ≡ (get_or l.initial.driven n false || list_any (λ k. k == n) (take l.node-index l.nodes))
