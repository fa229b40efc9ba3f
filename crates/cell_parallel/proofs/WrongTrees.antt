-- C-elements that are wrong don't keep the contract of a tree: for each a run after which its top moves and may not.
use Rattle.std.proofs.Common.{false, [], ◌∷◌, refl}
use Rattle.prs_core.specs.Nets.{NodeRules, is_high, is_low, one_term}
use Rattle.prs_core.specs.Parts.{Part, Moment, Keeps, at_first, owned}
use Rattle.prs_core.specs.Breaking.{broken}
use Rattle.cell_parallel.specs.TreeParts.{tree_part}

-- the tree over the leaves 1 and 2 with its top 3, where that has other rules
abbrev with_top : NodeRules → Part
with_top rules = record (tree_part (1 ∷ 2 ∷ []) 3) { own = owned 3 rules ∷ [] }

-- p -> c+, ~p & ~q -> c-
abbrev early : Part
early = with_top (record { up = one_term (is_high 1 ∷ []); down = one_term (is_low 1 ∷ is_low 2 ∷ []) })

-- p & q -> c+, ~p -> c-
abbrev hasty : Part
hasty = with_top (record { up = one_term (is_high 1 ∷ is_high 2 ∷ []); down = one_term (is_low 1 ∷ []) })

abbrev all_low : Moment
all_low = record { value = λ n. false; noted = λ n. false }

-- it rises with its first leaf
pub early_breaks : ¬ (Keeps early)
early_breaks = broken early all_low (1 ∷ []) (at_first (λ n. false) (record { outside = refl; own = refl; bits = refl })) refl

-- it falls with its first leaf, where both were high
pub hasty_breaks : ¬ (Keeps hasty)
hasty_breaks = broken hasty all_low (1 ∷ 2 ∷ 3 ∷ 1 ∷ []) (at_first (λ n. false) (record { outside = refl; own = refl; bits = refl })) refl
