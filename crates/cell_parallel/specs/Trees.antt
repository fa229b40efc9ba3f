-- The completion tree (Martin): C-elements that together are high once all of the leaves are, and low once none is.
use Rattle.std.specs.Prelude.{ℕ, zero, suc, ◌+◌, ◌/◌, List, [], ◌∷◌, ◌++◌, length}
use Rattle.prs_core.specs.Nets.{NodeRules, is_high, is_low, one_term}
use Rattle.prs_core.specs.Parts.{Owned, owned_from}

-- a C-element of two nodes: p & q -> c+, ~p & ~q -> c-
abbrev pub c_element : (p q : ℕ) → NodeRules
c_element p q = record { up = one_term (is_high p ∷ is_high q ∷ []); down = one_term (is_low p ∷ is_low q ∷ []) }

-- One level of the tree: each two nodes, from the front, are joined by a C-element; an odd last one goes on as it is.
abbrev pub level_rules : List ℕ → List NodeRules
level_rules (p ∷ q ∷ rest) = c_element p q ∷ level_rules rest
level_rules _ = []

-- the nodes of the next level, whose new ones are numbered from a node on
abbrev pub next_level : List ℕ → (from : ℕ) → List ℕ
next_level (p ∷ q ∷ rest) from = from ∷ next_level rest (from + 1)
next_level rest from = rest

-- so many levels over the leaves
abbrev pub levels_rules : (levels : ℕ) → List ℕ → (from : ℕ) → List NodeRules
levels_rules zero leaves from = []
levels_rules (suc n) leaves from =
    level_rules leaves ++ levels_rules n (next_level leaves from) (from + length leaves / 2)

-- Level upon level until one node is left: as many levels as there are leaves are enough, since one node alone has none
-- above it.
abbrev pub tree_rules : (leaves : List ℕ) → (from : ℕ) → List NodeRules
tree_rules leaves from = levels_rules (length leaves) leaves from

-- the top of the tree over at least one leaf: the last of its own nodes, or the leaf where there is one alone
abbrev pub tree_top : (leaves : List ℕ) → (from : ℕ) → ℕ
tree_top [] from = from
tree_top (leaf ∷ []) from = leaf
tree_top (a ∷ b ∷ rest) from = from + length rest

-- the tree's own nodes
abbrev pub tree_owned : (leaves : List ℕ) → (from : ℕ) → List Owned
tree_owned leaves from = owned_from from (tree_rules leaves from)
