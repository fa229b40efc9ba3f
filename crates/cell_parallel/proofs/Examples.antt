-- Trees over some leaves, written out by hand.
use Rattle.std.proofs.Common.{◌≡◌, true, false, ℕ, [], ◌∷◌, refl}
use Rattle.prs_core.specs.Nets.{NodeRules}
use Rattle.cell_parallel.specs.Trees.{tree_rules, tree_top}

-- p & q -> c+, ~p & ~q -> c-
abbrev joins : (p q : ℕ) → NodeRules
joins p q = record {
  up = (record { node = p; high = true } ∷ record { node = q; high = true } ∷ []) ∷ [];
  down = (record { node = p; high = false } ∷ record { node = q; high = false } ∷ []) ∷ [];
}

one_leaf : tree_rules (10 ∷ []) 20 ≡ []
one_leaf = refl

one_top : tree_top (10 ∷ []) 20 ≡ 10
one_top = refl

two_leaves : tree_rules (10 ∷ 11 ∷ []) 20 ≡ joins 10 11 ∷ []
two_leaves = refl

two_top : tree_top (10 ∷ 11 ∷ []) 20 ≡ 20
two_top = refl

three_leaves : tree_rules (10 ∷ 11 ∷ 12 ∷ []) 20 ≡ joins 10 11 ∷ joins 20 12 ∷ []
three_leaves = refl

five_leaves : tree_rules (10 ∷ 11 ∷ 12 ∷ 13 ∷ 14 ∷ []) 20 ≡ joins 10 11 ∷ joins 12 13 ∷ joins 20 21 ∷ joins 22 14 ∷ []
five_leaves = refl

five_top : tree_top (10 ∷ 11 ∷ 12 ∷ 13 ∷ 14 ∷ []) 20 ≡ 23
five_top = refl

six_leaves : tree_rules (10 ∷ 11 ∷ 12 ∷ 13 ∷ 14 ∷ 15 ∷ []) 20 ≡ joins 10 11 ∷ joins 12 13 ∷ joins 14 15 ∷ joins 20 21 ∷ joins 23 22 ∷ []
six_leaves = refl

seven_leaves : tree_rules (10 ∷ 11 ∷ 12 ∷ 13 ∷ 14 ∷ 15 ∷ 16 ∷ []) 20 ≡ joins 10 11 ∷ joins 12 13 ∷ joins 14 15 ∷ joins 20 21 ∷ joins 22 16 ∷ joins 23 24 ∷ []
seven_leaves = refl

seven_top : tree_top (10 ∷ 11 ∷ 12 ∷ 13 ∷ 14 ∷ 15 ∷ 16 ∷ []) 20 ≡ 25
seven_top = refl
