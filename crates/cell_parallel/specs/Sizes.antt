-- How many nodes a tree has.
use Rattle.std.proofs.Common.{◌≡◌, ℕ, zero, suc, ◌+◌, ◌-◌, ◌/◌, ◌≤◌, List, [], ◌∷◌, ◌++◌, length, refl, arith}
use Rattle.std.proofs.lemmas.List.{length-append}
use Rattle.cell_parallel.specs.Trees.{level_rules, next_level, levels_rules, tree_rules}

-- a level halves the nodes

pub level_length : (ls : List ℕ) → length (level_rules ls) ≡ length ls / 2
level_length [] = refl
level_length (p ∷ []) = refl
level_length (p ∷ q ∷ rest) = let e : length (level_rules rest) ≡ length rest / 2 = level_length rest in omega arith

pub next_length : (ls : List ℕ) (from : ℕ) → length (next_level ls from) ≡ length ls - length ls / 2
next_length [] from = refl
next_length (p ∷ []) from = refl
next_length (p ∷ q ∷ rest) from =
    let e : length (next_level rest (from + 1)) ≡ length rest - length rest / 2 = next_length rest (from + 1) in
    omega arith

levels_length : (n : ℕ) (ls : List ℕ) (from : ℕ) → length ls ≤ suc n → length (levels_rules n ls from) ≡ length ls - 1
levels_length zero ls from few = omega arith
levels_length (suc n) ls from few =
    let level = level_length ls in
    let next = next_length ls from in
    let all : length (levels_rules n (next_level ls from) (from + length ls / 2)) ≡ length (next_level ls from) - 1 =
    levels_length n (next_level ls from) (from + length ls / 2) (omega (arith, next)) in
    let parts : length (level_rules ls ++ levels_rules n (next_level ls from) (from + length ls / 2)) ≡
    length (level_rules ls) + length (levels_rules n (next_level ls from) (from + length ls / 2)) =
    length-append _ _ in
    omega (arith, level, next, all, parts)

-- one node fewer than leaves
pub tree_length : (leaves : List ℕ) (from : ℕ) → length (tree_rules leaves from) ≡ length leaves - 1
tree_length leaves from = levels_length (length leaves) leaves from (omega arith)
