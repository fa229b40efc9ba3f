-- A completion tree over the ends of branches, read at its numbers, is the tree of the cells, which is numbered from its
-- leaves on.
use Rattle.std.proofs.Common.{◌≡◌, ℕ, zero, suc, ◌+◌, ◌-◌, ◌/◌, ◌<◌, ◌≤◌, Bool, true, false, List, [], ◌∷◌, ◌++◌, length, get_or, set, replicate, refl, sym, ap, ◌∙◌, subst, arith, length-append}
use Rattle.std.specs.Prelude.{not, ◌&&◌, ◌||◌, nat_lt, if◌then◌else◌}
use Rattle.std.specs.List.{range_with_len}
use Rattle.std.proofs.lemmas.Bool.Decides.{nat_tests}
use Rattle.std.proofs.lemmas.List.FromFn.{length-range_with_len}
use Rattle.prs_core.specs.Nets.{NodeRules}
use Rattle.prs_core.specs.Pairs.{no_rules}
use Rattle.prs_core.specs.Moves.{guard_holds}
use Rattle.cell_parallel.specs.Trees.{level_rules, next_level, levels_rules, tree_rules, tree_top}
use Rattle.cell_parallel.specs.Sizes.{level_length, tree_length}
use Rattle.circuit_places.specs.Circuit.{Bits, cell_bit, turned_bits, joint_count, tree_value, tree_answer, low_bits as low_tree}

-- one node fewer than leaves
pub joint_count_is : (n : ℕ) → joint_count n ≡ n - 1
joint_count_is n = let e = tree_length (range_with_len 0 n) n in omega (arith, e, length-range_with_len 0 n)

-- the nodes of a tree as a list
abbrev pub tree_bits : (n : ℕ) → Bits n → List Bool
tree_bits zero t = []
tree_bits (suc n) t = t.0 ∷ tree_bits n t.1

pub length-tree_bits : (n : ℕ) (t : Bits n) → length (tree_bits n t) ≡ n
length-tree_bits zero t = refl
length-tree_bits (suc n) t = ap (λ k. suc k) (length-tree_bits n t.1)

pub tree_bit : (n : ℕ) (t : Bits n) (k : ℕ) → get_or (tree_bits n t) k false ≡ cell_bit n t k
tree_bit zero t k = refl
tree_bit (suc n) t zero = refl
tree_bit (suc n) t (suc k) = tree_bit n t.1 k

pub tree_turned : (n : ℕ) (t : Bits n) (k : ℕ) → k < n → set (tree_bits n t) k (not (get_or (tree_bits n t) k false)) ≡ tree_bits n (turned_bits n t k)
tree_turned zero t k h = absurd (omega arith)
tree_turned (suc n) t zero h = refl
tree_turned (suc n) t (suc k) h = ap (λ l. t.0 ∷ l) (tree_turned n t.1 k (omega arith))

pub tree_low : (n : ℕ) → tree_bits n (low_tree n) ≡ replicate n false
tree_low zero = refl
tree_low (suc n) = ap (λ l. false ∷ l) (tree_low n)

-- values at its numbers
pub value_leaf : (n : ℕ) (leaf node : ℕ → Bool) (i : ℕ) → i < n → tree_value n leaf node i ≡ leaf i
value_leaf n leaf node i less = ap (λ b. if b then leaf i else node (i - n)) (let e : nat_lt i n ≡ true = grind (arith, nat_tests) in e)

pub value_node : (n : ℕ) (leaf node : ℕ → Bool) (k : ℕ) → tree_value n leaf node (n + k) ≡ node k
value_node n leaf node k =
    ap (λ b. if b then leaf (n + k) else node (n + k - n)) (let e : nat_lt (n + k) n ≡ false = grind (arith, nat_tests) in e)
    ∙ ap node (let e : n + k - n ≡ k = omega arith in e)

pub answer_value : (n : ℕ) (leaf node : ℕ → Bool) → 2 ≤ n → tree_answer n leaf node ≡ node (n - 2)
answer_value n leaf node some = ap (tree_value n leaf node) (top n some) ∙ value_node n leaf node (n - 2)
  where
    top : (n : ℕ) → 2 ≤ n → tree_top (range_with_len 0 n) n ≡ n + (n - 2)
    top zero h = absurd (omega arith)
    top (suc zero) h = absurd (omega arith)
    top (suc (suc m)) h = let e = length-range_with_len (0 + 1 + 1) m in omega (arith, e)

-- two lists of numbers have the same values, one by one
abbrev pub Alike : (v w : ℕ → Bool) → List ℕ → List ℕ → Type 0
Alike v w [] [] = Unit {0}
Alike v w (m ∷ ms) (l ∷ ls) = (v m ≡ w l) × Alike v w ms ls
Alike v w _ _ = ⊥

-- two lists of rules say the same, one by one
abbrev pub RulesAlike : (v w : ℕ → Bool) → List NodeRules → List NodeRules → Type 0
RulesAlike v w [] [] = Unit {0}
RulesAlike v w (r ∷ rs) (s ∷ ss) = (guard_holds v r.up ≡ guard_holds w s.up) × (guard_holds v r.down ≡ guard_holds w s.down) × RulesAlike v w rs ss
RulesAlike v w _ _ = ⊥

module _ (v w : ℕ → Bool) where
  alike_length : (ms ls : List ℕ) → Alike v w ms ls → length ms ≡ length ls
  alike_length [] [] h = refl
  alike_length (m ∷ ms) (l ∷ ls) h = ap (λ k. suc k) (alike_length ms ls h.1)
  alike_length [] (l ∷ ls) h = absurd h
  alike_length (m ∷ ms) [] h = absurd h

  pub rules_append : (rs ss rs' ss' : List NodeRules) → RulesAlike v w rs ss → RulesAlike v w rs' ss' → RulesAlike v w (rs ++ rs') (ss ++ ss')
  rules_append [] [] rs' ss' h k = k
  rules_append (r ∷ rs) (s ∷ ss) rs' ss' h k = (h.0, h.1, rules_append rs ss rs' ss' h.2 k)
  rules_append [] (s ∷ ss) rs' ss' h k = absurd h
  rules_append (r ∷ rs) [] rs' ss' h k = absurd h

  pub rules_at : (rs ss : List NodeRules) → RulesAlike v w rs ss → (k : ℕ) →
      (guard_holds v (get_or rs k no_rules).up ≡ guard_holds w (get_or ss k no_rules).up) ×
      (guard_holds v (get_or rs k no_rules).down ≡ guard_holds w (get_or ss k no_rules).down)
  rules_at [] [] h k = (refl, refl)
  rules_at (r ∷ rs) (s ∷ ss) h zero = (h.0, h.1)
  rules_at (r ∷ rs) (s ∷ ss) h (suc k) = rules_at rs ss h.2 k
  rules_at [] (s ∷ ss) h k = absurd h
  rules_at (r ∷ rs) [] h k = absurd h

  level_alike : (ms ls : List ℕ) → Alike v w ms ls → RulesAlike v w (level_rules ms) (level_rules ls)
  level_alike [] [] h = tt
  level_alike (m ∷ []) (l ∷ []) h = tt
  level_alike (m ∷ n ∷ ms) (l ∷ k ∷ ls) h = (
    ap (λ b. b && (v n && true) || false) h.0 ∙ ap (λ b. w l && (b && true) || false) h.1.0,
    ap (λ b. not b && (not (v n) && true) || false) h.0 ∙ ap (λ b. not (w l) && (not b && true) || false) h.1.0,
    level_alike ms ls h.1.1,
  )
  level_alike [] (l ∷ ls) h = absurd h
  level_alike (m ∷ ms) [] h = absurd h
  level_alike (m ∷ []) (l ∷ k ∷ ls) h = absurd h.1
  level_alike (m ∷ n ∷ ms) (l ∷ []) h = absurd h.1

  next_alike : (ms ls : List ℕ) (to from : ℕ) → Alike v w ms ls → ((j : ℕ) → j < length (level_rules ls) → v (to + j) ≡ w (from + j))
      → Alike v w (next_level ms to) (next_level ls from)
  next_alike [] [] to from h own = tt
  next_alike (m ∷ []) (l ∷ []) to from h own = h
  next_alike (m ∷ n ∷ ms) (l ∷ k ∷ ls) to from h own = (
    ap v (let e : to ≡ to + 0 = omega arith in e) ∙ (own 0 (omega arith) ∙ ap w (let e : from + 0 ≡ from = omega arith in e)),
    next_alike ms ls (to + 1) (from + 1) h.1.1 (λ j less.
        ap v (let e : to + 1 + j ≡ to + suc j = omega arith in e) ∙ (own (suc j) (omega (arith, less))
        ∙ ap w (let e : from + suc j ≡ from + 1 + j = omega arith in e))),
  )
  next_alike [] (l ∷ ls) to from h own = absurd h
  next_alike (m ∷ ms) [] to from h own = absurd h
  next_alike (m ∷ []) (l ∷ k ∷ ls) to from h own = absurd h.1
  next_alike (m ∷ n ∷ ms) (l ∷ []) to from h own = absurd h.1

  levels_alike : (n : ℕ) (ms ls : List ℕ) (to from : ℕ) → Alike v w ms ls → ((j : ℕ) → j < length (levels_rules n ls from) → v (to + j) ≡ w (from + j))
      → RulesAlike v w (levels_rules n ms to) (levels_rules n ls from)
  levels_alike zero ms ls to from h own = tt
  levels_alike (suc n) ms ls to from h own =
      let same = alike_length ms ls h in
      let long = level_length ls in
      let whole = length-append (level_rules ls) (levels_rules n (next_level ls from) (from + length ls / 2)) in
      rules_append (level_rules ms) (level_rules ls) (levels_rules n (next_level ms to) (to + length ms / 2))
      (levels_rules n (next_level ls from) (from + length ls / 2)) (level_alike ms ls h)
      (levels_alike n (next_level ms to) (next_level ls from) (to + length ms / 2) (from + length ls / 2)
      (next_alike ms ls to from h (λ j less. own j (omega (arith, less, whole))))
      (λ j less.
      ap v (let e : to + length ms / 2 + j ≡ to + (length ls / 2 + j) = omega (arith, same) in e)
      ∙ (own (length ls / 2 + j) (omega (arith, less, whole, long)) ∙ ap w (let e : from + (length ls / 2 + j) ≡ from + length ls / 2 + j = omega arith in e))))

  pub tree_rules_alike : (ms ls : List ℕ) (to from : ℕ) → Alike v w ms ls → ((j : ℕ) → j < length (tree_rules ls from) → v (to + j) ≡ w (from + j))
      → RulesAlike v w (tree_rules ms to) (tree_rules ls from)
  tree_rules_alike ms ls to from h own =
      subst (λ (n : ℕ). RulesAlike v w (levels_rules n ms to) (tree_rules ls from)) (sym (alike_length ms ls h))
      (levels_alike (length ls) ms ls to from h own)

  pub tree_alike : (ms ls : List ℕ) (to from : ℕ) → Alike v w ms ls → ((j : ℕ) → j < length (tree_rules ls from) → v (to + j) ≡ w (from + j)) → (k : ℕ)
      → (guard_holds v (get_or (tree_rules ms to) k no_rules).up ≡ guard_holds w (get_or (tree_rules ls from) k no_rules).up) ×
      (guard_holds v (get_or (tree_rules ms to) k no_rules).down ≡ guard_holds w (get_or (tree_rules ls from) k no_rules).down)
  tree_alike ms ls to from h own = rules_at (tree_rules ms to) (tree_rules ls from) (tree_rules_alike ms ls to from h own)
