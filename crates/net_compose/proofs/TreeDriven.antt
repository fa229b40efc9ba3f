-- A level of a completion tree, two nodes at a time.
use Rattle.std.proofs.Common.{◌≡◌, ◌∙◌, ℕ, zero, suc, ◌+◌, ◌-◌, ◌<◌, ◌≤◌, List, [], ◌∷◌, ◌++◌, length, get_or, take, drop, refl, sym, ap, append_assoc, length-drop, arith}
use Rattle.std.proofs.lemmas.List.{drop_more, take_all, append-nil}
use Rattle.prs_core.specs.Nets.{NodeRules}
use Rattle.cell_parallel.specs.Trees.{c_element, level_rules, next_level}

pub two_left : (ns : List ℕ) (i : ℕ) → i + 1 < length ns → drop i ns ≡ get_or ns i 0 ∷ get_or ns (i + 1) 0 ∷ drop (i + 2) ns
two_left ns i l =
    let next : i + 1 + 1 ≡ i + 2 = omega arith in
    drop_more ns i 0 (omega (arith, l)) ∙ (ap (λ xs. get_or ns i 0 ∷ xs) (drop_more ns (i + 1) 0 l)
    ∙ ap (λ k. get_or ns i 0 ∷ get_or ns (i + 1) 0 ∷ drop k ns) next)

pub level_more : (ns : List ℕ) (i : ℕ) (now new whole : List NodeRules) → i + 1 < length ns
    → new ≡ now ++ c_element (get_or ns i 0) (get_or ns (i + 1) 0) ∷ [] → now ++ level_rules (drop i ns) ≡ whole → new ++ level_rules (drop (i + 2) ns) ≡ whole
level_more ns i now new whole l made so_far =
    ap (λ rs. rs ++ level_rules (drop (i + 2) ns)) made
    ∙ (append_assoc now (c_element (get_or ns i 0) (get_or ns (i + 1) 0) ∷ []) (level_rules (drop (i + 2) ns))
    ∙ (ap (λ xs. now ++ level_rules xs) (sym (two_left ns i l)) ∙ so_far))

pub above_more : (ns : List ℕ) (i node : ℕ) (now new whole : List ℕ) → i + 1 < length ns → new ≡ now ++ node ∷ []
    → now ++ next_level (drop i ns) node ≡ whole → new ++ next_level (drop (i + 2) ns) (node + 1) ≡ whole
above_more ns i node now new whole l made so_far =
    ap (λ xs. xs ++ next_level (drop (i + 2) ns) (node + 1)) made
    ∙ (append_assoc now (node ∷ []) (next_level (drop (i + 2) ns) (node + 1))
    ∙ (ap (λ xs. now ++ next_level xs node) (sym (two_left ns i l)) ∙ so_far))

-- at most one node is left
last_rules : (ls : List ℕ) → length ls ≤ 1 → level_rules ls ≡ []
last_rules [] l = refl
last_rules (a ∷ []) l = refl
last_rules (a ∷ b ∷ ls) l = absurd (omega (arith, l))

last_above : (ls : List ℕ) (node : ℕ) → length ls ≤ 1 → next_level ls node ≡ ls
last_above [] node l = refl
last_above (a ∷ []) node l = refl
last_above (a ∷ b ∷ ls) node l = absurd (omega (arith, l))

few_left : (ns : List ℕ) (i : ℕ) → length ns ≤ i + 1 → length (drop i ns) ≤ 1
few_left ns zero l = omega (arith, l)
few_left [] (suc i) l = omega arith
few_left (n ∷ ns) (suc i) l = few_left ns i (omega (arith, l))

pub level_over : (ns : List ℕ) (i : ℕ) (now whole : List NodeRules) → length ns ≤ i + 1 → now ++ level_rules (drop i ns) ≡ whole → now ≡ whole
level_over ns i now whole l so_far = sym (append-nil now) ∙ (ap (λ xs. now ++ xs) (sym (last_rules (drop i ns) (few_left ns i l))) ∙ so_far)

pub above_over : (ns : List ℕ) (i node : ℕ) (now new whole : List ℕ) → length ns ≤ i + 1 → i ≤ length ns
    → new ≡ now ++ take (length ns - i) (drop i ns) → now ++ next_level (drop i ns) node ≡ whole → new ≡ whole
above_over ns i node now new whole l within made so_far =
    let count : length (drop i ns) ≡ length ns - i = length-drop i ns in
    made ∙ (ap (λ xs. now ++ xs) (take_all (length ns - i) (drop i ns) (omega (arith, count)))
    ∙ (ap (λ xs. now ++ xs) (sym (last_above (drop i ns) node (few_left ns i l))) ∙ so_far))
