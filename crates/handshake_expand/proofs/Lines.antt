-- The lines of the tree of parts, one after another.
use Rattle.std.proofs.Common.{◌≡◌, ℕ, zero, suc, ◌+◌, ◌-◌, ◌<◌, ◌≤◌, List, [], ◌∷◌, ◌++◌, length, get_or, take, drop, refl, sym, ap, ◌∙◌, subst, arith, append_assoc}
use Rattle.std.specs.Prelude.{codes}
use Rattle.std.proofs.lemmas.List.{append-nil}
use Rattle.width_check.specs.Processes.{TypedProgram}
use Rattle.handshake_expand.specs.declared.parts.Part.{Part, out-Part}
use Rattle.handshake_expand.specs.PartText.{indent, part_line, part_lines, child_lines, HasNodesBelow, HaveNodesBelow}
use Rattle.handshake_expand.specs.PartTree.{PartTree, part, PartTrees, no_children, and_child, tree_of, each_tree}
use Rattle.handshake_expand.proofs.Trees.{opened_tree, child_at, no_child_left}

pub opened_below : (n : ℕ) (x : Part) → HasNodesBelow n (tree_of x) → ((out-Part x).request < n) × ((out-Part x).answer < n)
    × HaveNodesBelow n (each_tree (out-Part x).children.items)
opened_below n x h = subst (HasNodesBelow n) (opened_tree x) h

-- two spaces more
pub indent_more : (level : ℕ) (margin : List ℕ) → margin ≡ indent level → margin ++ codes "  " ≡ indent (suc level)
indent_more zero margin is = ap (λ m. m ++ codes "  ") is
indent_more (suc level) margin is =
    ap (λ m. m ++ codes "  ") is
    ∙ (append_assoc (codes "  ") (indent level) (codes "  ")
    ∙ ap (λ m. codes "  " ++ m) (indent_more level (indent level) refl))

module _ (p : TypedProgram) (level : ℕ) where
  -- the line of a part, and then its children's
  pub first_line : (x : Part) (margin old new : List ℕ) (children : List Part) → children ≡ (out-Part x).children.items → margin ≡ indent level
      → new ≡ old ++ part_line p margin (out-Part x).kind (out-Part x).request (out-Part x).answer (out-Part x).from (out-Part x).count
      → new ++ child_lines p (suc level) (each_tree children) ≡ old ++ part_lines p level (tree_of x)
  first_line x margin old new children same is line =
      let o = out-Part x in
      let own = part_line p (indent level) o.kind o.request o.answer o.from o.count in
      ap (λ xs. new ++ child_lines p (suc level) (each_tree xs)) same
      ∙ (ap (λ xs. xs ++ child_lines p (suc level) (each_tree o.children.items)) (line
      ∙ ap (λ m. old ++ part_line p m o.kind o.request o.answer o.from o.count) is)
      ∙ (append_assoc old own (child_lines p (suc level) (each_tree o.children.items))
      ∙ ap (λ t. old ++ part_lines p level t) (sym (opened_tree x))))

  -- a child's lines, and then those of the others
  pub next_lines : (xs : List Part) (i : ℕ) (x : Part) (old new all : List ℕ) → i < length xs → x ≡ get_or xs i x → new ≡ old ++ part_lines p level (tree_of x)
      → old ++ child_lines p level (each_tree (drop i xs)) ≡ all → new ++ child_lines p level (each_tree (drop (i + 1) xs)) ≡ all
  next_lines xs i x old new all within is lines so_far =
      let rest = child_lines p level (each_tree (drop (i + 1) xs)) in
      ap (λ ys. ys ++ rest) lines
      ∙ (append_assoc old (part_lines p level (tree_of x)) rest
      ∙ (ap (λ t. old ++ child_lines p level t) (sym (child_at xs i x within is))
      ∙ so_far))

  pub last_lines : (xs : List Part) (i : ℕ) (now all : List ℕ) → length xs ≤ i → now ++ child_lines p level (each_tree (drop i xs)) ≡ all → now ≡ all
  last_lines xs i now all end so_far = sym (append-nil now) ∙ (ap (λ t. now ++ child_lines p level t) (sym (no_child_left xs i end)) ∙ so_far)

pub child_below : (n : ℕ) (xs : List Part) (i : ℕ) (x : Part) → i < length xs → x ≡ get_or xs i x → HaveNodesBelow n (each_tree (drop i xs)) →
    HasNodesBelow n (tree_of x) × HaveNodesBelow n (each_tree (drop (i + 1) xs))
child_below n xs i x within is h = subst (HaveNodesBelow n) (child_at xs i x within is) h
