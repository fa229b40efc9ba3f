-- The tree that a part is.
use Rattle.std.proofs.Common.{◌≡◌, ℕ, ◌+◌, ◌<◌, ◌≤◌, List, [], ◌∷◌, ◌++◌, length, get_or, drop, refl, sym, ap, ◌∙◌}
use denote.Hole.Carrier.{out}
use Rattle.std.proofs.lemmas.List.{drop_more, drop_all}
use Rattle.std.specs.declared.alloc.Global.{Global}
use Rattle.std.specs.declared.vec.Vec.{Vec}
use Rattle.handshake_expand.specs.declared.parts.Part.{Part, Part', out-Part, roll-out-Part, rolls-Part', Row_of-Part, end_of-Part, more_of-Part, items-the_row-Part, items_hidden-the_row-Part-0}
use Rattle.handshake_expand.specs.declared.parts.Part.TheBlock.{hidden-the_row-Part-0}
use Rattle.handshake_expand.specs.declared.parts.Part.TheViews.{roll-Part}
use Rattle.handshake_expand.specs.declared.parts.PartKind.{PartKind}
use Rattle.width_check.specs.Processes.{Process, skipping, assigning, sending, receiving, in_turn, side_by_side, choosing, repeating, TypedProgram}
use Rattle.handshake_expand.specs.Layout.{size_of}
use Rattle.handshake_expand.specs.Answers.{answer_of}
use Rattle.handshake_expand.specs.PartTree.{PartTree, part, PartTrees, no_children, and_child, expanded, tree_of, trees_of, each_tree, part_of}

trees_row : {m : _} (row : Row_of-Part m) → trees_of row ≡ each_tree (items-the_row-Part m row)
trees_row end_of-Part = refl
trees_row (more_of-Part child rest) = ap (and_child (tree_of child)) (trees_row rest)

-- of a part that is made
pub made_tree : (kind : PartKind) (request answer from count : ℕ) (children : Vec Part Global)
    → tree_of (roll-Part (record { kind = kind; request = request; answer = answer; from = from; count = count; children = children })) ≡
    part kind request answer from count (each_tree children.items)
made_tree kind request answer from count children =
    ap tree_of (rolls-Part' (record { kind = kind; request = request; answer = answer; from = from; count = count; children = children }))
    ∙ ap (part kind request answer from count) (trees_row (hidden-the_row-Part-0 children) ∙ ap each_tree (items_hidden-the_row-Part-0 children))

-- what is read of a part
abbrev pub tree_answer : PartTree → ℕ
tree_answer (part kind request answer from count _) = answer

abbrev pub tree_count : PartTree → ℕ
tree_count (part kind request answer from count _) = count

abbrev pub tree_from : PartTree → ℕ
tree_from (part kind request answer from count _) = from

pub answer_read : (x : Part) → (out-Part x).answer ≡ tree_answer (tree_of x)
unfolding out-Part out
answer_read (Part' kind request answer from count shape children) = refl

pub count_read : (x : Part) → (out-Part x).count ≡ tree_count (tree_of x)
unfolding out-Part out
count_read (Part' kind request answer from count shape children) = refl

-- these parts, and then others
abbrev pub in_front : List Part → PartTrees → PartTrees
in_front [] rest = rest
in_front (x ∷ xs) rest = and_child (tree_of x) (in_front xs rest)

pub front_push : (xs : List Part) (x : Part) (rest : PartTrees) → in_front (xs ++ x ∷ []) rest ≡ in_front xs (and_child (tree_of x) rest)
front_push [] x rest = refl
front_push (y ∷ ys) x rest = ap (and_child (tree_of y)) (front_push ys x rest)

pub front_all : (xs : List Part) → in_front xs no_children ≡ each_tree xs
front_all [] = refl
front_all (x ∷ xs) = ap (and_child (tree_of x)) (front_all xs)

-- a child more
pub front_more : (xs made : List Part) (x : Part) (tree : PartTree) (before rest all : PartTrees) → made ≡ xs ++ x ∷ [] → tree_of x ≡ tree →
    before ≡ and_child tree rest → in_front xs before ≡ all → in_front made rest ≡ all
front_more xs made x tree before rest all pushed is step so_far =
    ap (λ ys. in_front ys rest) pushed
    ∙ (front_push xs x rest
    ∙ (ap (λ t. in_front xs (and_child t rest)) is
    ∙ (ap (in_front xs) (sym step)
    ∙ so_far)))

pub front_done : (xs : List Part) (rest all : PartTrees) → rest ≡ no_children → in_front xs rest ≡ all → each_tree xs ≡ all
front_done xs rest all none so_far = sym (front_all xs) ∙ (ap (in_front xs) (sym none) ∙ so_far)

-- what a statement's part says of it
pub expanded_answer : (p : TypedProgram) (s : Process) (request from : ℕ) → tree_answer (expanded p s request from) ≡ answer_of p s from
expanded_answer p skipping request from = refl
expanded_answer p (assigning x at e) request from = refl
expanded_answer p (sending chan at e) request from = refl
expanded_answer p (receiving chan chan_at x var_at) request from = refl
expanded_answer p (in_turn _) request from = refl
expanded_answer p (side_by_side _) request from = refl
expanded_answer p (choosing again _) request from = refl
expanded_answer p (repeating s) request from = refl

pub expanded_count : (p : TypedProgram) (s : Process) (request from : ℕ) → tree_count (expanded p s request from) ≡ size_of p s
expanded_count p skipping request from = refl
expanded_count p (assigning x at e) request from = refl
expanded_count p (sending chan at e) request from = refl
expanded_count p (receiving chan chan_at x var_at) request from = refl
expanded_count p (in_turn _) request from = refl
expanded_count p (side_by_side _) request from = refl
expanded_count p (choosing again _) request from = refl
expanded_count p (repeating s) request from = refl

pub from_read : (x : Part) → (out-Part x).from ≡ tree_from (tree_of x)
unfolding out-Part out
from_read (Part' kind request answer from count shape children) = refl

pub child_count : (x : Part) (p : TypedProgram) (s : Process) (request from : ℕ) → tree_of x ≡ expanded p s request from → (out-Part x).count ≡ size_of p s
child_count x p s request from is = count_read x ∙ (ap tree_count is ∙ expanded_count p s request from)

pub child_answer : (x : Part) (p : TypedProgram) (s : Process) (request from : ℕ) → tree_of x ≡ expanded p s request from →
    (out-Part x).answer ≡ answer_of p s from
child_answer x p s request from is = answer_read x ∙ (ap tree_answer is ∙ expanded_answer p s request from)

-- a part of what was found
pub same_part : (kind k : PartKind) (request answer a from count n : ℕ) (children : List Part) (trees : PartTrees) → kind ≡ k → answer ≡ a → count ≡ n →
    each_tree children ≡ trees → part_of kind request answer from count children ≡ part k request a from n trees
same_part kind k request answer a from count n children trees is answers counts all =
    ap (λ x. part x request answer from count (each_tree children)) is
    ∙ (ap (λ x. part k request x from count (each_tree children)) answers
    ∙ (ap (λ x. part k request a from x (each_tree children)) counts
    ∙ ap (part k request a from n) all))

-- the part of a statement that is made of what was found
pub made_part : (kind k : PartKind) (request answer a from count n : ℕ) (children : Vec Part Global) (trees : PartTrees) → kind ≡ k → answer ≡ a → count ≡ n →
    each_tree children.items ≡ trees
    → tree_of (roll-Part (record { kind = kind; request = request; answer = answer; from = from; count = count; children = children })) ≡
    part k request a from n trees
made_part kind k request answer a from count n children trees is answers counts all =
    made_tree kind request answer from count children ∙ same_part kind k request answer a from count n children.items trees is answers counts all

-- a part that is opened
pub opened_tree : (x : Part) → tree_of x ≡ part (out-Part x).kind (out-Part x).request (out-Part x).answer (out-Part x).from (out-Part x).count
    (each_tree (out-Part x).children.items)
opened_tree x =
    let o = out-Part x in
    ap tree_of (sym (roll-out-Part x)) ∙ made_tree o.kind o.request o.answer o.from o.count o.children

pub child_at : (xs : List Part) (i : ℕ) (x : Part) → i < length xs → x ≡ get_or xs i x →
    each_tree (drop i xs) ≡ and_child (tree_of x) (each_tree (drop (i + 1) xs))
child_at xs i x within is = ap each_tree (drop_more xs i x within) ∙ ap (λ (y : Part). and_child (tree_of y) (each_tree (drop (i + 1) xs))) (sym is)

pub no_child_left : (xs : List Part) (i : ℕ) → length xs ≤ i → each_tree (drop i xs) ≡ no_children
no_child_left xs i all = ap each_tree (drop_all i xs all)
