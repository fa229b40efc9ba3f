-- The parts of which a program's circuit is made, one for each statement, as a tree under the root.
use Rattle.std.specs.Prelude.{ℕ, ◌+◌, Bool, if◌then◌else◌, List, [], ◌∷◌}
use Rattle.width_check.specs.declared.typed.TArm.{TArm}
use Rattle.width_check.specs.declared.typed.TStmt.{TStmt}
use Rattle.width_check.specs.Processes.{Process, skipping, assigning, sending, receiving, in_turn, side_by_side, choosing, repeating, Processes, no_members, and_member, Choices, no_choices, and_choice, choice_count, TypedProgram}
use Rattle.width_check.specs.Reads.{reads}
use Rattle.width_check.specs.Values.{IsWellFormed}
use Rattle.width_check.specs.View.{formula_of, process_of}
use Rattle.handshake_expand.specs.declared.parts.Part.{Part, Part', Row_of-Part, end_of-Part, more_of-Part}
use Rattle.handshake_expand.specs.declared.parts.PartKind.{PartKind}
use Rattle.handshake_expand.specs.declared.parts.PartKind.TheVariants.{Root, Skip, Loop, Sequence, Parallel, Assign, Through, Send, Receive, Select, Again}
use Rattle.handshake_expand.specs.Layout.{size_of, go_node, done_node, root_request, body_from}
use Rattle.handshake_expand.specs.Answers.{answer_of, bodies_from, select_own, again_own}

-- a part: its request, its answer, the first of its nodes and how many it has, and the parts in it
mutual
  pub data PartTree : Type 0 where
    part : PartKind → (request answer from count : ℕ) → PartTrees → PartTree

  pub data PartTrees : Type 0 where
    no_children : PartTrees
    and_child : PartTree → PartTrees → PartTrees

abbrev pub part_kind : Process → PartKind
part_kind skipping = Skip
part_kind (assigning x at e) = if reads x e then Through else Assign
part_kind (sending chan at e) = Send
part_kind (receiving chan chan_at x var_at) = Receive
part_kind (in_turn _) = Sequence
part_kind (side_by_side _) = Parallel
part_kind (choosing again _) = if again then Again else Select
part_kind (repeating s) = Loop

-- a statement's part has all of its nodes, including those of the statements in it
abbrev pub part_over : TypedProgram → Process → (request from : ℕ) → PartTrees → PartTree
part_over p s request from children = part (part_kind s) request (answer_of p s from) from (size_of p s) children

-- how many nodes come before a selection's latches
abbrev pub own_before : (again : Bool) → ℕ
own_before again = if again then again_own else select_own

abbrev mutual
  -- the part of a statement under a request, where its nodes are numbered from a node on
  pub expanded : TypedProgram → Process → (request from : ℕ) → PartTree
  expanded p (in_turn members) request from =
      part_over p (in_turn members) request from (expanded_in_turn p members request from)
  expanded p (side_by_side members) request from =
      part_over p (side_by_side members) request from (expanded_branches p members from)
  expanded p (choosing again choices) request from =
      part_over p (choosing again choices) request from
      (expanded_bodies p choices (from + own_before again + choice_count choices)
      (bodies_from choices (own_before again) from))
  expanded p (repeating s) request from =
      part_over p (repeating s) request from (and_child (expanded p s (from + 1) (from + 2)) no_children)
  expanded p s request from = part_over p s request from no_children

  -- each member but the last is the child of a Q-element, whose next request is that of what follows
  pub expanded_in_turn : TypedProgram → Processes → (request from : ℕ) → PartTrees
  expanded_in_turn p no_members request from = no_children
  expanded_in_turn p (and_member s no_members) request from = and_child (expanded p s request from) no_children
  expanded_in_turn p (and_member s (and_member t more)) request from =
      and_child (expanded p s from (from + 3))
      (expanded_in_turn p (and_member t more) (from + 2) (from + 3 + size_of p s))

  -- each branch is the child of a Q-element
  pub expanded_branches : TypedProgram → Processes → (from : ℕ) → PartTrees
  expanded_branches p no_members from = no_children
  expanded_branches p (and_member s more) from =
      and_child (expanded p s from (from + 3)) (expanded_branches p more (from + 3 + size_of p s))

  -- the request of each branch is its start
  pub expanded_bodies : TypedProgram → Choices → (start from : ℕ) → PartTrees
  expanded_bodies p no_choices start from = no_children
  expanded_bodies p (and_choice g s more) start from =
      and_child (expanded p s start from) (expanded_bodies p more (start + 1) (from + size_of p s))

-- the root: its child request and its latch, and the body
abbrev pub root_part : TypedProgram → PartTree
root_part p =
    part Root go_node done_node (root_request p) (2 + size_of p p.body)
    (and_child (expanded p p.body (root_request p) (body_from p)) no_children)

-- the tree that a part is, and the members and arms of statements as lists
abbrev mutual
  pub tree_of : Part → PartTree
  tree_of (Part' kind request answer from count shape children) =
      part kind request answer from count (trees_of children)

  pub trees_of : {m : _} → Row_of-Part m → PartTrees
  trees_of end_of-Part = no_children
  trees_of (more_of-Part child rest) = and_child (tree_of child) (trees_of rest)

abbrev pub each_tree : List Part → PartTrees
each_tree [] = no_children
each_tree (child ∷ rest) = and_child (tree_of child) (each_tree rest)

-- a part of this kind over these parts
abbrev pub part_of : PartKind → (request answer from count : ℕ) → List Part → PartTree
part_of kind request answer from count children = part kind request answer from count (each_tree children)

-- each guard is a well-formed expression
abbrev pub HasFormedGuards : Choices → Type 0
HasFormedGuards no_choices = Unit {0}
HasFormedGuards (and_choice g s more) = IsWellFormed g × HasFormedGuards more
