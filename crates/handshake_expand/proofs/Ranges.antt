-- Where parts lie.
use Rattle.std.proofs.Common.{◌≡◌, ℕ, zero, suc, ◌+◌, ◌-◌, ◌*◌, ◌<◌, ◌≤◌, Bool, true, false, List, [], ◌∷◌, ◌++◌, length, map, refl, sym, ap, ◌∙◌, subst, inl, inr, arith}
use Rattle.std.specs.Prelude.{All, AllPairs, Contains, if◌then◌else◌}
use Rattle.std.proofs.lemmas.Bool.{cases_lt}
use Rattle.std.proofs.lemmas.List.Elements.{All-nil, All-cons}
use Rattle.std.proofs.lemmas.List.Kept.{AllPairs-cons}
use Rattle.chp_base.specs.declared.channel.Channel.{Channel}
use Rattle.width_check.specs.declared.typed.Var.{Var}
use Rattle.width_check.specs.Processes.{Formula, Process, skipping, assigning, sending, receiving, in_turn, side_by_side, choosing, repeating, Processes, no_members, and_member, member_count, Choices, no_choices, and_choice, choice_count, TypedProgram}
use Rattle.width_check.specs.Reads.{reads}
use Rattle.width_check.specs.Typing.{IsProcess, AreProcesses, AreChoices, IsTyped, var_width}
use Rattle.handshake_expand.specs.declared.site.SiteNode.{SiteNode}
use Rattle.handshake_expand.specs.Answers.{answer_of, turn_answer, bodies_from, second_answer}
use Rattle.handshake_expand.specs.Expansions.{BlockValue, Expansion, channel_block, var_block, blocks_from, channel_blocks, var_blocks, expansion}
use Rattle.handshake_expand.specs.Layout.{formula_size, through_size, assign_size, size_of, turn_size, branches_size, guards_size, bodies_size, wires_size, block_size, wires_before, blocks_before, channel_from, var_from, vars_from, root_request, body_from, nodes_of}
use Rattle.handshake_expand.specs.PartLaws.{Range, range, Has, LiesIn, LiesBefore, range_of, ranges_of, IsNested, AreNested, block_range, outer_ranges, Follow, IsIn}
use Rattle.handshake_expand.specs.PartText.{HasNodesBelow, HaveNodesBelow}
use Rattle.handshake_expand.specs.PartTree.{PartTree, part, PartTrees, no_children, and_child, expanded, expanded_in_turn, expanded_branches, expanded_bodies, own_before, root_part}
use Rattle.handshake_expand.specs.Sites.{own_sites, in_body}
use Rattle.handshake_expand.proofs.Branches.{choosing_size, three_each}
use Rattle.handshake_expand.proofs.Turns.{turn_size_more, turn_answer_more}

-- a statement's part has the statement's nodes
expanded_range : (p : TypedProgram) (s : Process) (request from : ℕ) → range_of (expanded p s request from) ≡ range from (size_of p s)
expanded_range p skipping request from = refl
expanded_range p (assigning x at e) request from = refl
expanded_range p (sending chan at e) request from = refl
expanded_range p (receiving chan chan_at x var_at) request from = refl
expanded_range p (in_turn _) request from = refl
expanded_range p (side_by_side _) request from = refl
expanded_range p (choosing again _) request from = refl
expanded_range p (repeating s) request from = refl

-- parts between two nodes, one before the other
abbrev Ordered : (low high : ℕ) → PartTrees → Type 0
Ordered low high no_children = low ≤ high
Ordered low high (and_child child more) = (low ≤ (range_of child).from) × Ordered ((range_of child).from + (range_of child).count) high more

-- the part of a statement comes first, and then others
ordered_more : (p : TypedProgram) (s : Process) (request from low high : ℕ) (more : PartTrees) → low ≤ from → Ordered (from + size_of p s) high more →
    Ordered low high (and_child (expanded p s request from) more)
ordered_more p s request from low high more first rest =
    subst (λ (r : Range). (low ≤ r.from) × Ordered (r.from + r.count) high more) (sym (expanded_range p s request from)) (first, rest)

turn_ordered : (p : TypedProgram) (members : Processes) (request from : ℕ) → Ordered from (from + turn_size p members) (expanded_in_turn p members request from)
turn_ordered p no_members request from = omega arith
turn_ordered p (and_member s no_members) request from = ordered_more p s request from from (from + size_of p s) no_children (omega arith) (omega arith)
turn_ordered p (and_member s (and_member t more)) request from =
    let rest : Ordered (from + 3 + size_of p s) (from + 3 + size_of p s + turn_size p (and_member t more))
    (expanded_in_turn p (and_member t more) (from + 2) (from + 3 + size_of p s)) =
    turn_ordered p (and_member t more) (from + 2) (from + 3 + size_of p s) in
    let end : from + 3 + size_of p s + turn_size p (and_member t more) ≡ from + turn_size p (and_member s (and_member t more)) = omega arith in
    ordered_more p s from (from + 3) from (from + turn_size p (and_member s (and_member t more)))
    (expanded_in_turn p (and_member t more) (from + 2) (from + 3 + size_of p s)) (omega arith)
    (subst (λ n. Ordered (from + 3 + size_of p s) n (expanded_in_turn p (and_member t more) (from + 2) (from + 3 + size_of p s))) end rest)

branches_ordered : (p : TypedProgram) (members : Processes) (from high : ℕ) → from + branches_size p members ≤ high →
    Ordered from high (expanded_branches p members from)
branches_ordered p no_members from high room = omega (arith, room)
branches_ordered p (and_member s more) from high room =
    ordered_more p s from (from + 3) from high (expanded_branches p more (from + 3 + size_of p s)) (omega arith)
    (branches_ordered p more (from + 3 + size_of p s) high (omega (arith, room)))

bodies_ordered : (p : TypedProgram) (choices : Choices) (start from low high : ℕ) → low ≤ from → from + bodies_size p choices ≤ high →
    Ordered low high (expanded_bodies p choices start from)
bodies_ordered p no_choices start from low high first room = omega (arith, first, room)
bodies_ordered p (and_choice g s more) start from low high first room =
    ordered_more p s start from low high (expanded_bodies p more (start + 1) (from + size_of p s)) first
    (bodies_ordered p more (start + 1) (from + size_of p s) (from + size_of p s) high (omega arith) (omega (arith, room)))

behind : (low high : ℕ) (trees : PartTrees) → Ordered low high trees → low ≤ high
behind low high no_children h = h
behind low high (and_child child more) h =
    let rest : (range_of child).from + (range_of child).count ≤ high = behind ((range_of child).from + (range_of child).count) high more h.1 in
    omega (arith, rest, h.0)

-- so they lie between the two, and each before all later ones
all_in : (low high : ℕ) (outer : Range) (trees : PartTrees) → Ordered low high trees → outer.from ≤ low → high ≤ outer.from + outer.count →
    All (λ r. LiesIn r outer) (ranges_of trees)
all_in low high outer no_children h first last = All-nil (λ r. LiesIn r outer)
all_in low high outer (and_child child more) h first last =
    All-cons (λ r. LiesIn r outer) (range_of child) (ranges_of more) (
      omega (arith, h.0, first),
      omega (arith, behind ((range_of child).from + (range_of child).count) high more h.1, last),
    )
    (all_in ((range_of child).from + (range_of child).count) high outer more h.1 (omega (arith, h.0, first)) last)

all_behind : (low high : ℕ) (r : Range) (trees : PartTrees) → Ordered low high trees → r.from + r.count ≤ low → All (LiesBefore r) (ranges_of trees)
all_behind low high r no_children h first = All-nil (LiesBefore r)
all_behind low high r (and_child child more) h first =
    All-cons (LiesBefore r) (range_of child) (ranges_of more) (omega (arith, h.0, first))
    (all_behind ((range_of child).from + (range_of child).count) high r more h.1 (omega (arith, h.0, first)))

each_before : (low high : ℕ) (trees : PartTrees) → Ordered low high trees → AllPairs LiesBefore (ranges_of trees)
each_before low high no_children h = λ i j d below within. absurd (omega (arith, within))
each_before low high (and_child child more) h =
    AllPairs-cons LiesBefore (range_of child) (ranges_of more) (all_behind ((range_of child).from + (range_of child).count) high (range_of child) more h.1
    (omega arith)) (each_before ((range_of child).from + (range_of child).count) high more h.1)

-- the part of a statement, and those in it
nests : (p : TypedProgram) (s : Process) (request from low high : ℕ) (children : PartTrees) → Ordered low high children → from ≤ low →
    high ≤ from + size_of p s → AreNested children
    → All (λ r. LiesIn r (range from (size_of p s))) (ranges_of children) × AllPairs LiesBefore (ranges_of children) × AreNested children
nests p s request from low high children ordered first last inner =
    (all_in low high (range from (size_of p s)) children ordered first last, each_before low high children ordered, inner)

alone : (outer : Range) → All (λ r. LiesIn r outer) [] × AllPairs LiesBefore [] × Unit {0}
alone outer = (All-nil (λ r. LiesIn r outer), λ i j d below within. absurd (omega (arith, within)), tt)

mutual
  pub nested : (p : TypedProgram) (s : Process) (request from : ℕ) → IsNested (expanded p s request from)
  nested p skipping request from = alone (range from 1)
  nested p (assigning x at e) request from = alone (range from (assign_size p x e))
  nested p (sending chan at e) request from = alone (range from (size_of p (sending chan at e)))
  nested p (receiving chan chan_at x var_at) request from = alone (range from (size_of p (receiving chan chan_at x var_at)))
  nested p (in_turn members) request from =
      nests p (in_turn members) request from from (from + turn_size p members) (expanded_in_turn p members request from) (turn_ordered p members request from)
      (omega arith) (omega arith) (nested_in_turn p members request from)
  nested p (side_by_side members) request from =
      nests p (side_by_side members) request from from (from + size_of p (side_by_side members)) (expanded_branches p members from)
      (branches_ordered p members from (from + size_of p (side_by_side members)) (omega arith)) (omega arith) (omega arith) (nested_branches p members from)
  nested p (choosing again choices) request from =
      let size = choosing_size p again choices in
      nests p (choosing again choices) request from from (from + size_of p (choosing again choices))
      (expanded_bodies p choices (from + own_before again + choice_count choices) (bodies_from choices (own_before again) from))
      (bodies_ordered p choices (from + own_before again + choice_count choices) (bodies_from choices (own_before again) from) from
      (from + size_of p (choosing again choices)) (omega arith) (omega (arith, size)))
      (omega arith) (omega arith) (nested_bodies p choices (from + own_before again + choice_count choices) (bodies_from choices (own_before again) from))
  nested p (repeating s) request from =
      nests p (repeating s) request from from (from + size_of p (repeating s)) (and_child (expanded p s (from + 1) (from + 2)) no_children)
      (ordered_more p s (from + 1) (from + 2) from (from + size_of p (repeating s)) no_children (omega arith) (omega arith))
      (omega arith) (omega arith) (nested p s (from + 1) (from + 2), tt)

  nested_in_turn : (p : TypedProgram) (members : Processes) (request from : ℕ) → AreNested (expanded_in_turn p members request from)
  nested_in_turn p no_members request from = tt
  nested_in_turn p (and_member s no_members) request from = (nested p s request from, tt)
  nested_in_turn p (and_member s (and_member t more)) request from =
      (nested p s from (from + 3), nested_in_turn p (and_member t more) (from + 2) (from + 3 + size_of p s))

  nested_branches : (p : TypedProgram) (members : Processes) (from : ℕ) → AreNested (expanded_branches p members from)
  nested_branches p no_members from = tt
  nested_branches p (and_member s more) from = (nested p s from (from + 3), nested_branches p more (from + 3 + size_of p s))

  nested_bodies : (p : TypedProgram) (choices : Choices) (start from : ℕ) → AreNested (expanded_bodies p choices start from)
  nested_bodies p no_choices start from = tt
  nested_bodies p (and_choice g s more) start from = (nested p s start from, nested_bodies p more (start + 1) (from + size_of p s))

pub root_nested : (p : TypedProgram) → IsNested (root_part p)
root_nested p =
    let from = root_request p in
    let end = from + (2 + size_of p p.body) in
    let child = and_child (expanded p p.body from (body_from p)) no_children in
    let ordered = ordered_more p p.body from (body_from p) from end no_children (omega arith) (omega arith) in (
      all_in from end (range from (2 + size_of p p.body)) child ordered (omega arith) (omega arith),
      each_before from end child ordered,
      (nested p p.body from (body_from p), tt),
    )

-- the answer of a statement is one of its nodes
module _ (p : TypedProgram) where
  either : (b : Bool) (from x y n m : ℕ) → (from ≤ x) × (x < from + n) → (from ≤ y) × (y < from + m) →
      (from ≤ (if b then x else y)) × ((if b then x else y) < from + (if b then n else m))
  either true from x y n m h k = h
  either false from x y n m h k = k

  mutual
    pub answer_within : (s : Process) (from : ℕ) → IsProcess p.channels p.vars s → (from ≤ answer_of p s from) × (answer_of p s from < from + size_of p s)
    answer_within skipping from h = (omega arith, omega arith)
    answer_within (assigning x at e) from h =
        either (reads x e) from (second_answer p x from (formula_size e)) from (through_size (var_width p.vars x) e) (1 + formula_size e) (
          omega arith,
          omega arith,
        ) (omega arith, omega arith)
    answer_within (sending chan at e) from h = (omega arith, omega arith)
    answer_within (receiving chan chan_at x var_at) from h = (omega arith, omega arith)
    answer_within (in_turn members) from h = turn_within members from (omega (arith, h.0)) h.1
    answer_within (side_by_side members) from h = let some = three_each p members in (omega (arith, some, h.0), omega (arith, some, h.0))
    answer_within (choosing again choices) from h = let size = choosing_size p again choices in (omega arith, omega (arith, size, h.0))
    answer_within (repeating s) from h = (omega arith, omega arith)

    turn_within : (members : Processes) (from : ℕ) → 0 < member_count members → AreProcesses p.channels p.vars members →
        (from ≤ turn_answer p members from) × (turn_answer p members from < from + turn_size p members)
    turn_within no_members from some h = absurd (omega (arith, some))
    turn_within (and_member s no_members) from some h = answer_within s from h.0
    turn_within (and_member s (and_member t more)) from some h =
        let rest : (from + 3 + size_of p s ≤ turn_answer p (and_member t more) (from + 3 + size_of p s))
        × (turn_answer p (and_member t more) (from + 3 + size_of p s) < from + 3 + size_of p s + turn_size p (and_member t more)) =
        turn_within (and_member t more) (from + 3 + size_of p s) (omega arith) h.1 in
        (omega (arith, rest.0), omega (arith, rest.1))

  -- so all requests and answers of parts are nodes below the end
  module _ (n : ℕ) where
    below : (s : Process) (request from : ℕ) (inner_parts : PartTrees) → IsProcess p.channels p.vars s → request < n → from + size_of p s ≤ n →
        HaveNodesBelow n inner_parts → (request < n) × (answer_of p s from < n) × HaveNodesBelow n inner_parts
    below s request from inner_parts h asked room inner = (asked, omega (arith, (answer_within s from h).1, room), inner)

    mutual
      pub nodes_below : (s : Process) (request from : ℕ) → IsProcess p.channels p.vars s → request < n → from + size_of p s ≤ n →
          HasNodesBelow n (expanded p s request from)
      nodes_below skipping request from h asked room = below skipping request from no_children h asked room tt
      nodes_below (assigning x at e) request from h asked room = below (assigning x at e) request from no_children h asked room tt
      nodes_below (sending chan at e) request from h asked room = below (sending chan at e) request from no_children h asked room tt
      nodes_below (receiving chan chan_at x var_at) request from h asked room = below (receiving chan chan_at x var_at) request from no_children h asked room tt
      nodes_below (in_turn members) request from h asked room =
          below (in_turn members) request from (expanded_in_turn p members request from) h asked room (turn_below members request from h.1 asked room)
      nodes_below (side_by_side members) request from h asked room =
          below (side_by_side members) request from (expanded_branches p members from) h asked room (branches_below members from h.1 (omega (arith, room)))
      nodes_below (choosing again choices) request from h asked room =
          let size = choosing_size p again choices in
          below (choosing again choices) request from
          (expanded_bodies p choices (from + own_before again + choice_count choices) (bodies_from choices (own_before again) from)) h asked room
          (bodies_below choices (from + own_before again + choice_count choices) (bodies_from choices (own_before again) from) h.2 (omega (arith, size, room))
          (omega (arith, size, room)))
      nodes_below (repeating s) request from h asked room =
          below (repeating s) request from (and_child (expanded p s (from + 1) (from + 2)) no_children) h asked room
          (nodes_below s (from + 1) (from + 2) h (omega (arith, room)) (omega (arith, room)), tt)

      turn_below : (members : Processes) (request from : ℕ) → AreProcesses p.channels p.vars members → request < n → from + turn_size p members ≤ n →
          HaveNodesBelow n (expanded_in_turn p members request from)
      turn_below no_members request from h asked room = tt
      turn_below (and_member s no_members) request from h asked room = (nodes_below s request from h.0 asked room, tt)
      turn_below (and_member s (and_member t more)) request from h asked room = (
        nodes_below s from (from + 3) h.0 (omega (arith, room)) (omega (arith, room)),
        turn_below (and_member t more) (from + 2) (from + 3 + size_of p s) h.1 (omega (arith, room)) (omega (arith, room)),
      )

      branches_below : (members : Processes) (from : ℕ) → AreProcesses p.channels p.vars members → from + branches_size p members ≤ n →
          HaveNodesBelow n (expanded_branches p members from)
      branches_below no_members from h room = tt
      branches_below (and_member s more) from h room = (
        nodes_below s from (from + 3) h.0 (omega (arith, room)) (omega (arith, room)),
        branches_below more (from + 3 + size_of p s) h.1 (omega (arith, room)),
      )

      bodies_below : (choices : Choices) (start from : ℕ) → AreChoices p.channels p.vars choices → start + choice_count choices ≤ n →
          from + bodies_size p choices ≤ n → HaveNodesBelow n (expanded_bodies p choices start from)
      bodies_below no_choices start from h starts room = tt
      bodies_below (and_choice g s more) start from h starts room = (
        nodes_below s start from h.1 (omega (arith, starts)) (omega (arith, room)),
        bodies_below more (start + 1) (from + size_of p s) h.2 (omega (arith, starts)) (omega (arith, room)),
      )

  pub root_below : IsProcess p.channels p.vars p.body → HasNodesBelow (nodes_of p) (root_part p)
  root_below h = (omega arith, omega arith, (nodes_below (nodes_of p) p.body (root_request p) (body_from p) h (omega arith) (omega arith), tt))

-- the blocks follow one another
module _ (p : TypedProgram) (sites : List SiteNode) where
  channels_follow : (cs : List Channel) (k w end : ℕ) (rest : List Range) → ((m : ℕ) → wires_before p.channels (k + m) ≡ w + wires_before cs m) →
      Follow (2 + (w + wires_before cs (length cs))) rest end
      → Follow (2 + w) (map block_range (blocks_from (channel_block p sites) k cs) ++ rest) end
  channels_follow [] k w end rest before h = let none : w + 0 ≡ w = omega arith in subst (λ n. Follow (2 + n) rest end) none h
  channels_follow (c ∷ cs) k w end rest before h =
      let first : channel_from p k ≡ 2 + w = let place : k + 0 ≡ k = omega arith in omega (arith, before 0, ap (wires_before p.channels) place) in
      let next : 2 + (w + wires_size c.width) ≡ channel_from p k + wires_size c.width = omega (arith, first) in
      let end_same : 2 + (w + wires_before (c ∷ cs) (length (c ∷ cs))) ≡ 2 + (w + wires_size c.width + wires_before cs (length cs)) = omega arith in
      let tail : Follow (2 + (w + wires_size c.width)) (map block_range (blocks_from (channel_block p sites) (suc k) cs) ++ rest) end =
      channels_follow cs (suc k) (w + wires_size c.width) end rest (λ m. let place : suc k + m ≡ k + suc m = omega arith in
      omega (arith, before (suc m), ap (wires_before p.channels) place)) (subst (λ n. Follow n rest end) end_same h) in
      (first, subst (λ n. Follow n (map block_range (blocks_from (channel_block p sites) (suc k) cs) ++ rest) end) next tail)

  vars_follow : (vs : List Var) (k w end : ℕ) (rest : List Range) → ((m : ℕ) → blocks_before p.vars (k + m) ≡ w + blocks_before vs m) →
      Follow (vars_from p + (w + blocks_before vs (length vs))) rest end
      → Follow (vars_from p + w) (map block_range (blocks_from (var_block p sites) k vs) ++ rest) end
  vars_follow [] k w end rest before h = let none : w + 0 ≡ w = omega arith in subst (λ n. Follow (vars_from p + n) rest end) none h
  vars_follow (v ∷ vs) k w end rest before h =
      let first : var_from p k ≡ vars_from p + w = let place : k + 0 ≡ k = omega arith in omega (arith, before 0, ap (blocks_before p.vars) place) in
      let next : vars_from p + (w + block_size v.width) ≡ var_from p k + block_size v.width = omega (arith, first) in
      let end_same : vars_from p + (w + blocks_before (v ∷ vs) (length (v ∷ vs))) ≡ vars_from p + (w + block_size v.width + blocks_before vs (length vs)) =
      omega arith in
      let tail : Follow (vars_from p + (w + block_size v.width)) (map block_range (blocks_from (var_block p sites) (suc k) vs) ++ rest) end =
      vars_follow vs (suc k) (w + block_size v.width) end rest (λ m. let place : suc k + m ≡ k + suc m = omega arith in
      omega (arith, before (suc m), ap (blocks_before p.vars) place)) (subst (λ n. Follow n rest end) end_same h) in
      (first, subst (λ n. Follow n (map block_range (blocks_from (var_block p sites) (suc k) vs) ++ rest) end) next tail)

pub blocks_follow : (p : TypedProgram) → Follow 2 (outer_ranges (expansion p)) (nodes_of p)
blocks_follow p =
    let sites = in_body p (own_sites p) in
    let zero_more : (m : ℕ) → 0 + m ≡ m = λ m. omega arith in
    let root : Follow (root_request p) (range (root_request p) (2 + size_of p p.body) ∷ []) (nodes_of p) = (refl, omega arith) in
    let vars : Follow (vars_from p + 0) (map block_range (var_blocks p sites) ++ range (root_request p) (2 + size_of p p.body) ∷ []) (nodes_of p) =
    vars_follow p sites p.vars 0 0 (nodes_of p) (range (root_request p) (2 + size_of p p.body) ∷ []) (λ m. ap (blocks_before p.vars) (zero_more m)
    ∙ sym (zero_more (blocks_before p.vars m)))
    (subst (λ n. Follow n (range (root_request p) (2 + size_of p p.body) ∷ []) (nodes_of p)) (omega arith) root) in
    channels_follow p sites p.channels 0 0 (nodes_of p) (map block_range (var_blocks p sites) ++ range (root_request p) (2 + size_of p p.body) ∷ [])
    (λ m. ap (wires_before p.channels) (zero_more m) ∙ sym (zero_more (wires_before p.channels m)))
    (subst (λ n. Follow n (map block_range (var_blocks p sites) ++ range (root_request p) (2 + size_of p p.body) ∷ []) (nodes_of p)) (omega arith) vars)

-- so no node is in two of them, and each from the first on is in one
follow_behind : (from end : ℕ) (rs : List Range) (r : Range) → Follow from rs end → r.from + r.count ≤ from → All (LiesBefore r) rs
follow_behind from end [] r h first = All-nil (LiesBefore r)
follow_behind from end (x ∷ xs) r h first =
    All-cons (LiesBefore r) x xs (omega (arith, h.0, first)) (follow_behind (x.from + x.count) end xs r h.1 (omega (arith, h.0, first)))

pub follow_apart : (from end : ℕ) (rs : List Range) → Follow from rs end → AllPairs LiesBefore rs
follow_apart from end [] h = λ i j d below within. absurd (omega (arith, within))
follow_apart from end (x ∷ xs) h = AllPairs-cons LiesBefore x xs (follow_behind (x.from + x.count) end xs x h.1 (omega arith))
    (follow_apart (x.from + x.count) end xs h.1)

pub follow_all : (from end : ℕ) (rs : List Range) (node : ℕ) → Follow from rs end → from ≤ node → node < end → IsIn rs node
follow_all from end [] node h low high = absurd (omega (arith, h, low, high))
follow_all from end (x ∷ xs) node h low high = elim (cases_lt node (x.from + x.count)) [
  | inl here ↦ (x, (zero, omega arith, refl), (omega (arith, h.0, low), here))
  | inr there ↦ let rest : IsIn xs node = follow_all (x.from + x.count) end xs node h.1 there high in
      (rest.0, (suc rest.1.0, omega (arith, rest.1.1), rest.1.2), rest.2)
]
