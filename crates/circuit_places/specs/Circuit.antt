-- The circuit of a process as a tree of cells: the values of its own nodes, and the rule of each. A node here has a
-- spot in the tree and no number.
use Rattle.std.specs.Prelude.{ℕ, zero, suc, ◌-◌, ◌==◌, Bool, true, false, not, nat_lt, ◌&&◌, ◌||◌, if◌then◌else◌, List, [], ◌∷◌, ◌++◌, length, slice_index_or}
use Rattle.std.specs.List.{range_with_len}
use Rattle.prs_core.specs.Nets.{NodeRules}
use Rattle.prs_core.specs.Moves.{guard_holds}
use Rattle.cell_parallel.specs.Trees.{tree_rules, tree_top}
use Rattle.chp_base.specs.declared.span.Span.{Span}
pub use Rattle.function_blocks.specs.Rails.{
  RailLevels,
  levels_of,
  side_of,
  Pairs,
  low_pairs,
  turned_side,
  turned_pairs,
  Rule,
  rule_of,
  no_rule,
  turns,
  one_rule_fires,
  is_apart,
  same_bit,
}
pub use Rattle.function_blocks.specs.Parts.{gate_count}
pub use Rattle.circuit_places.specs.Heads.{Bits, low_bits}
pub use Rattle.circuit_places.specs.Cores.{Core, Turning, OwnSpot, RoundSpot}
use Rattle.circuit_places.specs.Cores.{core_rule, turning_rule, turned_own, turned_turning, core_of, turning_of}
pub use Rattle.function_blocks.specs.Waves.{gate_rule, out_rail, good}
use Rattle.circuit_places.specs.Lines.{Line, of_channel, of_var, same_line, Rails, Seen}
use Rattle.chp_base.specs.declared.channel.Channel.{Channel}
use Rattle.width_check.specs.Typing.{channel_width}
use Rattle.width_check.specs.Processes.{Formula, Process, skipping, assigning, sending, receiving, in_turn, side_by_side, repeating, Processes, no_members, and_member, member_count, choosing, Choices, no_choices, and_choice, choice_count}
use Rattle.width_check.specs.Reads.{reads}

-- A Q-element's child request, latch and next request, round its child.
pub record QElementCells (A : Type 0) : Type 0 where
  pub child : Bool
  pub latch : Bool
  pub next : Bool
  pub inner : A

-- the answer of a send or of an assignment, and the gates of its expression
pub record Site (n : ℕ) : Type 0 where
  pub answer : Bool
  pub gates : Pairs n

-- a receive's answer, the node that says that it has stored, and the rails that it has taken over
pub record Port : Type 0 where
  pub answer : Bool
  pub kept : Bool
  pub taken : Rails

-- a loop's answer and its body's request, round its body
pub record Ring (A : Type 0) : Type 0 where
  pub answer : Bool
  pub ask : Bool
  pub inner : A

-- a member of a sequence in its Q-element, and the members after it
pub record Turn (A B : Type 0) : Type 0 where
  pub member : QElementCells A
  pub later : B

-- branches side by side, and the nodes of the completion tree over their ends
pub record Sides (A : Type 0) (n : ℕ) : Type 0 where
  pub branches : A
  pub tree : Bits n

-- how many nodes of its own a completion tree over so many has
abbrev pub joint_count : ℕ → ℕ
joint_count n = length (tree_rules (range_with_len 0 n) n)

-- the gates of each guard
abbrev pub GuardCells : Choices → Type 0
GuardCells no_choices = Unit {0}
GuardCells (and_choice g p more) = Pairs (gate_count g) × GuardCells more

-- The own nodes of a process. In a sequence all members except the last have a Q-element.
abbrev mutual
  pub Cells : Process → Type 0
  Cells skipping = Bool
  Cells (assigning x at e) = Site (gate_count e)
  Cells (sending chan at e) = Site (gate_count e)
  Cells (receiving chan at x to) = Port
  Cells (in_turn members) = TurnCells members
  Cells (side_by_side members) = Sides (BranchCells members) (joint_count (member_count members))
  Cells (repeating p) = Ring (Cells p)
  Cells (choosing false choices) = Core (choice_count choices) (GuardCells choices) (ChoiceCells choices)
  Cells (choosing true choices) = Turning (Core (choice_count choices) (GuardCells choices) (ChoiceCells choices))

  pub ChoiceCells : Choices → Type 0
  ChoiceCells no_choices = Unit {0}
  ChoiceCells (and_choice g p more) = Cells p × ChoiceCells more

  pub BranchCells : Processes → Type 0
  BranchCells no_members = Unit {0}
  BranchCells (and_member p more) = QElementCells (Cells p) × BranchCells more

  pub TurnCells : Processes → Type 0
  TurnCells no_members = Unit {0}
  TurnCells (and_member p no_members) = Cells p
  TurnCells (and_member p (and_member q more)) = Turn (Cells p) (TurnCells (and_member q more))

abbrev pub cell_bit : (n : ℕ) → Bits n → ℕ → Bool
cell_bit zero x i = false
cell_bit (suc n) x zero = x.0
cell_bit (suc n) x (suc i) = cell_bit n x.1 i

abbrev pub turned_bits : (n : ℕ) → Bits n → ℕ → Bits n
turned_bits zero x i = x
turned_bits (suc n) x zero = (not x.0, x.1)
turned_bits (suc n) x (suc i) = (x.0, turned_bits n x.1 i)

abbrev pub low_guarded : {A : Type 0} → A → QElementCells A
low_guarded x = record { child = false; latch = false; next = false; inner = x }

abbrev pub low_site : (e : Formula) → Site (gate_count e)
low_site e = record { answer = false; gates = low_pairs (gate_count e) }

abbrev pub low_port : Port
low_port = record { answer = false; kept = false; taken = λ i one. false }

abbrev pub low_guards : (choices : Choices) → GuardCells choices
low_guards no_choices = tt
low_guards (and_choice g p more) = (low_pairs (gate_count g), low_guards more)

abbrev pub low_core : {B : Type 0} → (choices : Choices) → B → Core (choice_count choices) (GuardCells choices) B
low_core choices branches =
    let n = choice_count choices in
    core_of false false false (low_bits n) (low_bits n) (low_guards choices) branches

-- all of them low
abbrev mutual
  pub low : (p : Process) → Cells p
  low skipping = false
  low (assigning x at e) = low_site e
  low (sending chan at e) = low_site e
  low (receiving chan at x to) = low_port
  low (in_turn members) = low_turn members
  low (side_by_side members) =
      record { branches = low_branches members; tree = low_bits (joint_count (member_count members)) }
  low (repeating p) = record { answer = false; ask = false; inner = low p }
  low (choosing false choices) = low_core choices (low_choices choices)
  low (choosing true choices) = turning_of false false false (low_core choices (low_choices choices))

  pub low_choices : (choices : Choices) → ChoiceCells choices
  low_choices no_choices = tt
  low_choices (and_choice g p more) = (low p, low_choices more)

  pub low_branches : (members : Processes) → BranchCells members
  low_branches no_members = tt
  low_branches (and_member p more) = (low_guarded (low p), low_branches more)

  pub low_turn : (members : Processes) → TurnCells members
  low_turn no_members = tt
  low_turn (and_member p no_members) = low p
  low_turn (and_member p (and_member q more)) =
      record { member = low_guarded (low p); later = low_turn (and_member q more) }

-- the ends of branches, their Q-elements' next requests
abbrev pub branches_answered : (members : Processes) → BranchCells members → ℕ → Bool
branches_answered no_members x i = false
branches_answered (and_member p more) x zero = x.0.next
branches_answered (and_member p more) x (suc i) = branches_answered more x.1 i

-- A completion tree over the nodes 0 .. n - 1, whose own nodes are numbered from n on: all values, the one of its top,
-- and the rules of its k-th node.
abbrev pub tree_value : (n : ℕ) → (leaf node : ℕ → Bool) → ℕ → Bool
tree_value n leaf node k = if nat_lt k n then leaf k else node (k - n)

abbrev pub tree_answer : (n : ℕ) → (leaf node : ℕ → Bool) → Bool
tree_answer n leaf node = tree_value n leaf node (tree_top (range_with_len 0 n) n)

abbrev pub tree_node : (n k : ℕ) → NodeRules
tree_node n k = slice_index_or (tree_rules (range_with_len 0 n) n) k (record { up = []; down = [] })

-- the node that answers the process's request
abbrev mutual
  pub answer : (p : Process) → Cells p → Bool
  answer skipping x = x
  answer (assigning y at e) x = x.answer
  answer (sending chan at e) x = x.answer
  answer (receiving chan at y to) x = x.answer
  answer (in_turn members) x = last_answer members x
  answer (side_by_side members) x =
      let n = member_count members in
      tree_answer n (branches_answered members x.branches) (cell_bit (joint_count n) x.tree)
  answer (repeating p) x = x.answer
  answer (choosing false _) x = x.answer
  answer (choosing true _) x = x.answer

  pub last_answer : (members : Processes) → TurnCells members → Bool
  last_answer no_members x = false
  last_answer (and_member p no_members) x = answer p x
  last_answer (and_member p (and_member q more)) x = last_answer (and_member q more) x.later

-- what each branch of a selection answers
abbrev pub choice_answers : (choices : Choices) → ChoiceCells choices → Bits (choice_count choices)
choice_answers no_choices x = tt
choice_answers (and_choice g p more) x = (answer p x.0, choice_answers more x.1)

-- the spots of the guards' gates
pub data GuardSpot : Choices → Type 0 where
  this_gate : {g : Formula} {p : Process} {more : Choices} (gate : ℕ) (one : Bool) → GuardSpot (and_choice g p more)
  other_gate : {g : Formula} {p : Process} {more : Choices} → GuardSpot more → GuardSpot (and_choice g p more)

-- the spots of the own nodes: those of a site are its answer and the rails of its gates
pub data SiteSpot (e : Formula) : Type 0 where
  done : SiteSpot e
  gate : (k : ℕ) (one : Bool) → SiteSpot e

-- and those of a receive its answer, the node that says that it has stored, and the rails that it takes over
pub data PortSpot : Type 0 where
  heard stored : PortSpot
  taking : (bit : ℕ) (one : Bool) → PortSpot

mutual
  pub data GuardedSpot : Process → Type 0 where
    child latch next : {p : Process} → GuardedSpot p
    inner : {p : Process} → Spot p → GuardedSpot p

  pub data Spot : Process → Type 0 where
    of_skip : Spot skipping
    of_assign : {x : ℕ} {at : Span} {e : Formula} → SiteSpot e → Spot (assigning x at e)
    of_send : {chan : ℕ} {at : Span} {e : Formula} → SiteSpot e → Spot (sending chan at e)
    of_receive : {chan x : ℕ} {at to : Span} → PortSpot → Spot (receiving chan at x to)
    in_members : {members : Processes} → TurnSpot members → Spot (in_turn members)
    of_branch : {members : Processes} → BranchSpot members → Spot (side_by_side members)
    joint : {members : Processes} (k : ℕ) → Spot (side_by_side members)
    of_loop ask : {p : Process} → Spot (repeating p)
    in_body : {p : Process} → Spot p → Spot (repeating p)
    of_core : {again : Bool} {choices : Choices} → OwnSpot (choice_count choices) → Spot (choosing again choices)
    of_guard : {again : Bool} {choices : Choices} → GuardSpot choices → Spot (choosing again choices)
    of_choice : {again : Bool} {choices : Choices} → ChoiceSpot choices → Spot (choosing again choices)
    of_round : {choices : Choices} → RoundSpot → Spot (choosing true choices)

  pub data ChoiceSpot : Choices → Type 0 where
    this_choice : {g : Formula} {p : Process} {more : Choices} → Spot p → ChoiceSpot (and_choice g p more)
    other_choice : {g : Formula} {p : Process} {more : Choices} → ChoiceSpot more → ChoiceSpot (and_choice g p more)

  pub data BranchSpot : Processes → Type 0 where
    in_this : {p : Process} {more : Processes} → GuardedSpot p → BranchSpot (and_member p more)
    in_others : {p : Process} {more : Processes} → BranchSpot more → BranchSpot (and_member p more)

  pub data TurnSpot : Processes → Type 0 where
    in_last : {p : Process} → Spot p → TurnSpot (and_member p no_members)
    in_member : {p q : Process} {more : Processes} → GuardedSpot p → TurnSpot (and_member p (and_member q more))
    in_later : {p q : Process} {more : Processes} → TurnSpot (and_member q more)
        → TurnSpot (and_member p (and_member q more))

-- A gate's spot is a node where the expression has that gate, a rail's that is taken over where the channel has it, and
-- one in a tree where the tree has that node; every other spot is one.
abbrev pub site_stands : {e : Formula} → SiteSpot e → Bool
site_stands done = true
site_stands {e = e} (gate k one) = nat_lt k (gate_count e)

abbrev pub port_stands : (width : ℕ) → PortSpot → Bool
port_stands width (taking i one) = nat_lt i width
port_stands width _ = true

abbrev pub guard_stands : {choices : Choices} → GuardSpot choices → Bool
guard_stands (this_gate {g = g} k one) = nat_lt k (gate_count g)
guard_stands (other_gate s) = guard_stands s

abbrev mutual
  pub guarded_stands : {p : Process} → List Channel → GuardedSpot p → Bool
  guarded_stands cs (inner s) = stands cs s
  guarded_stands cs _ = true

  pub stands : {p : Process} → List Channel → Spot p → Bool
  stands cs (of_assign s) = site_stands s
  stands cs (of_send s) = site_stands s
  stands cs (of_receive {chan = c} s) = port_stands (channel_width cs c) s
  stands cs (in_members s) = turn_stands cs s
  stands cs (of_branch s) = branch_stands cs s
  stands cs (joint {members = members} k) = nat_lt k (joint_count (member_count members))
  stands cs (in_body s) = stands cs s
  stands cs (of_guard s) = guard_stands s
  stands cs (of_choice s) = choice_stands cs s
  stands cs _ = true

  pub choice_stands : {choices : Choices} → List Channel → ChoiceSpot choices → Bool
  choice_stands cs (this_choice s) = stands cs s
  choice_stands cs (other_choice s) = choice_stands cs s

  pub branch_stands : {members : Processes} → List Channel → BranchSpot members → Bool
  branch_stands cs (in_this s) = guarded_stands cs s
  branch_stands cs (in_others s) = branch_stands cs s

  pub turn_stands : {members : Processes} → List Channel → TurnSpot members → Bool
  turn_stands cs (in_last s) = stands cs s
  turn_stands cs (in_member s) = guarded_stands cs s
  turn_stands cs (in_later s) = turn_stands cs s

-- a node of a completion tree
abbrev pub tree_rule : (n : ℕ) → (leaf node : ℕ → Bool) → ℕ → Rule
tree_rule n leaf node k =
    let v = tree_value n leaf node in
    rule_of (node k) (guard_holds v (tree_node n k).up) (guard_holds v (tree_node n k).down)

abbrev pub site_rule : (e : Formula) → (bits : ℕ → Rails) → (ack r : Bool) → Site (gate_count e) → SiteSpot e → Rule
site_rule e bits ack r x done = rule_of x.answer (r && ack) (not ack)
site_rule e bits ack r x (gate k one) = gate_rule e bits r x.gates k one

-- of a receive on X into x
abbrev pub port_rule : (rail : Rails) → (ack va r : Bool) → Port → PortSpot → Rule
port_rule rail ack va r x heard = rule_of x.answer (r && ack) (not ack)
port_rule rail ack va r x stored = rule_of x.kept (r && va) (not va)
port_rule rail ack va r x (taking i one) = rule_of (x.taken i one) (r && rail i one) (not r && not (rail i one))

-- the head of a guard is the pair of its bit
abbrev pub guard_head : (e : Formula) → Pairs (gate_count e) → RailLevels
guard_head e u = levels_of (out_rail e u 0 true) (out_rail e u 0 false)

-- of all guards: their heads, the rules of their gates under a request, what states of them there are under it, and the
-- variables that they read
abbrev pub heads : (choices : Choices) → GuardCells choices → Pairs (choice_count choices)
heads no_choices x = tt
heads (and_choice g p more) x = (guard_head g x.0, heads more x.1)

abbrev pub guards_rule : (choices : Choices) → (bits : ℕ → Rails) → Bool → GuardCells choices → GuardSpot choices → Rule
guards_rule no_choices bits r x s = no_rule false
guards_rule (and_choice g p more) bits r x (this_gate k one) = gate_rule g bits r x.0 k one
guards_rule (and_choice g p more) bits r x (other_gate s) = guards_rule more bits r x.1 s

abbrev pub guards_good : (choices : Choices) → (bits : ℕ → Rails) → Bool → GuardCells choices → Bool
guards_good no_choices bits r x = true
guards_good (and_choice g p more) bits r x = good r bits g x.0 && guards_good more bits r x.1

abbrev pub guards_read : Choices → ℕ → Bool
guards_read no_choices v = false
guards_read (and_choice g p more) v = reads v g || guards_read more v

abbrev pub turned_guards : (choices : Choices) → GuardCells choices → GuardSpot choices → GuardCells choices
turned_guards no_choices x s = x
turned_guards (and_choice g p more) x (this_gate k one) = (turned_pairs (gate_count g) x.0 k one, x.1)
turned_guards (and_choice g p more) x (other_gate s) = (x.0, turned_guards more x.1 s)

-- The rules of the own nodes (Martin; Burns and Martin), under the request's value r:
--   Q-element, child answer d   d -> u+          ~r -> u-
--                               r & ~u -> c+     u -> c-
--                               u & ~d -> b+     ~u -> b-
--   skip                        r -> a+          ~r -> a-
--   site of a line L            r & L.a -> a+    ~L.a -> a-
--   receive on X into x         r & X.a -> a+    ~X.a -> a-
--     stored                    r & va -> k+     ~va -> k-
--     each rail X.t             r & X.t -> q+    ~r & ~X.t -> q-
--   branches side by side       each Q-element under r; the tree over their next requests
--   loop, body answer la        r & ~la -> lr+   la -> lr-     and none for its answer
--   selection, repetition       the core's; guards under its request for them, each branch under its start
abbrev mutual
  pub guarded_rule : (p : Process) → Seen → Bool → QElementCells (Cells p) → GuardedSpot p → Rule
  guarded_rule p w r x child = rule_of x.child (r && not x.latch) x.latch
  guarded_rule p w r x latch = rule_of x.latch (answer p x.inner) (not r)
  guarded_rule p w r x next = rule_of x.next (x.latch && not (answer p x.inner)) (not x.latch)
  guarded_rule p w r x (inner s) = rule p w x.child x.inner s

  pub rule : (p : Process) → Seen → Bool → Cells p → Spot p → Rule
  rule skipping w r x of_skip = rule_of x r (not r)
  rule (assigning y at e) w r x (of_assign s) = site_rule e w.bit (w.ack (of_var y)) r x s
  rule (sending chan at e) w r x (of_send s) = site_rule e w.bit (w.ack (of_channel chan)) r x s
  rule (receiving chan at y to) w r x (of_receive s) =
      port_rule (w.rail (of_channel chan)) (w.ack (of_channel chan)) (w.ack (of_var y)) r x s
  rule (in_turn members) w r x (in_members s) = turn_rule members w r x s
  rule (side_by_side members) w r x (of_branch s) = branch_rule members w r x.branches s
  rule (side_by_side members) w r x (joint k) =
      let n = member_count members in
      tree_rule n (branches_answered members x.branches) (cell_bit (joint_count n) x.tree) k
  rule (repeating p) w r x of_loop = no_rule x.answer
  rule (repeating p) w r x ask = rule_of x.ask (r && not (answer p x.inner)) (answer p x.inner)
  rule (repeating p) w r x (in_body s) = rule p w x.ask x.inner s
  rule (choosing false choices) w r x (of_core s) =
      core_rule r false (heads choices x.guards) (choice_answers choices x.branches) x s
  rule (choosing false choices) w r x (of_guard s) = guards_rule choices w.bit x.ask x.guards s
  rule (choosing false choices) w r x (of_choice s) = choice_rule choices w x.started x.branches s
  rule (choosing true choices) w r x (of_core s) =
      core_rule x.turn x.leave (heads choices x.core.guards) (choice_answers choices x.core.branches) x.core s
  rule (choosing true choices) w r x (of_guard s) = guards_rule choices w.bit x.core.ask x.core.guards s
  rule (choosing true choices) w r x (of_choice s) = choice_rule choices w x.core.started x.core.branches s
  rule (choosing true choices) w r x (of_round s) = turning_rule r (heads choices x.core.guards) x s

  -- each branch's request is its start
  pub choice_rule : (choices : Choices) → Seen → Bits (choice_count choices) → ChoiceCells choices → ChoiceSpot choices
      → Rule
  choice_rule no_choices w b x s = no_rule false
  choice_rule (and_choice g p more) w b x (this_choice s) = rule p w b.0 x.0 s
  choice_rule (and_choice g p more) w b x (other_choice s) = choice_rule more w b.1 x.1 s

  pub branch_rule : (members : Processes) → Seen → Bool → BranchCells members → BranchSpot members → Rule
  branch_rule no_members w r x s = no_rule false
  branch_rule (and_member p more) w r x (in_this s) = guarded_rule p w r x.0 s
  branch_rule (and_member p more) w r x (in_others s) = branch_rule more w r x.1 s

  -- the next request of a member's Q-element is the request of what follows it
  pub turn_rule : (members : Processes) → Seen → Bool → TurnCells members → TurnSpot members → Rule
  turn_rule no_members w r x s = no_rule false
  turn_rule (and_member p no_members) w r x (in_last s) = rule p w r x s
  turn_rule (and_member p (and_member q more)) w r x (in_member s) = guarded_rule p w r x.member s
  turn_rule (and_member p (and_member q more)) w r x (in_later s) =
      turn_rule (and_member q more) w x.member.next x.later s

abbrev pub turned_site : (e : Formula) → Site (gate_count e) → SiteSpot e → Site (gate_count e)
turned_site e x done = record x { answer = not x.answer }
turned_site e x (gate k one) = record x { gates = turned_pairs (gate_count e) x.gates k one }

-- rails with this one flipped over
abbrev pub rails_turned : Rails → ℕ → Bool → Rails
rails_turned rail i one j side = if (j == i) && same_bit side one then not (rail i one) else rail j side

abbrev pub turned_port : Port → PortSpot → Port
turned_port x heard = record x { answer = not x.answer }
turned_port x stored = record x { kept = not x.kept }
turned_port x (taking i one) = record x { taken = rails_turned x.taken i one }

-- the cells with one node flipped over
abbrev mutual
  pub turned_guarded : (p : Process) → QElementCells (Cells p) → GuardedSpot p → QElementCells (Cells p)
  turned_guarded p x child = record x { child = not x.child }
  turned_guarded p x latch = record x { latch = not x.latch }
  turned_guarded p x next = record x { next = not x.next }
  turned_guarded p x (inner s) = record x { inner = flipped p x.inner s }

  pub flipped : (p : Process) → Cells p → Spot p → Cells p
  flipped skipping x of_skip = not x
  flipped (assigning y at e) x (of_assign s) = turned_site e x s
  flipped (sending chan at e) x (of_send s) = turned_site e x s
  flipped (receiving chan at y to) x (of_receive s) = turned_port x s
  flipped (in_turn members) x (in_members s) = turned_turn members x s
  flipped (side_by_side members) x (of_branch s) = record x { branches = turned_branches members x.branches s }
  flipped (side_by_side members) x (joint k) =
      record x { tree = turned_bits (joint_count (member_count members)) x.tree k }
  flipped (repeating p) x of_loop = record x { answer = not x.answer }
  flipped (repeating p) x ask = record x { ask = not x.ask }
  flipped (repeating p) x (in_body s) = record x { inner = flipped p x.inner s }
  flipped (choosing false _) x (of_core s) = turned_own x s
  flipped (choosing false choices) x (of_guard s) = record x { guards = turned_guards choices x.guards s }
  flipped (choosing false choices) x (of_choice s) = record x { branches = turned_choice choices x.branches s }
  flipped (choosing true _) x (of_core s) = record x { core = turned_own x.core s }
  flipped (choosing true choices) x (of_guard s) =
      record x { core = record (x.core) { guards = turned_guards choices x.core.guards s } }
  flipped (choosing true choices) x (of_choice s) =
      record x { core = record (x.core) { branches = turned_choice choices x.core.branches s } }
  flipped (choosing true _) x (of_round s) = turned_turning x s

  pub turned_choice : (choices : Choices) → ChoiceCells choices → ChoiceSpot choices → ChoiceCells choices
  turned_choice no_choices x s = x
  turned_choice (and_choice g p more) x (this_choice s) = (flipped p x.0 s, x.1)
  turned_choice (and_choice g p more) x (other_choice s) = (x.0, turned_choice more x.1 s)

  pub turned_branches : (members : Processes) → BranchCells members → BranchSpot members → BranchCells members
  turned_branches no_members x s = x
  turned_branches (and_member p more) x (in_this s) = (turned_guarded p x.0 s, x.1)
  turned_branches (and_member p more) x (in_others s) = (x.0, turned_branches more x.1 s)

  pub turned_turn : (members : Processes) → TurnCells members → TurnSpot members → TurnCells members
  turned_turn no_members x s = x
  turned_turn (and_member p no_members) x (in_last s) = flipped p x s
  turned_turn (and_member p (and_member q more)) x (in_member s) = record x { member = turned_guarded p x.member s }
  turned_turn (and_member p (and_member q more)) x (in_later s) =
      record x { later = turned_turn (and_member q more) x.later s }

-- the rail of a site's value, if the site is the line's
abbrev pub rails_of_site : (own : Bool) → (e : Formula) → Site (gate_count e) → (bit : ℕ) → Bool → List Bool
rails_of_site true e x i one = out_rail e x.gates i one ∷ []
rails_of_site false e x i one = []

abbrev pub rails_of_port : (own : Bool) → Port → (bit : ℕ) → Bool → List Bool
rails_of_port true x i one = x.taken i one ∷ []
rails_of_port false x i one = []

-- this rail of each of the line's sites, in the order of the text; a receive is a site of its variable
abbrev mutual
  pub site_rails : (p : Process) → Cells p → Line → (bit : ℕ) → Bool → List Bool
  site_rails (assigning y at e) x k i one = rails_of_site (same_line (of_var y) k) e x i one
  site_rails (sending chan at e) x k i one = rails_of_site (same_line (of_channel chan) k) e x i one
  site_rails (receiving chan at y to) x k i one = rails_of_port (same_line (of_var y) k) x i one
  site_rails (in_turn members) x k i one = turn_rails members x k i one
  site_rails (side_by_side members) x k i one = branch_rails members x.branches k i one
  site_rails (repeating p) x k i one = site_rails p x.inner k i one
  site_rails (choosing false choices) x k i one = choice_rails choices x.branches k i one
  site_rails (choosing true choices) x k i one = choice_rails choices x.core.branches k i one
  site_rails skipping x k i one = []

  pub choice_rails : (choices : Choices) → ChoiceCells choices → Line → (bit : ℕ) → Bool → List Bool
  choice_rails no_choices x k i one = []
  choice_rails (and_choice g p more) x k i one = site_rails p x.0 k i one ++ choice_rails more x.1 k i one

  pub branch_rails : (members : Processes) → BranchCells members → Line → (bit : ℕ) → Bool → List Bool
  branch_rails no_members x k i one = []
  branch_rails (and_member p more) x k i one = site_rails p x.0.inner k i one ++ branch_rails more x.1 k i one

  pub turn_rails : (members : Processes) → TurnCells members → Line → (bit : ℕ) → Bool → List Bool
  turn_rails no_members x k i one = []
  turn_rails (and_member p no_members) x k i one = site_rails p x k i one
  turn_rails (and_member p (and_member q more)) x k i one =
      site_rails p x.member.inner k i one ++ turn_rails (and_member q more) x.later k i one

-- the nodes that say that a receive on the channel has stored, in the order of the text
abbrev pub takers_of_port : (own : Bool) → Port → List Bool
takers_of_port true x = x.kept ∷ []
takers_of_port false x = []

abbrev mutual
  pub takers : (p : Process) → Cells p → (chan : ℕ) → List Bool
  takers (receiving chan at y to) x c = takers_of_port (chan == c) x
  takers (in_turn members) x c = turn_takers members x c
  takers (side_by_side members) x c = branch_takers members x.branches c
  takers (repeating p) x c = takers p x.inner c
  takers (choosing false choices) x c = choice_takers choices x.branches c
  takers (choosing true choices) x c = choice_takers choices x.core.branches c
  takers _ x c = []

  pub choice_takers : (choices : Choices) → ChoiceCells choices → (chan : ℕ) → List Bool
  choice_takers no_choices x c = []
  choice_takers (and_choice g p more) x c = takers p x.0 c ++ choice_takers more x.1 c

  pub branch_takers : (members : Processes) → BranchCells members → (chan : ℕ) → List Bool
  branch_takers no_members x c = []
  branch_takers (and_member p more) x c = takers p x.0.inner c ++ branch_takers more x.1 c

  pub turn_takers : (members : Processes) → TurnCells members → (chan : ℕ) → List Bool
  turn_takers no_members x c = []
  turn_takers (and_member p no_members) x c = takers p x c
  turn_takers (and_member p (and_member q more)) x c =
      takers p x.member.inner c ++ turn_takers (and_member q more) x.later c
