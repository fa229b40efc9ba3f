-- How many moves follow a move at most before the program's next step: its trail. It is read off the program, and of a selection or a
-- repetition also off its latches, since the branch that is under way alone is let go of.
--
-- P: the program; K: how many moves follow the falls of lines; p, q, more: statements; x: values of their nodes; s: a spot; held: how many
-- moves there are from a statement's answer to the fall of its request; down: how many follow the fall of its answer.
use Rattle.std.specs.Prelude.{ℕ, zero, suc, ◌+◌, ◌-◌, ◌/◌, Bool, true, false, nat_lt, if◌then◌else◌, max, [], slice_index}
use Rattle.chp_base.specs.declared.channel.Kind.{Kind}
use Rattle.chp_base.specs.declared.channel.Kind.TheVariants.{Out}
use Rattle.width_check.specs.Processes.{Formula, Process, skipping, assigning, sending, receiving, in_turn, side_by_side, choosing, repeating, Processes, no_members, and_member, member_count, Choices, no_choices, and_choice, choice_count, TypedProgram}
use Rattle.width_check.specs.Typing.{kind_at, channel_width}
use Rattle.function_blocks.specs.Rails.{side_of, pair_in}
use Rattle.function_blocks.specs.Parts.{gate_count, block_parts}
use Rattle.circuit_places.specs.Heads.{Index, top, under, Bits}
use Rattle.circuit_places.specs.Cores.{of_joined, of_ask, of_any, of_latch, of_start, of_answer, of_turn, of_leave}
use Rattle.circuit_places.specs.Circuit.{QElementCells, Site, Port, Cells, TurnCells, BranchCells, ChoiceCells, GuardCells, joint_count, cell_bit, SiteSpot, done, gate, PortSpot, heard, stored, taking, GuardedSpot, child, latch, next, inner, Spot, of_skip, of_assign, of_send, of_receive, in_members, of_branch, joint, of_loop, ask, in_body, of_core, of_guard, of_choice, of_round, GuardSpot, this_gate, other_gate, ChoiceSpot, this_choice, other_choice, BranchSpot, in_this, in_others, TurnSpot, in_last, in_member, in_later}
use Rattle.round_time.specs.Longest.{depths, depth, guards_depth, tree_height, var_height, first, turn_first}
use Rattle.round_time.specs.Phases.{choices_first}

-- moves from there on, by a channel or a variable: `acked` behind the fall of the channel's acknowledge, `written` behind that of the
-- variable's, `taken` behind the fall of a rail of a channel that is received
pub record Clearing : Type 0 where
  pub acked : (chan : ℕ) → ℕ
  pub written : (var : ℕ) → ℕ
  pub taken : (chan : ℕ) → ℕ

-- from the fall of a channel's rail on, that included
abbrev pub rail_left : Kind → (acked taken : ℕ) → ℕ
rail_left Out f q = 2 + f
rail_left _ f q = 1 + q

-- and from its rise on to the acknowledge's
abbrev pub rail_ahead : Kind → (tree : ℕ) → ℕ
rail_ahead Out h = 1
rail_ahead _ h = 7 + h

abbrev pub gate_depth : Formula → ℕ → ℕ
gate_depth e k = slice_index (depths [] (block_parts e 0)) k

-- the level of a completion tree on which its node of this number is
abbrev pub level_from : (most leaves k : ℕ) → ℕ
level_from zero n k = 0
level_from (suc m) n k = if nat_lt k (n / 2) then 1 else suc (level_from m ((n + 1) / 2) (k - n / 2))

abbrev pub joint_level : (leaves k : ℕ) → ℕ
joint_level n k = level_from n n k

-- ---- how many moves follow the fall of a statement's request

abbrev mutual
  pub back : TypedProgram → Clearing → (down : ℕ) → (p : Process) → Cells p → ℕ
  back P K down skipping x = suc down
  back P K down (assigning v at e) x = depth e + (2 + var_height P v + K.written v)
  back P K down (sending c at e) x = depth e + rail_left (kind_at P.channels c) (K.acked c) (K.taken c)
  back P K down (receiving c at v to) x = 3 + var_height P v + K.written v
  back P K down (in_turn members) x = turn_back P K down members x
  back P K down (side_by_side members) x = 2 + tree_height (member_count members) + down
  back P K down (repeating p) x = 0
  back P K down (choosing false choices) x = choice_back P K (1 + down) (1 + down) choices x.latched x.branches
  back P K down (choosing true choices) x = 4 + down

  -- of a sequence from a member on
  pub turn_back : TypedProgram → Clearing → (down : ℕ) → (members : Processes) → TurnCells members → ℕ
  turn_back P K down no_members x = 0
  turn_back P K down (and_member p no_members) x = back P K down p x
  turn_back P K down (and_member p (and_member q more)) x = 2 + turn_back P K down (and_member q more) x.later

  -- of a core, whose latches fall, then the node that says that one is up, which `any` moves follow, and the starts
  pub choice_back : TypedProgram → Clearing → (any down : ℕ) → (choices : Choices) → Bits (choice_count choices) → ChoiceCells choices → ℕ
  choice_back P K any down no_choices b x = 2 + any
  choice_back P K any down (and_choice g p more) b x =
      max (if b.0 then 2 + back P K down p x.0 else 0) (choice_back P K any down more b.1 x.1)

-- ---- how many follow a move of one of its nodes; of a node that is low its rise, of one that is high its fall

abbrev pub site_trail : (e : Formula) → (up down left ahead : ℕ) → Site (gate_count e) → SiteSpot e → ℕ
site_trail e up down left ahead x done = if x.answer then down else up
site_trail e up down left ahead x (gate k one) =
    (depth e - gate_depth e k) + (if side_of (pair_in (gate_count e) x.gates k) one then left else ahead)

abbrev pub port_trail : (up down tree acked written : ℕ) → Port → PortSpot → ℕ
port_trail up down h f v x heard = if x.answer then down else up
port_trail up down h f v x stored = if x.kept then 1 + f else 0
port_trail up down h f v x (taking i one) = if x.taken i one then 2 + h + v else 5 + h

-- of the guards, whose rises nothing follows but their latch, and whose falls so many moves
abbrev pub guards_trail : (deep left : ℕ) → (choices : Choices) → GuardCells choices → GuardSpot choices → ℕ
guards_trail deep left no_choices x s = 0
guards_trail deep left (and_choice g p more) x (this_gate k one) =
    (deep - gate_depth g k) + (if side_of (pair_in (gate_count g) x.0 k) one then left else 0)
guards_trail deep left (and_choice g p more) x (other_gate s) = guards_trail deep left more x.1 s

abbrev pub latch_trail : TypedProgram → Clearing → (any down : ℕ) → (choices : Choices) → ChoiceCells choices → Index (choice_count choices) → ℕ
latch_trail P K any down no_choices x i = 0
latch_trail P K any down (and_choice g p more) x top = max (1 + any) (1 + back P K down p x.0)
latch_trail P K any down (and_choice g p more) x (under i) = latch_trail P K any down more x.1 i

abbrev pub start_trail : TypedProgram → Clearing → (down : ℕ) → (choices : Choices) → Bits (choice_count choices) → ChoiceCells choices
    → Index (choice_count choices) → ℕ
start_trail P K down no_choices b x i = 0
start_trail P K down (and_choice g p more) b x top = if b.0 then back P K down p x.0 else first P p - 1
start_trail P K down (and_choice g p more) b x (under i) = start_trail P K down more b.1 x.1 i

-- of a repetition: the fall of the request of a turn
abbrev pub turn_fall : (leave : Bool) → (down core : ℕ) → ℕ
turn_fall true down core = 3 + down
turn_fall false down core = core

abbrev mutual
  -- round the statement a Q-element, the rise and the fall of whose next request so many moves follow
  pub guarded_trail : TypedProgram → Clearing → (plus minus : ℕ) → (p : Process) → QElementCells (Cells p) → GuardedSpot p → ℕ
  guarded_trail P K plus minus p x child = if x.child then back P K (1 + plus) p x.inner else first P p - 1
  guarded_trail P K plus minus p x latch = if x.latch then 1 + minus else 1 + back P K (1 + plus) p x.inner
  guarded_trail P K plus minus p x next = if x.next then minus else plus
  guarded_trail P K plus minus p x (inner s) = trail P K 2 (1 + plus) p x.inner s

  pub trail : TypedProgram → Clearing → (held down : ℕ) → (p : Process) → Cells p → Spot p → ℕ
  trail P K held down skipping x of_skip = if x then down else 0
  trail P K held down (assigning v at e) x (of_assign s) =
      site_trail e (held + back P K down (assigning v at e) x) down (2 + var_height P v + K.written v) (3 + var_height P v) x s
  trail P K held down (sending c at e) x (of_send s) =
      site_trail e (held + back P K down (sending c at e) x) down (rail_left (kind_at P.channels c) (K.acked c) (K.taken c))
      (rail_ahead (kind_at P.channels c) (tree_height (channel_width P.channels c))) x s
  trail P K held down (receiving c at v to) x (of_receive s) =
      port_trail (held + back P K down (receiving c at v to) x) down (var_height P v) (K.acked c) (K.written v) x s
  trail P K held down (in_turn members) x (in_members s) = turn_trail P K held down members x s
  trail P K held down (side_by_side members) x (of_branch s) =
      let t = tree_height (member_count members) in
      branch_trail P K (t + (held + (2 + t + down))) (t + down) members x.branches s
  trail P K held down (side_by_side members) x (joint k) =
      let t = tree_height (member_count members) in
      let j = joint_level (member_count members) k in
      if cell_bit (joint_count (member_count members)) x.tree k then (t - j) + down else (t - j) + (held + (2 + t + down))
  trail P K held down (repeating p) x of_loop = 0
  trail P K held down (repeating p) x ask = if x.ask then back P K 0 p x.inner else 0
  trail P K held down (repeating p) x (in_body s) = trail P K 1 0 p x.inner s
  trail P K held down (choosing false choices) x (of_core of_joined) =
      if x.answer then down else held + choice_back P K (1 + down) (1 + down) choices x.latched x.branches
  trail P K held down (choosing false choices) x (of_core of_ask) =
      if x.ask then guards_depth choices + choices_first P choices else guards_depth choices
  trail P K held down (choosing false choices) x (of_core of_any) = if x.any then 1 + down else 1 + (guards_depth choices + choices_first P choices)
  trail P K held down (choosing false choices) x (of_core (of_latch i)) = latch_trail P K (1 + down) (1 + down) choices x.branches i
  trail P K held down (choosing false choices) x (of_core (of_start i)) = start_trail P K (1 + down) choices x.started x.branches i
  trail P K held down (choosing false choices) x (of_guard s) = guards_trail (guards_depth choices) (choices_first P choices) choices x.guards s
  trail P K held down (choosing false choices) x (of_choice s) = choice_trail P K (held + 3) (1 + down) choices x.branches s
  trail P K held down (choosing true choices) x (of_core of_joined) =
      let g = guards_depth choices in
      if x.core.answer then 2 + g else 1 + turn_fall x.leave down (choice_back P K (3 + g) (3 + g) choices x.core.latched x.core.branches)
  trail P K held down (choosing true choices) x (of_core of_ask) =
      if x.core.ask then guards_depth choices + max (choices_first P choices) (held + 5 + down) else guards_depth choices
  trail P K held down (choosing true choices) x (of_core of_any) =
      if x.core.any then (if x.answer then 1 + down else 3 + guards_depth choices) else 1 + (guards_depth choices + max (choices_first P choices)
      (held + 5 + down))
  trail P K held down (choosing true choices) x (of_core (of_latch i)) =
      latch_trail P K (3 + guards_depth choices) (3 + guards_depth choices) choices x.core.branches i
  trail P K held down (choosing true choices) x (of_core (of_start i)) =
      start_trail P K (3 + guards_depth choices) choices x.core.started x.core.branches i
  trail P K held down (choosing true choices) x (of_guard s) =
      guards_trail (guards_depth choices) (max (choices_first P choices) (held + 5 + down)) choices x.core.guards s
  trail P K held down (choosing true choices) x (of_choice s) = choice_trail P K 4 (3 + guards_depth choices) choices x.core.branches s
  trail P K held down (choosing true choices) x (of_round of_answer) = if x.answer then down else held + 4 + down
  trail P K held down (choosing true choices) x (of_round of_turn) =
      let g = guards_depth choices in
      if x.turn then turn_fall x.leave down (choice_back P K (3 + g) (3 + g) choices x.core.latched x.core.branches) else 1 + g
  trail P K held down (choosing true choices) x (of_round of_leave) = if x.leave then 2 + down else 0

  pub choice_trail : TypedProgram → Clearing → (held down : ℕ) → (choices : Choices) → ChoiceCells choices → ChoiceSpot choices → ℕ
  choice_trail P K held down no_choices x s = 0
  choice_trail P K held down (and_choice g p more) x (this_choice s) = trail P K held down p x.0 s
  choice_trail P K held down (and_choice g p more) x (other_choice s) = choice_trail P K held down more x.1 s

  pub branch_trail : TypedProgram → Clearing → (plus minus : ℕ) → (members : Processes) → BranchCells members → BranchSpot members → ℕ
  branch_trail P K plus minus no_members x s = 0
  branch_trail P K plus minus (and_member p more) x (in_this s) = guarded_trail P K plus minus p x.0 s
  branch_trail P K plus minus (and_member p more) x (in_others s) = branch_trail P K plus minus more x.1 s

  -- the next request of a member's Q-element asks what stands behind it
  pub turn_trail : TypedProgram → Clearing → (held down : ℕ) → (members : Processes) → TurnCells members → TurnSpot members → ℕ
  turn_trail P K held down no_members x s = 0
  turn_trail P K held down (and_member p no_members) x (in_last s) = trail P K held down p x s
  turn_trail P K held down (and_member p (and_member q more)) x (in_member s) =
      guarded_trail P K (turn_first P (and_member q more) - 1) (turn_back P K down (and_member q more) x.later) p x.member s
  turn_trail P K held down (and_member p (and_member q more)) x (in_later s) = turn_trail P K (held + 2) down (and_member q more) x.later s
