-- The rank of each node of a circuit in a state: how many silent moves follow its move at most, before the program's next step.
--
-- P: the program; x: a state; p, q, more: statements; r: the request of a statement.
use Rattle.std.specs.Prelude.{ℕ, ◌+◌, ◌==◌, Bool, true, false, ◌&&◌, ◌||◌, if◌then◌else◌}
use Rattle.chp_base.specs.declared.channel.Kind.{Kind}
use Rattle.chp_base.specs.declared.channel.Kind.TheVariants.{In, Out}
use Rattle.width_check.specs.Processes.{Process, assigning, receiving, in_turn, side_by_side, choosing, repeating, Processes, no_members, and_member, Choices, no_choices, and_choice, choice_count, TypedProgram}
use Rattle.width_check.specs.Typing.{kind_at, channel_width, var_width}
use Rattle.circuit_places.specs.Lines.{of_channel, of_var}
use Rattle.circuit_places.specs.Circuit.{Bits, Cells, BranchCells, ChoiceCells, TurnCells}
use Rattle.circuit_places.specs.Whole.{Whole, Node, go_node, own_node, rail_node, ack_node, bit_node, wrote_node, joint_node}
use Rattle.round_time.specs.Longest.{tree_height, var_height, first}
use Rattle.circuit_time.proofs.Trails.{joint_level, guarded_trail}
use Rattle.circuit_pace.proofs.BlockTrails.{rail_trail, bit_trail, wrote_trail, joint_trail}
use Rattle.circuit_pace.proofs.Counts.{counts}

-- what is asked of a site, by its request
abbrev pub Asked : Type 0
Asked = Process → Bool → Bool

-- an assignment to the variable, or a receive on the channel, whose request is high
abbrev pub assigns_to : (var : ℕ) → Asked
assigns_to v (assigning y at e) r = (y == v) && r
assigns_to v p r = false

abbrev pub listens_on : (chan : ℕ) → Asked
listens_on c (receiving k at y to) r = (k == c) && r
listens_on c p r = false

-- so is some site of the statement
abbrev mutual
  pub is_asked : Asked → (p : Process) → (r : Bool) → Cells p → Bool
  is_asked f (in_turn members) r x = turn_asked f members r x
  is_asked f (side_by_side members) r x = branch_asked f members x.branches
  is_asked f (repeating p) r x = is_asked f p x.ask x.inner
  is_asked f (choosing false choices) r x = choice_asked f choices x.started x.branches
  is_asked f (choosing true choices) r x = choice_asked f choices x.core.started x.core.branches
  is_asked f p r x = f p r

  pub turn_asked : Asked → (members : Processes) → (r : Bool) → TurnCells members → Bool
  turn_asked f no_members r x = false
  turn_asked f (and_member p no_members) r x = is_asked f p r x
  turn_asked f (and_member p (and_member q more)) r x =
      is_asked f p x.member.child x.member.inner || turn_asked f (and_member q more) x.member.next x.later

  pub branch_asked : Asked → (members : Processes) → BranchCells members → Bool
  branch_asked f no_members x = false
  branch_asked f (and_member p more) x = is_asked f p x.0.child x.0.inner || branch_asked f more x.1

  pub choice_asked : Asked → (choices : Choices) → Bits (choice_count choices) → ChoiceCells choices → Bool
  choice_asked f no_choices b x = false
  choice_asked f (and_choice g p more) b x = is_asked f p b.0 x.0 || choice_asked f more b.1 x.1

-- some receive writes the variable
abbrev mutual
  pub is_received : (var : ℕ) → Process → Bool
  is_received v (receiving k at y to) = y == v
  is_received v (in_turn members) = some_received v members
  is_received v (side_by_side members) = some_received v members
  is_received v (repeating p) = is_received v p
  is_received v (choosing again choices) = choice_received v choices
  is_received v p = false

  pub some_received : (var : ℕ) → Processes → Bool
  some_received v no_members = false
  some_received v (and_member p more) = is_received v p || some_received v more

  pub choice_received : (var : ℕ) → Choices → Bool
  choice_received v no_choices = false
  choice_received v (and_choice g p more) = is_received v p || choice_received v more

module _ (P : TypedProgram) where
  -- an assignment's step is the rise of its variable's acknowledge; under a receive two moves follow that
  abbrev pub late_of : (assigned received : Bool) → ℕ
  late_of true received = 0
  late_of false true = 2
  late_of false false = 0

  abbrev pub late : Whole P.body → (var : ℕ) → ℕ
  late x v = late_of (is_asked (assigns_to v) P.body x.root.child x.root.inner) (is_received v P.body)

  -- of a channel's rail that falls, and of one that rises: on an `in` channel that may be before a receive is asked
  abbrev pub rail_falls : Kind → (acked taken : ℕ) → ℕ
  rail_falls Out f q = 1 + f
  rail_falls _ f q = q

  abbrev pub rail_rises : Kind → (tree : ℕ) → (asked : Bool) → ℕ
  rail_rises Out h asked = 0
  rail_rises In h false = 0
  rail_rises _ h asked = 6 + h

  abbrev pub rank : Whole P.body → Node P.body → ℕ
  rank x (own_node s) = guarded_trail P (counts P) 0 0 P.body x.root s
  rank x go_node = first P P.body
  rank x (rail_node (of_channel c) i one) =
      if x.wires.rail (of_channel c) i one then rail_falls (kind_at P.channels c) ((counts P).acked c) ((counts P).taken c)
      else rail_rises (kind_at P.channels c) (tree_height (channel_width P.channels c)) (is_asked (listens_on c) P.body x.root.child x.root.inner)
  rank x (rail_node (of_var v) i one) = rail_trail (var_height P v) ((counts P).written v) (late x v) (x.wires.rail (of_var v) i one)
  rank x (ack_node c) = if x.wires.ack c then (counts P).acked c else 0
  rank x (bit_node v i one) = bit_trail (var_height P v) (late x v) (x.wires.bit v i one)
  rank x (wrote_node v i) = wrote_trail (var_height P v) ((counts P).written v) (late x v) (x.wires.wrote v i)
  rank x (joint_node v k) =
      joint_trail (var_height P v) (joint_level (var_width P.vars v) k) ((counts P).written v) (late x v) (x.wires.joint v k)
