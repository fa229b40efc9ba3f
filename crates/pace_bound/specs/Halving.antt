-- How long a round takes at most of a program as it is, or of the program in halves, in which an assignment that reads
-- its own target is two: to a hidden variable, and from that. Both are read off the program itself, as `longest` is.
--
-- halved: in halves; P: the program; p, q: statements.
use Rattle.std.specs.Prelude.{ℕ, suc, ◌+◌, ◌*◌, max, Bool, true, false}
use Rattle.width_check.specs.Processes.{Process, skipping, assigning, sending, receiving, in_turn, side_by_side, choosing, repeating, Processes, no_members, and_member, Choices, no_choices, and_choice, TypedProgram}
use Rattle.width_check.specs.Typing.{kind_at, channel_width}
use Rattle.width_check.specs.Reads.{reads}
use Rattle.round_time.specs.Longest.{depth, guards_depth, tree_height, var_height, assign_first, send_first, receive_first, low, choice_low}

-- of halves the first is an assignment as others, behind a Q-element
abbrev pub assign_first_by : (halved own_target : Bool) → (gates tree : ℕ) → ℕ
assign_first_by true true e h = 5 + e + h
assign_first_by true false e h = assign_first false e h
assign_first_by false own e h = assign_first own e h

-- from the step of the first half over the fall of its answer to that of the second, whose gates have depth 1
abbrev pub assign_within : (halved own_target : Bool) → (gates tree : ℕ) → ℕ
assign_within true true e h = e + 12 + 2 * h
assign_within true false e h = 0
assign_within false own e h = 0

abbrev mutual
  pub first_by : (halved : Bool) → TypedProgram → Process → ℕ
  first_by b P skipping = 1
  first_by b P (assigning x at e) = assign_first_by b (reads x e) (depth e) (var_height P x)
  first_by b P (sending c at e) =
      send_first (kind_at P.channels c) (depth e) (tree_height (channel_width P.channels c))
  first_by b P (receiving c at x to) = receive_first (kind_at P.channels c) (var_height P x)
  first_by b P (in_turn members) = turn_first_by b P members
  first_by b P (side_by_side members) = suc (each_first_by b P members)
  first_by b P (choosing false choices) = 2 + guards_depth choices
  first_by b P (choosing true choices) = 3 + guards_depth choices
  first_by b P (repeating p) = 1

  pub turn_first_by : (halved : Bool) → TypedProgram → Processes → ℕ
  turn_first_by b P no_members = 1
  turn_first_by b P (and_member p no_members) = first_by b P p
  turn_first_by b P (and_member p (and_member q more)) = suc (first_by b P p)

  pub each_first_by : (halved : Bool) → TypedProgram → Processes → ℕ
  each_first_by b P no_members = 0
  each_first_by b P (and_member p more) = max (first_by b P p) (each_first_by b P more)

-- from the last step of the first of some members to the first step of the second
abbrev pub onward : (halved : Bool) → TypedProgram → Processes → ℕ
onward b P (and_member p (and_member q more)) = low P 2 p + 1 + turn_first_by b P (and_member q more)
onward b P _ = 0

abbrev mutual
  pub within_by : (halved : Bool) → TypedProgram → Process → ℕ
  within_by b P skipping = 0
  within_by b P (assigning x at e) = assign_within b (reads x e) (depth e) (var_height P x)
  within_by b P (sending c at e) = 0
  within_by b P (receiving c at x to) = 0
  within_by b P (in_turn members) = turn_within_by b P members
  within_by b P (side_by_side members) = each_within_by b P members
  within_by b P (choosing false choices) = choice_within_by b P (3 + guards_depth choices) choices
  within_by b P (choosing true choices) =
      max (choice_within_by b P (3 + guards_depth choices) choices) (choice_low P 4 choices + 4 + guards_depth choices)
  within_by b P (repeating p) = max (within_by b P p) (max (first_by b P p) (low P 1 p + 1))

  pub turn_within_by : (halved : Bool) → TypedProgram → Processes → ℕ
  turn_within_by b P no_members = 0
  turn_within_by b P (and_member p no_members) = within_by b P p
  turn_within_by b P (and_member p (and_member q more)) =
      max (within_by b P p)
      (max (low P 2 p + 1 + turn_first_by b P (and_member q more)) (turn_within_by b P (and_member q more)))

  pub each_within_by : (halved : Bool) → TypedProgram → Processes → ℕ
  each_within_by b P no_members = 0
  each_within_by b P (and_member p more) = max (within_by b P p) (each_within_by b P more)

  pub choice_within_by : (halved : Bool) → TypedProgram → (started : ℕ) → Choices → ℕ
  choice_within_by b P started no_choices = 0
  choice_within_by b P started (and_choice g p more) =
      max (within_by b P p) (max (started + first_by b P p) (choice_within_by b P started more))

abbrev pub longest_by : (halved : Bool) → TypedProgram → ℕ
longest_by b P = max (within_by b P P.body) (max (2 + first_by b P P.body) (low P 2 P.body + 2))
