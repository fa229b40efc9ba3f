-- How long a round of a program takes its circuit at most, read off the program: the longest way from the steps of
-- one round to those of the next. Lengths are counted in moves, each of which waits for the one before; so with delays
-- of at most D a way takes no longer than its length times D.
--
-- P: the program; p, q: statements; held: for how long the request of a statement stays high once it has answered.
use Rattle.std.specs.Prelude.{ℕ, zero, suc, ◌+◌, ◌*◌, ◌/◌, ◌==◌, Bool, true, false, if◌then◌else◌, nat_lt, max, List, [], ◌∷◌, ◌++◌, slice_index}
use Rattle.chp_base.specs.declared.channel.Kind.{Kind}
use Rattle.chp_base.specs.declared.channel.Kind.TheVariants.{In, Out}
use Rattle.width_check.specs.Processes.{Formula, Process, skipping, assigning, sending, receiving, in_turn, side_by_side, choosing, repeating, Processes, no_members, and_member, member_count, Choices, no_choices, and_choice, TypedProgram}
use Rattle.width_check.specs.Typing.{kind_at, channel_width, var_width}
use Rattle.width_check.specs.Reads.{reads}
use Rattle.function_blocks.specs.Parts.{Input, BlockPart, made, block_parts}

-- ---- expressions and trees

-- A gate moves one move after the last of its inputs, of which those before it have these depths; what is read, and a
-- constant, one after the request.
abbrev pub inputs_depth : (before : List ℕ) → List Input → ℕ
inputs_depth before [] = 0
inputs_depth before (i ∷ more) = max (slice_index before i.at) (inputs_depth before more)

abbrev pub part_depth : (before : List ℕ) → BlockPart → ℕ
part_depth before (made f i more) = suc (inputs_depth before (i ∷ more))
part_depth before _ = 1

abbrev pub depths : (before : List ℕ) → List BlockPart → List ℕ
depths before [] = before
depths before (g ∷ gs) = depths (before ++ part_depth before g ∷ []) gs

abbrev pub greatest : List ℕ → ℕ
greatest [] = 0
greatest (n ∷ ns) = max n (greatest ns)

-- of an expression the depth of its deepest gate, and of a selection's guards that of the deepest of them
abbrev pub depth : Formula → ℕ
depth e = greatest (depths [] (block_parts e 0))

abbrev pub guards_depth : Choices → ℕ
guards_depth no_choices = 0
guards_depth (and_choice g p more) = max (depth g) (guards_depth more)

-- the levels of a completion tree, each of which joins its nodes two by two: an odd one goes on to the next level
abbrev pub levels_in : (most leaves : ℕ) → ℕ
levels_in zero n = 0
levels_in (suc m) n = if nat_lt 1 n then suc (levels_in m ((n + 1) / 2)) else 0

abbrev pub tree_height : (leaves : ℕ) → ℕ
tree_height n = levels_in n n

-- of the tree over a variable's bits
abbrev pub var_height : TypedProgram → (var : ℕ) → ℕ
var_height P x = tree_height (var_width P.vars x)

-- ---- from the answer of a statement to the fall of its request

-- The greatest of what a function says of the sites of a statement, each with how long its request is held.
--   a member of a sequence, the last one apart: its Q-element's latch rises, its child request falls
--   the last one: the sequence's request falls, and then of each Q-element the latch and the next request
--   a branch of a parallel composition: as a member of a sequence
--   one of a selection: the selection answers, its request falls, then the latch, then the start
--   one of a repetition: it is joined, the request of the turn falls, then the latch, then the start
--   the body of a loop: its request falls
abbrev mutual
  pub over_sites : (Process → ℕ → ℕ) → (held : ℕ) → Process → ℕ
  over_sites f held (in_turn members) = over_turn f held members
  over_sites f held (side_by_side members) = over_each f members
  over_sites f held (choosing false choices) = over_choices f (held + 3) choices
  over_sites f held (choosing true choices) = over_choices f 4 choices
  over_sites f held (repeating p) = over_sites f 1 p
  over_sites f held p = f p held

  pub over_turn : (Process → ℕ → ℕ) → (held : ℕ) → Processes → ℕ
  over_turn f held no_members = 0
  over_turn f held (and_member p no_members) = over_sites f held p
  over_turn f held (and_member p (and_member q more)) =
      max (over_sites f 2 p) (over_turn f (held + 2) (and_member q more))

  pub over_each : (Process → ℕ → ℕ) → Processes → ℕ
  over_each f no_members = 0
  over_each f (and_member p more) = max (over_sites f 2 p) (over_each f more)

  pub over_choices : (Process → ℕ → ℕ) → (held : ℕ) → Choices → ℕ
  over_choices f held no_choices = 0
  over_choices f held (and_choice g p more) = max (over_sites f held p) (over_choices f held more)

-- ---- from the step of a site to the fall of its line

-- The rails of a channel fall when a send on it has answered, its request has fallen, and its gates; those of an `in`
-- channel at once.
abbrev pub send_holds : (chan : ℕ) → Process → (held : ℕ) → ℕ
send_holds c (sending k at e) held = if k == c then held + depth e + 2 else 0
send_holds c p held = 0

abbrev pub rails_fall : TypedProgram → Kind → (chan : ℕ) → ℕ
rails_fall P In c = 1
rails_fall P _ c = over_sites (send_holds c) 2 P.body

-- The rails by which a variable is written fall as those of a channel do, when it is assigned to; where that reads the
-- variable, what counts is the second half of it, which has a Q-element before it and gates of depth 1. When it is
-- received into they fall once the channel's rails have, and its own request, and then what it has taken over.
abbrev pub assign_holds : (own_target : Bool) → (held gates : ℕ) → ℕ
assign_holds false held e = held + e + 2
assign_holds true held e = held + 5

abbrev pub write_holds : TypedProgram → (var : ℕ) → Process → (held : ℕ) → ℕ
write_holds P x (assigning y at e) held = if y == x then assign_holds (reads y e) held (depth e) else 0
write_holds P x (receiving c at y to) held =
    if y == x then max (rails_fall P (kind_at P.channels c) c) (held + 1) + 2 else 0
write_holds P x p held = 0

abbrev pub writes_fall : TypedProgram → (var : ℕ) → ℕ
writes_fall P x = over_sites (write_holds P x) 2 P.body

-- Then fall the nodes that say that a bit is written, the tree, and of a receive stored, the acknowledge, and the
-- answers of both ends. The environment takes an acknowledge back one move after the rails.
abbrev pub receive_clears : TypedProgram → (chan : ℕ) → Process → (held : ℕ) → ℕ
receive_clears P c (receiving k at x to) held = if k == c then writes_fall P x + 4 + var_height P x else 0
receive_clears P c p held = 0

abbrev pub channel_low : TypedProgram → Kind → (chan : ℕ) → ℕ
channel_low P k c = max (rails_fall P k c + 2) (over_sites (receive_clears P c) 2 P.body)

-- ---- from the request of a statement to its first step

-- Of a send: its gates, the channel's rail, and then what a receive does with it: it takes the rail over, which writes
-- the variable's bit (rail by which it is written; old rail low, new one high; written; the tree), has stored, and the
-- acknowledge rises. The environment acknowledges at once.
abbrev pub send_first : Kind → (gates tree : ℕ) → ℕ
send_first Out e h = e + 2
send_first _ e h = e + 8 + h

-- of a receive the same from the rail on; the environment's next value may come one move before
abbrev pub receive_first : Kind → (tree : ℕ) → ℕ
receive_first In h = 8 + h
receive_first _ h = 7 + h

-- An assignment: its gates, and then the variable's bit as above, whose acknowledge is the step. One that reads its own
-- target does this twice: through a hidden variable, and behind a Q-element from that.
abbrev pub assign_first : (own_target : Bool) → (gates tree : ℕ) → ℕ
assign_first false e h = e + 4 + h
assign_first true e h = 2 * e + 17 + 3 * h

-- A skip's answer is its step. A sequence asks its first member, and a parallel composition its branches, through
-- Q-elements. The request of a loop's body is the loop's step. A selection asks for its guards, and its latch is the
-- step; a repetition asks for a turn before.
abbrev mutual
  pub first : TypedProgram → Process → ℕ
  first P skipping = 1
  first P (assigning x at e) = assign_first (reads x e) (depth e) (var_height P x)
  first P (sending c at e) = send_first (kind_at P.channels c) (depth e) (tree_height (channel_width P.channels c))
  first P (receiving c at x to) = receive_first (kind_at P.channels c) (var_height P x)
  first P (in_turn members) = turn_first P members
  first P (side_by_side members) = suc (each_first P members)
  first P (choosing false choices) = 2 + guards_depth choices
  first P (choosing true choices) = 3 + guards_depth choices
  first P (repeating p) = 1

  pub turn_first : TypedProgram → Processes → ℕ
  turn_first P no_members = 1
  turn_first P (and_member p no_members) = first P p
  turn_first P (and_member p (and_member q more)) = suc (first P p)

  pub each_first : TypedProgram → Processes → ℕ
  each_first P no_members = 0
  each_first P (and_member p more) = max (first P p) (each_first P more)

-- ---- from the last step of a statement to the fall of its answer

-- A skip's answer falls when its request has. A parallel composition answers once its branches' answers are low, by its
-- Q-elements and its tree; when its request has fallen, so do latches, ends and the tree. A selection's answer falls
-- after that of its branch. A repetition whose latch of the end is up waits for its guards to fall, answers, and its
-- request falls, that of a turn, that latch, the node that says a latch is up, and the answer. A loop never answers; it
-- counts as a skip.
abbrev mutual
  pub low : TypedProgram → (held : ℕ) → Process → ℕ
  low P held skipping = held + 1
  low P held (assigning x at e) = writes_fall P x + 2 + var_height P x
  low P held (sending c at e) = channel_low P (kind_at P.channels c) c
  low P held (receiving c at x to) = channel_low P (kind_at P.channels c) c
  low P held (in_turn members) = turn_low P held members
  low P held (side_by_side members) = each_low P members + 3 + held + 2 * tree_height (member_count members)
  low P held (choosing false choices) = suc (choice_low P (held + 3) choices)
  low P held (choosing true choices) = held + 7 + guards_depth choices
  low P held (repeating p) = held + 1

  pub turn_low : TypedProgram → (held : ℕ) → Processes → ℕ
  turn_low P held no_members = held
  turn_low P held (and_member p no_members) = low P held p
  turn_low P held (and_member p (and_member q more)) = turn_low P (held + 2) (and_member q more)

  pub each_low : TypedProgram → Processes → ℕ
  each_low P no_members = 0
  each_low P (and_member p more) = max (low P 2 p) (each_low P more)

  pub choice_low : TypedProgram → (held : ℕ) → Choices → ℕ
  choice_low P held no_choices = held
  choice_low P held (and_choice g p more) = max (low P held p) (choice_low P held more)

-- ---- from the steps of one round to those of the next

-- Inside of a statement. In a sequence: from the last step of a member over the fall of its answer to the first step of
-- the next. In a loop: from its step to the body's, and from the body's last to its own. In a selection and a
-- repetition: once a latch is up, the node that says so rises, the guards' request and the guards fall, the start
-- rises, and the branch comes to its first step. In a repetition also from a branch's last step to the latch of the
-- next turn.
abbrev mutual
  pub within : TypedProgram → Process → ℕ
  within P (in_turn members) = turn_within P members
  within P (side_by_side members) = each_within P members
  within P (choosing false choices) = choice_within P (3 + guards_depth choices) choices
  within P (choosing true choices) =
      max (choice_within P (3 + guards_depth choices) choices) (choice_low P 4 choices + 4 + guards_depth choices)
  within P (repeating p) = max (within P p) (max (first P p) (low P 1 p + 1))
  within P p = 0

  pub turn_within : TypedProgram → Processes → ℕ
  turn_within P no_members = 0
  turn_within P (and_member p no_members) = within P p
  turn_within P (and_member p (and_member q more)) =
      max (within P p)
      (max (low P 2 p + 1 + turn_first P (and_member q more)) (turn_within P (and_member q more)))

  pub each_within : TypedProgram → Processes → ℕ
  each_within P no_members = 0
  each_within P (and_member p more) = max (within P p) (each_within P more)

  pub choice_within : TypedProgram → (started : ℕ) → Choices → ℕ
  choice_within P started no_choices = 0
  choice_within P started (and_choice g p more) =
      max (within P p) (max (started + first P p) (choice_within P started more))

-- of the whole program: also from power-up (go, and the root's child request) to the first step, and from the last step
-- to `done`
abbrev pub longest : TypedProgram → ℕ
longest P = max (within P P.body) (max (2 + first P P.body) (low P 2 P.body + 2))
