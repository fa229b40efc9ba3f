-- How many moves follow a step of a program in its circuit at most, one behind the other, before the next steps: the
-- phase of the step. It is read off the program alone, and off the statement that makes the step; circuits keep to it
-- where no assignment reads its own target.
--
-- P: the program; p, q: statements; held: for how many moves the request of a statement stays high once it has
-- answered; down: how many moves follow the fall of its answer.
use Rattle.std.specs.Prelude.{ℕ, suc, ◌+◌, ◌-◌, ◌==◌, true, false, if◌then◌else◌, max}
use Rattle.chp_base.specs.declared.channel.Kind.{Kind}
use Rattle.chp_base.specs.declared.channel.Kind.TheVariants.{Out}
use Rattle.width_check.specs.Processes.{Process, skipping, assigning, sending, receiving, in_turn, side_by_side, choosing, repeating, Processes, no_members, and_member, member_count, Choices, no_choices, and_choice, TypedProgram}
use Rattle.width_check.specs.Typing.{kind_at}
use Rattle.round_time.specs.Longest.{depth, guards_depth, tree_height, var_height, first, turn_first}

-- what is said of a statement in its context
abbrev pub InContext : Type 0
InContext = (held down : ℕ) → Process → ℕ

-- from the fall of the answer of a branch of a parallel composition on: its Q-element ends, then the tree, the answer,
-- and, once the request has fallen, the branches' latches, the tree, and what follows the whole
abbrev pub branch_down : Processes → (held down : ℕ) → ℕ
branch_down members held down =
    1 + (tree_height (member_count members) + (held + (2 + tree_height (member_count members) + down)))

-- A function says a number of a statement in its context; this is the greatest that it says of all statements in this
-- one that make steps. A loop itself isn't asked, but its body is: its step doesn't depend on the context. What follows
-- the fall of an answer:
--   of a member of a sequence, the last one apart: its Q-element ends, and the next member comes to its first step,
--   which isn't counted
--   of a branch of a parallel composition: as above
--   of a branch of a selection: the selection's answer
--   of one of a repetition: the guards of the next turn
--   of the body of a loop: the loop's next step
abbrev mutual
  pub over_statements : TypedProgram → InContext → (held down : ℕ) → Process → ℕ
  over_statements P f held down (in_turn members) = turn_statements P f held down members
  over_statements P f held down (side_by_side members) =
      each_statements P f (branch_down members held down) members
  over_statements P f held down (repeating p) = over_statements P f 1 0 p
  over_statements P f held down (choosing false choices) =
      max (f held down (choosing false choices)) (choice_statements P f (held + 3) (1 + down) choices)
  over_statements P f held down (choosing true choices) =
      max (f held down (choosing true choices)) (choice_statements P f 4 (3 + guards_depth choices) choices)
  over_statements P f held down p = f held down p

  pub turn_statements : TypedProgram → InContext → (held down : ℕ) → Processes → ℕ
  turn_statements P f held down no_members = 0
  turn_statements P f held down (and_member p no_members) = over_statements P f held down p
  turn_statements P f held down (and_member p (and_member q more)) =
      max (over_statements P f 2 (1 + (turn_first P (and_member q more) - 1)) p)
      (turn_statements P f (held + 2) down (and_member q more))

  pub each_statements : TypedProgram → InContext → (down : ℕ) → Processes → ℕ
  each_statements P f down no_members = 0
  each_statements P f down (and_member p more) =
      max (over_statements P f 2 down p) (each_statements P f down more)

  pub choice_statements : TypedProgram → InContext → (held down : ℕ) → Choices → ℕ
  choice_statements P f held down no_choices = 0
  choice_statements P f held down (and_choice g p more) =
      max (over_statements P f held down p) (choice_statements P f held down more)

-- of the whole program
abbrev pub over_program : TypedProgram → InContext → ℕ
over_program P f = over_statements P f 2 1 P.body

-- ---- how many moves follow the falls of lines, that included: the greatest over all sites

-- of a channel's acknowledge: the answers of both ends
abbrev pub acked_at : (chan held down : ℕ) → Process → ℕ
acked_at c held down (sending k at e) = if k == c then suc down else 0
acked_at c held down (receiving k at x to) = if k == c then suc down else 0
acked_at c held down p = 0

abbrev pub acked : TypedProgram → (chan : ℕ) → ℕ
acked P c = over_program P (acked_at c)

-- of a variable's acknowledge: the answer of an assignment, or what a receive says that it has stored, and then the
-- acknowledge of its channel
abbrev pub written_at : TypedProgram → (var held down : ℕ) → Process → ℕ
written_at P x held down (assigning y at e) = if y == x then suc down else 0
written_at P x held down (receiving c at y to) = if y == x then 2 + acked P c else 0
written_at P x held down p = 0

abbrev pub written : TypedProgram → (var : ℕ) → ℕ
written P x = over_program P (written_at P x)

-- of a channel's rails: what the receive has taken over falls, the variable's bit, its tree, and its acknowledge
abbrev pub taken_at : TypedProgram → (chan held down : ℕ) → Process → ℕ
taken_at P c held down (receiving k at x to) = if k == c then 3 + var_height P x + written P x else 0
taken_at P c held down p = 0

-- or, where nothing receives, as the channel's acknowledge falls
abbrev pub taken : TypedProgram → (chan : ℕ) → ℕ
taken P c = max (acked P c) (over_program P (taken_at P c))

-- ---- of a value that passes on a channel, and of an assignment to a variable: the greatest over all sites

-- the environment lets go of an `out` channel by itself
abbrev pub rails_left : TypedProgram → Kind → (chan : ℕ) → ℕ
rails_left P Out c = 2 + acked P c
rails_left P _ c = 1 + taken P c

-- A site answers, its request falls, and then its gates and the rails, or what has been taken over.
abbrev pub pass_at : TypedProgram → (chan held down : ℕ) → Process → ℕ
pass_at P c held down (sending k at e) =
    if k == c then 1 + (held + (depth e + rails_left P (kind_at P.channels k) k)) else 0
pass_at P c held down (receiving k at x to) = if k == c then 1 + (held + (3 + var_height P x + written P x)) else 0
pass_at P c held down p = 0

-- What comes first in these is less than any site's own number, and stands for channels and variables without one.
abbrev pub passes : TypedProgram → (chan : ℕ) → ℕ
passes P c = max (max (2 + acked P c) (1 + taken P c)) (over_program P (pass_at P c))

abbrev pub put_at : TypedProgram → (var held down : ℕ) → Process → ℕ
put_at P v held down (assigning y at e) =
    if y == v then 1 + (held + (depth e + (2 + var_height P y + written P y))) else 0
put_at P v held down p = 0

abbrev pub puts : TypedProgram → (var : ℕ) → ℕ
puts P v = max (2 + var_height P v + written P v) (over_program P (put_at P v))

-- ---- of all steps

-- from the start of a branch to its first step, of the branch that has the longest way
abbrev pub choices_first : TypedProgram → Choices → ℕ
choices_first P no_choices = 0
choices_first P (and_choice g p more) = max (first P p) (choices_first P more)

-- A latch says that it is up, the guards' request falls, the guards, and then follows what is left.
abbrev pub latch_phase : (left : ℕ) → Choices → ℕ
latch_phase left choices = 2 + (guards_depth choices + left)

-- A skip's answer is its step: its request falls, and then the answer.
abbrev pub skip_at : (held down : ℕ) → Process → ℕ
skip_at held down skipping = held + suc down
skip_at held down p = 0

-- A repetition goes a further turn, or it ends: then it answers as a selection does, and its request falls.
abbrev pub turn_at : TypedProgram → (held down : ℕ) → Process → ℕ
turn_at P held down (choosing true choices) = latch_phase (max (choices_first P choices) (held + 5 + down)) choices
turn_at P held down p = 0

-- The phase of a statement's step. Skips, repetitions, communications on one channel and assignments to one variable
-- have the greatest of their kind; a loop asks for its body, a selection for a branch.
abbrev pub phase : TypedProgram → Process → ℕ
phase P skipping = over_program P skip_at
phase P (assigning x at e) = puts P x
phase P (sending c at e) = passes P c
phase P (receiving c at x to) = passes P c
phase P (choosing false choices) = latch_phase (choices_first P choices) choices
phase P (choosing true _) = over_program P (turn_at P)
phase P (repeating p) = first P p - 1
phase P _ = 0
