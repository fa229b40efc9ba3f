-- Where the ways lie whose longest one is how long a round takes at most: from which step to which. They are read off
-- the program, in the order of its text.
--
-- P: the program; p, q: statements; held: for how long the request of a statement stays high once it has answered;
-- itself: the statement that is looked at.
use Rattle.std.specs.Prelude.{ℕ, ◌+◌, true, false, nat_lt, if◌then◌else◌, List, [], ◌∷◌, ◌++◌, map}
use Rattle.width_check.specs.Processes.{Process, in_turn, side_by_side, choosing, repeating, Processes, no_members, and_member, Choices, no_choices, and_choice, TypedProgram}
use Rattle.round_time.specs.Longest.{greatest, guards_depth, first, turn_first, low, choice_low, within}

-- where a way begins or ends: before the rise of `go`, with the step of a statement, or with the rise of `done`
pub data Point : Type 0 where
  started : Point
  step_of : Process → Point
  ended : Point

-- so many moves, each of which waits for the one before
pub record Way : Type 0 where
  pub from : Point
  pub to : Point
  pub length : ℕ

-- of a value and some more the first one of which a number is the greatest
abbrev pub first_greatest : {A : Type 0} → (number : A → ℕ) → A → List A → A
first_greatest number best [] = best
first_greatest number best (x ∷ more) =
    first_greatest number (if nat_lt (number best) (number x) then x else best) more

-- ---- the first and the last step of a statement

-- A statement that makes a step, with how many moves lead to it, or follow it until the answer has fallen.
abbrev pub StepAway : Type 0
StepAway = Process × ℕ

-- the first one of the most moves, or the statement itself where it has no parts
abbrev pub farthest : (itself : Process) → List StepAway → Process
farthest itself [] = itself
farthest itself (s ∷ more) = (first_greatest (λ (s : StepAway). s.1) s more).0

-- The statement whose step is the first one of a statement: of a parallel composition the one that is the longest way
-- off its request. A selection's, a repetition's and a loop's is its own.
abbrev mutual
  pub first_step : TypedProgram → Process → Process
  first_step P (in_turn members) = turn_first_step P (in_turn members) members
  first_step P (side_by_side members) = farthest (side_by_side members) (each_first_step P members)
  first_step P p = p

  pub turn_first_step : TypedProgram → (itself : Process) → Processes → Process
  turn_first_step P itself no_members = itself
  turn_first_step P itself (and_member p more) = first_step P p

  pub each_first_step : TypedProgram → Processes → List StepAway
  each_first_step P no_members = []
  each_first_step P (and_member p more) = (first_step P p, first P p) ∷ each_first_step P more

-- The statement whose step is the last one of a statement: of a parallel composition or a selection the one from which
-- it takes the branch's answer longest to fall. A repetition's is its own; a loop has none, and stands for itself.
abbrev mutual
  pub last_step : TypedProgram → (held : ℕ) → Process → Process
  last_step P held (in_turn members) = turn_last_step P (in_turn members) held members
  last_step P held (side_by_side members) = farthest (side_by_side members) (each_last_step P members)
  last_step P held (choosing false choices) =
      farthest (choosing false choices) (choice_last_step P (held + 3) choices)
  last_step P held p = p

  pub turn_last_step : TypedProgram → (itself : Process) → (held : ℕ) → Processes → Process
  turn_last_step P itself held no_members = itself
  turn_last_step P itself held (and_member p no_members) = last_step P held p
  turn_last_step P itself held (and_member p (and_member q more)) =
      turn_last_step P itself (held + 2) (and_member q more)

  pub each_last_step : TypedProgram → Processes → List StepAway
  each_last_step P no_members = []
  each_last_step P (and_member p more) = (last_step P 2 p, low P 2 p) ∷ each_last_step P more

  pub choice_last_step : TypedProgram → (held : ℕ) → Choices → List StepAway
  choice_last_step P held no_choices = []
  choice_last_step P held (and_choice g p more) =
      (last_step P held p, low P held p) ∷ choice_last_step P held more

-- ---- the ways

abbrev pub way : Point → Point → (length : ℕ) → Way
way from to length = record { from = from; to = to; length = length }

-- in a sequence, from the last step of a member to the first one of what follows it
abbrev pub to_next : TypedProgram → Process → (next : Process) → (more : Processes) → Way
to_next P p q more =
    way (step_of (last_step P 2 p)) (step_of (first_step P q)) (low P 2 p + 1 + turn_first P (and_member q more))

-- in a selection and a repetition, from the latch, which is its step, to the first step of a branch
abbrev pub to_branch : TypedProgram → (itself : Process) → (begun : ℕ) → Process → Way
to_branch P itself begun p = way (step_of itself) (step_of (first_step P p)) (begun + first P p)

-- in a repetition, from the last step of a branch to the latch of the next turn
abbrev pub to_turn : TypedProgram → Choices → Way
to_turn P choices =
    way (step_of (farthest (choosing true choices) (choice_last_step P 4 choices))) (step_of (choosing true choices))
    (choice_low P 4 choices + 4 + guards_depth choices)

-- in a loop, from its step to the first one of its body, and from the last one of that to its own
abbrev pub to_body : TypedProgram → (body : Process) → Way
to_body P p = way (step_of (repeating p)) (step_of (first_step P p)) (first P p)

abbrev pub to_loop : TypedProgram → (body : Process) → Way
to_loop P p = way (step_of (last_step P 1 p)) (step_of (repeating p)) (low P 1 p + 1)

-- those inside of a statement
abbrev mutual
  pub ways_within : TypedProgram → Process → List Way
  ways_within P (in_turn members) = turn_ways P members
  ways_within P (side_by_side members) = each_ways P members
  ways_within P (choosing false choices) =
      choice_ways P (choosing false choices) (3 + guards_depth choices) choices
  ways_within P (choosing true choices) =
      choice_ways P (choosing true choices) (3 + guards_depth choices) choices ++ to_turn P choices ∷ []
  ways_within P (repeating p) = to_body P p ∷ ways_within P p ++ to_loop P p ∷ []
  ways_within P p = []

  pub turn_ways : TypedProgram → Processes → List Way
  turn_ways P no_members = []
  turn_ways P (and_member p no_members) = ways_within P p
  turn_ways P (and_member p (and_member q more)) =
      ways_within P p ++ to_next P p q more ∷ turn_ways P (and_member q more)

  pub each_ways : TypedProgram → Processes → List Way
  each_ways P no_members = []
  each_ways P (and_member p more) = ways_within P p ++ each_ways P more

  pub choice_ways : TypedProgram → (itself : Process) → (begun : ℕ) → Choices → List Way
  choice_ways P itself begun no_choices = []
  choice_ways P itself begun (and_choice g p more) =
      to_branch P itself begun p ∷ ways_within P p ++ choice_ways P itself begun more

-- from power-up to the first step of the whole program, and from its last one to `done`
abbrev pub to_begin : TypedProgram → Way
to_begin P = way started (step_of (first_step P P.body)) (2 + first P P.body)

abbrev pub to_end : TypedProgram → Way
to_end P = way (step_of (last_step P 2 P.body)) ended (low P 2 P.body + 2)

abbrev pub ways : TypedProgram → List Way
ways P = to_begin P ∷ ways_within P P.body ++ to_end P ∷ []

abbrev pub greatest_length : List Way → ℕ
greatest_length ws = greatest (map (λ (w : Way). w.length) ws)

-- the first of the greatest length
abbrev pub first_longest : Way → List Way → Way
first_longest = first_greatest (λ (w : Way). w.length)

abbrev pub longest_way : TypedProgram → Way
longest_way P = first_longest (to_begin P) (ways_within P P.body ++ to_end P ∷ [])

-- ---- loops

-- a loop, and the length of the longest way inside of it
pub record Loop : Type 0 where
  pub statement : Process
  pub length : ℕ

abbrev pub looping : TypedProgram → (body : Process) → Loop
looping P p = record { statement = repeating p; length = within P (repeating p) }

-- those of a statement, in the order of the text
abbrev mutual
  pub loops_within : TypedProgram → Process → List Loop
  loops_within P (in_turn members) = each_loops P members
  loops_within P (side_by_side members) = each_loops P members
  loops_within P (choosing again choices) = choice_loops P choices
  loops_within P (repeating p) = looping P p ∷ loops_within P p
  loops_within P p = []

  pub each_loops : TypedProgram → Processes → List Loop
  each_loops P no_members = []
  each_loops P (and_member p more) = loops_within P p ++ each_loops P more

  pub choice_loops : TypedProgram → Choices → List Loop
  choice_loops P no_choices = []
  choice_loops P (and_choice g p more) = loops_within P p ++ choice_loops P more

abbrev pub loops : TypedProgram → List Loop
loops P = loops_within P P.body
