-- The phase of a step by the node whose move it is: of a skip, and of what a repetition does, in its own context, where the phase of the statement is the
-- greatest over all contexts.
--
-- P: the program; p, q, more: statements; s: a spot; held: how many moves there are from a statement's answer to the fall of its request; down: how many
-- follow the fall of its answer.
use Rattle.std.specs.Prelude.{ℕ, suc, ◌+◌, ◌-◌, true, false, max}
use Rattle.width_check.specs.Processes.{Process, skipping, in_turn, side_by_side, choosing, repeating, Processes, no_members, and_member, member_count, Choices, no_choices, and_choice, TypedProgram}
use Rattle.circuit_places.specs.Cores.{of_latch, of_leave}
use Rattle.circuit_places.specs.Circuit.{GuardedSpot, inner, Spot, of_skip, in_members, of_branch, ask, in_body, of_core, of_choice, of_round, ChoiceSpot, this_choice, other_choice, BranchSpot, in_this, in_others, TurnSpot, in_last, in_member, in_later}
use Rattle.round_time.specs.Longest.{guards_depth, tree_height, first, turn_first}
use Rattle.round_time.specs.Phases.{choices_first, latch_phase}

module _ (P : TypedProgram) where
  -- of a node whose rise is a silent step
  abbrev mutual
    pub guarded_phase : (plus : ℕ) → (p : Process) → GuardedSpot p → ℕ
    guarded_phase plus p (inner s) = spot_phase 2 (1 + plus) p s
    guarded_phase plus p s = 0

    pub spot_phase : (held down : ℕ) → (p : Process) → Spot p → ℕ
    spot_phase held down skipping of_skip = held + suc down
    spot_phase held down (in_turn members) (in_members s) = turn_phase held down members s
    spot_phase held down (side_by_side members) (of_branch s) =
        branch_phase (tree_height (member_count members) + (held + (2 + tree_height (member_count members) + down))) members s
    spot_phase held down (repeating p) ask = first P p - 1
    spot_phase held down (repeating p) (in_body s) = spot_phase 1 0 p s
    spot_phase held down (choosing false choices) (of_core (of_latch i)) = latch_phase (choices_first P choices) choices
    spot_phase held down (choosing false choices) (of_choice s) = choice_phase (held + 3) (1 + down) choices s
    spot_phase held down (choosing true choices) (of_core (of_latch i)) = latch_phase (max (choices_first P choices) (held + 5 + down)) choices
    spot_phase held down (choosing true choices) (of_choice s) = choice_phase 4 (3 + guards_depth choices) choices s
    spot_phase held down (choosing true choices) (of_round of_leave) = latch_phase (max (choices_first P choices) (held + 5 + down)) choices
    spot_phase held down p s = 0

    pub choice_phase : (held down : ℕ) → (choices : Choices) → ChoiceSpot choices → ℕ
    choice_phase held down no_choices s = 0
    choice_phase held down (and_choice g p more) (this_choice s) = spot_phase held down p s
    choice_phase held down (and_choice g p more) (other_choice s) = choice_phase held down more s

    pub branch_phase : (plus : ℕ) → (members : Processes) → BranchSpot members → ℕ
    branch_phase plus no_members s = 0
    branch_phase plus (and_member p more) (in_this s) = guarded_phase plus p s
    branch_phase plus (and_member p more) (in_others s) = branch_phase plus more s

    pub turn_phase : (held down : ℕ) → (members : Processes) → TurnSpot members → ℕ
    turn_phase held down no_members s = 0
    turn_phase held down (and_member p no_members) (in_last s) = spot_phase held down p s
    turn_phase held down (and_member p (and_member q more)) (in_member s) = guarded_phase (turn_first P (and_member q more) - 1) p s
    turn_phase held down (and_member p (and_member q more)) (in_later s) = turn_phase (held + 2) down (and_member q more) s
