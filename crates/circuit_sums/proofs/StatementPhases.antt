-- The phase of a step by the node that makes it is no more than that of its statement, which is the greatest over all places where the program has such a
-- step.
--
-- P: the program; p, q, more: statements; held, down: as in trails; s: a spot; k: that its rise is a step; e, a, b: that all parts are below the greatest.
use Rattle.std.proofs.Common.{◌≡◌, ℕ, ◌+◌, ◌-◌, ◌≤◌, true, false, arith}
use Rattle.width_check.specs.Processes.{Process, skipping, assigning, sending, receiving, in_turn, side_by_side, choosing, repeating, Processes, no_members, and_member, member_count, Choices, no_choices, and_choice, TypedProgram}
use Rattle.circuit_places.specs.Cores.{of_joined, of_ask, of_any, of_latch, of_start, of_answer, of_turn, of_leave}
use Rattle.circuit_places.specs.Circuit.{GuardedSpot, child, latch, next, inner, Spot, of_skip, of_assign, of_send, of_receive, in_members, of_branch, joint, of_loop, ask, in_body, of_core, of_guard, of_choice, of_round, ChoiceSpot, this_choice, other_choice, BranchSpot, in_this, in_others, TurnSpot, in_last, in_member, in_later}
use Rattle.circuit_places.proofs.StillSteps.{guarded_rises, rises, branch_rises, choice_rises, turn_rises}
use Rattle.round_time.specs.Longest.{guards_depth, tree_height, turn_first}
use Rattle.round_time.specs.Phases.{over_statements, turn_statements, each_statements, choice_statements, over_program, skip_at, turn_at, phase}
use Rattle.circuit_pace.proofs.Never.{never}
use Rattle.circuit_pace.proofs.TrailsWithin.{left_of_max, right_of_max}
use Rattle.circuit_sums.proofs.Phases.{guarded_phase, spot_phase, choice_phase, branch_phase, turn_phase}
use Rattle.circuit_sums.proofs.Statements.{guarded_statement, statement, choice_statement, branch_statement, turn_statement}

module _ (P : TypedProgram) where
  -- what is said of a part is below what is said of all
  abbrev Above : (held down : ℕ) → Process → Type 0
  Above held down p = (over_statements P skip_at held down p ≤ over_program P skip_at)
      × (over_statements P (turn_at P) held down p ≤ over_program P (turn_at P))

  mutual
    guarded_of : (plus : ℕ) (p : Process) → Above 2 (1 + plus) p → (s : GuardedSpot p) → guarded_rises s ≡ true
        → guarded_phase P plus p s ≤ phase P (guarded_statement p s)
    guarded_of plus p e (inner s) k = of_spot 2 (1 + plus) p e s k
    guarded_of plus p e child k = never k
    guarded_of plus p e latch k = never k
    guarded_of plus p e next k = never k

    of_spot : (held down : ℕ) (p : Process) → Above held down p → (s : Spot p) → rises s ≡ true → spot_phase P held down p s ≤ phase P (statement p s)
    of_spot held down skipping e of_skip k = e.0
    of_spot held down (assigning v at d) e (of_assign s) k = never k
    of_spot held down (sending c at d) e (of_send s) k = never k
    of_spot held down (receiving c at v to) e (of_receive s) k = never k
    of_spot held down (in_turn ms) e (in_members s) k = turn_of held down ms e.0 e.1 s k
    of_spot held down (side_by_side ms) e (of_branch s) k =
        each_of (tree_height (member_count ms) + (held + (2 + tree_height (member_count ms) + down))) ms e.0 e.1 s k
    of_spot held down (side_by_side ms) e (joint j) k = never k
    of_spot held down (repeating p) e of_loop k = never k
    of_spot held down (repeating p) e ask k = omega arith
    of_spot held down (repeating p) e (in_body s) k = of_spot 1 0 p e s k
    of_spot held down (choosing again cs) e (of_core of_joined) k = never k
    of_spot held down (choosing again cs) e (of_core of_ask) k = never k
    of_spot held down (choosing again cs) e (of_core of_any) k = never k
    of_spot held down (choosing again cs) e (of_core (of_start i)) k = never k
    of_spot held down (choosing again cs) e (of_guard s) k = never k
    of_spot held down (choosing false cs) e (of_core (of_latch i)) k = omega arith
    of_spot held down (choosing false cs) e (of_choice s) k = choice_of (held + 3) (1 + down) cs
        (right_of_max (skip_at held down (choosing false cs)) (choice_statements P skip_at (held + 3) (1 + down) cs) _ e.0)
        (right_of_max (turn_at P held down (choosing false cs)) (choice_statements P (turn_at P) (held + 3) (1 + down) cs) _ e.1) s k
    of_spot held down (choosing true cs) e (of_core (of_latch i)) k =
        left_of_max (turn_at P held down (choosing true cs)) (choice_statements P (turn_at P) 4 (3 + guards_depth cs) cs) _ e.1
    of_spot held down (choosing true cs) e (of_choice s) k = choice_of 4 (3 + guards_depth cs) cs
        (right_of_max (skip_at held down (choosing true cs)) (choice_statements P skip_at 4 (3 + guards_depth cs) cs) _ e.0)
        (right_of_max (turn_at P held down (choosing true cs)) (choice_statements P (turn_at P) 4 (3 + guards_depth cs) cs) _ e.1) s k
    of_spot held down (choosing true cs) e (of_round of_leave) k =
        left_of_max (turn_at P held down (choosing true cs)) (choice_statements P (turn_at P) 4 (3 + guards_depth cs) cs) _ e.1
    of_spot held down (choosing true cs) e (of_round of_answer) k = never k
    of_spot held down (choosing true cs) e (of_round of_turn) k = never k

    turn_of : (held down : ℕ) (ms : Processes) → turn_statements P skip_at held down ms ≤ over_program P skip_at
        → turn_statements P (turn_at P) held down ms ≤ over_program P (turn_at P) → (s : TurnSpot ms) → turn_rises s ≡ true
        → turn_phase P held down ms s ≤ phase P (turn_statement ms s)
    turn_of held down no_members a b s k = elim s [ ]
    turn_of held down (and_member p no_members) a b (in_last s) k = of_spot held down p (a, b) s k
    turn_of held down (and_member p (and_member q more)) a b (in_member s) k = guarded_of (turn_first P (and_member q more) - 1) p (
      left_of_max (over_statements P skip_at 2 (1 + (turn_first P (and_member q more) - 1)) p)
          (turn_statements P skip_at (held + 2) down (and_member q more)) _ a,
      left_of_max (over_statements P (turn_at P) 2 (1 + (turn_first P (and_member q more) - 1)) p)
          (turn_statements P (turn_at P) (held + 2) down (and_member q more)) _ b,
    ) s k
    turn_of held down (and_member p (and_member q more)) a b (in_later s) k = turn_of (held + 2) down (and_member q more)
        (right_of_max (over_statements P skip_at 2 (1 + (turn_first P (and_member q more) - 1)) p)
        (turn_statements P skip_at (held + 2) down (and_member q more)) _ a)
        (right_of_max (over_statements P (turn_at P) 2 (1 + (turn_first P (and_member q more) - 1)) p)
        (turn_statements P (turn_at P) (held + 2) down (and_member q more)) _ b) s k

    each_of : (plus : ℕ) (ms : Processes) → each_statements P skip_at (1 + plus) ms ≤ over_program P skip_at
        → each_statements P (turn_at P) (1 + plus) ms ≤ over_program P (turn_at P) → (s : BranchSpot ms) → branch_rises s ≡ true
        → branch_phase P plus ms s ≤ phase P (branch_statement ms s)
    each_of plus no_members a b s k = elim s [ ]
    each_of plus (and_member p more) a b (in_this s) k = guarded_of plus p (
      left_of_max (over_statements P skip_at 2 (1 + plus) p) (each_statements P skip_at (1 + plus) more) _ a,
      left_of_max (over_statements P (turn_at P) 2 (1 + plus) p) (each_statements P (turn_at P) (1 + plus) more) _ b,
    ) s k
    each_of plus (and_member p more) a b (in_others s) k = each_of plus more
        (right_of_max (over_statements P skip_at 2 (1 + plus) p) (each_statements P skip_at (1 + plus) more) _ a)
        (right_of_max (over_statements P (turn_at P) 2 (1 + plus) p) (each_statements P (turn_at P) (1 + plus) more) _ b) s k

    choice_of : (held down : ℕ) (cs : Choices) → choice_statements P skip_at held down cs ≤ over_program P skip_at
        → choice_statements P (turn_at P) held down cs ≤ over_program P (turn_at P) → (s : ChoiceSpot cs) → choice_rises s ≡ true
        → choice_phase P held down cs s ≤ phase P (choice_statement cs s)
    choice_of held down no_choices a b s k = elim s [ ]
    choice_of held down (and_choice g p more) a b (this_choice s) k = of_spot held down p (
      left_of_max (over_statements P skip_at held down p) (choice_statements P skip_at held down more) _ a,
      left_of_max (over_statements P (turn_at P) held down p) (choice_statements P (turn_at P) held down more) _ b,
    ) s k
    choice_of held down (and_choice g p more) a b (other_choice s) k = choice_of held down more
        (right_of_max (over_statements P skip_at held down p) (choice_statements P skip_at held down more) _ a)
        (right_of_max (over_statements P (turn_at P) held down p) (choice_statements P (turn_at P) held down more) _ b) s k

  pub own_phase_of : (s : GuardedSpot P.body) → guarded_rises s ≡ true → guarded_phase P 0 P.body s ≤ phase P (guarded_statement P.body s)
  own_phase_of s k = guarded_of 0 P.body (omega arith, omega arith) s k
