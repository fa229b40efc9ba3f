-- The phase of the statement of each own node's step is less than `longest`.
--
-- P: the program; L: the bound; p, q, more: statements; held, down: as in trails; w: the context; s: a spot; k: that its rise is a step.
use Rattle.std.proofs.Common.{◌≡◌, ℕ, suc, ◌+◌, ◌-◌, ◌≤◌, true, false, arith}
use Rattle.std.specs.Prelude.{max}
use Rattle.std.proofs.Math.Nat.{max-le}
use Rattle.width_check.specs.Typing.{IsProcess}
use Rattle.width_check.specs.Processes.{Process, skipping, assigning, sending, receiving, in_turn, side_by_side, choosing, repeating, Processes, no_members, and_member, member_count, Choices, no_choices, and_choice, choice_count, TypedProgram}
use Rattle.circuit_places.specs.Heads.{Index}
use Rattle.circuit_places.specs.Cores.{of_joined, of_ask, of_any, of_latch, of_start, of_answer, of_turn, of_leave}
use Rattle.circuit_places.specs.Circuit.{GuardedSpot, child, latch, next, inner, Spot, of_skip, of_assign, of_send, of_receive, in_members, of_branch, joint, of_loop, ask, in_body, of_core, of_guard, of_choice, of_round, ChoiceSpot, this_choice, other_choice, BranchSpot, in_this, in_others, TurnSpot, in_last, in_member, in_later}
use Rattle.circuit_places.proofs.Meets.{Meets}
use Rattle.circuit_places.proofs.StillSteps.{guarded_rises, rises, branch_rises, choice_rises, turn_rises}
use Rattle.round_time.specs.Longest.{guards_depth, tree_height, first, turn_first, within, choice_within, longest}
use Rattle.round_time.specs.Phases.{over_program, choices_first, skip_at, turn_at, phase}
use Rattle.circuit_time.proofs.Requests.{first_some}
use Rattle.circuit_time.proofs.OwnTrails.{Covers}
use Rattle.circuit_pace.proofs.Never.{never}
use Rattle.circuit_pace.proofs.Counts.{counts, root_within}
use Rattle.circuit_pace.proofs.TrailsWithin.{Within, TurnWithin, EachWithin, ChoiceWithin, left_of_max, right_of_max, turn_of, last_of, member_of, later_of, each_of, branch_of, branches_of, body_of, select_of, repeat_of, arm_of, arms_of, arms_first}
use Rattle.circuit_ranks.proofs.SiteRooms.{long_some}
use Rattle.circuit_sums.proofs.PassesBounded.{all_less}
use Rattle.circuit_sums.proofs.Statements.{guarded_statement, statement, choice_statement, branch_statement, turn_statement}

module _ (P : TypedProgram) (L : ℕ) where
  -- where there is a branch there is room for its start
  started_room : {held down started : ℕ} (cs : Choices) → Index (choice_count cs) → ChoiceWithin P L held down started cs → started ≤ L
  started_room no_choices i w = elim i [ ]
  started_room {started = started} (and_choice g p more) i w =
      let a = right_of_max (within P p) (max (started + first P p) (choice_within P started more)) L w.inside in
      let b = left_of_max (started + first P p) (choice_within P started more) L a in
      omega (arith, b)

  latch_room : (g f n : ℕ) → 3 + g + f ≤ L → 3 + g + n ≤ L → suc (2 + (g + max f n)) ≤ L
  latch_room g f n a b = let m : max f n ≤ L - (3 + g) = max-le (omega (arith, a)) (omega (arith, b)) in omega (arith, a, m)

  repeat_room : {held down : ℕ} (cs : Choices) → Within P L held down (choosing true cs)
      → suc (2 + (guards_depth cs + max (choices_first P cs) (held + 5 + down))) ≤ L
  repeat_room {held = held} {down = down} cs w =
      let l = w.lows in
      let f = arms_first P L cs (repeat_of P L w) (omega (arith, l)) in
      latch_room (guards_depth cs) (choices_first P cs) (held + 5 + down) f (omega (arith, l))

module _ (P : TypedProgram) (meets : Meets P P.body) (typed : IsProcess P.channels P.vars P.body) where
  abbrev L : ℕ
  L = longest P

  -- of a skip, and of what a repetition does, the greatest of all
  skips_less : suc (over_program P skip_at) ≤ L
  skips_less = let a = all_less P meets typed skip_at (L - 1) at_each in let l = long_some P in omega (arith, a, l)
    where
      at_each : (held down : ℕ) (p : Process) → Meets P p → Covers P (counts P) held down p → Within P L held down p → skip_at held down p ≤ L - 1
      at_each held down skipping meet covers w = let l = w.lows in omega (arith, l)
      at_each held down (assigning x at e) meet covers w = omega arith
      at_each held down (sending k at e) meet covers w = omega arith
      at_each held down (receiving k at x to) meet covers w = omega arith
      at_each held down (in_turn ms) meet covers w = omega arith
      at_each held down (side_by_side ms) meet covers w = omega arith
      at_each held down (repeating p) meet covers w = omega arith
      at_each held down (choosing again cs) meet covers w = omega arith

  turns_less : suc (over_program P (turn_at P)) ≤ L
  turns_less = let a = all_less P meets typed (turn_at P) (L - 1) at_each in let l = long_some P in omega (arith, a, l)
    where
      at_each : (held down : ℕ) (p : Process) → Meets P p → Covers P (counts P) held down p → Within P L held down p → turn_at P held down p ≤ L - 1
      at_each held down (choosing true cs) meet covers w = let r = repeat_room P L cs w in omega (arith, r)
      at_each held down (choosing false cs) meet covers w = omega arith
      at_each held down skipping meet covers w = omega arith
      at_each held down (assigning x at e) meet covers w = omega arith
      at_each held down (sending k at e) meet covers w = omega arith
      at_each held down (receiving k at x to) meet covers w = omega arith
      at_each held down (in_turn ms) meet covers w = omega arith
      at_each held down (side_by_side ms) meet covers w = omega arith
      at_each held down (repeating p) meet covers w = omega arith

  mutual
    guarded_room : (plus : ℕ) (p : Process) → Within P L 2 (suc plus) p → (s : GuardedSpot p) → guarded_rises s ≡ true
        → suc (phase P (guarded_statement p s)) ≤ L
    guarded_room plus p w (inner s) k = phase_room 2 (suc plus) p w s k
    guarded_room plus p w child k = never k
    guarded_room plus p w latch k = never k
    guarded_room plus p w next k = never k

    phase_room : (held down : ℕ) (p : Process) → Within P L held down p → (s : Spot p) → rises s ≡ true → suc (phase P (statement p s)) ≤ L
    phase_room held down skipping w of_skip k = skips_less
    phase_room held down (assigning v at d) w (of_assign s) k = never k
    phase_room held down (sending c at d) w (of_send s) k = never k
    phase_room held down (receiving c at v to) w (of_receive s) k = never k
    phase_room held down (in_turn ms) w (in_members s) k = turn_room held down ms (turn_of P L w) s k
    phase_room held down (side_by_side ms) w (of_branch s) k =
        branch_room (tree_height (member_count ms) + (held + (2 + tree_height (member_count ms) + down))) ms (each_of P L w) s k
    phase_room held down (side_by_side ms) w (joint j) k = never k
    phase_room held down (repeating p) w of_loop k = never k
    phase_room held down (repeating p) w ask k = let a = (body_of P L w).firsts in let f = first_some P p in omega (arith, a, f)
    phase_room held down (repeating p) w (in_body s) k = phase_room 1 0 p (body_of P L w) s k
    phase_room held down (choosing again cs) w (of_core of_joined) k = never k
    phase_room held down (choosing again cs) w (of_core of_ask) k = never k
    phase_room held down (choosing again cs) w (of_core of_any) k = never k
    phase_room held down (choosing again cs) w (of_core (of_start i)) k = never k
    phase_room held down (choosing again cs) w (of_guard s) k = never k
    phase_room held down (choosing false cs) w (of_core (of_latch i)) k =
        let f = arms_first P L cs (select_of P L w) (started_room P L cs i (select_of P L w)) in omega (arith, f)
    phase_room held down (choosing false cs) w (of_choice s) k = choice_room (held + 3) (1 + down) (3 + guards_depth cs) cs (select_of P L w) s k
    phase_room held down (choosing true cs) w (of_core (of_latch i)) k = turns_less
    phase_room held down (choosing true cs) w (of_choice s) k = choice_room 4 (3 + guards_depth cs) (3 + guards_depth cs) cs (repeat_of P L w) s k
    phase_room held down (choosing true cs) w (of_round of_leave) k = turns_less
    phase_room held down (choosing true cs) w (of_round of_answer) k = never k
    phase_room held down (choosing true cs) w (of_round of_turn) k = never k

    turn_room : (held down : ℕ) (ms : Processes) → TurnWithin P L held down ms → (s : TurnSpot ms) → turn_rises s ≡ true
        → suc (phase P (turn_statement ms s)) ≤ L
    turn_room held down no_members w s k = elim s [ ]
    turn_room held down (and_member p no_members) w (in_last s) k = phase_room held down p (last_of P L w) s k
    turn_room held down (and_member p (and_member q more)) w (in_member s) k =
        guarded_room (turn_first P (and_member q more) - 1) p (member_of P L w) s k
    turn_room held down (and_member p (and_member q more)) w (in_later s) k = turn_room (held + 2) down (and_member q more) (later_of P L w) s k

    branch_room : (plus : ℕ) (ms : Processes) → EachWithin P L (suc plus) ms → (s : BranchSpot ms) → branch_rises s ≡ true
        → suc (phase P (branch_statement ms s)) ≤ L
    branch_room plus no_members w s k = elim s [ ]
    branch_room plus (and_member p more) w (in_this s) k = guarded_room plus p (branch_of P L w) s k
    branch_room plus (and_member p more) w (in_others s) k = branch_room plus more (branches_of P L w) s k

    choice_room : (held down started : ℕ) (cs : Choices) → ChoiceWithin P L held down started cs → (s : ChoiceSpot cs) → choice_rises s ≡ true
        → suc (phase P (choice_statement cs s)) ≤ L
    choice_room held down started no_choices w s k = elim s [ ]
    choice_room held down started (and_choice g p more) w (this_choice s) k = phase_room held down p (arm_of P L w) s k
    choice_room held down started (and_choice g p more) w (other_choice s) k = choice_room held down started more (arms_of P L w) s k

  -- of the whole program's
  pub own_phase : (s : GuardedSpot P.body) → guarded_rises s ≡ true → suc (phase P (guarded_statement P.body s)) ≤ L
  own_phase s k = guarded_room 0 P.body (root_within P) s k
