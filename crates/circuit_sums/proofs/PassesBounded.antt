-- The phases of steps at channels and variables are less than `longest`.
--
-- P: the program; f: what is said of a statement in its context; M: a bound; p, q, more: statements; held, down: as in trails; c: a channel; v: a variable.
use Rattle.std.proofs.Common.{◌≡◌, ℕ, suc, ◌+◌, ◌-◌, ◌≤◌, ◌==◌, Bool, true, false, sym, subst, arith}
use Rattle.std.specs.Prelude.{if◌then◌else◌, max}
use Rattle.std.proofs.Math.Nat.{max-le}
use Rattle.width_check.specs.Processes.{Process, skipping, assigning, sending, receiving, in_turn, side_by_side, choosing, repeating, Processes, no_members, and_member, member_count, Choices, no_choices, and_choice, TypedProgram}
use Rattle.width_check.specs.Typing.{kind_at, IsProcess}
use Rattle.circuit_places.specs.Lines.{of_var}
use Rattle.circuit_places.proofs.Meets.{Meets, TurnMeets, EachMeets, ChoiceMeets, sends}
use Rattle.round_time.specs.Longest.{depth, guards_depth, tree_height, var_height, turn_first, longest}
use Rattle.round_time.specs.Phases.{InContext, over_statements, turn_statements, each_statements, choice_statements, over_program, acked, written, taken, rails_left, pass_at, passes, put_at, puts}
use Rattle.circuit_time.proofs.OwnTrails.{Covers, TurnCovers, EachCovers, ChoiceCovers}
use Rattle.circuit_pace.proofs.TrailsWithin.{Within, TurnWithin, EachWithin, ChoiceWithin, turn_of, last_of, member_of, later_of, each_of, branch_of, branches_of, body_of, select_of, repeat_of, arm_of, arms_of}
use Rattle.circuit_pace.proofs.TrailsBounded.{assign_room, send_room, receive_room}
use Rattle.circuit_pace.proofs.Counts.{counts, covered, root_within, counts_leave}
use Rattle.circuit_pace.proofs.OwnBounded.{all_ordered}
use Rattle.circuit_ranks.proofs.SiteRooms.{long_some, acked_less, taken_less, written_room}
use Rattle.circuit_sums.proofs.OverStatements.{one_more, acked_is, written_is, taken_is, rails_is}

-- the greatest over all statements is below what it is below at each in its context
module _ (P : TypedProgram) (f : InContext) (M : ℕ)
    (at_each : (held down : ℕ) (p : Process) → Meets P p → Covers P (counts P) held down p → Within P (longest P) held down p → f held down p ≤ M) where
  mutual
    over_less : (held down : ℕ) (p : Process) → Meets P p → Covers P (counts P) held down p → Within P (longest P) held down p
        → over_statements P f held down p ≤ M
    over_less held down skipping meets covers w = at_each held down skipping meets covers w
    over_less held down (assigning x at e) meets covers w = at_each held down (assigning x at e) meets covers w
    over_less held down (sending c at e) meets covers w = at_each held down (sending c at e) meets covers w
    over_less held down (receiving c at x to) meets covers w = at_each held down (receiving c at x to) meets covers w
    over_less held down (in_turn ms) meets covers w = turn_less held down ms meets covers (turn_of P (longest P) w)
    over_less held down (side_by_side ms) meets covers w = let n = tree_height (member_count ms) in
        subst (λ d. each_statements P f d ms ≤ M) (sym (one_more (n + (held + (2 + n + down)))))
        (each_less (suc (n + (held + (2 + n + down)))) ms meets.2 covers (each_of P (longest P) w))
    over_less held down (repeating p) meets covers w = over_less 1 0 p meets covers (body_of P (longest P) w)
    over_less held down (choosing false cs) meets covers w = max-le (at_each held down (choosing false cs) meets covers w)
        (choice_less (held + 3) (1 + down) (3 + guards_depth cs) cs meets.2 covers.1 (select_of P (longest P) w))
    over_less held down (choosing true cs) meets covers w = max-le (at_each held down (choosing true cs) meets covers w)
        (choice_less 4 (3 + guards_depth cs) (3 + guards_depth cs) cs meets.2 covers.1 (repeat_of P (longest P) w))

    turn_less : (held down : ℕ) (ms : Processes) → TurnMeets P ms → TurnCovers P (counts P) held down ms → TurnWithin P (longest P) held down ms
        → turn_statements P f held down ms ≤ M
    turn_less held down no_members meets covers w = omega arith
    turn_less held down (and_member p no_members) meets covers w = over_less held down p meets covers (last_of P (longest P) w)
    turn_less held down (and_member p (and_member q more)) meets covers w =
        let n = turn_first P (and_member q more) - 1 in
        max-le (subst (λ d. over_statements P f 2 d p ≤ M) (sym (one_more n)) (over_less 2 (suc n) p meets.0 covers.0 (member_of P (longest P) w)))
        (turn_less (held + 2) down (and_member q more) meets.1 covers.1 (later_of P (longest P) w))

    each_less : (down : ℕ) (ms : Processes) → EachMeets P ms → EachCovers P (counts P) down ms → EachWithin P (longest P) down ms
        → each_statements P f down ms ≤ M
    each_less down no_members meets covers w = omega arith
    each_less down (and_member p more) meets covers w =
        max-le (over_less 2 down p meets.0 covers.0 (branch_of P (longest P) w)) (each_less down more meets.2 covers.1 (branches_of P (longest P) w))

    choice_less : (held down started : ℕ) (cs : Choices) → ChoiceMeets P cs → ChoiceCovers P (counts P) held down cs
        → ChoiceWithin P (longest P) held down started cs → choice_statements P f held down cs ≤ M
    choice_less held down started no_choices meets covers w = omega arith
    choice_less held down started (and_choice g p more) meets covers w =
        max-le (over_less held down p meets.0 covers.0 (arm_of P (longest P) w))
        (choice_less held down started more meets.1 covers.1 (arms_of P (longest P) w))

if_so : (t : Bool) (a M : ℕ) → a ≤ M → (if t then a else 0) ≤ M
if_so true a M e = e
if_so false a M e = omega arith

module _ (P : TypedProgram) (meets : Meets P P.body) (typed : IsProcess P.channels P.vars P.body) where
  -- of the whole program
  pub all_less : (f : InContext) (M : ℕ)
      → ((held down : ℕ) (p : Process) → Meets P p → Covers P (counts P) held down p → Within P (longest P) held down p → f held down p ≤ M)
      → over_program P f ≤ M
  all_less f M at_each = over_less P f M at_each 2 1 P.body meets (covered P (all_ordered P.channels P.vars P.body typed)) (root_within P)

  pub passes_less : (c : ℕ) → suc (passes P c) ≤ longest P
  passes_less c =
      let a = acked_less P meets c in
      let t = taken_less P meets c in
      let p = acked_is P c in
      let q = taken_is P c in
      let l = long_some P in
      let o = all_less (pass_at P c) (longest P - 1) at_each in
      let m : max (2 + acked P c) (1 + taken P c) ≤ longest P - 1 = max-le (omega (arith, a, p, l)) (omega (arith, t, q, l)) in
      let n : passes P c ≤ longest P - 1 = max-le m o in
      omega (arith, n, l)
    where
      at_each : (held down : ℕ) (p : Process) → Meets P p → Covers P (counts P) held down p → Within P (longest P) held down p
          → pass_at P c held down p ≤ longest P - 1
      at_each held down (sending k at e) meet covers w =
          let s = send_room P (longest P) (counts P) (counts_leave P meets) held down k at e meet covers w in
          let r = rails_is P (kind_at P.channels k) k in
          if_so (k == c) (1 + (held + (depth e + rails_left P (kind_at P.channels k) k))) (longest P - 1) (omega (arith, s, r))
      at_each held down (receiving k at x to) meet covers w =
          let s = receive_room P (longest P) (counts P) (counts_leave P meets) held down k x at to covers w in
          let r = written_is P x in
          if_so (k == c) (1 + (held + (3 + var_height P x + written P x))) (longest P - 1) (omega (arith, s, r))
      at_each held down skipping meet covers w = omega arith
      at_each held down (assigning x at e) meet covers w = omega arith
      at_each held down (in_turn ms) meet covers w = omega arith
      at_each held down (side_by_side ms) meet covers w = omega arith
      at_each held down (repeating p) meet covers w = omega arith
      at_each held down (choosing again cs) meet covers w = omega arith

  -- where something writes the variable
  pub puts_less : (v : ℕ) → sends P.body (of_var v) ≡ true → suc (puts P v) ≤ longest P
  puts_less v site =
      let a = (written_room P meets v site).0 in
      let p = written_is P v in
      let l = long_some P in
      let o = all_less (put_at P v) (longest P - 1) at_each in
      let n : puts P v ≤ longest P - 1 = max-le (omega (arith, a, p)) o in
      omega (arith, n, l)
    where
      at_each : (held down : ℕ) (p : Process) → Meets P p → Covers P (counts P) held down p → Within P (longest P) held down p
          → put_at P v held down p ≤ longest P - 1
      at_each held down (assigning y at e) meet covers w =
          let s = assign_room P (longest P) (counts P) (counts_leave P meets) held down y at e meet covers w in
          let r = written_is P y in
          if_so (y == v) (1 + (held + (depth e + (2 + var_height P y + written P y)))) (longest P - 1) (omega (arith, s, r))
      at_each held down (sending k at e) meet covers w = omega arith
      at_each held down (receiving k at x to) meet covers w = omega arith
      at_each held down skipping meet covers w = omega arith
      at_each held down (in_turn ms) meet covers w = omega arith
      at_each held down (side_by_side ms) meet covers w = omega arith
      at_each held down (repeating p) meet covers w = omega arith
      at_each held down (choosing again cs) meet covers w = omega arith
