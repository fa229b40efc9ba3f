-- What a silent step of an own node changes of what is read off the sites of a statement, each with its request: nothing, but that a loop asks its body. So no
-- rail of a site moves, and nothing that a receive has stored; of what is asked of sites none is let go; and where a receive is asked so many moves follow
-- as from its request on.
--
-- P: the program; F: what is read; S: that it is read off sites alone; b: its value before; bound: how many moves; f: what is asked of a site; p, q, more:
-- statements; r: the request of a statement; x: values of its nodes; s: a spot; k: that its rise is a step; low: that it is low; e: what is read before, g:
-- after.
use Rattle.std.proofs.Common.{◌≡◌, ℕ, suc, ◌+◌, ◌-◌, ◌≤◌, Bool, true, false, refl, sym, ◌∙◌, arith}
use Rattle.std.specs.Prelude.{not, ◌||◌}
use Rattle.width_check.specs.Processes.{Process, skipping, assigning, sending, receiving, in_turn, side_by_side, choosing, repeating, Processes, no_members, and_member, member_count, Choices, no_choices, and_choice, choice_count, TypedProgram}
use Rattle.width_check.specs.Typing.{kind_at, channel_width}
use Rattle.circuit_places.specs.Heads.{Bits}
use Rattle.circuit_places.specs.Lines.{Line}
use Rattle.circuit_places.specs.Cores.{of_joined, of_ask, of_any, of_latch, of_start, of_answer, of_turn, of_leave}
use Rattle.circuit_places.specs.Circuit.{QElementCells, Cells, TurnCells, BranchCells, ChoiceCells, GuardedSpot, child, latch, next, inner, Spot, of_skip, of_assign, of_send, of_receive, in_members, of_branch, joint, of_loop, ask, in_body, of_core, of_guard, of_choice, of_round, ChoiceSpot, this_choice, other_choice, BranchSpot, in_this, in_others, TurnSpot, in_last, in_member, in_later, turned_guarded, flipped, turned_choice, turned_branches, turned_turn, site_rails, takers}
use Rattle.circuit_places.proofs.Flow.{cases}
use Rattle.circuit_places.proofs.Sites.{any}
use Rattle.circuit_places.proofs.Places.{guarded_of}
use Rattle.circuit_places.proofs.Meets.{Meets, TurnMeets, EachMeets, ChoiceMeets}
use Rattle.circuit_places.proofs.StillSteps.{guarded_rises, rises, guarded_value, value_at, branch_rises, branch_value, choice_rises, choice_value, turn_rises, turn_value}
use Rattle.round_time.specs.Longest.{guards_depth, tree_height, receive_first, first, turn_first}
use Rattle.circuit_time.proofs.Trails.{Clearing}
use Rattle.circuit_pace.proofs.Never.{never}
use Rattle.circuit_ranks.proofs.Ranks.{Asked, listens_on, is_asked}
use Rattle.circuit_ranks.proofs.SiteReads.{Reading, Spread, never as unturned, left_turns, right_turns}
use Rattle.circuit_ranks.proofs.AskedTrails.{AskedByRequest, asking, asked_spread, still_asked, listen_rises}
use Rattle.circuit_ranks.proofs.SiteMoves.{rails_read, rails_spread, takers_read, takers_spread}
use Rattle.circuit_sums.proofs.Phases.{guarded_phase, spot_phase, choice_phase, branch_phase, turn_phase}

module _ (P : TypedProgram) (F : Reading) (S : Spread F) (b : Bool) (bound : ℕ)
    (rise : (p : Process) → Meets P p → (x : Cells p) → F p false x ≡ b → F p true x ≡ not b → bound ≤ first P p - 1) where
  -- a loop asks its body
  loop_asks : (p : Process) → Meets P p → (c : Bool) (x : Cells p) → c ≡ false → F p c x ≡ b → F p (not c) x ≡ not b → bound ≤ first P p - 1
  loop_asks p meets false x low e g = rise p meets x e g
  loop_asks p meets true x low e g = never (sym low)

  mutual
    pub guarded_changes : (plus : ℕ) (p : Process) → Meets P p → (x : QElementCells (Cells p)) (s : GuardedSpot p) → guarded_rises s ≡ true
        → guarded_value p x s ≡ false → F p x.child x.inner ≡ b → F p (turned_guarded p x s).child (turned_guarded p x s).inner ≡ not b
        → bound ≤ guarded_phase P plus p s
    guarded_changes plus p meets x (inner s) k low e g = changes 2 (1 + plus) p meets x.child x.inner s k low e g
    guarded_changes plus p meets x child k low e g = never k
    guarded_changes plus p meets x latch k low e g = never k
    guarded_changes plus p meets x next k low e g = never k

    changes : (held down : ℕ) (p : Process) → Meets P p → (r : Bool) (x : Cells p) (s : Spot p) → rises s ≡ true → value_at p x s ≡ false → F p r x ≡ b
        → F p r (flipped p x s) ≡ not b → bound ≤ spot_phase P held down p s
    changes held down skipping meets r x of_skip k low e g = unturned b (F skipping r x) e (S.skips r x (not x) ∙ g)
    changes held down (assigning v at d) meets r x (of_assign s) k low e g = never k
    changes held down (sending c at d) meets r x (of_send s) k low e g = never k
    changes held down (receiving c at v to) meets r x (of_receive s) k low e g = never k
    changes held down (in_turn ms) meets r x (in_members s) k low e g =
        turn_changes held down ms meets r x s k low (sym (S.turns ms r x) ∙ e) (sym (S.turns ms r (turned_turn ms x s)) ∙ g)
    changes held down (side_by_side ms) meets r x (of_branch s) k low e g =
        branch_changes (tree_height (member_count ms) + (held + (2 + tree_height (member_count ms) + down))) ms meets.2 x.branches s k low
        (sym (S.sides ms r x) ∙ e) (sym (S.sides ms r (flipped (side_by_side ms) x (of_branch s))) ∙ g)
    changes held down (side_by_side ms) meets r x (joint j) k low e g = never k
    changes held down (repeating p) meets r x of_loop k low e g = never k
    changes held down (repeating p) meets r x ask k low e g =
        loop_asks p meets x.ask x.inner low (sym (S.loops p r x) ∙ e) (sym (S.loops p r (flipped (repeating p) x ask)) ∙ g)
    changes held down (repeating p) meets r x (in_body s) k low e g =
        changes 1 0 p meets x.ask x.inner s k low (sym (S.loops p r x) ∙ e) (sym (S.loops p r (flipped (repeating p) x (in_body s))) ∙ g)
    changes held down (choosing false cs) meets r x (of_core of_joined) k low e g = never k
    changes held down (choosing false cs) meets r x (of_core of_ask) k low e g = never k
    changes held down (choosing false cs) meets r x (of_core of_any) k low e g = never k
    changes held down (choosing false cs) meets r x (of_core (of_start j)) k low e g = never k
    changes held down (choosing false cs) meets r x (of_core (of_latch j)) k low e g = unturned b (S.choice cs x.started x.branches)
        (sym (S.selects cs r x) ∙ e) (sym (S.selects cs r (flipped (choosing false cs) x (of_core (of_latch j)))) ∙ g)
    changes held down (choosing false cs) meets r x (of_guard s) k low e g = never k
    changes held down (choosing false cs) meets r x (of_choice s) k low e g = choice_changes (held + 3) (1 + down) cs meets.2 x.started x.branches s k low
        (sym (S.selects cs r x) ∙ e) (sym (S.selects cs r (flipped (choosing false cs) x (of_choice s))) ∙ g)
    changes held down (choosing true cs) meets r x (of_core of_joined) k low e g = never k
    changes held down (choosing true cs) meets r x (of_core of_ask) k low e g = never k
    changes held down (choosing true cs) meets r x (of_core of_any) k low e g = never k
    changes held down (choosing true cs) meets r x (of_core (of_start j)) k low e g = never k
    changes held down (choosing true cs) meets r x (of_core (of_latch j)) k low e g = unturned b (S.choice cs x.core.started x.core.branches)
        (sym (S.repeats cs r x) ∙ e) (sym (S.repeats cs r (flipped (choosing true cs) x (of_core (of_latch j)))) ∙ g)
    changes held down (choosing true cs) meets r x (of_guard s) k low e g = never k
    changes held down (choosing true cs) meets r x (of_choice s) k low e g =
        choice_changes 4 (3 + guards_depth cs) cs meets.2 x.core.started x.core.branches s k low
        (sym (S.repeats cs r x) ∙ e) (sym (S.repeats cs r (flipped (choosing true cs) x (of_choice s))) ∙ g)
    changes held down (choosing true cs) meets r x (of_round of_answer) k low e g = never k
    changes held down (choosing true cs) meets r x (of_round of_turn) k low e g = never k
    changes held down (choosing true cs) meets r x (of_round of_leave) k low e g = unturned b (S.choice cs x.core.started x.core.branches)
        (sym (S.repeats cs r x) ∙ e) (sym (S.repeats cs r (flipped (choosing true cs) x (of_round of_leave))) ∙ g)

    turn_changes : (held down : ℕ) (ms : Processes) → TurnMeets P ms → (r : Bool) (x : TurnCells ms) (s : TurnSpot ms) → turn_rises s ≡ true
        → turn_value ms x s ≡ false → S.turn ms r x ≡ b → S.turn ms r (turned_turn ms x s) ≡ not b → bound ≤ turn_phase P held down ms s
    turn_changes held down no_members meets r x s k low e g = elim s [ ]
    turn_changes held down (and_member p no_members) meets r x (in_last s) k low e g =
        changes held down p meets r x s k low (sym (S.last_turn p r x) ∙ e) (sym (S.last_turn p r (flipped p x s)) ∙ g)
    turn_changes held down (and_member p (and_member q more)) meets r x (in_member s) k low e g =
        let z = left_turns b (F p x.member.child x.member.inner) (F p (turned_guarded p x.member s).child (turned_guarded p x.member s).inner)
        (S.turn (and_member q more) x.member.next x.later) (sym (S.more_turns p q more r x) ∙ e) (by x s k g) in
        guarded_changes (turn_first P (and_member q more) - 1) p meets.0 x.member s k low z.0 z.1
      where
        by : (x : TurnCells (and_member p (and_member q more))) (s : GuardedSpot p) → guarded_rises s ≡ true
            → S.turn (and_member p (and_member q more)) r (turned_turn (and_member p (and_member q more)) x (in_member s)) ≡ not b
            → (F p (turned_guarded p x.member s).child (turned_guarded p x.member s).inner || S.turn (and_member q more) x.member.next x.later) ≡ not b
        by x (inner s) k g = sym (S.more_turns p q more r (turned_turn (and_member p (and_member q more)) x (in_member (inner s)))) ∙ g
        by x child k g = never k
        by x latch k g = never k
        by x next k g = never k
    turn_changes held down (and_member p (and_member q more)) meets r x (in_later s) k low e g =
        let z = right_turns b (F p x.member.child x.member.inner) (S.turn (and_member q more) x.member.next x.later)
        (S.turn (and_member q more) x.member.next (turned_turn (and_member q more) x.later s)) (sym (S.more_turns p q more r x) ∙ e)
        (sym (S.more_turns p q more r (turned_turn (and_member p (and_member q more)) x (in_later s))) ∙ g) in
        turn_changes (held + 2) down (and_member q more) meets.1 x.member.next x.later s k low z.0 z.1

    branch_changes : (plus : ℕ) (ms : Processes) → EachMeets P ms → (x : BranchCells ms) (s : BranchSpot ms) → branch_rises s ≡ true
        → branch_value ms x s ≡ false → S.branch ms x ≡ b → S.branch ms (turned_branches ms x s) ≡ not b → bound ≤ branch_phase P plus ms s
    branch_changes plus no_members meets x s k low e g = elim s [ ]
    branch_changes plus (and_member p more) meets x (in_this s) k low e g =
        let z = left_turns b (F p x.0.child x.0.inner) (F p (turned_guarded p x.0 s).child (turned_guarded p x.0 s).inner) (S.branch more x.1)
        (sym (S.more_branches p more x) ∙ e) (sym (S.more_branches p more (turned_guarded p x.0 s, x.1)) ∙ g) in
        guarded_changes plus p meets.0 x.0 s k low z.0 z.1
    branch_changes plus (and_member p more) meets x (in_others s) k low e g =
        let z = right_turns b (F p x.0.child x.0.inner) (S.branch more x.1) (S.branch more (turned_branches more x.1 s))
        (sym (S.more_branches p more x) ∙ e) (sym (S.more_branches p more (x.0, turned_branches more x.1 s)) ∙ g) in
        branch_changes plus more meets.2 x.1 s k low z.0 z.1

    choice_changes : (held down : ℕ) (cs : Choices) → ChoiceMeets P cs → (bits : Bits (choice_count cs)) (x : ChoiceCells cs) (s : ChoiceSpot cs)
        → choice_rises s ≡ true → choice_value cs x s ≡ false → S.choice cs bits x ≡ b → S.choice cs bits (turned_choice cs x s) ≡ not b
        → bound ≤ choice_phase P held down cs s
    choice_changes held down no_choices meets bits x s k low e g = elim s [ ]
    choice_changes held down (and_choice d p more) meets bits x (this_choice s) k low e g =
        let z = left_turns b (F p bits.0 x.0) (F p bits.0 (flipped p x.0 s)) (S.choice more bits.1 x.1) (sym (S.more_choices d p more bits x) ∙ e)
        (sym (S.more_choices d p more bits (flipped p x.0 s, x.1)) ∙ g) in
        changes held down p meets.0 bits.0 x.0 s k low z.0 z.1
    choice_changes held down (and_choice d p more) meets bits x (other_choice s) k low e g =
        let z = right_turns b (F p bits.0 x.0) (S.choice more bits.1 x.1) (S.choice more bits.1 (turned_choice more x.1 s))
        (sym (S.more_choices d p more bits x) ∙ e) (sym (S.more_choices d p more bits (x.0, turned_choice more x.1 s)) ∙ g) in
        choice_changes held down more meets.1 bits.1 x.1 s k low z.0 z.1

-- more than follow can't
too_many : (n : ℕ) → suc n ≤ n → ⊥
too_many n less = omega (arith, less)

turned_over : (a c : Bool) → (c ≡ not a → ⊥) → c ≡ a
turned_over true true f = refl
turned_over false false f = refl
turned_over true false f = absurd (f refl)
turned_over false true f = absurd (f refl)

module _ (P : TypedProgram) (p : Process) (meets : Meets P p) (x : QElementCells (Cells p)) (s : GuardedSpot p) (k : guarded_rises s ≡ true)
    (low : guarded_value p x s ≡ false) where
  pub rails_stay : (l : Line) (i : ℕ) (one : Bool) → any (site_rails p (turned_guarded p x s).inner l i one) ≡ any (site_rails p x.inner l i one)
  rails_stay l i one = turned_over (any (site_rails p x.inner l i one)) (any (site_rails p (turned_guarded p x s).inner l i one))
      (λ g. too_many (guarded_phase P 0 p s) (guarded_changes P (rails_read l i one) (rails_spread l i one) (any (site_rails p x.inner l i one))
      (suc (guarded_phase P 0 p s)) (λ q m y e h. unturned (any (site_rails p x.inner l i one)) (any (site_rails q y l i one)) e h) 0 p meets x s k low refl g))

  pub takers_stay : (c : ℕ) → any (takers p (turned_guarded p x s).inner c) ≡ any (takers p x.inner c)
  takers_stay c = turned_over (any (takers p x.inner c)) (any (takers p (turned_guarded p x s).inner c))
      (λ g. too_many (guarded_phase P 0 p s) (guarded_changes P (takers_read c) (takers_spread c) (any (takers p x.inner c))
      (suc (guarded_phase P 0 p s)) (λ q m y e h. unturned (any (takers p x.inner c)) (any (takers q y c)) e h) 0 p meets x s k low refl g))

  -- what is asked of a site stays asked
  pub asked_stays : (f : Asked) → AskedByRequest f → is_asked f p x.child x.inner ≡ true
      → is_asked f p (turned_guarded p x s).child (turned_guarded p x s).inner ≡ true
  asked_stays f by_request e = cases (is_asked f p (turned_guarded p x s).child (turned_guarded p x s).inner)
      (λ (z : is_asked f p (turned_guarded p x s).child (turned_guarded p x s).inner ≡ true). z)
      (λ (z : is_asked f p (turned_guarded p x s).child (turned_guarded p x s).inner ≡ false).
      absurd (too_many (guarded_phase P 0 p s) (guarded_changes P (asking f) (asked_spread f) true (suc (guarded_phase P 0 p s))
      (λ q m y e h. absurd (still_asked f by_request q y e h)) 0 p meets x s k low e z)))

  -- where a receive is asked then, so many moves follow
  pub listen_asked : (K : Clearing) (c : ℕ) → is_asked (listens_on c) p x.child x.inner ≡ false
      → is_asked (listens_on c) p (turned_guarded p x s).child (turned_guarded p x s).inner ≡ true
      → receive_first (kind_at P.channels c) (tree_height (channel_width P.channels c)) - 1 ≤ guarded_phase P 0 p s
  listen_asked K c e g = guarded_changes P (asking (listens_on c)) (asked_spread (listens_on c)) false
      (receive_first (kind_at P.channels c) (tree_height (channel_width P.channels c)) - 1)
      (λ q m y e h. listen_rises P K c 0 0 q m (guarded_of false false false y) child e h (λ i. never i)) 0 p meets x s k low e g
