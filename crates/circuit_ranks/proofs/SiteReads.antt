-- What is read off the sites of a statement, each of them with its request: an own move that changes it is one of a site, or a request that a
-- site is under. So many moves follow it at least as follow the site's, or the request's.
--
-- P: the program; K: how many moves follow the falls of lines; F: what is read; S: that it is read off sites alone; b: its value before; bound:
-- how many moves; p, q, more: statements; r: the request of a statement; x: values of its nodes; s: a spot; e: what is read before, f: after.
use Rattle.std.proofs.Common.{◌≡◌, ℕ, ◌+◌, ◌-◌, ◌≤◌, Bool, true, false, refl, sym, ◌∙◌}
use Rattle.std.specs.Prelude.{not, ◌||◌, if◌then◌else◌}
use Rattle.width_check.specs.Processes.{Formula, Process, skipping, assigning, sending, receiving, in_turn, side_by_side, choosing, repeating, Processes, no_members, and_member, member_count, Choices, no_choices, and_choice, choice_count, TypedProgram}
use Rattle.circuit_places.specs.Heads.{Index, top, under, Bits, turned_bit}
use Rattle.circuit_places.specs.Cores.{of_joined, of_ask, of_any, of_latch, of_start, of_answer, of_turn, of_leave}
use Rattle.circuit_places.specs.Circuit.{QElementCells, Cells, TurnCells, BranchCells, ChoiceCells, GuardedSpot, child, latch, next, inner, Spot, of_skip, in_members, of_branch, joint, of_loop, ask, in_body, of_core, of_guard, of_choice, of_round, ChoiceSpot, this_choice, other_choice, BranchSpot, in_this, in_others, TurnSpot, in_last, in_member, in_later, turned_guarded, flipped, turned_choice, turned_branches, turned_turn}
use Rattle.circuit_places.proofs.Flow.{neither_left, neither_right, not_both}
use Rattle.circuit_places.proofs.Talks.{or_false_left, or_false_right}
use Rattle.circuit_places.proofs.Meets.{Meets, TurnMeets, EachMeets, ChoiceMeets}
use Rattle.circuit_places.proofs.StillSteps.{guarded_rises, guarded_value, branch_rises, branch_value, choice_rises, choice_value, turn_rises, turn_value}
use Rattle.round_time.specs.Longest.{guards_depth, tree_height, first, turn_first}
use Rattle.circuit_time.proofs.Trails.{Clearing, back, turn_back, start_trail, guarded_trail, trail, choice_trail, branch_trail, turn_trail}
use Rattle.circuit_time.proofs.Requests.{Plain}

abbrev pub Reading : Type 0
Reading = (p : Process) → Bool → Cells p → Bool

-- it is that of some site of the statement
pub record Spread (F : Reading) : Type 0 where
  pub turn : (ms : Processes) → Bool → TurnCells ms → Bool
  pub branch : (ms : Processes) → BranchCells ms → Bool
  pub choice : (cs : Choices) → Bits (choice_count cs) → ChoiceCells cs → Bool
  pub skips : (r : Bool) (x y : Bool) → F skipping r x ≡ F skipping r y
  pub turns : (ms : Processes) (r : Bool) (x : TurnCells ms) → F (in_turn ms) r x ≡ turn ms r x
  pub sides : (ms : Processes) (r : Bool) (x : Cells (side_by_side ms)) → F (side_by_side ms) r x ≡ branch ms x.branches
  pub loops : (p : Process) (r : Bool) (x : Cells (repeating p)) → F (repeating p) r x ≡ F p x.ask x.inner
  pub selects : (cs : Choices) (r : Bool) (x : Cells (choosing false cs)) → F (choosing false cs) r x ≡ choice cs x.started x.branches
  pub repeats : (cs : Choices) (r : Bool) (x : Cells (choosing true cs)) → F (choosing true cs) r x ≡ choice cs x.core.started x.core.branches
  pub last_turn : (p : Process) (r : Bool) (x : Cells p) → turn (and_member p no_members) r x ≡ F p r x
  pub more_turns : (p q : Process) (more : Processes) (r : Bool) (x : TurnCells (and_member p (and_member q more)))
      → turn (and_member p (and_member q more)) r x ≡ (F p x.member.child x.member.inner || turn (and_member q more) x.member.next x.later)
  pub no_branch : (x : BranchCells no_members) → branch no_members x ≡ false
  pub more_branches : (p : Process) (more : Processes) (x : BranchCells (and_member p more))
      → branch (and_member p more) x ≡ (F p x.0.child x.0.inner || branch more x.1)
  pub no_choice : (b : Bits (choice_count no_choices)) (x : ChoiceCells no_choices) → choice no_choices b x ≡ false
  pub more_choices : (g : Formula) (p : Process) (more : Choices) (b : Bits (choice_count (and_choice g p more))) (x : ChoiceCells (and_choice g p more))
      → choice (and_choice g p more) b x ≡ (F p b.0 x.0 || choice more b.1 x.1)

-- what doesn't change
pub never : {A : Type 0} (b c : Bool) → c ≡ b → c ≡ not b → A
never true c e f = absurd (not_both f e)
never false c e f = absurd (not_both e f)

-- of both parts of what changes one alone does
pub left_turns : (b a c d : Bool) → (a || d) ≡ b → (c || d) ≡ not b → (a ≡ b) × (c ≡ not b)
left_turns true a c d e f =
    let low = neither_right c d f in (sym (or_false_right a d low) ∙ e, sym (or_false_right c d low) ∙ f)
left_turns false a c d e f =
    let low = neither_right a d e in (sym (or_false_right a d low) ∙ e, sym (or_false_right c d low) ∙ f)

pub right_turns : (b a c d : Bool) → (a || c) ≡ b → (a || d) ≡ not b → (c ≡ b) × (d ≡ not b)
right_turns true a c d e f =
    let low = neither_left a d f in (sym (or_false_left a c low) ∙ e, sym (or_false_left a d low) ∙ f)
right_turns false a c d e f =
    let low = neither_left a c e in (sym (or_false_left a c low) ∙ e, sym (or_false_left a d low) ∙ f)

-- a send, an assignment, or a receive
abbrev pub is_site : Process → Bool
is_site (assigning v at e) = true
is_site (sending c at e) = true
is_site (receiving c at v to) = true
is_site _ = false

module _ (P : TypedProgram) (K : Clearing) (F : Reading) (S : Spread F) (b : Bool) (bound : ℕ)
    (leaf : (held down : ℕ) (p : Process) → is_site p ≡ true → (r : Bool) (x : Cells p) (s : Spot p) → F p r x ≡ b → F p r (flipped p x s) ≡ not b
    → bound ≤ trail P K held down p x s)
    (rise : (p : Process) → Meets P p → (x : Cells p) → F p false x ≡ b → F p true x ≡ not b → bound ≤ first P p - 1)
    (fall : (down : ℕ) (p : Process) (x : Cells p) → F p true x ≡ b → F p false x ≡ not b → bound ≤ back P K down p x) where
  -- a request turns over
  requested : (down : ℕ) (p : Process) → Meets P p → (c : Bool) (x : Cells p) → F p c x ≡ b → F p (not c) x ≡ not b
      → bound ≤ (if c then back P K down p x else first P p - 1)
  requested down p meets true x e f = fall down p x e f
  requested down p meets false x e f = rise p meets x e f

  turn_requested : (down : ℕ) (ms : Processes) → TurnMeets P ms → (c : Bool) (x : TurnCells ms) → S.turn ms c x ≡ b → S.turn ms (not c) x ≡ not b
      → bound ≤ (if c then turn_back P K down ms x else turn_first P ms - 1)
  turn_requested down ms meets true x e f = fall down (in_turn ms) x (S.turns ms true x ∙ e) (S.turns ms false x ∙ f)
  turn_requested down ms meets false x e f = rise (in_turn ms) meets x (S.turns ms false x ∙ e) (S.turns ms true x ∙ f)

  start_turns : (down : ℕ) (cs : Choices) → ChoiceMeets P cs → (bits : Bits (choice_count cs)) (x : ChoiceCells cs) (i : Index (choice_count cs))
      → S.choice cs bits x ≡ b → S.choice cs (turned_bit i bits) x ≡ not b → bound ≤ start_trail P K down cs bits x i
  start_turns down no_choices meets bits x i e f = never b false (sym (S.no_choice bits x) ∙ e) (sym (S.no_choice (turned_bit i bits) x) ∙ f)
  start_turns down (and_choice g p more) meets bits x top e f =
      let z = left_turns b (F p bits.0 x.0) (F p (not bits.0) x.0) (S.choice more bits.1 x.1) (sym (S.more_choices g p more bits x) ∙ e)
      (sym (S.more_choices g p more (not bits.0, bits.1) x) ∙ f) in
      requested down p meets.0 bits.0 x.0 z.0 z.1
  start_turns down (and_choice g p more) meets bits x (under i) e f =
      let z = right_turns b (F p bits.0 x.0) (S.choice more bits.1 x.1) (S.choice more (turned_bit i bits.1) x.1) (sym (S.more_choices g p more bits x) ∙ e)
      (sym (S.more_choices g p more (bits.0, turned_bit i bits.1) x) ∙ f) in
      start_turns down more meets.1 bits.1 x.1 i z.0 z.1

  -- of a loop's request the rise is a step
  loop_turns : (p : Process) (c : Bool) (x : Cells p) → c ≡ true → F p c x ≡ b → F p (not c) x ≡ not b
      → bound ≤ (if c then back P K 0 p x else 0)
  loop_turns p true x h e f = fall 0 p x e f
  loop_turns p false x h e f = absurd (cc h)

  mutual
    pub guarded_turns : (plus minus : ℕ) (p : Process) → Meets P p → (x : QElementCells (Cells p)) (s : GuardedSpot p) → F p x.child x.inner ≡ b
        → F p (turned_guarded p x s).child (turned_guarded p x s).inner ≡ not b → (guarded_rises s ≡ true → guarded_value p x s ≡ true)
        → bound ≤ guarded_trail P K plus minus p x s
    guarded_turns plus minus p meets x child e f plain = requested (1 + plus) p meets x.child x.inner e f
    guarded_turns plus minus p meets x latch e f plain = never b (F p x.child x.inner) e f
    guarded_turns plus minus p meets x next e f plain = never b (F p x.child x.inner) e f
    guarded_turns plus minus p meets x (inner s) e f plain = site_turns 2 (1 + plus) p meets x.child x.inner s e f plain

    pub site_turns : (held down : ℕ) (p : Process) → Meets P p → (r : Bool) (x : Cells p) (s : Spot p) → F p r x ≡ b → F p r (flipped p x s) ≡ not b
        → Plain p x s → bound ≤ trail P K held down p x s
    site_turns held down skipping meets r x of_skip e f plain = never b (F skipping r x) e (S.skips r x (not x) ∙ f)
    site_turns held down (assigning v at d) meets r x s e f plain = leaf held down (assigning v at d) refl r x s e f
    site_turns held down (sending c at d) meets r x s e f plain = leaf held down (sending c at d) refl r x s e f
    site_turns held down (receiving c at v to) meets r x s e f plain = leaf held down (receiving c at v to) refl r x s e f
    site_turns held down (in_turn ms) meets r x (in_members s) e f plain = turn_turns held down ms meets r x s (sym (S.turns ms r x) ∙ e)
        (sym (S.turns ms r (turned_turn ms x s)) ∙ f) plain
    site_turns held down (side_by_side ms) meets r x (of_branch s) e f plain =
        let t = tree_height (member_count ms) in
        branch_turns (t + (held + (2 + t + down))) (t + down) ms meets.2 x.branches s (sym (S.sides ms r x) ∙ e)
        (sym (S.sides ms r (flipped (side_by_side ms) x (of_branch s))) ∙ f) plain
    site_turns held down (side_by_side ms) meets r x (joint k) e f plain =
        never b (S.branch ms x.branches) (sym (S.sides ms r x) ∙ e) (sym (S.sides ms r (flipped (side_by_side ms) x (joint k))) ∙ f)
    site_turns held down (repeating p) meets r x of_loop e f plain =
        never b (F p x.ask x.inner) (sym (S.loops p r x) ∙ e) (sym (S.loops p r (flipped (repeating p) x of_loop)) ∙ f)
    site_turns held down (repeating p) meets r x ask e f plain =
        loop_turns p x.ask x.inner (plain refl) (sym (S.loops p r x) ∙ e) (sym (S.loops p r (flipped (repeating p) x ask)) ∙ f)
    site_turns held down (repeating p) meets r x (in_body s) e f plain =
        site_turns 1 0 p meets x.ask x.inner s (sym (S.loops p r x) ∙ e) (sym (S.loops p r (flipped (repeating p) x (in_body s))) ∙ f) plain
    site_turns held down (choosing false cs) meets r x (of_core of_joined) e f plain =
        never b (S.choice cs x.started x.branches) (sym (S.selects cs r x) ∙ e) (sym (S.selects cs r (flipped (choosing false cs) x (of_core of_joined))) ∙ f)
    site_turns held down (choosing false cs) meets r x (of_core of_ask) e f plain =
        never b (S.choice cs x.started x.branches) (sym (S.selects cs r x) ∙ e) (sym (S.selects cs r (flipped (choosing false cs) x (of_core of_ask))) ∙ f)
    site_turns held down (choosing false cs) meets r x (of_core of_any) e f plain =
        never b (S.choice cs x.started x.branches) (sym (S.selects cs r x) ∙ e) (sym (S.selects cs r (flipped (choosing false cs) x (of_core of_any))) ∙ f)
    site_turns held down (choosing false cs) meets r x (of_core (of_latch i)) e f plain =
        never b (S.choice cs x.started x.branches) (sym (S.selects cs r x) ∙ e)
        (sym (S.selects cs r (flipped (choosing false cs) x (of_core (of_latch i)))) ∙ f)
    site_turns held down (choosing false cs) meets r x (of_core (of_start i)) e f plain =
        start_turns (1 + down) cs meets.2 x.started x.branches i (sym (S.selects cs r x) ∙ e)
        (sym (S.selects cs r (flipped (choosing false cs) x (of_core (of_start i)))) ∙ f)
    site_turns held down (choosing false cs) meets r x (of_guard s) e f plain =
        never b (S.choice cs x.started x.branches) (sym (S.selects cs r x) ∙ e) (sym (S.selects cs r (flipped (choosing false cs) x (of_guard s))) ∙ f)
    site_turns held down (choosing false cs) meets r x (of_choice s) e f plain =
        choice_turns (held + 3) (1 + down) cs meets.2 x.started x.branches s (sym (S.selects cs r x) ∙ e)
        (sym (S.selects cs r (flipped (choosing false cs) x (of_choice s))) ∙ f) plain
    site_turns held down (choosing true cs) meets r x (of_core of_joined) e f plain =
        never b (S.choice cs x.core.started x.core.branches) (sym (S.repeats cs r x) ∙ e)
        (sym (S.repeats cs r (flipped (choosing true cs) x (of_core of_joined))) ∙ f)
    site_turns held down (choosing true cs) meets r x (of_core of_ask) e f plain =
        never b (S.choice cs x.core.started x.core.branches) (sym (S.repeats cs r x) ∙ e)
        (sym (S.repeats cs r (flipped (choosing true cs) x (of_core of_ask))) ∙ f)
    site_turns held down (choosing true cs) meets r x (of_core of_any) e f plain =
        never b (S.choice cs x.core.started x.core.branches) (sym (S.repeats cs r x) ∙ e)
        (sym (S.repeats cs r (flipped (choosing true cs) x (of_core of_any))) ∙ f)
    site_turns held down (choosing true cs) meets r x (of_core (of_latch i)) e f plain =
        never b (S.choice cs x.core.started x.core.branches) (sym (S.repeats cs r x) ∙ e)
        (sym (S.repeats cs r (flipped (choosing true cs) x (of_core (of_latch i)))) ∙ f)
    site_turns held down (choosing true cs) meets r x (of_core (of_start i)) e f plain =
        start_turns (3 + guards_depth cs) cs meets.2 x.core.started x.core.branches i (sym (S.repeats cs r x) ∙ e)
        (sym (S.repeats cs r (flipped (choosing true cs) x (of_core (of_start i)))) ∙ f)
    site_turns held down (choosing true cs) meets r x (of_guard s) e f plain =
        never b (S.choice cs x.core.started x.core.branches) (sym (S.repeats cs r x) ∙ e)
        (sym (S.repeats cs r (flipped (choosing true cs) x (of_guard s))) ∙ f)
    site_turns held down (choosing true cs) meets r x (of_choice s) e f plain =
        choice_turns 4 (3 + guards_depth cs) cs meets.2 x.core.started x.core.branches s (sym (S.repeats cs r x) ∙ e)
        (sym (S.repeats cs r (flipped (choosing true cs) x (of_choice s))) ∙ f) plain
    site_turns held down (choosing true cs) meets r x (of_round of_answer) e f plain =
        never b (S.choice cs x.core.started x.core.branches) (sym (S.repeats cs r x) ∙ e)
        (sym (S.repeats cs r (flipped (choosing true cs) x (of_round of_answer))) ∙ f)
    site_turns held down (choosing true cs) meets r x (of_round of_turn) e f plain =
        never b (S.choice cs x.core.started x.core.branches) (sym (S.repeats cs r x) ∙ e)
        (sym (S.repeats cs r (flipped (choosing true cs) x (of_round of_turn))) ∙ f)
    site_turns held down (choosing true cs) meets r x (of_round of_leave) e f plain =
        never b (S.choice cs x.core.started x.core.branches) (sym (S.repeats cs r x) ∙ e)
        (sym (S.repeats cs r (flipped (choosing true cs) x (of_round of_leave))) ∙ f)

    choice_turns : (held down : ℕ) (cs : Choices) → ChoiceMeets P cs → (bits : Bits (choice_count cs)) (x : ChoiceCells cs) (s : ChoiceSpot cs)
        → S.choice cs bits x ≡ b → S.choice cs bits (turned_choice cs x s) ≡ not b → (choice_rises s ≡ true → choice_value cs x s ≡ true)
        → bound ≤ choice_trail P K held down cs x s
    choice_turns held down no_choices meets bits x s e f plain =
        never b false (sym (S.no_choice bits x) ∙ e) (sym (S.no_choice bits (turned_choice no_choices x s)) ∙ f)
    choice_turns held down (and_choice g p more) meets bits x (this_choice s) e f plain =
        let z = left_turns b (F p bits.0 x.0) (F p bits.0 (flipped p x.0 s)) (S.choice more bits.1 x.1) (sym (S.more_choices g p more bits x) ∙ e)
        (sym (S.more_choices g p more bits (flipped p x.0 s, x.1)) ∙ f) in
        site_turns held down p meets.0 bits.0 x.0 s z.0 z.1 plain
    choice_turns held down (and_choice g p more) meets bits x (other_choice s) e f plain =
        let z = right_turns b (F p bits.0 x.0) (S.choice more bits.1 x.1) (S.choice more bits.1 (turned_choice more x.1 s))
        (sym (S.more_choices g p more bits x) ∙ e) (sym (S.more_choices g p more bits (x.0, turned_choice more x.1 s)) ∙ f) in
        choice_turns held down more meets.1 bits.1 x.1 s z.0 z.1 plain

    branch_turns : (plus minus : ℕ) (ms : Processes) → EachMeets P ms → (x : BranchCells ms) (s : BranchSpot ms)
        → S.branch ms x ≡ b → S.branch ms (turned_branches ms x s) ≡ not b → (branch_rises s ≡ true → branch_value ms x s ≡ true)
        → bound ≤ branch_trail P K plus minus ms x s
    branch_turns plus minus no_members meets x s e f plain =
        never b false (sym (S.no_branch x) ∙ e) (sym (S.no_branch (turned_branches no_members x s)) ∙ f)
    branch_turns plus minus (and_member p more) meets x (in_this s) e f plain =
        let z = left_turns b (F p x.0.child x.0.inner) (F p (turned_guarded p x.0 s).child (turned_guarded p x.0 s).inner) (S.branch more x.1)
        (sym (S.more_branches p more x) ∙ e) (sym (S.more_branches p more (turned_guarded p x.0 s, x.1)) ∙ f) in
        guarded_turns plus minus p meets.0 x.0 s z.0 z.1 plain
    branch_turns plus minus (and_member p more) meets x (in_others s) e f plain =
        let z = right_turns b (F p x.0.child x.0.inner) (S.branch more x.1) (S.branch more (turned_branches more x.1 s))
        (sym (S.more_branches p more x) ∙ e) (sym (S.more_branches p more (x.0, turned_branches more x.1 s)) ∙ f) in
        branch_turns plus minus more meets.2 x.1 s z.0 z.1 plain

    turn_turns : (held down : ℕ) (ms : Processes) → TurnMeets P ms → (r : Bool) (x : TurnCells ms) (s : TurnSpot ms)
        → S.turn ms r x ≡ b → S.turn ms r (turned_turn ms x s) ≡ not b → (turn_rises s ≡ true → turn_value ms x s ≡ true)
        → bound ≤ turn_trail P K held down ms x s
    turn_turns held down no_members meets r x s e f plain = absurd meets
    turn_turns held down (and_member p no_members) meets r x (in_last s) e f plain = site_turns held down p meets r x s (sym (S.last_turn p r x) ∙ e)
        (sym (S.last_turn p r (flipped p x s)) ∙ f) plain
    turn_turns held down (and_member p (and_member q more)) meets r x (in_member s) e f plain = member_turns down p q more meets r x s e f plain
    turn_turns held down (and_member p (and_member q more)) meets r x (in_later s) e f plain =
        let z = right_turns b (F p x.member.child x.member.inner) (S.turn (and_member q more) x.member.next x.later)
        (S.turn (and_member q more) x.member.next (turned_turn (and_member q more) x.later s)) (sym (S.more_turns p q more r x) ∙ e)
        (sym (S.more_turns p q more r (turned_turn (and_member p (and_member q more)) x (in_later s))) ∙ f) in
        turn_turns (held + 2) down (and_member q more) meets.1 x.member.next x.later s z.0 z.1 plain

    -- of a member its next request is that of what stands behind it
    member_turns : (down : ℕ) (p q : Process) (more : Processes) → TurnMeets P (and_member p (and_member q more)) → (r : Bool)
        (x : TurnCells (and_member p (and_member q more))) (s : GuardedSpot p) → S.turn (and_member p (and_member q more)) r x ≡ b
        → S.turn (and_member p (and_member q more)) r (turned_turn (and_member p (and_member q more)) x (in_member s)) ≡ not b
        → (guarded_rises s ≡ true → guarded_value p x.member s ≡ true)
        → bound ≤ guarded_trail P K (turn_first P (and_member q more) - 1) (turn_back P K down (and_member q more) x.later) p x.member s
    member_turns down p q more meets r x child e f plain =
        let z = left_turns b (F p x.member.child x.member.inner) (F p (not x.member.child) x.member.inner)
        (S.turn (and_member q more) x.member.next x.later) (sym (S.more_turns p q more r x) ∙ e)
        (sym (S.more_turns p q more r (turned_turn (and_member p (and_member q more)) x (in_member child))) ∙ f) in
        requested (1 + (turn_first P (and_member q more) - 1)) p meets.0 x.member.child x.member.inner z.0 z.1
    member_turns down p q more meets r x latch e f plain =
        never b (F p x.member.child x.member.inner || S.turn (and_member q more) x.member.next x.later) (sym (S.more_turns p q more r x) ∙ e)
        (sym (S.more_turns p q more r (turned_turn (and_member p (and_member q more)) x (in_member latch))) ∙ f)
    member_turns down p q more meets r x next e f plain =
        let z = right_turns b (F p x.member.child x.member.inner) (S.turn (and_member q more) x.member.next x.later)
        (S.turn (and_member q more) (not x.member.next) x.later) (sym (S.more_turns p q more r x) ∙ e)
        (sym (S.more_turns p q more r (turned_turn (and_member p (and_member q more)) x (in_member next))) ∙ f) in
        turn_requested down (and_member q more) meets.1 x.member.next x.later z.0 z.1
    member_turns down p q more meets r x (inner s) e f plain =
        let z = left_turns b (F p x.member.child x.member.inner) (F p x.member.child (flipped p x.member.inner s))
        (S.turn (and_member q more) x.member.next x.later) (sym (S.more_turns p q more r x) ∙ e)
        (sym (S.more_turns p q more r (turned_turn (and_member p (and_member q more)) x (in_member (inner s)))) ∙ f) in
        site_turns 2 (1 + (turn_first P (and_member q more) - 1)) p meets.0 x.member.child x.member.inner s z.0 z.1 plain
