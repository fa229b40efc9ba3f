-- In each state that is reached the parts of the program take turns.
--
-- P: the program; q, p, s: statements, where s may be a spot; h, k, t, c: where a part stands, in a sequence t, in a selection c; n: a spot or a node;
-- x: cells.
use Rattle.std.proofs.Common.{◌≡◌, ◌⊎◌, inl, inr, ℕ, Bool, true, false, List, refl, sym, ap, ◌∙◌, subst}
use Rattle.std.specs.Prelude.{◌||◌}
use Rattle.env_script.specs.Scripts.{OfferValue}
use Rattle.width_check.specs.Processes.{Process, in_turn, side_by_side, choosing, repeating, Processes, and_member, TypedProgram, Choices, and_choice}
use Rattle.circuit_places.specs.Lines.{Seen}
use Rattle.circuit_places.specs.Cores.{Core, Turning, OwnSpot, RoundSpot, of_joined, of_ask, of_any, of_latch, of_start, of_answer, of_turn, of_leave, turned_own, turned_turning}
use Rattle.circuit_places.specs.Circuit.{QElementCells, Cells, ChoiceCells, BranchCells, TurnCells, low, answer, Spot, TurnSpot, BranchSpot, ChoiceSpot, child, latch, next, inner, in_members, of_branch, joint, of_loop, ask, in_body, of_core, of_guard, of_choice, of_round, this_choice, other_choice, in_this, in_others, in_last, in_member, in_later, one_rule_fires, rule, flipped, turned_guarded, turned_choice, turned_branches, turned_turn}
use Rattle.circuit_places.specs.Whole.{Whole, Node, go_node, own_node, rail_node, ack_node, bit_node, wrote_node, joint_node, wires_seen, enabled, cells_moved}
use Rattle.circuit_places.specs.Within.{PartOf, whole, of_member, of_side, of_body, of_arm, ArmPart, this_arm, other_arm, SidePart, this_side, other_side, TurnPart, last_part, first_part, later_part, part_cells, arm_part_cells, side_part_cells, turn_part_cells, part_request, part_spot, arm_part_spot, side_part_spot, turn_part_spot, InTurns, Phased, cells_in, asked_in, answers_in, part_node, CellsTakeTurns, CircuitsTakeTurns}
use Rattle.circuit_places.proofs.Places.{low_answer}
use Rattle.circuit_places.proofs.Meets.{ExpressionsHold}
use Rattle.circuit_places.proofs.Trees.{TreesSettle}
use Rattle.circuit_places.proofs.System.{clean_of}
use Rattle.circuit_places.proofs.PartFacts.{PartAt, guarded_part_at, part_still, part_low, part_rests, part_rule}
use Rattle.circuit_places.proofs.PartPhases.{guarded_one_rests, guarded_phase}
use Rattle.chp_meaning.specs.Steps.{Configuration}
use Rattle.circuit_places.proofs.Carry.{Reached, enabled_is, reached}

own_branches : {n : ℕ} {G B : Type 0} (x : Core n G B) (s : OwnSpot n) → (turned_own x s).branches ≡ x.branches
own_branches x of_joined = refl
own_branches x of_ask = refl
own_branches x of_any = refl
own_branches x (of_latch i) = refl
own_branches x (of_start i) = refl

round_core : {A : Type 0} (x : Turning A) (s : RoundSpot) → (turned_turning x s).core ≡ x.core
round_core x of_answer = refl
round_core x of_turn = refl
round_core x of_leave = refl

-- A node of a process is one of the part's, or the part's cells don't see its move.
mutual
  pub inside : {q p : Process} (h : PartOf q p) (s : Spot p)
      → ((n : Spot q) × (s ≡ part_spot h n)) ⊎ ((x : Cells p) → part_cells h (flipped p x s) ≡ part_cells h x)
  inside whole s = inl (s, refl)
  inside (of_member {members = members} t) (in_members s) = by (turn_inside t s)
    where
      by : ((n : Spot _) × (s ≡ turn_part_spot t n)) ⊎ ((x : TurnCells members) → turn_part_cells t (turned_turn members x s) ≡ turn_part_cells t x)
          → ((n : Spot _) × (in_members s ≡ part_spot (of_member t) n))
          ⊎ ((x : Cells (in_turn members)) → part_cells (of_member t) (flipped (in_turn members) x (in_members s)) ≡ part_cells (of_member t) x)
      by (inl z) = inl (z.0, ap (λ y. in_members y) z.1)
      by (inr f) = inr f
  inside (of_side {members = members} t) (of_branch s) = by (side_inside t s)
    where
      by : ((n : Spot _) × (s ≡ side_part_spot t n)) ⊎ ((x : BranchCells members) → side_part_cells t (turned_branches members x s) ≡ side_part_cells t x)
          → ((n : Spot _) × (of_branch s ≡ part_spot (of_side t) n))
          ⊎ ((x : Cells (side_by_side members)) → part_cells (of_side t) (flipped (side_by_side members) x (of_branch s)) ≡ part_cells (of_side t) x)
      by (inl z) = inl (z.0, ap (λ y. of_branch y) z.1)
      by (inr f) = inr (λ x. f x.branches)
  inside (of_side t) (joint k) = inr (λ x. refl)
  inside (of_body h) of_loop = inr (λ x. refl)
  inside (of_body h) ask = inr (λ x. refl)
  inside (of_body {p = p} h) (in_body s) = by (inside h s)
    where
      by : ((n : Spot _) × (s ≡ part_spot h n)) ⊎ ((x : Cells p) → part_cells h (flipped p x s) ≡ part_cells h x)
          → ((n : Spot _) × (in_body s ≡ part_spot (of_body h) n))
          ⊎ ((x : Cells (repeating p)) → part_cells (of_body h) (flipped (repeating p) x (in_body s)) ≡ part_cells (of_body h) x)
      by (inl z) = inl (z.0, ap (λ y. in_body y) z.1)
      by (inr f) = inr (λ x. f x.inner)
  inside (of_arm {again = false} c) (of_core s) = inr (λ x. ap (λ b. arm_part_cells c b) (own_branches x s))
  inside (of_arm {again = false} c) (of_guard s) = inr (λ x. refl)
  inside (of_arm {again = false} {choices = choices} c) (of_choice s) = by (arm_inside c s)
    where
      by : ((n : Spot _) × (s ≡ arm_part_spot c n)) ⊎ ((x : ChoiceCells choices) → arm_part_cells c (turned_choice choices x s) ≡ arm_part_cells c x)
          → ((n : Spot _) × (of_choice {again = false} s ≡ part_spot (of_arm {again = false} c) n))
          ⊎ ((x : Cells (choosing false choices)) → part_cells (of_arm {again = false} c) (flipped (choosing false choices) x (of_choice s)) ≡ part_cells
          (of_arm {again = false} c) x)
      by (inl z) = inl (z.0, ap (λ y. of_choice {again = false} y) z.1)
      by (inr f) = inr (λ x. f x.branches)
  inside (of_arm {again = true} c) (of_core s) = inr (λ x. ap (λ b. arm_part_cells c b) (own_branches x.core s))
  inside (of_arm {again = true} c) (of_guard s) = inr (λ x. refl)
  inside (of_arm {again = true} c) (of_round s) = inr (λ x. ap (λ y. arm_part_cells c y.branches) (round_core x s))
  inside (of_arm {again = true} {choices = choices} c) (of_choice s) = by (arm_inside c s)
    where
      by : ((n : Spot _) × (s ≡ arm_part_spot c n)) ⊎ ((x : ChoiceCells choices) → arm_part_cells c (turned_choice choices x s) ≡ arm_part_cells c x)
          → ((n : Spot _) × (of_choice {again = true} s ≡ part_spot (of_arm {again = true} c) n))
          ⊎ ((x : Cells (choosing true choices)) → part_cells (of_arm {again = true} c) (flipped (choosing true choices) x (of_choice s)) ≡ part_cells
          (of_arm {again = true} c) x)
      by (inl z) = inl (z.0, ap (λ y. of_choice {again = true} y) z.1)
      by (inr f) = inr (λ x. f x.core.branches)

  arm_inside : {q : Process} {choices : Choices} (c : ArmPart q choices) (s : ChoiceSpot choices)
      → ((n : Spot q) × (s ≡ arm_part_spot c n)) ⊎ ((x : ChoiceCells choices) → arm_part_cells c (turned_choice choices x s) ≡ arm_part_cells c x)
  arm_inside (this_arm {g = g} {p = p} {more = more} h) (this_choice s) = by (inside h s)
    where
      by : ((n : Spot _) × (s ≡ part_spot h n)) ⊎ ((x : Cells p) → part_cells h (flipped p x s) ≡ part_cells h x)
          → ((n : Spot _) × (this_choice {g = g} {more = more} s ≡ arm_part_spot (this_arm {g = g} {more = more} h) n))
          ⊎ ((x : ChoiceCells (and_choice g p more)) → part_cells h (flipped p x.0 s) ≡ part_cells h x.0)
      by (inl z) = inl (z.0, ap (λ y. this_choice {g = g} {more = more} y) z.1)
      by (inr f) = inr (λ x. f x.0)
  arm_inside (this_arm h) (other_choice s) = inr (λ x. refl)
  arm_inside (other_arm c) (this_choice s) = inr (λ x. refl)
  arm_inside (other_arm {g = g} {p = p} {more = more} c) (other_choice s) = by (arm_inside c s)
    where
      by : ((n : Spot _) × (s ≡ arm_part_spot c n)) ⊎ ((x : ChoiceCells more) → arm_part_cells c (turned_choice more x s) ≡ arm_part_cells c x)
          → ((n : Spot _) × (other_choice {g = g} {p = p} s ≡ arm_part_spot (other_arm {g = g} {p = p} c) n))
          ⊎ ((x : ChoiceCells (and_choice g p more)) → arm_part_cells c (turned_choice more x.1 s) ≡ arm_part_cells c x.1)
      by (inl z) = inl (z.0, ap (λ y. other_choice {g = g} {p = p} y) z.1)
      by (inr f) = inr (λ x. f x.1)

  side_inside : {q : Process} {members : Processes} (t : SidePart q members) (s : BranchSpot members)
      → ((n : Spot q) × (s ≡ side_part_spot t n)) ⊎ ((x : BranchCells members) → side_part_cells t (turned_branches members x s) ≡ side_part_cells t x)
  side_inside (this_side h) (in_this child) = inr (λ x. refl)
  side_inside (this_side h) (in_this latch) = inr (λ x. refl)
  side_inside (this_side h) (in_this next) = inr (λ x. refl)
  side_inside (this_side {p = p} {more = more} h) (in_this (inner s)) = by (inside h s)
    where
      by : ((n : Spot _) × (s ≡ part_spot h n)) ⊎ ((x : Cells p) → part_cells h (flipped p x s) ≡ part_cells h x)
          → ((n : Spot _) × (in_this {more = more} (inner s) ≡ side_part_spot (this_side {more = more} h) n))
          ⊎ ((x : BranchCells (and_member p more)) → part_cells h (flipped p x.0.inner s) ≡ part_cells h x.0.inner)
      by (inl z) = inl (z.0, ap (λ y. in_this {more = more} (inner y)) z.1)
      by (inr f) = inr (λ x. f x.0.inner)
  side_inside (this_side h) (in_others s) = inr (λ x. refl)
  side_inside (other_side t) (in_this s) = inr (λ x. refl)
  side_inside (other_side {p = p} {more = more} t) (in_others s) = by (side_inside t s)
    where
      by : ((n : Spot _) × (s ≡ side_part_spot t n)) ⊎ ((x : BranchCells more) → side_part_cells t (turned_branches more x s) ≡ side_part_cells t x)
          → ((n : Spot _) × (in_others {p = p} s ≡ side_part_spot (other_side {p = p} t) n))
          ⊎ ((x : BranchCells (and_member p more)) → side_part_cells t (turned_branches more x.1 s) ≡ side_part_cells t x.1)
      by (inl z) = inl (z.0, ap (λ y. in_others {p = p} y) z.1)
      by (inr f) = inr (λ x. f x.1)

  turn_inside : {q : Process} {members : Processes} (t : TurnPart q members) (s : TurnSpot members)
      → ((n : Spot q) × (s ≡ turn_part_spot t n)) ⊎ ((x : TurnCells members) → turn_part_cells t (turned_turn members x s) ≡ turn_part_cells t x)
  turn_inside (last_part {p = p} h) (in_last s) = by (inside h s)
    where
      by : ((n : Spot _) × (s ≡ part_spot h n)) ⊎ ((x : Cells p) → part_cells h (flipped p x s) ≡ part_cells h x)
          → ((n : Spot _) × (in_last s ≡ turn_part_spot (last_part h) n)) ⊎ ((x : Cells p) → part_cells h (flipped p x s) ≡ part_cells h x)
      by (inl z) = inl (z.0, ap (λ y. in_last y) z.1)
      by (inr f) = inr f
  turn_inside (first_part h) (in_member child) = inr (λ x. refl)
  turn_inside (first_part h) (in_member latch) = inr (λ x. refl)
  turn_inside (first_part h) (in_member next) = inr (λ x. refl)
  turn_inside (first_part {p = p} {s = b} {more = more} h) (in_member (inner s)) = by (inside h s)
    where
      by : ((n : Spot _) × (s ≡ part_spot h n)) ⊎ ((x : Cells p) → part_cells h (flipped p x s) ≡ part_cells h x)
          → ((n : Spot _) × (in_member {q = b} {more = more} (inner s) ≡ turn_part_spot (first_part {s = b} {more = more} h) n))
          ⊎ ((x : TurnCells (and_member p (and_member b more))) → part_cells h (flipped p x.member.inner s) ≡ part_cells h x.member.inner)
      by (inl z) = inl (z.0, ap (λ y. in_member {q = b} {more = more} (inner y)) z.1)
      by (inr f) = inr (λ x. f x.member.inner)
  turn_inside (first_part h) (in_later s) = inr (λ x. refl)
  turn_inside (later_part t) (in_member s) = inr (λ x. refl)
  turn_inside (later_part {p = p} {s = b} {more = more} t) (in_later s) = by (turn_inside t s)
    where
      by : ((n : Spot _) × (s ≡ turn_part_spot t n)) ⊎ ((x : TurnCells (and_member b more))
          → turn_part_cells t (turned_turn (and_member b more) x s) ≡ turn_part_cells t x)
          → ((n : Spot _) × (in_later {p = p} s ≡ turn_part_spot (later_part {p = p} t) n))
          ⊎ ((x : TurnCells (and_member p (and_member b more))) → turn_part_cells t (turned_turn (and_member b more) x.later s) ≡ turn_part_cells t x.later)
      by (inl z) = inl (z.0, ap (λ y. in_later {p = p} y) z.1)
      by (inr f) = inr (λ x. f x.later)

or_false : (b : Bool) → (b || false) ≡ b
or_false true = refl
or_false false = refl

module _ (P : TypedProgram) (script : List OfferValue) {from : Configuration} {moves : ℕ} {x : Whole P.body} (r : Reached P script from moves x) where
  abbrev seen : Seen
  seen = wires_seen P x.wires

  -- where a part is
  part_of : {q : Process} (h : PartOf q P.body) → PartAt q (asked_in h x) (cells_in h x) seen
  part_of {q = q} h = subst (λ (g : QElementCells (Cells P.body)). PartAt q (part_request h g.child g.inner) (part_cells h g.inner) seen) (sym r.same)
      (guarded_part_at h seen r.place r.good.fits)

  -- which of its nodes may move
  part_can : {q : Process} (h : PartOf q P.body) (s : Spot q)
      → enabled P script x (part_node h s) ≡ one_rule_fires (rule q seen (asked_in h x) (cells_in h x) s)
  part_can h s = or_false (one_rule_fires (rule P.body seen x.root.child x.root.inner (part_spot h s)))
      ∙ ap (λ z. one_rule_fires z) (part_rule h seen x.root.child x.root.inner s)

  stands_still : {q : Process} (h : PartOf q P.body) → asked_in h x ≡ true → answers_in h x ≡ true → (s : Spot q) → enabled P script x (part_node h s) ≡ false
  stands_still h a d s = part_can h s ∙ part_still P (asked_in h x) (cells_in h x) seen (clean_of r.good) (part_of h) a d s

  is_low : {q : Process} (h : PartOf q P.body) → asked_in h x ≡ false → answers_in h x ≡ false → cells_in h x ≡ low q
  is_low h a d = part_low (asked_in h x) (cells_in h x) seen (part_of h) a d

  is_at_rest : {q : Process} (h : PartOf q P.body) → asked_in h x ≡ false → answers_in h x ≡ false → (s : Spot q) → enabled P script x (part_node h s) ≡ false
  is_at_rest h a d s = part_can h s ∙ part_rests (asked_in h x) (cells_in h x) seen a (is_low h a d) s

  one_of : {q s : Process} (h : PartOf q P.body) (k : PartOf s P.body) → InTurns h k
      → ((asked_in h x ≡ false) × (answers_in h x ≡ false)) ⊎ ((asked_in k x ≡ false) × (answers_in k x ≡ false))
  one_of {q = q} {s = s} h k i = by (subst (λ (g : QElementCells (Cells P.body)).
      ((part_request h g.child g.inner ≡ false) × (part_cells h g.inner ≡ low q)) ⊎ ((part_request k g.child g.inner ≡ false) × (part_cells k g.inner ≡ low s)))
      (sym r.same) (guarded_one_rests h k i r.place))
    where
      by : ((asked_in h x ≡ false) × (cells_in h x ≡ low q)) ⊎ ((asked_in k x ≡ false) × (cells_in k x ≡ low s))
          → ((asked_in h x ≡ false) × (answers_in h x ≡ false)) ⊎ ((asked_in k x ≡ false) × (answers_in k x ≡ false))
      by (inl z) = inl (z.0, ap (λ y. answer q y) z.1 ∙ low_answer q)
      by (inr z) = inr (z.0, ap (λ y. answer s y) z.1 ∙ low_answer s)

  goes_on : {q : Process} (h : PartOf q P.body) (n : Node P.body) → enabled P script x n ≡ true
      → Phased (asked_in h (cells_moved P x n)) (asked_in h x) (answers_in h x)
  goes_on h go_node e = inl refl
  goes_on {q = q} h (own_node s) e = subst (λ (g : QElementCells (Cells P.body)). Phased
      (part_request h (turned_guarded P.body g s).child (turned_guarded P.body g s).inner) (part_request h g.child g.inner) (answer q (part_cells h g.inner)))
      (sym r.same) (guarded_phase h seen r.place s (sym (enabled_is P script r (own_node s)) ∙ e))
  goes_on h (rail_node k i one) e = inl refl
  goes_on h (ack_node k) e = inl refl
  goes_on h (bit_node v i one) e = inl refl
  goes_on h (wrote_node v i) e = inl refl
  goes_on h (joint_node v k) e = inl refl

  ends_as : {q : Process} (h : PartOf q P.body) (n : Node P.body) → enabled P script x n ≡ true
      → (answers_in h (cells_moved P x n) ≡ answers_in h x) ⊎ (answers_in h (cells_moved P x n) ≡ asked_in h x)
  ends_as h go_node e = inl refl
  ends_as h (own_node child) e = inl refl
  ends_as h (own_node latch) e = inl refl
  ends_as h (own_node next) e = inl refl
  ends_as {q = q} h (own_node (inner s)) e = by (inside h s)
    where
      moves_in : (n : Spot q) → s ≡ part_spot h n → enabled P script x (part_node h n) ≡ true
      moves_in n i = sym (ap (λ y. enabled P script x (own_node (inner y))) i) ∙ e

      here : (n : Spot q) → s ≡ part_spot h n → (a d now : Bool) → asked_in h x ≡ a → answers_in h x ≡ d → (now ≡ d) ⊎ (now ≡ a)
      here n i true true now f g = absurd (cc (stands_still h f g n, moves_in n i))
      here n i false false now f g = absurd (cc (is_at_rest h f g n, moves_in n i))
      here n i true false true f g = inr refl
      here n i true false false f g = inl refl
      here n i false true true f g = inl refl
      here n i false true false f g = inr refl

      by : ((n : Spot q) × (s ≡ part_spot h n)) ⊎ ((y : Cells P.body) → part_cells h (flipped P.body y s) ≡ part_cells h y)
          → (answers_in h (cells_moved P x (own_node (inner s))) ≡ answers_in h x) ⊎ (answers_in h (cells_moved P x (own_node (inner s))) ≡ asked_in h x)
      by (inl z) = here z.0 z.1 (asked_in h x) (answers_in h x) (answers_in h (cells_moved P x (own_node (inner s)))) refl refl
      by (inr f) = inl (ap (λ y. answer q y) (f x.root.inner))
  ends_as h (rail_node k i one) e = inl refl
  ends_as h (ack_node k) e = inl refl
  ends_as h (bit_node v i one) e = inl refl
  ends_as h (wrote_node v i) e = inl refl
  ends_as h (joint_node v k) e = inl refl

  pub taking_turns : CellsTakeTurns P script x
  taking_turns = record {
    still = stands_still;
    low_at_rest = is_low;
    rests = is_at_rest;
    one_rests = one_of;
    asks = goes_on;
    ends = ends_as;
  }

pub all_take_turns : TreesSettle → ExpressionsHold → CircuitsTakeTurns
all_take_turns law hold P is script s moves x run = taking_turns P script (reached law hold P is script s moves x run)
