-- A statement as a part of a process: its position, and its cells, its request and its spots there.
use Rattle.std.specs.Prelude.{◌≡◌, ◌⊎◌, ℕ, Bool, true, false, not, List}
use Rattle.env_script.specs.Scripts.{OfferValue, IsScript}
use Rattle.chp_meaning.specs.Halves.{IsPlain}
use Rattle.width_check.specs.Processes.{Formula, Process, in_turn, side_by_side, repeating, Processes, no_members, and_member, choosing, Choices, and_choice, choice_count, TypedProgram}
use Rattle.circuit_places.specs.Heads.{Bits}
use Rattle.circuit_places.specs.Circuit.{Cells, ChoiceCells, BranchCells, TurnCells, low, answer, Spot, ChoiceSpot, BranchSpot, TurnSpot, inner, in_members, of_branch, in_body, of_choice, this_choice, other_choice, in_this, in_others, in_last, in_member, in_later}
use Rattle.circuit_places.specs.Whole.{Whole, Node, own_node, enabled, cells_moved, Reaches}

-- the position of a statement q in a process
mutual
  pub data PartOf : Process → Process → Type 0 where
    whole : {q : Process} → PartOf q q
    of_member : {q : Process} {members : Processes} → TurnPart q members → PartOf q (in_turn members)
    of_side : {q : Process} {members : Processes} → SidePart q members → PartOf q (side_by_side members)
    of_body : {q p : Process} → PartOf q p → PartOf q (repeating p)
    of_arm : {q : Process} {again : Bool} {choices : Choices} → ArmPart q choices → PartOf q (choosing again choices)

  pub data ArmPart : Process → Choices → Type 0 where
    this_arm : {q : Process} {g : Formula} {p : Process} {more : Choices} → PartOf q p → ArmPart q (and_choice g p more)
    other_arm : {q : Process} {g : Formula} {p : Process} {more : Choices} → ArmPart q more
        → ArmPart q (and_choice g p more)

  pub data SidePart : Process → Processes → Type 0 where
    this_side : {q p : Process} {more : Processes} → PartOf q p → SidePart q (and_member p more)
    other_side : {q p : Process} {more : Processes} → SidePart q more → SidePart q (and_member p more)

  pub data TurnPart : Process → Processes → Type 0 where
    last_part : {q p : Process} → PartOf q p → TurnPart q (and_member p no_members)
    first_part : {q p s : Process} {more : Processes} → PartOf q p → TurnPart q (and_member p (and_member s more))
    later_part : {q p s : Process} {more : Processes} → TurnPart q (and_member s more)
        → TurnPart q (and_member p (and_member s more))

-- its cells
abbrev mutual
  pub part_cells : {q p : Process} → PartOf q p → Cells p → Cells q
  part_cells whole x = x
  part_cells (of_member t) x = turn_part_cells t x
  part_cells (of_side s) x = side_part_cells s x.branches
  part_cells (of_body h) x = part_cells h x.inner
  part_cells (of_arm {again = false} c) x = arm_part_cells c x.branches
  part_cells (of_arm {again = true} c) x = arm_part_cells c x.core.branches

  pub arm_part_cells : {q : Process} {choices : Choices} → ArmPart q choices → ChoiceCells choices → Cells q
  arm_part_cells (this_arm h) x = part_cells h x.0
  arm_part_cells (other_arm c) x = arm_part_cells c x.1

  pub side_part_cells : {q : Process} {members : Processes} → SidePart q members → BranchCells members → Cells q
  side_part_cells (this_side h) x = part_cells h x.0.inner
  side_part_cells (other_side s) x = side_part_cells s x.1

  pub turn_part_cells : {q : Process} {members : Processes} → TurnPart q members → TurnCells members → Cells q
  turn_part_cells (last_part h) x = part_cells h x
  turn_part_cells (first_part h) x = part_cells h x.member.inner
  turn_part_cells (later_part t) x = turn_part_cells t x.later

-- its request, where that of the process has this value
abbrev mutual
  pub part_request : {q p : Process} → PartOf q p → Bool → Cells p → Bool
  part_request whole r x = r
  part_request (of_member t) r x = turn_part_request t r x
  part_request (of_side s) r x = side_part_request s x.branches
  part_request (of_body h) r x = part_request h x.ask x.inner
  part_request (of_arm {again = false} c) r x = arm_part_request c x.started x.branches
  part_request (of_arm {again = true} c) r x = arm_part_request c x.core.started x.core.branches

  pub arm_part_request : {q : Process} {choices : Choices} → ArmPart q choices → Bits (choice_count choices)
      → ChoiceCells choices → Bool
  arm_part_request (this_arm h) b x = part_request h b.0 x.0
  arm_part_request (other_arm c) b x = arm_part_request c b.1 x.1

  pub side_part_request : {q : Process} {members : Processes} → SidePart q members → BranchCells members → Bool
  side_part_request (this_side h) x = part_request h x.0.child x.0.inner
  side_part_request (other_side s) x = side_part_request s x.1

  pub turn_part_request : {q : Process} {members : Processes} → TurnPart q members → Bool → TurnCells members → Bool
  turn_part_request (last_part h) r x = part_request h r x
  turn_part_request (first_part h) r x = part_request h x.member.child x.member.inner
  turn_part_request (later_part t) r x = turn_part_request t x.member.next x.later

-- the spots of its nodes in the process
abbrev mutual
  pub part_spot : {q p : Process} → PartOf q p → Spot q → Spot p
  part_spot whole n = n
  part_spot (of_member t) n = in_members (turn_part_spot t n)
  part_spot (of_side s) n = of_branch (side_part_spot s n)
  part_spot (of_body h) n = in_body (part_spot h n)
  part_spot (of_arm c) n = of_choice (arm_part_spot c n)

  pub arm_part_spot : {q : Process} {choices : Choices} → ArmPart q choices → Spot q → ChoiceSpot choices
  arm_part_spot (this_arm h) n = this_choice (part_spot h n)
  arm_part_spot (other_arm c) n = other_choice (arm_part_spot c n)

  pub side_part_spot : {q : Process} {members : Processes} → SidePart q members → Spot q → BranchSpot members
  side_part_spot (this_side h) n = in_this (inner (part_spot h n))
  side_part_spot (other_side s) n = in_others (side_part_spot s n)

  pub turn_part_spot : {q : Process} {members : Processes} → TurnPart q members → Spot q → TurnSpot members
  turn_part_spot (last_part h) n = in_last (part_spot h n)
  turn_part_spot (first_part h) n = in_member (inner (part_spot h n))
  turn_part_spot (later_part t) n = in_later (turn_part_spot t n)

-- Two different parts, neither inside the other, that aren't parallel: the smallest statement that holds both is a
-- sequence or a selection.
abbrev mutual
  pub InTurns : {q s p : Process} → PartOf q p → PartOf s p → Type 0
  InTurns (of_member t) (of_member u) = MembersInTurns t u
  InTurns (of_side a) (of_side b) = SidesInTurns a b
  InTurns (of_body h) (of_body k) = InTurns h k
  InTurns (of_arm c) (of_arm d) = ArmsInTurns c d
  InTurns _ _ = ⊥

  pub ArmsInTurns : {q s : Process} {choices : Choices} → ArmPart q choices → ArmPart s choices → Type 0
  ArmsInTurns (this_arm h) (this_arm k) = InTurns h k
  ArmsInTurns (other_arm c) (other_arm d) = ArmsInTurns c d
  ArmsInTurns (this_arm h) (other_arm d) = Unit {0}
  ArmsInTurns (other_arm c) (this_arm k) = Unit {0}

  pub SidesInTurns : {q s : Process} {members : Processes} → SidePart q members → SidePart s members → Type 0
  SidesInTurns (this_side h) (this_side k) = InTurns h k
  SidesInTurns (other_side a) (other_side b) = SidesInTurns a b
  SidesInTurns _ _ = ⊥

  pub MembersInTurns : {q s : Process} {members : Processes} → TurnPart q members → TurnPart s members → Type 0
  MembersInTurns (last_part h) (last_part k) = InTurns h k
  MembersInTurns (first_part h) (first_part k) = InTurns h k
  MembersInTurns (later_part t) (later_part u) = MembersInTurns t u
  MembersInTurns (first_part h) (later_part u) = Unit {0}
  MembersInTurns (later_part t) (first_part k) = Unit {0}

-- The process's moves take a part's request on so: it stays, or moves towards what the answer isn't.
abbrev pub Phased : (now request answer : Bool) → Type 0
Phased now r d = (now ≡ r) ⊎ (now ≡ not d)

-- a part in a state of the whole: its cells, its request and its answer
abbrev pub cells_in : {q p : Process} → PartOf q p → Whole p → Cells q
cells_in h x = part_cells h x.root.inner

abbrev pub asked_in : {q p : Process} → PartOf q p → Whole p → Bool
asked_in h x = part_request h x.root.child x.root.inner

abbrev pub answers_in : {q p : Process} → PartOf q p → Whole p → Bool
answers_in {q = q} h x = answer q (cells_in h x)

abbrev pub part_node : {q p : Process} → PartOf q p → Spot q → Node p
part_node h s = own_node (inner (part_spot h s))

-- What holds of all parts in a state:
--   where request and answer are high, no own node moves
--   where both are low, all cells are low, and no own node moves
--   of two parts that take turns one rests at least
--   where a node moves, a request stays or moves towards what the answer isn't, and an answer stays or moves towards
--   the request
pub record CellsTakeTurns (P : TypedProgram) (script : List OfferValue) (x : Whole P.body) : Type 0 where
  pub still : {q : Process} (h : PartOf q P.body) → asked_in h x ≡ true → answers_in h x ≡ true → (s : Spot q)
      → enabled P script x (part_node h s) ≡ false
  pub low_at_rest : {q : Process} (h : PartOf q P.body) → asked_in h x ≡ false → answers_in h x ≡ false
      → cells_in h x ≡ low q
  pub rests : {q : Process} (h : PartOf q P.body) → asked_in h x ≡ false → answers_in h x ≡ false → (s : Spot q)
      → enabled P script x (part_node h s) ≡ false
  pub one_rests : {q s : Process} (h : PartOf q P.body) (k : PartOf s P.body) → InTurns h k
      → ((asked_in h x ≡ false) × (answers_in h x ≡ false)) ⊎ ((asked_in k x ≡ false) × (answers_in k x ≡ false))
  pub asks : {q : Process} (h : PartOf q P.body) (n : Node P.body) → enabled P script x n ≡ true
      → Phased (asked_in h (cells_moved P x n)) (asked_in h x) (answers_in h x)
  pub ends : {q : Process} (h : PartOf q P.body) (n : Node P.body) → enabled P script x n ≡ true
      → (answers_in h (cells_moved P x n) ≡ answers_in h x) ⊎ (answers_in h (cells_moved P x n) ≡ asked_in h x)

-- in each state that a program's circuit reaches
abbrev pub CircuitsTakeTurns : Type 0
CircuitsTakeTurns =
    (P : TypedProgram) → IsPlain P → (script : List OfferValue) → IsScript P.channels script
    → (moves : ℕ) (x : Whole P.body) → Reaches P script moves x → CellsTakeTurns P script x
