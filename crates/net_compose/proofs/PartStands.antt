-- A part of a program without assignments that read their own target, at its numbers.
use Rattle.std.proofs.Common.{◌≡◌, ℕ, ◌+◌, Bool, true, false, ◌∷◌, ◌++◌, refl, arith}
use Rattle.std.specs.List.{range_with_len}
use Rattle.width_check.specs.Processes.{Process, Processes, and_member, TypedProgram, Choices, choice_count}
use Rattle.width_check.specs.Typing.{IsProcess, AreProcesses, AreChoices}
use Rattle.handshake_expand.specs.Layout.{size_of}
use Rattle.handshake_expand.specs.Answers.{bodies_from, select_own, again_own}
use Rattle.chp_meaning.specs.Halves.{ReadsNoTarget, EachReadsNoTarget, ChoicesReadNoTarget}
use Rattle.circuit_places.specs.Heads.{Bits}
use Rattle.circuit_places.specs.Circuit.{Cells, ChoiceCells, BranchCells, TurnCells, Spot}
use Rattle.circuit_places.specs.Within.{PartOf, whole, of_member, of_side, of_body, of_arm, ArmPart, this_arm, other_arm, SidePart, this_side, other_side, TurnPart, last_part, first_part, later_part, part_cells, arm_part_cells, side_part_cells, turn_part_cells, part_request, arm_part_request, side_part_request, turn_part_request, part_spot, arm_part_spot, side_part_spot, turn_part_spot}
use Rattle.net_compose.specs.PartNumbers.{part_from, arm_part_from, side_part_from, turn_part_from, part_ask, arm_part_ask, side_part_ask, turn_part_ask}
use Rattle.net_compose.proofs.Templates.{BitsAt}
use Rattle.net_compose.proofs.FlatCells.{bits, turn_bits, branch_bits, choice_bits, place, turn_place, branch_place, choice_place, IsFine, IsFineTurn, IsFineBranch, IsFineChoice}
use Rattle.net_compose.proofs.FlatRules.{Stands, stands_head, stands_member, stands_later, stands_branches, stands_this, stands_others, stands_body, stands_choices, again_choices, stands_this_choice, stands_other_choice, started_at, again_started}

module _ (P : TypedProgram) where
  -- a part of what is typed and free of such assignments is so
  mutual
    pub part_free : {q p : Process} (h : PartOf q p) → ReadsNoTarget p → ReadsNoTarget q
    part_free whole c = c
    part_free (of_member t) c = turn_part_free t c
    part_free (of_side t) c = side_part_free t c
    part_free (of_body h) c = part_free h c
    part_free (of_arm d) c = arm_part_free d c

    arm_part_free : {q : Process} {choices : Choices} (d : ArmPart q choices) → ChoicesReadNoTarget choices → ReadsNoTarget q
    arm_part_free (this_arm h) c = part_free h c.0
    arm_part_free (other_arm d) c = arm_part_free d c.1

    side_part_free : {q : Process} {members : Processes} (t : SidePart q members) → EachReadsNoTarget members → ReadsNoTarget q
    side_part_free (this_side h) c = part_free h c.0
    side_part_free (other_side t) c = side_part_free t c.1

    turn_part_free : {q : Process} {members : Processes} (t : TurnPart q members) → EachReadsNoTarget members → ReadsNoTarget q
    turn_part_free (last_part h) c = part_free h c.0
    turn_part_free (first_part h) c = part_free h c.0
    turn_part_free (later_part t) c = turn_part_free t c.1

  mutual
    pub part_typed : {q p : Process} (h : PartOf q p) → IsProcess P.channels P.vars p → IsProcess P.channels P.vars q
    part_typed whole t = t
    part_typed (of_member u) t = turn_part_typed u t.1
    part_typed (of_side u) t = side_part_typed u t.1
    part_typed (of_body h) t = part_typed h t
    part_typed (of_arm d) t = arm_part_typed d t.2

    arm_part_typed : {q : Process} {choices : Choices} (d : ArmPart q choices) → AreChoices P.channels P.vars choices → IsProcess P.channels P.vars q
    arm_part_typed (this_arm h) t = part_typed h t.1
    arm_part_typed (other_arm d) t = arm_part_typed d t.2

    side_part_typed : {q : Process} {members : Processes} (u : SidePart q members) → AreProcesses P.channels P.vars members → IsProcess P.channels P.vars q
    side_part_typed (this_side h) t = part_typed h t.0
    side_part_typed (other_side u) t = side_part_typed u t.1

    turn_part_typed : {q : Process} {members : Processes} (u : TurnPart q members) → AreProcesses P.channels P.vars members → IsProcess P.channels P.vars q
    turn_part_typed (last_part h) t = part_typed h t.0
    turn_part_typed (first_part h) t = part_typed h t.0
    turn_part_typed (later_part u) t = turn_part_typed u t.1

  -- where the part's nodes are among those of the process
  mutual
    pub part_place : {q p : Process} (h : PartOf q p) (from : ℕ) (s : Spot q) → part_from P h from + place P q s ≡ from + place P p (part_spot h s)
    part_place whole from s = refl
    part_place (of_member t) from s = turn_part_place t from s
    part_place (of_side t) from s = side_part_place t from s
    part_place (of_body h) from s = let e = part_place h (from + 2) s in omega (arith, e)
    part_place (of_arm {again = false} {choices = choices} d) from s = let e = arm_part_place d (bodies_from choices select_own from) s in omega (arith, e)
    part_place (of_arm {again = true} {choices = choices} d) from s = let e = arm_part_place d (bodies_from choices again_own from) s in omega (arith, e)

    arm_part_place : {q : Process} {choices : Choices} (d : ArmPart q choices) (from : ℕ) (s : Spot q)
        → arm_part_from P d from + place P q s ≡ from + choice_place P choices (arm_part_spot d s)
    arm_part_place (this_arm h) from s = part_place h from s
    arm_part_place (other_arm {p = p} d) from s = let e = arm_part_place d (from + size_of P p) s in omega (arith, e)

    side_part_place : {q : Process} {members : Processes} (t : SidePart q members) (from : ℕ) (s : Spot q)
        → side_part_from P t from + place P q s ≡ from + branch_place P members (side_part_spot t s)
    side_part_place (this_side h) from s = let e = part_place h (from + 3) s in omega (arith, e)
    side_part_place (other_side {p = p} t) from s = let e = side_part_place t (from + 3 + size_of P p) s in omega (arith, e)

    turn_part_place : {q : Process} {members : Processes} (t : TurnPart q members) (from : ℕ) (s : Spot q)
        → turn_part_from P t from + place P q s ≡ from + turn_place P members (turn_part_spot t s)
    turn_part_place (last_part h) from s = part_place h from s
    turn_part_place (first_part h) from s = let e = part_place h (from + 3) s in omega (arith, e)
    turn_part_place (later_part {p = p} t) from s = let e = turn_part_place t (from + 3 + size_of P p) s in omega (arith, e)

  mutual
    pub part_fine : {q p : Process} (h : PartOf q p) (s : Spot q) → IsFine P q s → IsFine P p (part_spot h s)
    part_fine whole s f = f
    part_fine (of_member t) s f = turn_part_fine t s f
    part_fine (of_side t) s f = side_part_fine t s f
    part_fine (of_body h) s f = part_fine h s f
    part_fine (of_arm d) s f = arm_part_fine d s f

    arm_part_fine : {q : Process} {choices : Choices} (d : ArmPart q choices) (s : Spot q) → IsFine P q s → IsFineChoice P choices (arm_part_spot d s)
    arm_part_fine (this_arm h) s f = part_fine h s f
    arm_part_fine (other_arm d) s f = arm_part_fine d s f

    side_part_fine : {q : Process} {members : Processes} (t : SidePart q members) (s : Spot q) → IsFine P q s → IsFineBranch P members (side_part_spot t s)
    side_part_fine (this_side h) s f = part_fine h s f
    side_part_fine (other_side t) s f = side_part_fine t s f

    turn_part_fine : {q : Process} {members : Processes} (t : TurnPart q members) (s : Spot q) → IsFine P q s → IsFineTurn P members (turn_part_spot t s)
    turn_part_fine (last_part h) s f = part_fine h s f
    turn_part_fine (first_part h) s f = part_fine h s f
    turn_part_fine (later_part t) s f = turn_part_fine t s f

  module _ (v : ℕ → Bool) where
    -- the nodes at the part's numbers have the values of its cells, and the node that is its request that of its request
    pub record StandsAt (q : Process) (request from : ℕ) (r : Bool) (x : Cells q) : Type 0 where
      pub asked : v request ≡ r
      pub stands : Stands v from (bits P q x)

    mutual
      pub part_stands : {q p : Process} (h : PartOf q p) → ReadsNoTarget p → IsProcess P.channels P.vars p → (request from : ℕ) (r : Bool) (x : Cells p)
          → v request ≡ r → Stands v from (bits P p x) → StandsAt q (part_ask P h request from) (part_from P h from) (part_request h r x) (part_cells h x)
      part_stands whole c t request from r x e s = record { asked = e; stands = s }
      part_stands (of_member u) c t request from r x e s = turn_part_stands u c t.1 request from r x e s
      part_stands (of_side {members = members} u) c t request from r x e s = side_part_stands u c t.1 from x.branches (stands_branches P v members from x s)
      part_stands (of_body {p = p} h) c t request from r x e s =
          part_stands h c t (from + 1) (from + 2) x.ask x.inner (s.at 1 (omega arith)) (stands_body P v p from x s)
      part_stands (of_arm {again = false} {choices = choices} d) c t request from r x e s =
          arm_part_stands d c t.2 (from + select_own + choice_count choices) (bodies_from choices select_own from) x.started x.branches
          (started_at P v choices c t.2 t.0 request from x s) (stands_choices P v choices from x s)
      part_stands (of_arm {again = true} {choices = choices} d) c t request from r x e s =
          arm_part_stands d c t.2 (from + again_own + choice_count choices) (bodies_from choices again_own from) x.core.started x.core.branches
          (again_started P v choices c t.2 request from x s) (again_choices P v choices from x s)

      arm_part_stands : {q : Process} {choices : Choices} (d : ArmPart q choices) → ChoicesReadNoTarget choices → AreChoices P.channels P.vars choices
          → (start from : ℕ) (b : Bits (choice_count choices)) (x : ChoiceCells choices)
          → BitsAt (choice_count choices) v (range_with_len start (choice_count choices)) b → Stands v from (choice_bits P choices x)
          → StandsAt q (arm_part_ask P d start from) (arm_part_from P d from) (arm_part_request d b x) (arm_part_cells d x)
      arm_part_stands (this_arm {g = g} {p = p} {more = more} h) c t start from b x a s =
          part_stands h c.0 t.1 start from b.0 x.0 a.0 (stands_this_choice P v p from g more x s)
      arm_part_stands (other_arm {g = g} {p = p} {more = more} d) c t start from b x a s =
          arm_part_stands d c.1 t.2 (start + 1) (from + size_of P p) b.1 x.1 a.1 (stands_other_choice P v p from g more c.0 x s)

      side_part_stands : {q : Process} {members : Processes} (u : SidePart q members) → EachReadsNoTarget members → AreProcesses P.channels P.vars members
          → (from : ℕ) (x : BranchCells members) → Stands v from (branch_bits P members x)
          → StandsAt q (side_part_ask P u from) (side_part_from P u from) (side_part_request u x) (side_part_cells u x)
      side_part_stands (this_side {p = p} {more = more} h) c t from x s =
          part_stands h c.0 t.0 from (from + 3) x.0.child x.0.inner
          (stands_head v from x.0.child (x.0.latch ∷ x.0.next ∷ (bits P p x.0.inner ++ branch_bits P more x.1)) s) (stands_this P v p more from x s)
      side_part_stands (other_side {p = p} {more = more} u) c t from x s =
          side_part_stands u c.1 t.1 (from + 3 + size_of P p) x.1 (stands_others P v p more c.0 from x s)

      turn_part_stands : {q : Process} {members : Processes} (u : TurnPart q members) → EachReadsNoTarget members → AreProcesses P.channels P.vars members
          → (request from : ℕ) (r : Bool) (x : TurnCells members) → v request ≡ r → Stands v from (turn_bits P members x)
          → StandsAt q (turn_part_ask P u request from) (turn_part_from P u from) (turn_part_request u r x) (turn_part_cells u x)
      turn_part_stands (last_part h) c t request from r x e s = part_stands h c.0 t.0 request from r x e s
      turn_part_stands (first_part {p = p} {s = b} {more = more} h) c t request from r x e s =
          part_stands h c.0 t.0 from (from + 3) x.member.child x.member.inner
          (stands_head v from x.member.child (x.member.latch ∷ x.member.next ∷ (bits P p x.member.inner ++ turn_bits P (and_member b more) x.later)) s)
          (stands_member P v p b more from x s)
      turn_part_stands (later_part {p = p} {s = b} {more = more} u) c t request from r x e s =
          turn_part_stands u c.1 t.1 (from + 2) (from + 3 + size_of P p) x.member.next x.later (s.at 2 (omega arith)) (stands_later P v p b more c.0 from x s)
