-- The node numbers of a statement that is a part of a program, and what holds of parts in each state of a run.
use Rattle.std.specs.Prelude.{◌≡◌, ◌<◌, ◌⊎◌, ℕ, ◌+◌, Bool, true, false, List}
use Rattle.prs_core.specs.Moves.{high}
use Rattle.env_script.specs.Scripts.{OfferValue}
use Rattle.env_script.specs.Runs.{RunState, begin_at, after, move_enabled, moved}
use Rattle.width_check.specs.Processes.{Process, Processes, Choices, choice_count, TypedProgram}
use Rattle.handshake_expand.specs.Layout.{size_of, root_request, body_from}
use Rattle.handshake_expand.specs.Answers.{answer_of, bodies_from, select_own, again_own}
use Rattle.chp_meaning.specs.Halves.{ReadsNoTarget}
use Rattle.circuit_places.specs.Within.{PartOf, whole, of_member, of_side, of_body, of_arm, ArmPart, this_arm, other_arm, SidePart, this_side, other_side, TurnPart, last_part, first_part, later_part, InTurns, Phased}
use Rattle.net_compose.specs.Translation.{translation}
use Rattle.net_compose.specs.Points.{IsTranslated, OfEachRun}

-- where a part's nodes begin, where those of the process begin at a number
abbrev mutual
  pub part_from : TypedProgram → {q p : Process} → PartOf q p → (from : ℕ) → ℕ
  part_from P whole from = from
  part_from P (of_member t) from = turn_part_from P t from
  part_from P (of_side t) from = side_part_from P t from
  part_from P (of_body h) from = part_from P h (from + 2)
  part_from P (of_arm {again = false} {choices = choices} c) from =
      arm_part_from P c (bodies_from choices select_own from)
  part_from P (of_arm {again = true} {choices = choices} c) from =
      arm_part_from P c (bodies_from choices again_own from)

  pub arm_part_from : TypedProgram → {q : Process} {choices : Choices} → ArmPart q choices → (from : ℕ) → ℕ
  arm_part_from P (this_arm h) from = part_from P h from
  arm_part_from P (other_arm {p = p} c) from = arm_part_from P c (from + size_of P p)

  pub side_part_from : TypedProgram → {q : Process} {members : Processes} → SidePart q members → (from : ℕ) → ℕ
  side_part_from P (this_side h) from = part_from P h (from + 3)
  side_part_from P (other_side {p = p} t) from = side_part_from P t (from + 3 + size_of P p)

  pub turn_part_from : TypedProgram → {q : Process} {members : Processes} → TurnPart q members → (from : ℕ) → ℕ
  turn_part_from P (last_part h) from = part_from P h from
  turn_part_from P (first_part h) from = part_from P h (from + 3)
  turn_part_from P (later_part {p = p} t) from = turn_part_from P t (from + 3 + size_of P p)

-- which node is its request, where that of the process is this one
abbrev mutual
  pub part_ask : TypedProgram → {q p : Process} → PartOf q p → (request from : ℕ) → ℕ
  part_ask P whole request from = request
  part_ask P (of_member t) request from = turn_part_ask P t request from
  part_ask P (of_side t) request from = side_part_ask P t from
  part_ask P (of_body h) request from = part_ask P h (from + 1) (from + 2)
  part_ask P (of_arm {again = false} {choices = choices} c) request from =
      arm_part_ask P c (from + select_own + choice_count choices) (bodies_from choices select_own from)
  part_ask P (of_arm {again = true} {choices = choices} c) request from =
      arm_part_ask P c (from + again_own + choice_count choices) (bodies_from choices again_own from)

  pub arm_part_ask : TypedProgram → {q : Process} {choices : Choices} → ArmPart q choices → (start from : ℕ) → ℕ
  arm_part_ask P (this_arm h) start from = part_ask P h start from
  arm_part_ask P (other_arm {p = p} c) start from = arm_part_ask P c (start + 1) (from + size_of P p)

  pub side_part_ask : TypedProgram → {q : Process} {members : Processes} → SidePart q members → (from : ℕ) → ℕ
  side_part_ask P (this_side h) from = part_ask P h from (from + 3)
  side_part_ask P (other_side {p = p} t) from = side_part_ask P t (from + 3 + size_of P p)

  pub turn_part_ask : TypedProgram → {q : Process} {members : Processes} → TurnPart q members → (request from : ℕ) → ℕ
  turn_part_ask P (last_part h) request from = part_ask P h request from
  turn_part_ask P (first_part h) request from = part_ask P h from (from + 3)
  turn_part_ask P (later_part {p = p} t) request from = turn_part_ask P t (from + 2) (from + 3 + size_of P p)

-- of a part of the program: its first node, its request and its answer
abbrev pub first_of_part : (P : TypedProgram) {q : Process} → PartOf q P.body → ℕ
first_of_part P h = part_from P h (body_from P)

abbrev pub request_of_part : (P : TypedProgram) {q : Process} → PartOf q P.body → ℕ
request_of_part P h = part_ask P h (root_request P) (body_from P)

abbrev pub answer_of_part : (P : TypedProgram) {q : Process} → PartOf q P.body → ℕ
answer_of_part P {q = q} h = answer_of P q (first_of_part P h)

-- whether they are high in a state
abbrev pub is_asked : (P : TypedProgram) → RunState → {q : Process} → PartOf q P.body → Bool
is_asked P st h = high st.values (request_of_part P h)

abbrev pub has_answered : (P : TypedProgram) → RunState → {q : Process} → PartOf q P.body → Bool
has_answered P st h = high st.values (answer_of_part P h)

-- What holds in a state of the handshakes of all parts that have no assignment which reads its own target:
--   where request and answer are high, no own node moves
--   where both are low, all own nodes are low, and none moves
--   of two parts that take turns one at least has both low
--   where a node moves, the request stays or moves towards what the answer isn't, and the answer stays or moves towards
--   the request
pub record PartsInTurns (P : TypedProgram) (script : List OfferValue) (st : RunState) : Type 0 where
  pub still : {q : Process} (h : PartOf q P.body) → ReadsNoTarget q
      → is_asked P st h ≡ true → has_answered P st h ≡ true
      → (i : ℕ) → i < size_of P q → move_enabled (translation P) script st (first_of_part P h + i) ≡ false
  pub low_at_rest : {q : Process} (h : PartOf q P.body) → ReadsNoTarget q
      → is_asked P st h ≡ false → has_answered P st h ≡ false
      → (i : ℕ) → i < size_of P q → high st.values (first_of_part P h + i) ≡ false
  pub rests : {q : Process} (h : PartOf q P.body) → ReadsNoTarget q
      → is_asked P st h ≡ false → has_answered P st h ≡ false
      → (i : ℕ) → i < size_of P q → move_enabled (translation P) script st (first_of_part P h + i) ≡ false
  pub one_rests : {q s : Process} (h : PartOf q P.body) (k : PartOf s P.body)
      → ReadsNoTarget q → ReadsNoTarget s → InTurns h k
      → ((is_asked P st h ≡ false) × (has_answered P st h ≡ false))
      ⊎ ((is_asked P st k ≡ false) × (has_answered P st k ≡ false))
  pub asks : {q : Process} (h : PartOf q P.body) → ReadsNoTarget q
      → (n : ℕ) → move_enabled (translation P) script st n ≡ true
      → Phased (is_asked P (moved (translation P) st n) h) (is_asked P st h) (has_answered P st h)
  pub ends : {q : Process} (h : PartOf q P.body) → ReadsNoTarget q
      → (n : ℕ) → move_enabled (translation P) script st n ≡ true
      → (has_answered P (moved (translation P) st n) h ≡ has_answered P st h)
      ⊎ (has_answered P (moved (translation P) st n) h ≡ is_asked P st h)

-- in each state of each run of a program's net
abbrev pub PartsTakeTurns : TypedProgram → Type 0
PartsTakeTurns P = OfEachRun (translation P) P (λ script moves.
    PartsInTurns P script (after (translation P) (begin_at (translation P) (translation P).first) moves))

abbrev pub TranslationTakesTurns : Type 0
TranslationTakesTurns = (P : TypedProgram) → IsTranslated P → PartsTakeTurns P
