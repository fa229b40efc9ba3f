-- Own moves of a core: that of a selection and that of a guarded repetition are alike, but for five numbers.
--
-- P: the program; K: how many moves follow the falls of lines; N: the numbers of a core; x: where it is; y: the values of its nodes; v: the latch of
-- the end; s, q: spots of it; z: that a rule fires; l: what is said of a move of the core.
use Rattle.std.proofs.Common.{◌≡◌, ◌≢◌, ℕ, suc, ◌+◌, ◌<◌, ◌≤◌, Bool, true, false, refl, sym, ap, ◌∙◌, arith}
use Rattle.std.specs.Prelude.{if◌then◌else◌, max}
use Rattle.std.proofs.Math.Nat.{le-max_left}
use Rattle.width_check.specs.Processes.{choosing, Choices, choice_count, TypedProgram}
use Rattle.function_blocks.specs.Rails.{Rule, one_rule_fires}
use Rattle.circuit_places.specs.Lines.{Seen}
use Rattle.circuit_places.specs.Heads.{bit_of}
use Rattle.circuit_places.specs.Cores.{Core, OwnSpot, of_joined, of_ask, of_any, of_latch, of_start, core_rule, turned_own}
use Rattle.circuit_places.specs.Circuit.{GuardCells, ChoiceCells, GuardSpot, ChoiceSpot, Spot, of_core, of_guard, of_choice, heads, choice_answers, guards_rule, choice_rule, turned_guards, turned_choice}
use Rattle.circuit_places.proofs.CoreControl.{Control, uncalled, called, evaluating, latched, leaving}
use Rattle.circuit_places.proofs.CoreMoves.{CoreSpot, own, guard, branch}
use Rattle.circuit_places.proofs.ChoiceMoves.{spot_at}
use Rattle.circuit_places.proofs.Places.{Mode, asks, acks, at_choice, at_turning, ChoiceAt, control_at, inside_at, choice_leave, choice_cells, choice_own, choice_guard, choice_inner, can_is, no_leave}
use Rattle.circuit_places.proofs.StillSteps.{choice_rises, choice_value}
use Rattle.round_time.specs.Longest.{guards_depth}
use Rattle.round_time.specs.Phases.{choices_first}
use Rattle.circuit_time.proofs.Trails.{Clearing, choice_back, latch_trail, start_trail, guards_trail, choice_trail}
use Rattle.circuit_time.proofs.OwnTrails.{Shorter}

abbrev pub CoreCells : Choices → Type 0
CoreCells cs = Core (choice_count cs) (GuardCells cs) (ChoiceCells cs)

abbrev pub CoreSpots : Choices → Type 0
CoreSpots cs = CoreSpot (choice_count cs) (GuardSpot cs) (ChoiceSpot cs)

abbrev pub ControlAt : (again : Bool) → Choices → Mode → Type 0
ControlAt again cs m = Control again (choice_count cs) (GuardCells cs) (heads cs) m

-- The rise of the joined answer has so many moves behind it besides those of the request's fall, and its fall these; so many follow the fall of the
-- node that says that a latch is up; from a branch's answer to the fall of its start there are so many; and these follow the fall of the
-- deepest gate of the guards.
pub record Numbers : Type 0 where
  pub joins : ℕ
  pub lowers : ℕ
  pub any : ℕ
  pub holds : ℕ
  pub left : ℕ

-- of a selection, and of a repetition
abbrev pub selecting : TypedProgram → (held down : ℕ) → Choices → Numbers
selecting P held down cs = record { joins = held; lowers = down; any = 1 + down; holds = held + 3; left = choices_first P cs }

abbrev pub turning : TypedProgram → (held down : ℕ) → Choices → Numbers
turning P held down cs = record {
  joins = 1;
  lowers = 2 + guards_depth cs;
  any = 3 + guards_depth cs;
  holds = 4;
  left = max (choices_first P cs) (held + 5 + down);
}

-- what is needed of them
pub record Room (P : TypedProgram) (N : Numbers) (cs : Choices) : Type 0 where
  pub held : N.joins + 3 ≤ N.holds
  pub lower : N.lowers < N.any
  pub ahead : choices_first P cs ≤ N.left

pub room_selecting : (P : TypedProgram) (held down : ℕ) (cs : Choices) → Room P (selecting P held down cs) cs
room_selecting P held down cs = record { held = omega arith; lower = omega arith; ahead = omega arith }

pub room_turning : (P : TypedProgram) (held down : ℕ) (cs : Choices) → Room P (turning P held down cs) cs
room_turning P held down cs =
    record { held = omega arith; lower = omega arith; ahead = le-max_left (choices_first P cs) (held + 5 + down) }

-- what the request's fall lets go of, and the trails
abbrev pub core_back : TypedProgram → Clearing → (any : ℕ) → (cs : Choices) → CoreCells cs → ℕ
core_back P K any cs y = choice_back P K any any cs y.latched y.branches

abbrev pub core_trail : TypedProgram → Clearing → Numbers → (cs : Choices) → CoreCells cs → CoreSpots cs → ℕ
core_trail P K N cs y (own of_joined) = if y.answer then N.lowers else N.joins + core_back P K N.any cs y
core_trail P K N cs y (own of_ask) = if y.ask then guards_depth cs + N.left else guards_depth cs
core_trail P K N cs y (own of_any) = if y.any then N.any else 1 + (guards_depth cs + N.left)
core_trail P K N cs y (own (of_latch i)) = latch_trail P K N.any N.any cs y.branches i
core_trail P K N cs y (own (of_start i)) = start_trail P K N.any cs y.started y.branches i
core_trail P K N cs y (guard s) = guards_trail (guards_depth cs) N.left cs y.guards s
core_trail P K N cs y (branch s) = choice_trail P K N.holds N.any cs y.branches s

-- the rule of a spot, and what its move makes of the values
abbrev pub core_spot_rule : (cs : Choices) → Seen → (r v : Bool) → CoreCells cs → CoreSpots cs → Rule
core_spot_rule cs env r v y (own s) = core_rule r v (heads cs y.guards) (choice_answers cs y.branches) y s
core_spot_rule cs env r v y (guard s) = guards_rule cs env.bit y.ask y.guards s
core_spot_rule cs env r v y (branch s) = choice_rule cs env y.started y.branches s

abbrev pub core_turned : (cs : Choices) → CoreCells cs → CoreSpots cs → CoreCells cs
core_turned cs y (own s) = turned_own y s
core_turned cs y (guard s) = record y { guards = turned_guards cs y.guards s }
core_turned cs y (branch s) = record y { branches = turned_choice cs y.branches s }

-- the rises of which nodes are steps, and that a move is none
abbrev pub core_rises : {cs : Choices} → CoreSpots cs → Bool
core_rises (own (of_latch i)) = true
core_rises (branch s) = choice_rises s
core_rises _ = false

abbrev pub core_value : (cs : Choices) → CoreCells cs → CoreSpots cs → Bool
core_value cs y (own (of_latch i)) = bit_of i y.latched
core_value cs y (branch s) = choice_value cs y.branches s
core_value _ _ _ = true

abbrev pub CorePlain : (cs : Choices) → CoreCells cs → CoreSpots cs → Type 0
CorePlain cs y s = core_rises s ≡ true → core_value cs y s ≡ true

abbrev pub core_can : {again : Bool} {cs : Choices} {m : Mode} → Seen → ChoiceAt again cs m → CoreSpots cs → Bool
core_can env x (own s) = choice_own x s
core_can env x (guard s) = choice_guard env x s
core_can env x (branch s) = choice_inner env x s

pub core_can_is : {again : Bool} {cs : Choices} {m : Mode} (env : Seen) (x : ChoiceAt again cs m) (s : CoreSpots cs)
    → one_rule_fires (core_spot_rule cs env (asks m) (choice_leave x) (choice_cells x) s) ≡ core_can env x s
core_can_is {again = true} env x (own s) = can_is env (at_turning x) (of_core s)
core_can_is {again = true} env x (guard s) = can_is env (at_turning x) (of_guard s)
core_can_is {again = true} env x (branch s) = can_is env (at_turning x) (of_choice s)
core_can_is {again = false} {cs = cs} {m = m} env x (own s) =
    ap (λ (v : Bool). one_rule_fires (core_rule (asks m) v (heads cs (choice_cells x).guards) (choice_answers cs (choice_cells x).branches) (choice_cells x) s))
    (no_leave x) ∙ can_is env (at_choice x) (of_core s)
core_can_is {again = false} env x (guard s) = can_is env (at_choice x) (of_guard s)
core_can_is {again = false} env x (branch s) = can_is env (at_choice x) (of_choice s)

-- the joined answer is that of the mode
pub core_answer : {again : Bool} {cs : Choices} {m : Mode} (x : ChoiceAt again cs m) → (choice_cells x).answer ≡ acks m
core_answer (control_at uncalled) = refl
core_answer (control_at called) = refl
core_answer (control_at (evaluating g)) = refl
core_answer (control_at (latched l i g h)) = refl
core_answer (control_at (leaving y l g h)) = refl
core_answer (inside_at a w) = refl

-- two spots of a part are two of the core
abbrev pub own_in : (cs : Choices) → OwnSpot (choice_count cs) → CoreSpots cs
own_in cs s = own s

abbrev own_of : {cs : Choices} → OwnSpot (choice_count cs) → CoreSpots cs → OwnSpot (choice_count cs)
own_of d (own s) = s
own_of d _ = d

pub own_apart : {cs : Choices} {s q : OwnSpot (choice_count cs)} → s ≢ q → own_in cs s ≢ own_in cs q
own_apart {s = s} ne e = ne (ap (own_of s) e)

abbrev pub guard_in : (cs : Choices) → GuardSpot cs → CoreSpots cs
guard_in cs s = guard s

abbrev guard_of : {cs : Choices} → GuardSpot cs → CoreSpots cs → GuardSpot cs
guard_of d (guard s) = s
guard_of d _ = d

pub guard_apart : {cs : Choices} {s q : GuardSpot cs} → s ≢ q → guard_in cs s ≢ guard_in cs q
guard_apart {s = s} ne e = ne (ap (guard_of s) e)

abbrev pub branch_in : (cs : Choices) → ChoiceSpot cs → CoreSpots cs
branch_in cs s = branch s

abbrev branch_of : {cs : Choices} → ChoiceSpot cs → CoreSpots cs → ChoiceSpot cs
branch_of d (branch s) = s
branch_of d _ = d

pub branch_apart : {cs : Choices} {s q : ChoiceSpot cs} → s ≢ q → branch_in cs s ≢ branch_in cs q
branch_apart {s = s} ne e = ne (ap (branch_of s) e)

-- and two of the core are two of the statement
abbrev part_of : {again : Bool} {cs : Choices} → CoreSpots cs → Spot (choosing again cs) → CoreSpots cs
part_of d (of_core s) = own s
part_of d (of_guard s) = guard s
part_of d (of_choice s) = branch s
part_of d _ = d

part_is : (again : Bool) {cs : Choices} (d s : CoreSpots cs) → part_of d (spot_at again s) ≡ s
part_is again d (own s) = refl
part_is again d (guard s) = refl
part_is again d (branch s) = refl

pub spot_apart : (again : Bool) {cs : Choices} (s q : CoreSpots cs) → s ≢ q → spot_at again s ≢ spot_at again q
spot_apart again s q ne e = ne (sym (part_is again s s) ∙ (ap (part_of s) e ∙ part_is again s q))

-- what is said of a move of a core whose latch of the end is low: as of a statement
abbrev pub CoreEach : TypedProgram → Clearing → Numbers → {again : Bool} {cs : Choices} {m : Mode} → Seen → ChoiceAt again cs m → (s q : CoreSpots cs) → Type 0
CoreEach P K N {cs = cs} {m = m} env x s q =
    one_rule_fires (core_spot_rule cs env (asks m) false (core_turned cs (choice_cells x) s) q) ≡ true → CorePlain cs (core_turned cs (choice_cells x) s) q
    → Shorter s q (core_can env x q) (core_trail P K N cs (core_turned cs (choice_cells x) s) q) (core_trail P K N cs (choice_cells x) q)
    (core_trail P K N cs (choice_cells x) s)

pub record CoreLed (P : TypedProgram) (K : Clearing) (N : Numbers) {again : Bool} {cs : Choices} {m : Mode} (env : Seen) (x : ChoiceAt again cs m)
    (s : CoreSpots cs) : Type 0 where
  pub each : (q : CoreSpots cs) → CoreEach P K N env x s q
  pub up : acks m ≡ false → (core_turned cs (choice_cells x) s).answer ≡ true
      → (N.joins + core_back P K N.any cs (core_turned cs (choice_cells x) s) ≤ core_trail P K N cs (choice_cells x) s)
      × (suc N.lowers ≤ core_back P K N.any cs (core_turned cs (choice_cells x) s))
  pub falls : acks m ≡ true → (core_turned cs (choice_cells x) s).answer ≡ false → N.lowers ≤ core_trail P K N cs (choice_cells x) s
  pub less : core_back P K N.any cs (core_turned cs (choice_cells x) s) ≤ core_back P K N.any cs (choice_cells x)
