-- Which own moves of a statement are silent steps of the program: a skip answers, a loop asks its body, a latch rises.
use Rattle.std.proofs.Common.{Bool, false, List}
use Rattle.std.specs.Prelude.{not}
use Rattle.width_check.specs.Processes.{Process, Processes, Choices, choice_count}
use Rattle.circuit_places.specs.Cores.{OwnSpot, RoundSpot}
use Rattle.circuit_places.specs.Circuit.{GuardedSpot, Spot, TurnSpot, BranchSpot, ChoiceSpot, inner, in_members, of_branch, in_this, in_others, ask, in_body, in_last, in_member, in_later, this_choice, other_choice, of_core, of_choice, of_round}
use Rattle.circuit_places.proofs.Places.{Mode, asks, acks, GuardedAt, g_in, At, at_skip, at_turn, at_side, at_body, at_choice, at_turning, ChoiceAt, control_at, inside_at, ChosenAt, this_one, another, BranchesAt, and_at, TurnAt, at_last, at_member, at_later}
use Rattle.circuit_places.proofs.CoreControl.{control_steps, turning_steps}

abbrev pub choice_own_steps : {again : Bool} {choices : Choices} {m : Mode} → ChoiceAt again choices m → OwnSpot (choice_count choices) → Bool
choice_own_steps (control_at c) s = control_steps c s
choice_own_steps (inside_at a w) s = false

abbrev pub choice_round_steps : {again : Bool} {choices : Choices} {m : Mode} → ChoiceAt again choices m → RoundSpot → Bool
choice_round_steps (control_at c) t = turning_steps c t
choice_round_steps (inside_at a w) t = false

abbrev mutual
  pub guarded_steps : {p : Process} {m : Mode} → GuardedAt p m → GuardedSpot p → Bool
  guarded_steps (g_in u a h) (inner s) = steps a s
  guarded_steps _ _ = false

  pub steps : {p : Process} {m : Mode} → At p m → Spot p → Bool
  steps (at_skip m h) s = not (acks m)
  steps (at_turn t) (in_members s) = turn_steps t s
  steps (at_side m t b h) (of_branch s) = branch_steps b s
  steps (at_body {m = m} a) ask = not (asks m)
  steps (at_body a) (in_body s) = steps a s
  steps (at_choice x) (of_core s) = choice_own_steps x s
  steps (at_choice x) (of_choice s) = choice_inner_steps x s
  steps (at_turning x) (of_core s) = choice_own_steps x s
  steps (at_turning x) (of_choice s) = choice_inner_steps x s
  steps (at_turning x) (of_round s) = choice_round_steps x s
  steps _ _ = false

  pub choice_inner_steps : {again : Bool} {choices : Choices} {m : Mode} → ChoiceAt again choices m → ChoiceSpot choices → Bool
  choice_inner_steps (inside_at a w) s = chosen_steps a s
  choice_inner_steps _ _ = false

  pub chosen_steps : {choices : Choices} {k : Mode} → ChosenAt choices k → ChoiceSpot choices → Bool
  chosen_steps (this_one a) (this_choice s) = steps a s
  chosen_steps (another a) (other_choice s) = chosen_steps a s
  chosen_steps _ _ = false

  pub branch_steps : {members : Processes} {ks : List Mode} → BranchesAt members ks → BranchSpot members → Bool
  branch_steps (and_at g b) (in_this s) = guarded_steps g s
  branch_steps (and_at g b) (in_others s) = branch_steps b s
  branch_steps _ _ = false

  pub turn_steps : {members : Processes} {m : Mode} → TurnAt members m → TurnSpot members → Bool
  turn_steps (at_last a) (in_last s) = steps a s
  turn_steps (at_member g) (in_member s) = guarded_steps g s
  turn_steps (at_later g t h) (in_later s) = turn_steps t s
  turn_steps _ _ = false
