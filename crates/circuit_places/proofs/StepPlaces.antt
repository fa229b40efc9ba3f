-- At which place of the term an own node makes its silent step: the spot alone tells it. A member of a sequence, but for
-- its last, and what a loop or a repetition repeats stand first in a sequence; a branch stands in its branch.
use Rattle.std.proofs.Common.{ℕ, zero, suc, true, false}
use Rattle.width_check.specs.Processes.{Process, Processes, Choices, choosing}
use Rattle.chp_meaning.specs.Terms.{Place, here, in_first, in_branch}
use Rattle.circuit_places.specs.Circuit.{GuardedSpot, Spot, TurnSpot, BranchSpot, ChoiceSpot, inner, in_members, of_branch, in_this, in_others, in_body, in_last, in_member, in_later, this_choice, other_choice, of_choice}

abbrev mutual
  pub guarded_place : {p : Process} → GuardedSpot p → Place
  guarded_place (inner s) = place_of s
  guarded_place _ = here

  pub place_of : {p : Process} → Spot p → Place
  place_of (in_members s) = turn_place s
  place_of (of_branch s) = in_branch (branch_index s) (branch_place s)
  place_of (in_body s) = in_first (place_of s)
  place_of {p = choosing false choices} (of_choice s) = choice_place s
  place_of {p = choosing true choices} (of_choice s) = in_first (choice_place s)
  place_of _ = here

  pub choice_place : {choices : Choices} → ChoiceSpot choices → Place
  choice_place (this_choice s) = place_of s
  choice_place (other_choice s) = choice_place s

  pub branch_index : {members : Processes} → BranchSpot members → ℕ
  branch_index (in_this s) = zero
  branch_index (in_others s) = suc (branch_index s)

  pub branch_place : {members : Processes} → BranchSpot members → Place
  branch_place (in_this s) = guarded_place s
  branch_place (in_others s) = branch_place s

  pub turn_place : {members : Processes} → TurnSpot members → Place
  turn_place (in_last s) = place_of s
  turn_place (in_member s) = in_first (guarded_place s)
  turn_place (in_later s) = turn_place s
