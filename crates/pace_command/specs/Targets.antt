-- Whether some assignment of a statement reads its own target.
use Rattle.std.specs.Prelude.{Bool, false, ◌||◌}
use Rattle.width_check.specs.Processes.{Process, skipping, assigning, sending, receiving, in_turn, side_by_side, choosing, repeating, Processes, no_members, and_member, Choices, no_choices, and_choice}
use Rattle.width_check.specs.Reads.{reads}

abbrev mutual
  pub reads_target : Process → Bool
  reads_target skipping = false
  reads_target (assigning x at e) = reads x e
  reads_target (sending c at e) = false
  reads_target (receiving c at x to) = false
  reads_target (in_turn members) = member_reads_target members
  reads_target (side_by_side members) = member_reads_target members
  reads_target (choosing again choices) = choice_reads_target choices
  reads_target (repeating p) = reads_target p

  pub member_reads_target : Processes → Bool
  member_reads_target no_members = false
  member_reads_target (and_member p more) = reads_target p || member_reads_target more

  pub choice_reads_target : Choices → Bool
  choice_reads_target no_choices = false
  choice_reads_target (and_choice g p more) = reads_target p || choice_reads_target more
