-- Where the first name stands in the text of a statement, if one does: by this a statement is told, since only those
-- that assign, send or receive have a place of their own.
use Rattle.std.specs.Prelude.{Option, Some, None}
use Rattle.chp_base.specs.declared.span.Span.{Span}
use Rattle.width_check.specs.Processes.{Formula, constant, reading, joined, inverted, chained, compared, Formulas, no_parts, and_part, Operations, no_operations, and_operation, Process, skipping, assigning, sending, receiving, in_turn, side_by_side, choosing, repeating, Processes, no_members, and_member, Choices, no_choices, and_choice}

-- the place of this name, or of the next one where there is none
abbrev pub or_next : Option Span → Option Span → Option Span
or_next None next = next
or_next (Some at) next = Some at

abbrev mutual
  pub first_read_at : Formula → Option Span
  first_read_at (constant width value) = None
  first_read_at (reading x high low at) = Some at
  first_read_at (joined parts) = part_read_at parts
  first_read_at (inverted e) = first_read_at e
  first_read_at (chained e more) = or_next (first_read_at e) (operand_read_at more)
  first_read_at (compared op e f) = or_next (first_read_at e) (first_read_at f)

  pub part_read_at : Formulas → Option Span
  part_read_at no_parts = None
  part_read_at (and_part e more) = or_next (first_read_at e) (part_read_at more)

  pub operand_read_at : Operations → Option Span
  operand_read_at no_operations = None
  operand_read_at (and_operation op e more) = or_next (first_read_at e) (operand_read_at more)

abbrev mutual
  pub first_name_at : Process → Option Span
  first_name_at skipping = None
  first_name_at (assigning x at e) = Some at
  first_name_at (sending c at e) = Some at
  first_name_at (receiving c at x to) = Some at
  first_name_at (in_turn members) = member_name_at members
  first_name_at (side_by_side members) = member_name_at members
  first_name_at (choosing again choices) = choice_name_at choices
  first_name_at (repeating p) = first_name_at p

  pub member_name_at : Processes → Option Span
  member_name_at no_members = None
  member_name_at (and_member p more) = or_next (first_name_at p) (member_name_at more)

  pub choice_name_at : Choices → Option Span
  choice_name_at no_choices = None
  choice_name_at (and_choice g p more) = or_next (or_next (first_read_at g) (first_name_at p)) (choice_name_at more)
