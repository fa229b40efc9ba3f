-- Typed programs that differ in places alone, which they keep for what is said of faults.
use Rattle.std.specs.Prelude.{◌≡◌}
use Rattle.width_check.specs.Processes.{Formula, constant, reading, joined, inverted, chained, compared, Formulas, no_parts, and_part, Operations, no_operations, and_operation, Process, skipping, assigning, sending, receiving, in_turn, side_by_side, choosing, repeating, Processes, no_members, and_member, Choices, no_choices, and_choice, TypedProgram}
use Rattle.call_merge.specs.CallSites.{no_place}

abbrev mutual
  pub unplaced_formula : Formula → Formula
  unplaced_formula (constant width v) = constant width v
  unplaced_formula (reading var high low at) = reading var high low no_place
  unplaced_formula (joined parts) = joined (unplaced_formulas parts)
  unplaced_formula (inverted e) = inverted (unplaced_formula e)
  unplaced_formula (chained e more) = chained (unplaced_formula e) (unplaced_operations more)
  unplaced_formula (compared op e f) = compared op (unplaced_formula e) (unplaced_formula f)

  pub unplaced_formulas : Formulas → Formulas
  unplaced_formulas no_parts = no_parts
  unplaced_formulas (and_part e more) = and_part (unplaced_formula e) (unplaced_formulas more)

  pub unplaced_operations : Operations → Operations
  unplaced_operations no_operations = no_operations
  unplaced_operations (and_operation op e more) = and_operation op (unplaced_formula e) (unplaced_operations more)

abbrev mutual
  pub unplaced_process : Process → Process
  unplaced_process skipping = skipping
  unplaced_process (assigning var at e) = assigning var no_place (unplaced_formula e)
  unplaced_process (sending chan at e) = sending chan no_place (unplaced_formula e)
  unplaced_process (receiving chan chan_at var var_at) = receiving chan no_place var no_place
  unplaced_process (in_turn members) = in_turn (unplaced_processes members)
  unplaced_process (side_by_side members) = side_by_side (unplaced_processes members)
  unplaced_process (choosing again choices) = choosing again (unplaced_choices choices)
  unplaced_process (repeating p) = repeating (unplaced_process p)

  pub unplaced_processes : Processes → Processes
  unplaced_processes no_members = no_members
  unplaced_processes (and_member p more) = and_member (unplaced_process p) (unplaced_processes more)

  pub unplaced_choices : Choices → Choices
  unplaced_choices no_choices = no_choices
  unplaced_choices (and_choice g p more) =
      and_choice (unplaced_formula g) (unplaced_process p) (unplaced_choices more)

abbrev pub unplaced_form : TypedProgram → TypedProgram
unplaced_form p = record { channels = p.channels; vars = p.vars; body = unplaced_process p.body }

-- the two typed programs are the same but for places
abbrev pub AreFormedAlike : TypedProgram → TypedProgram → Type 0
AreFormedAlike p q = unplaced_form p ≡ unplaced_form q
