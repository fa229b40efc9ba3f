-- The plain tree of a typed statement or expression.
use Rattle.std.specs.Prelude.{List, [], ◌∷◌}
use Rattle.width_check.specs.declared.typed.TArm.{TArm}
use Rattle.width_check.specs.declared.typed.TExpr.{TExpr, Number, Read, Join', Not', Chain', Compare', Row_of-TExpr, end_of-TExpr, more_of-TExpr, Row_of-TLink, end_of-TLink, more_of-TLink}
use Rattle.width_check.specs.declared.typed.TStmt.{TStmt, Skip, Assign, Send, Receive, Then', Beside', Select', Repeat', Row_of-TStmt, end_of-TStmt, more_of-TStmt, Row_of-TArm, end_of-TArm, more_of-TArm}
use Rattle.width_check.specs.Processes.{Formula, constant, reading, joined, inverted, chained, compared, Formulas, no_parts, and_part, Operations, no_operations, and_operation, Process, skipping, assigning, sending, receiving, in_turn, side_by_side, choosing, repeating, Processes, no_members, and_member, Choices, no_choices, and_choice}

abbrev mutual
  pub formula_of : TExpr → Formula
  formula_of (Number bits) = constant bits.width bits.value
  formula_of (Read var high low at) = reading var high low at
  formula_of (Join' shape parts) = joined (formulas_of parts)
  formula_of (Not' p inner) = inverted (formula_of inner)
  formula_of (Chain' p first shape rest) = chained (formula_of first) (operations_of rest)
  formula_of (Compare' op p left q right) = compared op (formula_of left) (formula_of right)

  pub formulas_of : {m : _} → Row_of-TExpr m → Formulas
  formulas_of end_of-TExpr = no_parts
  formulas_of (more_of-TExpr e rest) = and_part (formula_of e) (formulas_of rest)

  pub operations_of : {m : _} → Row_of-TLink m → Operations
  operations_of end_of-TLink = no_operations
  operations_of (more_of-TLink op right rest) = and_operation op (formula_of right) (operations_of rest)

abbrev mutual
  pub process_of : TStmt → Process
  process_of Skip = skipping
  process_of (Assign var at value) = assigning var at (formula_of value)
  process_of (Send chan at value) = sending chan at (formula_of value)
  process_of (Receive chan chan_at var var_at) = receiving chan chan_at var var_at
  process_of (Then' shape parts) = in_turn (processes_of parts)
  process_of (Beside' shape parts) = side_by_side (processes_of parts)
  process_of (Select' again shape arms) = choosing again (choices_of arms)
  process_of (Repeat' p body) = repeating (process_of body)

  pub processes_of : {m : _} → Row_of-TStmt m → Processes
  processes_of end_of-TStmt = no_members
  processes_of (more_of-TStmt s rest) = and_member (process_of s) (processes_of rest)

  pub choices_of : {m : _} → Row_of-TArm m → Choices
  choices_of end_of-TArm = no_choices
  choices_of (more_of-TArm guard body rest) = and_choice (formula_of guard) (process_of body) (choices_of rest)

-- the members of a sequence or of a parallel composition, and the choices of a selection, from their lists
abbrev pub members_in : List TStmt → Processes
members_in [] = no_members
members_in (s ∷ rest) = and_member (process_of s) (members_in rest)

abbrev pub choices_in : List TArm → Choices
choices_in [] = no_choices
choices_in (a ∷ rest) = and_choice (formula_of a.guard) (process_of a.body) (choices_in rest)
