-- The program with neither procedures nor calls that a program means.
use Rattle.std.specs.Prelude.{◌≡◌, ◌≤◌}
use Rattle.chp_syntax.specs.Shape.{IsShaped}
use Rattle.chp_syntax.specs.Trees.{ProgramTree}
use Rattle.width_check.specs.Accepted.{IsAccepted}
use Rattle.width_check.specs.Calls.{IsCallFree}
use Rattle.width_check.specs.Form.{typed_form}
use Rattle.width_check.specs.Processes.{TypedProgram}
use Rattle.call_merge.specs.CallFaults.{MeetsCalling}
use Rattle.call_merge.specs.CallForms.{statement_forms, most_forms}
use Rattle.call_merge.specs.Inlining.{IsInlined}

-- itself, where it has neither procedures nor calls; else the one in which each call is its procedure's body, which has
-- at most so many statements and expressions
pub data Means (program : ProgramTree) : ProgramTree → Type 0 where
  as_it_is : IsCallFree program → Means program program
  with_calls : {plain : ProgramTree} → ¬ IsCallFree program → MeetsCalling program → IsInlined program plain →
      statement_forms plain.body ≤ most_forms → Means program plain

-- each such program has the shape of the grammar
abbrev pub AreShaped : (ProgramTree → Type 0) → Type 0
AreShaped Is = (program : ProgramTree) → Is program → IsShaped program

-- that one is accepted, and this is its typed form
pub record IsFormOf (program : ProgramTree) (typed : TypedProgram) : Type 0 where
  pub plain : ProgramTree
  pub means : Means program plain
  pub accepted : IsAccepted plain
  pub form : typed ≡ typed_form plain
