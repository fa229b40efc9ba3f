-- A program with procedures, beside the checked program that its net with shared bodies carries.
use Rattle.std.specs.Prelude.{◌≡◌}
use Rattle.chp_syntax.specs.Shape.{IsShaped}
use Rattle.chp_syntax.specs.Trees.{ProgramTree}
use Rattle.width_check.specs.Accepted.{IsAccepted}
use Rattle.width_check.specs.Form.{typed_form}
use Rattle.width_check.specs.Processes.{TypedProgram}
use Rattle.call_merge.specs.CallFaults.{MeetsCalling}
use Rattle.call_merge.specs.Inlining.{IsInlined}

-- Nothing of procedures and calls is refused of the first program; with each call replaced by its procedure's body it
-- is accepted, and the second program is its typed form then.
pub record AreInlined (P : ProgramTree) (p : TypedProgram) : Type 0 where
  pub tree : ProgramTree
  pub inlined : IsInlined P tree
  pub meets : MeetsCalling P
  pub shaped : IsShaped tree
  pub accepted : IsAccepted tree
  pub typed : p ≡ typed_form tree
