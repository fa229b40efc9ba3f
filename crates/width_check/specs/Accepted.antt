-- Which programs without procedures and calls are accepted. Of one with procedures this is said of the program in which
-- each call is a copy of its procedure's body.
use Rattle.chp_syntax.specs.Trees.{ProgramTree}
use Rattle.width_check.specs.Calls.{IsCallFree}
use Rattle.width_check.specs.Faults.{naming_faults, HasNone}
use Rattle.width_check.specs.Form.{typed_form}
use Rattle.width_check.specs.Sharing.{MeetsSharing}

-- there are no procedures and no calls, no name, kind or width is at fault, and the sharing rule holds
pub record IsAccepted (p : ProgramTree) : Type 0 where
  pub call_free : IsCallFree p
  pub named : HasNone p naming_faults
  pub sharing : MeetsSharing (typed_form p).body
