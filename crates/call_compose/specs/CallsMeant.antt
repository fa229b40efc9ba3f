-- What the laws of shared bodies ask of calls, of the typed form of a program with procedures.
use Rattle.std.specs.Prelude.{ℕ, ◌<◌, List, length}
use Rattle.chp_syntax.specs.declared.tree.Decl.{Decl}
use Rattle.chp_syntax.specs.Trees.{ProgramTree}
use Rattle.call_map.specs.Calling.{OfAtoms}
use Rattle.call_map.specs.CallNet.{CallProgram}
use Rattle.call_map.specs.CallsApart.{Calls, CallsApart}
use Rattle.call_merge.specs.CallFaults.{MeetsCalling}
use Rattle.call_compose.specs.CalledForm.{call_program}

-- all that a program calls are its own procedures, each is called, and no two parallel branches call the same one
pub record AreCallsMeant (C : CallProgram) : Type 0 where
  pub atoms : OfAtoms C.body
  pub declared : (q : ℕ) → Calls C.body q → q < length C.procs
  pub called : (q : ℕ) → q < length C.procs → Calls C.body q
  pub apart : CallsApart C.body

-- It is so where nothing of procedures and calls is refused.
abbrev pub CallsMeant : Type 0
CallsMeant = (p : ProgramTree) (vars : List Decl) → MeetsCalling p → AreCallsMeant (call_program p vars)
