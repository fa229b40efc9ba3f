-- For which procedures and calls a program is refused, and at which places.
use Rattle.std.specs.Prelude.{◌≡◌, ◌≢◌, ℕ, ◌<◌, ◌⊎◌, List, [], ◌∷◌, slice_get, Contains, Some}
use Rattle.chp_base.specs.declared.span.Span.{Span}
use Rattle.chp_base.specs.declared.fault.FaultCode.{FaultCode}
use Rattle.chp_base.specs.declared.fault.FaultCode.TheVariants as code
use Rattle.chp_syntax.specs.declared.tree.Ident.{Ident}
use Rattle.chp_syntax.specs.Trees.{Procedure, ProgramTree}
use Rattle.width_check.specs.Order.{IsFirst}
use Rattle.width_check.specs.Sharing.{IsFirstShared, IsUnshared}
use Rattle.call_merge.specs.CallSites.{nested_calls, all_calls, calls_process}

-- a procedure has the name of an earlier one
pub record IsDoubleProcedure (p : ProgramTree) (s : Span) : Type 0 where
  pub earlier : ℕ
  pub later : ℕ
  pub order : earlier < later
  pub first : Procedure
  pub second : Procedure
  pub first_is : slice_get p.procs earlier ≡ Some first
  pub second_is : slice_get p.procs later ≡ Some second
  pub same : first.name.name ≡ second.name.name
  pub at : s ≡ second.name.at

-- a procedure's body holds a call
pub record IsNestedCall (p : ProgramTree) (s : Span) : Type 0 where
  pub call : Ident
  pub among : Contains (nested_calls p.procs) call
  pub at : s ≡ call.at

-- no procedure has a called name
pub record IsUnknownCall (p : ProgramTree) (s : Span) : Type 0 where
  pub call : Ident
  pub among : Contains (all_calls p) call
  pub unknown : (q : Procedure) → Contains p.procs q → q.name.name ≢ call.name
  pub at : s ≡ call.at

-- no call names the procedure
pub record IsUnusedProcedure (p : ProgramTree) (s : Span) : Type 0 where
  pub procedure : Procedure
  pub among : Contains p.procs procedure
  pub unused : (call : Ident) → Contains (all_calls p) call → call.name ≢ procedure.name.name
  pub at : s ≡ procedure.name.at

-- the cause holds at the place
abbrev pub CallFaultAt : ProgramTree → FaultCode → Span → Type 0
CallFaultAt p code.DoubleProcedure s = IsDoubleProcedure p s
CallFaultAt p code.NestedCall s = IsNestedCall p s
CallFaultAt p code.UnknownProcedure s = IsUnknownCall p s
CallFaultAt p code.UnusedProcedure s = IsUnusedProcedure p s
CallFaultAt p _ s = ⊥

-- the causes with one place, in the order in which they are tested
abbrev pub call_faults : List FaultCode
call_faults = code.DoubleProcedure ∷ code.NestedCall ∷ code.UnknownProcedure ∷ code.UnusedProcedure ∷ []

-- none of these causes holds anywhere
abbrev pub LacksCallFaults : ProgramTree → List FaultCode → Type 0
LacksCallFaults p [] = Unit {0}
LacksCallFaults p (c ∷ cs) = ((s : Span) → ¬ CallFaultAt p c s) × LacksCallFaults p cs

-- The first of the causes that holds anywhere, at its first place; where none of them does, two parallel calls of one
-- procedure, at the pair of them that is reported.
abbrev pub IsFirstCallFault : ProgramTree → List FaultCode → FaultCode → Span → Span → Type 0
IsFirstCallFault p [] c s t = (c ≡ code.SharedProcedure) × IsFirstShared (calls_process p) code.SharedSend s t
IsFirstCallFault p (d ∷ ds) c s t =
    ((c ≡ d) × IsFirst (CallFaultAt p d) s × (t ≡ s))
    ⊎ (((u : Span) → ¬ CallFaultAt p d u) × IsFirstCallFault p ds c s t)

-- each call is of one procedure, each procedure is called, not from a procedure, and not twice at a time
pub record MeetsCalling (p : ProgramTree) : Type 0 where
  pub named : LacksCallFaults p call_faults
  pub apart : IsUnshared (calls_process p) code.SharedSend
