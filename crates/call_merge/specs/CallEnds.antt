-- How the inlining of a program's calls ends where it is refused.
use Rattle.std.specs.Prelude.{◌≡◌, ℕ}
use Rattle.chp_base.specs.declared.fault.Fault.{Fault}
use Rattle.chp_base.specs.declared.fault.FaultCode.{FaultCode}
use Rattle.chp_syntax.specs.Trees.{ProgramTree}
use Rattle.width_check.specs.Order.{IsFirst}
use Rattle.call_merge.specs.declared.error.CallError.{CallError}
use Rattle.call_merge.specs.declared.error.CallError.TheVariants.{Refused, TooManyForms, NoMemory}
use Rattle.call_merge.specs.CallFaults.{CallFaultAt}

-- P of the fault, where that is the cause
abbrev pub IfRefusedCall : (Fault → Type 0) → CallError → Type 0
IfRefusedCall P (Refused f) = P f
IfRefusedCall P (TooManyForms n) = Unit {0}
IfRefusedCall P (NoMemory e) = Unit {0}

-- P of the number of forms, where that is the cause
abbrev pub IfTooManyForms : (ℕ → Type 0) → CallError → Type 0
IfTooManyForms P (Refused f) = Unit {0}
IfTooManyForms P (TooManyForms n) = P n
IfTooManyForms P (NoMemory e) = Unit {0}

-- a refusal for the cause, at its first place
pub record IsRefusedFor (p : ProgramTree) (c : FaultCode) (f : Fault) : Type 0 where
  pub cause : f.code ≡ c
  pub first : IsFirst (CallFaultAt p c) f.at
  pub other : f.other ≡ f.at

-- the cause is a fault, or want of memory
abbrev pub IsNoCount : CallError → Type 0
IsNoCount (TooManyForms n) = ⊥
IsNoCount _ = Unit {0}
