-- The first of some causes that holds anywhere.
use Rattle.std.specs.Prelude.{◌≡◌, ◌⊎◌, List, [], ◌∷◌, Some, None}
use Rattle.chp_base.specs.declared.span.Span.{Span}
use Rattle.chp_base.specs.declared.fault.FaultCode.{FaultCode}
use Rattle.width_check.specs.declared.causes.Cause.{Cause}

-- none of the causes has a span
abbrev pub AreNone : List Cause → Type 0
AreNone [] = Unit {0}
AreNone (c ∷ cs) = (c.place ≡ None) × AreNone cs

-- the first cause that has a span, with its code and that span
abbrev pub IsFirstCause : List Cause → FaultCode → Span → Type 0
IsFirstCause [] code at = ⊥
IsFirstCause (c ∷ cs) code at = ((code ≡ c.code) × (c.place ≡ Some at)) ⊎ ((c.place ≡ None) × IsFirstCause cs code at)
