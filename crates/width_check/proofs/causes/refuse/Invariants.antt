use Rattle.std.proofs.Common.{drop}
use Rattle.chp_base.specs.declared.span.Span.{Span}
use Rattle.chp_base.specs.declared.fault.FaultCode.{FaultCode}
use Rattle.width_check.specs.Refusing.{AreNone, IsFirstCause}
use Rattle.width_check.proofs.causes.refuse.Given as goal

abbrev pub invariant-loop-cause : goal.invariant-loop-cause
invariant-loop-cause l = record {
  first : (code : FaultCode) (at : Span) → IsFirstCause (drop l.cause-index l.causes) code at → IsFirstCause l.causes code at;
  none : AreNone (drop l.cause-index l.causes) → AreNone l.causes;
}
