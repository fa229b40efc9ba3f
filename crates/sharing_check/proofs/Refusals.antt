-- What is refused for the first of the causes of sharing, and what is known where nothing is.
use Rattle.std.specs.Prelude.{◌≡◌, List, ◌∷◌, Result, Ok, Err, IfErr}
use Rattle.std.proofs.Common.{inl, inr}
use Rattle.chp_base.specs.declared.fault.FaultCode.{FaultCode}
use Rattle.chp_base.specs.declared.fault.TextError.{TextError}
use Rattle.chp_base.specs.declared.fault.TextError.TheVariants.{Refused, NoMemory}
use Rattle.chp_syntax.specs.Tokens.{IfRefused}
use Rattle.width_check.specs.Processes.{Process}
use Rattle.width_check.specs.Sharing.{MeetsSharing, IsUnshared, IsFirstShared, IsFirstSharedFault}

-- a refusal for a cause, where nothing is shared for the causes before it
pub refused_first : (b : Process) (c : FaultCode) (causes : List FaultCode) (e : TextError) → IfRefused (λ f. f.code ≡ c) e →
    IfRefused (λ f. IsFirstShared b c f.at f.other) e → IfRefused (λ f. IsFirstSharedFault b (c ∷ causes) f.code f.at f.other) e
refused_first b c causes (Refused f) cause place = inl (cause, place)
refused_first b c causes (NoMemory m) cause place = tt

pub ends_first : {X : Type 0} (b : Process) (c : FaultCode) (causes : List FaultCode) (r : Result X TextError) → IfErr r (IfRefused (λ f. f.code ≡ c)) →
    IfErr r (IfRefused (λ f. IsFirstShared b c f.at f.other)) → IfErr r (IfRefused (λ f. IsFirstSharedFault b (c ∷ causes) f.code f.at f.other))
ends_first b c causes (Ok x) cause place = tt
ends_first b c causes (Err e) cause place = refused_first b c causes e cause place

pub refused_later : (b : Process) (c : FaultCode) (causes : List FaultCode) (e : TextError) → IsUnshared b c →
    IfRefused (λ f. IsFirstSharedFault b causes f.code f.at f.other) e → IfRefused (λ f. IsFirstSharedFault b (c ∷ causes) f.code f.at f.other) e
refused_later b c causes (Refused f) none fault = inr (none, fault)
refused_later b c causes (NoMemory m) none fault = tt

-- who meets the rule isn't refused
pub not_met : (b : Process) (c : FaultCode) (e : TextError) → (MeetsSharing b → IsUnshared b c) → IfRefused (λ f. IsFirstShared b c f.at f.other) e →
    IfRefused (λ f. ¬ MeetsSharing b) e
not_met b c (Refused f) asked place = λ meets. asked meets place.shared.a place.shared.b place.shared.parallel place.shared.clash
not_met b c (NoMemory m) asked place = tt
