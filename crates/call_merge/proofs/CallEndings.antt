-- What is refused, as the first fault of procedures and calls.
use Rattle.std.proofs.Common.{◌≡◌, ◌⊎◌, ℕ, sym, ◌∙◌, subst, inl, inr}
use Rattle.std.specs.Prelude.{IfErr, OnOk, Result, Ok, Err}
use Rattle.std.specs.Result.{result_and}
use Rattle.chp_base.specs.declared.fault.Fault.{Fault}
use Rattle.chp_base.specs.declared.fault.FaultCode.TheVariants as code
use Rattle.chp_base.specs.declared.span.Span.{Span}
use Rattle.chp_base.specs.declared.fault.TextError.{TextError}
use Rattle.chp_base.specs.declared.fault.TextError.TheVariants.{Refused as Declined}
use Rattle.chp_syntax.specs.Tokens.{IfRefused}
use Rattle.chp_syntax.specs.Trees.{ProgramTree}
use Rattle.width_check.specs.Faults.{IsDouble, IsUndeclared, naming_faults, HasNone, IsFirstFault}
use Rattle.width_check.specs.Order.{IsFirst}
use Rattle.width_check.specs.Processes.{Process}
use Rattle.width_check.specs.Sharing.{IsFirstShared, IsUnshared}
use Rattle.call_merge.specs.declared.error.CallError.{CallError}
use Rattle.call_merge.specs.declared.error.CallError.TheVariants.{Refused, TooManyForms, NoMemory}
use Rattle.call_merge.specs.CallSites.{calls_program, calls_process}
use Rattle.call_merge.specs.CallFaults.{IsNestedCall, IsUnusedProcedure, call_faults, IsFirstCallFault, MeetsCalling}
use Rattle.call_merge.specs.CallEnds.{IfRefusedCall, IfTooManyForms, IsRefusedFor, IsNoCount}
use Rattle.call_merge.proofs.CallRefusals.{names_alone, refused_double, refused_unknown, no_double, no_unknown, meets_calling}

abbrev pub IsFirstOf : ProgramTree → Fault → Type 0
IsFirstOf p f = IsFirstCallFault p call_faults f.code f.at f.other

refused_as : (P Q : Fault → Type 0) (e : CallError) → ((f : Fault) → P f → Q f) → IfRefusedCall P e → IfRefusedCall Q e
refused_as P Q (Refused f) step h = step f h
refused_as P Q (TooManyForms n) step h = tt
refused_as P Q (NoMemory e) step h = tt

refused_both : (P Q R : Fault → Type 0) (e : CallError) → ((f : Fault) → P f → Q f → R f) → IfRefusedCall P e → IfRefusedCall Q e → IfRefusedCall R e
refused_both P Q R (Refused f) step h k = step f h k
refused_both P Q R (TooManyForms n) step h k = tt
refused_both P Q R (NoMemory e) step h k = tt

pub nested_first : (p : ProgramTree) (e : CallError) → ((t : Span) → ¬ IsDouble (calls_program p) t) → IfRefusedCall (IsRefusedFor p code.NestedCall) e
    → IfRefusedCall (IsFirstOf p) e
nested_first p e none h =
    refused_as (IsRefusedFor p code.NestedCall) (IsFirstOf p) e (λ f k. inr (no_double p none, inl (k.cause, k.first, k.other))) h

pub unused_first : (p : ProgramTree) (e : CallError) → HasNone (calls_program p) naming_faults → ((t : Span) → ¬ IsNestedCall p t)
    → IfRefusedCall (IsRefusedFor p code.UnusedProcedure) e → IfRefusedCall (IsFirstOf p) e
unused_first p e none flat h =
    refused_as (IsRefusedFor p code.UnusedProcedure) (IsFirstOf p) e
    (λ f k. inr (no_double p none.0, inr (flat, inr (no_unknown p none flat, inl (k.cause, k.first, k.other))))) h

pub shared_first : (p : ProgramTree) (e : CallError) → HasNone (calls_program p) naming_faults → ((t : Span) → ¬ IsNestedCall p t)
    → ((t : Span) → ¬ IsUnusedProcedure p t) → IfRefusedCall (λ f. f.code ≡ code.SharedProcedure) e
    → IfRefusedCall (λ f. IsFirstShared (calls_process p) code.SharedSend f.at f.other) e → IfRefusedCall (IsFirstOf p) e
shared_first p e none flat used cause first =
    refused_both (λ f. f.code ≡ code.SharedProcedure) (λ f. IsFirstShared (calls_process p) code.SharedSend f.at f.other) (IsFirstOf p) e
    (λ f c s. inr (no_double p none.0, inr (flat, inr (no_unknown p none flat, inr (used, (c, s)))))) cause first

-- the names of the program of calls alone are refused

pub double_first : (p : ProgramTree) (f : Fault) → IsFirstFault (calls_program p) naming_faults f.code f.at → f.code ≡ code.DoubleName
    → IsFirstCallFault p call_faults code.DoubleProcedure f.at f.at
double_first p f h double = by_cause (names_alone p f.code f.at h)
  where
    by_cause : ((f.code ≡ code.DoubleName) × IsFirst (IsDouble (calls_program p)) f.at)
        ⊎ ((f.code ≡ code.Undeclared) × ((t : Span) → ¬ IsDouble (calls_program p) t) × IsFirst (IsUndeclared (calls_program p)) f.at)
        → IsFirstCallFault p call_faults code.DoubleProcedure f.at f.at
    by_cause (inl k) = refused_double p f.at k.1
    by_cause (inr k) = absurd (let no : code.DoubleName ≡ code.Undeclared = sym double ∙ k.0 in cc no)

abbrev pub IsUndeclaredAlone : ProgramTree → Fault → Type 0
IsUndeclaredAlone p f = ((t : Span) → ¬ IsDouble (calls_program p) t) × IsFirst (IsUndeclared (calls_program p)) f.at

pub other_first : (p : ProgramTree) (f : Fault) → IsFirstFault (calls_program p) naming_faults f.code f.at → ¬ (f.code ≡ code.DoubleName)
    → IsUndeclaredAlone p f
other_first p f h other = by_cause (names_alone p f.code f.at h)
  where
    by_cause : ((f.code ≡ code.DoubleName) × IsFirst (IsDouble (calls_program p)) f.at)
        ⊎ ((f.code ≡ code.Undeclared) × ((t : Span) → ¬ IsDouble (calls_program p) t) × IsFirst (IsUndeclared (calls_program p)) f.at) → IsUndeclaredAlone p f
    by_cause (inl k) = absurd (other k.0)
    by_cause (inr k) = (k.1, k.2)

pub unknown_first : (p : ProgramTree) (f : Fault) → IsUndeclaredAlone p f → ((t : Span) → ¬ IsNestedCall p t)
    → IsFirstCallFault p call_faults code.UnknownProcedure f.at f.at
unknown_first p f h flat = refused_unknown p f.at h.0 flat h.1

-- what is known behind a call whose result was joined with a value

pub and_value : {T U E : Type 0} (r : Result T E) (x y : U) → Ok y ≡ result_and r (Ok x) → y ≡ x
and_value (Ok t) x y is = cc is
and_value (Err e) x y is = absurd (cc is)

pub and_so : {T U E : Type 0} (P : Type 0) (r : Result T E) (x y : U) → Ok y ≡ result_and r (Ok x) → OnOk r P → P
and_so P (Ok t) x y is p = p
and_so P (Err e) x y is p = absurd (cc is)

-- what comes of the sharing of calls

pub shared_ends : {X : Type 0} (p : ProgramTree) (body : Process) (r : Result X CallError) → body ≡ calls_process p → HasNone (calls_program p) naming_faults
    → ((t : Span) → ¬ IsNestedCall p t) → ((t : Span) → ¬ IsUnusedProcedure p t)
    → IfErr r (IfRefusedCall (λ f. f.code ≡ code.SharedProcedure))
    → IfErr r (IfRefusedCall (λ f. IsFirstShared body code.SharedSend f.at f.other)) → IfErr r (IfRefusedCall (IsFirstOf p))
shared_ends p body (Ok x) is none flat used cause first = tt
shared_ends p body (Err e) is none flat used cause first =
    shared_first p e none flat used cause (subst (λ (q : Process). IfRefusedCall (λ f. IsFirstShared q code.SharedSend f.at f.other) e) is first)

pub shared_met : {X : Type 0} (p : ProgramTree) (body : Process) (r : Result X CallError) → body ≡ calls_process p → HasNone (calls_program p) naming_faults
    → ((t : Span) → ¬ IsNestedCall p t) → ((t : Span) → ¬ IsUnusedProcedure p t) → OnOk r (IsUnshared body code.SharedSend) → OnOk r (MeetsCalling p)
shared_met p body (Ok x) is none flat used apart = meets_calling p none flat used (subst (λ (q : Process). IsUnshared q code.SharedSend) is apart)
shared_met p body (Err e) is none flat used apart = tt

pub no_count : (P : ℕ → Type 0) (e : CallError) → IsNoCount e → IfTooManyForms P e
no_count P (Refused f) h = tt
no_count P (TooManyForms n) h = absurd h
no_count P (NoMemory e) h = tt

pub refused_names : (p tree : ProgramTree) (e : TextError) (f : Fault) → tree ≡ calls_program p → e ≡ Declined f
    → IfRefused (λ g. IsFirstFault tree naming_faults g.code g.at) e → IsFirstFault (calls_program p) naming_faults f.code f.at
refused_names p tree e f is cause place =
    let here : IfRefused (λ g. IsFirstFault tree naming_faults g.code g.at) (Declined f) =
    subst (λ (x : TextError). IfRefused (λ g. IsFirstFault tree naming_faults g.code g.at) x) cause place in
    subst (λ (q : ProgramTree). IsFirstFault q naming_faults f.code f.at) is here
