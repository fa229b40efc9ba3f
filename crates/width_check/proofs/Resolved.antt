-- What is known when a program is refused, and when it isn't.
use Rattle.std.proofs.Common.{◌≡◌, List, [], ◌∷◌, Option, None, inl, inr, refl, sym, ap, ◌∙◌}
use Rattle.chp_base.specs.declared.fault.FaultCode.{FaultCode}
use Rattle.chp_base.specs.declared.fault.FaultCode.TheVariants as code
use Rattle.chp_base.specs.declared.fault.TextError.{TextError}
use Rattle.chp_base.specs.declared.fault.TextError.TheVariants.{Refused, NoMemory}
use Rattle.chp_base.specs.declared.span.Span.{Span}
use Rattle.chp_syntax.specs.declared.tree.Decl.{Decl}
use Rattle.chp_syntax.specs.Tokens.{IfRefused}
use Rattle.chp_syntax.specs.Trees.{ProgramTree}
use Rattle.width_check.specs.declared.causes.Cause.{Cause}
use Rattle.width_check.specs.declared.findings.Findings.{Findings}
use Rattle.width_check.specs.Faults.{naming_faults, HasNone, IsFirstFault}
use Rattle.chp_base.specs.declared.channel.Channel.{Channel}
use Rattle.width_check.specs.declared.typed.Var.{Var}
use Rattle.width_check.specs.Form.{channels_of, vars_of, process_form}
use Rattle.width_check.specs.Processes.{Process}
use Rattle.width_check.specs.Typing.{IsTyped}
use Rattle.width_check.specs.Refusing.{AreNone, IsFirstCause}
use Rattle.width_check.specs.Walk.{first_of, first_double, met_of, noted, no_findings, is_out_of_range, is_wide_first, earlier_of}
use Rattle.width_check.proofs.Judging.{AreFound, judged, unjudged}

abbrev cause : FaultCode → Option Span → Cause
cause c o = record { code = c; place = o }

abbrev pub double_cause : Option Span → List Cause
double_cause double = cause code.DoubleName double ∷ []

abbrev pub other_causes : Option Span → Findings → (width constant : Option Span) → List Cause
other_causes range f width constant = cause code.WidthRange range ∷ cause code.Undeclared f.undeclared ∷ cause code.WrongKind f.wrong_kind
    ∷ cause code.Direction f.direction ∷ cause code.BadSlice f.slice ∷ cause code.UnknownWidth f.widthless ∷ cause code.Width width
    ∷ cause code.ConstantTooWide constant ∷ []

-- what was found, over declarations and a scope that are those of the program
pub found : (p : ProgramTree) (ds es : List Decl) (double range wide : Option Span) (f : Findings) → ds ≡ p.decls → es ≡ ds → double ≡ first_double [] None ds →
    range ≡ first_of is_out_of_range (λ (d : Decl). d.width_at) None ds → f ≡ noted es no_findings (met_of es p.body) →
    wide ≡ first_of is_wide_first (λ (d : Decl). d.first_at) None ds → AreFound p double range f wide
found p ds es double range wide f is same doubles ranges findings firsts = record {
  doubles = doubles ∙ ap (first_double [] None) is;
  ranges = ranges ∙ ap (first_of is_out_of_range (λ (d : Decl). d.width_at) None) is;
  findings = findings ∙ ap (λ (xs : List Decl). noted xs no_findings (met_of xs p.body)) (same ∙ is);
  firsts = firsts ∙ ap (first_of is_wide_first (λ (d : Decl). d.first_at) None) is;
}

only_double : (p : ProgramTree) (double : Option Span) (c : FaultCode) (s : Span) → double ≡ first_double [] None p.decls →
    IsFirstCause (double_cause double) c s → IsFirstFault p naming_faults c s
only_double p double c s is (inl h) = judged p double _ _ _ c s (record { doubles = is; ranges = refl; findings = refl; firsts = refl }) (inl h)
only_double p double c s is (inr h) = absurd h.1

pub double_refused : (p : ProgramTree) (ds : List Decl) (double : Option Span) (e : TextError) → ds ≡ p.decls → double ≡ first_double [] None ds →
    IfRefused (λ f. IsFirstCause (double_cause double) f.code f.at) e → IfRefused (λ f. IsFirstFault p naming_faults f.code f.at) e
double_refused p ds double (Refused f) is doubles first = only_double p double f.code f.at (doubles ∙ ap (first_double [] None) is) first
double_refused p ds double (NoMemory m) is doubles first = tt

pub other_refused : (p : ProgramTree) (double range wide width constant : Option Span) (f : Findings) (e : TextError) → AreFound p double range f wide →
    AreNone (double_cause double) → width ≡ earlier_of f.leaf f.target → constant ≡ earlier_of f.number wide →
    IfRefused (λ g. IsFirstCause (other_causes range f width constant) g.code g.at) e → IfRefused (λ g. IsFirstFault p naming_faults g.code g.at) e
other_refused p double range wide width constant f (Refused g) are none widths constants first =
    judged p double range f wide g.code g.at are (inr (none.0, rw (widths, constants) at first))
other_refused p double range wide width constant f (NoMemory m) are none widths constants first = tt

pub accepted : (p : ProgramTree) (double range wide width constant : Option Span) (f : Findings) → AreFound p double range f wide →
    AreNone (double_cause double) → width ≡ earlier_of f.leaf f.target → constant ≡ earlier_of f.number wide → AreNone (other_causes range f width constant) →
    HasNone p naming_faults
accepted p double range wide width constant f are none widths constants rest = unjudged p double range f wide are (none.0, rw (widths, constants) at rest)

pub typed_parts : (p : ProgramTree) (ds es : List Decl) (cs : List Channel) (vs : List Var) (b : Process) → ds ≡ p.decls → es ≡ ds → cs ≡ channels_of ds →
    vs ≡ vars_of ds → b ≡ process_form es p.body → IsTyped (channels_of p.decls) (vars_of p.decls) (process_form p.decls p.body) → IsTyped cs vs b
typed_parts p ds es cs vs b is same channels vars body typed =
    let c : channels_of p.decls ≡ cs = sym (channels ∙ ap channels_of is) in
    let v : vars_of p.decls ≡ vs = sym (vars ∙ ap vars_of is) in
    let d : process_form p.decls p.body ≡ b = sym (body ∙ ap (λ (xs : List Decl). process_form xs p.body) (same ∙ is)) in
    rw (← c, ← v, ← d) typed
