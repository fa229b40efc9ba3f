-- What the passes over a program find, as its faults.
use Rattle.std.proofs.Common.{◌≡◌, sym, ap, subst}
use Rattle.chp_base.specs.declared.fault.Fault.{Fault}
use Rattle.chp_syntax.specs.Trees.{ProgramTree}
use Rattle.width_check.specs.Faults.{naming_faults, HasNone, IsFirstFault}
use Rattle.width_check.specs.Form.{typed_form}
use Rattle.width_check.specs.Processes.{TypedProgram}
use Rattle.width_check.specs.Sharing.{sharing_faults, IsFirstSharedFault}
use Rattle.command_steps.specs.Steps.{IsFaulty, of_names, of_sharing}

pub named_fault : (p : ProgramTree) (f : Fault) → f.other ≡ f.at → IsFirstFault p naming_faults f.code f.at → IsFaulty p f
named_fault p f other first = subst (λ o. IsFaulty p (record { code = f.code; at = f.at; other = o })) (sym other) (of_names first)

same_body : (p : ProgramTree) (t : TypedProgram) → t ≡ typed_form p → t.body ≡ (typed_form p).body
same_body p t form = ap (λ (q : TypedProgram). q.body) form

pub shared_fault : (p : ProgramTree) (t : TypedProgram) (f : Fault) → t ≡ typed_form p → HasNone p naming_faults →
    IsFirstSharedFault t.body sharing_faults f.code f.at f.other → IsFaulty p f
shared_fault p t f form none first = of_sharing none (subst (λ b. IsFirstSharedFault b sharing_faults f.code f.at f.other) (same_body p t form) first)
