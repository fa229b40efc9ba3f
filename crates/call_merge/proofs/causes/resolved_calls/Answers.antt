use Rattle.std.proofs.Common.{◌≡◌, sym, subst}
use Rattle.std.specs.Prelude.{IfOk, IfErr}
use Rattle.chp_syntax.specs.Shape.{IsShaped}
use Rattle.chp_syntax.specs.Tokens.{IfRefused}
use Rattle.chp_syntax.specs.Trees.{ProgramTree}
use Rattle.chp_syntax.specs.View.{program_tree}
use Rattle.width_check.specs.Calls.{IsCallFree}
use Rattle.width_check.specs.Faults.{naming_faults, HasNone, IsFirstFault}
use Rattle.width_check.specs.Form.{typed_form}
use Rattle.width_check.specs.Typed.{program_of}
use Rattle.call_merge.proofs.CallsAlone.{calls_shaped, calls_call_free, few_channels}
use Rattle.call_merge.proofs.causes.resolved_calls.Goals as goal

pub resolve-typed-requires-clause-few : goal.resolve-typed-requires-clause-few
resolve-typed-requires-clause-few c = few_channels c.args.program.now c.in_ok-calls.calls c.in_ok-calls.ensures c.requires.few

pub resolve-typed-requires-clause-shaped : goal.resolve-typed-requires-clause-shaped
resolve-typed-requires-clause-shaped c = subst (λ (p : ProgramTree). IsShaped p) (sym c.in_ok-calls.ensures)
    (calls_shaped (program_tree c.args.program.now) c.requires.shaped)

pub resolve-typed-requires-clause-call_free : goal.resolve-typed-requires-clause-call_free
resolve-typed-requires-clause-call_free c = subst (λ (p : ProgramTree). IsCallFree p) (sym c.in_ok-calls.ensures) (calls_call_free (program_tree c.args.program.now))

pub returns-clause-accepted : goal.returns-clause-accepted
returns-clause-accepted c = subst (λ (p : ProgramTree). IfOk c.resolve-typed.result (λ typed. HasNone p naming_faults)) c.in_ok-calls.ensures
    c.resolve-typed.ensures.accepted

pub returns-clause-form : goal.returns-clause-form
returns-clause-form c = subst (λ (p : ProgramTree). IfOk c.resolve-typed.result (λ typed. program_of typed ≡ typed_form p)) c.in_ok-calls.ensures
    c.resolve-typed.ensures.form

pub returns-clause-place : goal.returns-clause-place
returns-clause-place c = subst (λ (p : ProgramTree). IfErr c.resolve-typed.result (IfRefused (λ f. IsFirstFault p naming_faults f.code f.at))) c.in_ok-calls.ensures
    c.resolve-typed.ensures.place
