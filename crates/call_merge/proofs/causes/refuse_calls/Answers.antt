use Rattle.std.proofs.Common.{◌≡◌, ◌∙◌, refl, sym, ap, subst}
use Rattle.std.specs.Prelude.{Result, Ok}
use Rattle.std.specs.Result.{result_and}
use Rattle.chp_base.specs.declared.fault.FaultCode.TheVariants as code
use Rattle.chp_syntax.specs.Trees.{ProgramTree}
use Rattle.chp_syntax.specs.View.{program_tree}
use Rattle.width_check.specs.Processes.{Process}
use Rattle.width_check.specs.Sharing.{IsUnshared}
use Rattle.width_check.specs.Form.{typed_form}
use Rattle.width_check.specs.Typed.{TypedValue, program_of}
use Rattle.width_check.specs.View.{process_of}
use Rattle.call_merge.specs.CallSites.{calls_process, calls_program}
use Rattle.call_merge.proofs.CallEndings.{and_so, and_value, refused_names, shared_ends, shared_met}
use Rattle.call_merge.proofs.OnlySends.{variables_unshared, receives_unshared, typed_calls}
use Rattle.call_merge.proofs.causes.refuse_calls.Goals as goal

pub refuse_names-requires : goal.refuse_names-requires
refuse_names-requires c = refused_names (program_tree c.args.program.now) (calls_program (program_tree c.args.program.now)) c.in-Err-Refused.field-0
    c.in-Err-Refused.fault refl c.in-Err-Refused.field-0-is c.in-Err-Refused.ensures.place

-- the process of the calls, also where it was joined with another result
is_calls : {T E : Type 0} (p : ProgramTree) (r : Result T E) (x y : TypedValue) → Ok y ≡ result_and r (Ok x) → program_of x ≡ typed_form (calls_program p)
    → process_of y.body ≡ calls_process p
is_calls p r x y is form = ap (λ (t : TypedValue). process_of t.body) (and_value r x y is) ∙ typed_calls p (calls_program p) x refl form

pub refuse_shared-requires-clause-variables : goal.refuse_shared-requires-clause-variables
refuse_shared-requires-clause-variables c = subst (λ (p : Process). IsUnshared p code.SharedVariable) (sym
    (is_calls (program_tree c.args.program.now) c.refuse_uncalled.result c.in-Ok.typed c.in_ok-typed-in-Ok.typed c.in_ok-typed-in-Ok.ensures
    c.in-Ok.ensures.form))
    (variables_unshared (program_tree c.args.program.now))

pub refuse_shared-requires-clause-receives : goal.refuse_shared-requires-clause-receives
refuse_shared-requires-clause-receives c = subst (λ (p : Process). IsUnshared p code.SharedReceive) (sym
    (is_calls (program_tree c.args.program.now) c.refuse_uncalled.result c.in-Ok.typed c.in_ok-typed-in-Ok.typed c.in_ok-typed-in-Ok.ensures
    c.in-Ok.ensures.form))
    (receives_unshared (program_tree c.args.program.now))

pub returns-in_ok-typed-in-Ok-clause-meets : goal.returns-in_ok-typed-in-Ok-clause-meets
returns-in_ok-typed-in-Ok-clause-meets c =
    shared_met (program_tree c.args.program.now) (process_of c.in_ok-typed-in-Ok.typed.body) c.refuse_shared.result
    (is_calls (program_tree c.args.program.now) c.refuse_uncalled.result c.in-Ok.typed c.in_ok-typed-in-Ok.typed c.in_ok-typed-in-Ok.ensures
    c.in-Ok.ensures.form)
    c.in-Ok.ensures.accepted
    (and_so _ c.refuse_uncalled.result c.in-Ok.typed c.in_ok-typed-in-Ok.typed c.in_ok-typed-in-Ok.ensures c.refuse_uncalled.ensures.nested)
    (and_so _ c.refuse_uncalled.result c.in-Ok.typed c.in_ok-typed-in-Ok.typed c.in_ok-typed-in-Ok.ensures c.refuse_uncalled.ensures.unused)
    c.refuse_shared.ensures.none

pub returns-in_ok-typed-in-Ok-clause-refused : goal.returns-in_ok-typed-in-Ok-clause-refused
returns-in_ok-typed-in-Ok-clause-refused c =
    shared_ends (program_tree c.args.program.now) (process_of c.in_ok-typed-in-Ok.typed.body) c.refuse_shared.result
    (is_calls (program_tree c.args.program.now) c.refuse_uncalled.result c.in-Ok.typed c.in_ok-typed-in-Ok.typed c.in_ok-typed-in-Ok.ensures
    c.in-Ok.ensures.form)
    c.in-Ok.ensures.accepted
    (and_so _ c.refuse_uncalled.result c.in-Ok.typed c.in_ok-typed-in-Ok.typed c.in_ok-typed-in-Ok.ensures c.refuse_uncalled.ensures.nested)
    (and_so _ c.refuse_uncalled.result c.in-Ok.typed c.in_ok-typed-in-Ok.typed c.in_ok-typed-in-Ok.ensures c.refuse_uncalled.ensures.unused)
    c.refuse_shared.ensures.code c.refuse_shared.ensures.first
