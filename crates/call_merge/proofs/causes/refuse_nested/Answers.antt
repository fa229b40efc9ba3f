use Rattle.std.proofs.Common.{List, map, ap, ◌∙◌}
use Rattle.std.proofs.lemmas.Result.{IfErr-weaker, on_ok_weaker}
use Rattle.chp_base.specs.declared.fault.FaultCode.TheVariants as code
use Rattle.chp_syntax.specs.declared.tree.Proc.{Proc}
use Rattle.chp_syntax.specs.View.{procedure_of, program_tree}
use Rattle.width_check.proofs.Least.{IsLeast}
use Rattle.call_merge.specs.CallEnds.{IfRefusedCall, IsRefusedFor, IsNoCount}
use Rattle.call_merge.specs.CallFaults.{IsNestedCall}
use Rattle.call_merge.specs.CallSites.{nested_calls}
use Rattle.call_merge.proofs.FirstCalls.{IsRefusedAt, nested_least, nowhere, refused_for, refused_alone}
use Rattle.call_merge.proofs.causes.refuse_nested.Goals as goal
use Rattle.call_merge.proofs.causes.refuse_nested.Goals.{After-drop-nested}

least : (c : After-drop-nested) → IsLeast (λ s. IsNestedCall (program_tree c.args.program.now) s) c.first_place.result
least c = nested_least (program_tree c.args.program.now) c.deref-2.result.now c.first_place.result (c.deref-2.ensures.value ∙ (c.in_ok-nested.ensures
    ∙ ap (λ (qs : List Proc). nested_calls (map procedure_of qs)) c.deref.ensures.value)) c.first_place.ensures

pub returns-clause-none : goal.returns-clause-none
returns-clause-none c = on_ok_weaker c.refuse.result (λ none. nowhere (λ s. IsNestedCall (program_tree c.args.program.now) s) c.first_place.result (least c)
    none) c.refuse.ensures.none

pub returns-clause-first : goal.returns-clause-first
returns-clause-first c = IfErr-weaker c.refuse.result (IsRefusedAt code.NestedCall c.first_place.result)
    (IfRefusedCall (IsRefusedFor (program_tree c.args.program.now) code.NestedCall))
    (λ e h. refused_for (program_tree c.args.program.now) code.NestedCall c.first_place.result e (least c) h) c.refuse.ensures.some

pub returns-clause-fault : goal.returns-clause-fault
returns-clause-fault c = IfErr-weaker c.refuse.result (IsRefusedAt code.NestedCall c.first_place.result) IsNoCount
    (λ e h. refused_alone code.NestedCall c.first_place.result e h) c.refuse.ensures.some
