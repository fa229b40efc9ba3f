use Rattle.std.proofs.Common.{List, [], ◌∷◌, ◌++◌, map, take, sym, ap, ◌∙◌}
use Rattle.std.proofs.lemmas.List.{map_more, flat_map_more}
use Rattle.chp_syntax.specs.declared.tree.Ident.{Ident}
use Rattle.chp_syntax.specs.Trees.{Procedure}
use Rattle.chp_syntax.specs.View.{procedure_of, statement_of}
use Rattle.call_merge.specs.CallSites.{calls_in, nested_calls}
use Rattle.call_merge.proofs.sites.nested_calls.Goals as goal

pub loop-procedure-preserved : goal.loop-procedure-preserved
loop-procedure-preserved c =
    let ps = c.args.procs.now in
    let i = c.loop-procedure.procedure-index in
    let q = c.procedure-item.result in
    let before = map procedure_of (take i ps) in
    c.in_ok-note_calls.ensures
    ∙ (ap (λ (xs : List Ident). xs ++ calls_in (statement_of q.body)) c.loop-procedure.invariant
    ∙ (flat_map_more (λ (p : Procedure). calls_in p.body) [] before (procedure_of q)
    ∙ ap nested_calls (ap (λ x. before ++ procedure_of x ∷ []) c.procedure-item.is ∙ sym (map_more procedure_of ps i q c.loop-procedure-test.true))))
