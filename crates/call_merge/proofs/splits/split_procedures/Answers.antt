use Rattle.std.proofs.Common.{◌≤◌, List, map, length, sym, ap, ◌∙◌, subst}
use Rattle.chp_syntax.specs.declared.tree.Decl.{Decl}
use Rattle.chp_syntax.specs.declared.tree.Proc.{Proc}
use Rattle.chp_syntax.specs.View.{procedure_of}
use Rattle.call_merge.specs.CallSplits.{split_procedures, own_names}
use Rattle.call_merge.proofs.SplitSteps.{readers_of, procedure_split, procedure_placed, procedure_fits, procedures_split}
use Rattle.call_merge.proofs.splits.split_procedures.Goals as goal

pub split-requires : goal.split-requires
split-requires c = procedure_fits c.args.decls.now c.deref-procedure-items.result.now c.loop-procedure.procedure-index c.procedure-item.result
    c.loop-procedure.place _ (length c.args.vars.now) c.loop-procedure-test.true c.procedure-item.is c.loop-procedure.invariant.place
    (subst (λ (xs : List Proc). length (readers_of c.args.decls.now (map procedure_of xs)) ≤ length c.args.vars.now) (sym c.deref-procedure-items.ensures.value)
    (subst (λ (ds : List Decl). length (readers_of ds (map procedure_of c.args.program.now.procs.items)) ≤ length c.args.vars.now) (sym c.requires.same)
    c.requires.room))

pub loop-procedure-preserved : goal.loop-procedure-preserved
loop-procedure-preserved c = record {
  made = procedure_split c.args.decls.now (own_names c.args.vars.now) c.deref-procedure-items.result.now c.loop-procedure.procedure-index
      c.procedure-item.result
      c.body_of.result c.in_ok-body.body.value _ _ _ _ _ c.loop-procedure-test.true c.procedure-item.is c.loop-procedure.invariant.made
      (c.body_of.ensures.name ∙ c.in_ok-name.ensures) (c.body_of.ensures.body ∙ c.into_inner.ensures)
      c.in_ok-body.ensures.made c.in_ok-body.ensures.place c.in_ok-push.ensures.items;
  place = procedure_placed c.args.decls.now c.deref-procedure-items.result.now c.loop-procedure.procedure-index c.procedure-item.result _ _ _
      c.loop-procedure-test.true c.procedure-item.is c.loop-procedure.invariant.place c.in_ok-body.ensures.place;
}

pub returns : goal.returns
returns c =
    procedures_split c.args.decls.now (own_names c.args.vars.now) c.deref-procedure-items.result.now c.loop-procedure.procedure-index
    c.loop-procedure.made.items c.loop-procedure.place _ c.loop-procedure-test.false c.loop-procedure.invariant.made
    ∙ (ap (λ (ds : List Decl). split_procedures ds (own_names c.args.vars.now) 0 (map procedure_of c.deref-procedure-items.result.now)) c.requires.same
    ∙ ap (λ (xs : List Proc). split_procedures c.args.program.now.decls.items (own_names c.args.vars.now) 0 (map procedure_of xs))
    c.deref-procedure-items.ensures.value)
