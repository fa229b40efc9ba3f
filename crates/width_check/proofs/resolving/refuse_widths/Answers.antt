use Rattle.std.proofs.Common.{[], None, refl, sym, ap, ◌∙◌}
use Rattle.std.proofs.lemmas.Result.{IfOk-weaker, IfErr-weaker}
use Rattle.chp_syntax.specs.View.{program_tree}
use Rattle.width_check.specs.Walk.{first_double}
use Rattle.width_check.proofs.Resolved.{other_refused, accepted, found}
use Rattle.width_check.proofs.resolving.refuse_widths.Goals as goal

pub returns-clause-accepted : goal.returns-clause-accepted
returns-clause-accepted c =
    let are = found (program_tree c.args.program.now) c.as_slice-decls.result.now c.args.scope.now.decls.now None c.first_out_of_range.result
    c.first_wide.result c.survey-found.result c.as_slice-decls.ensures.value (c.requires.scope ∙ sym c.as_slice-decls.ensures.value)
    (sym (ap (first_double [] None) c.as_slice-decls.ensures.value ∙ c.requires.distinct)) c.first_out_of_range.ensures c.survey-found.ensures
    c.first_wide.ensures in
    IfOk-weaker _ _ _ (λ done none. accepted (program_tree c.args.program.now) None c.first_out_of_range.result c.first_wide.result c.earlier_of.result
    c.earlier_of-2.result c.survey-found.result are (refl, tt) c.earlier_of.ensures c.earlier_of-2.ensures none) c.refuse.ensures.none

pub returns-clause-place : goal.returns-clause-place
returns-clause-place c =
    let are = found (program_tree c.args.program.now) c.as_slice-decls.result.now c.args.scope.now.decls.now None c.first_out_of_range.result
    c.first_wide.result c.survey-found.result c.as_slice-decls.ensures.value (c.requires.scope ∙ sym c.as_slice-decls.ensures.value)
    (sym (ap (first_double [] None) c.as_slice-decls.ensures.value ∙ c.requires.distinct)) c.first_out_of_range.ensures c.survey-found.ensures
    c.first_wide.ensures in
    IfErr-weaker _ _ _ (λ e first. other_refused (program_tree c.args.program.now) None c.first_out_of_range.result c.first_wide.result c.earlier_of.result
    c.earlier_of-2.result c.survey-found.result e are (refl, tt) c.earlier_of.ensures c.earlier_of-2.ensures first) c.refuse.ensures.first
