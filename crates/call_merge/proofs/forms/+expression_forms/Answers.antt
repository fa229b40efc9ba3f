use Rattle.std.proofs.Common.{ap, ◌∙◌}
use Rattle.chp_syntax.specs.declared.tree.Expr.{Expr}
use Rattle.chp_syntax.specs.View.{expression_of}
use Rattle.call_merge.specs.CallForms.{capped_forms, expression_forms}
use Rattle.call_merge.proofs.FormSteps.{join_counted, chain_counted}
use Rattle.call_merge.proofs.forms.+expression_forms.Goals as goal

pub returns-after-loop-part : goal.returns-after-loop-part
returns-after-loop-part t c = join_counted c.args.e.now c.in-Join.parts c.in-Join.at c.deref-part-items.result.now c.loop-part.part-index c.loop-part.forms
    c.in-Join.is c.deref-part-items.ensures.value c.loop-part-test.false c.loop-part.invariant.small c.loop-part.invariant.sum

pub returns-after-loop-link : goal.returns-after-loop-link
returns-after-loop-link t c = chain_counted c.args.e.now c.in-Chain.first c.in-Chain.rest c.in-Chain.at c.deref-link-items.result.now c.loop-link.link-index
    c.expression_forms-in-Chain.result _ c.loop-link.forms c.in-Chain.is c.deref-link-items.ensures.value c.loop-link-test.false c.loop-link.invariant.small
    (c.expression_forms-in-Chain.ensures ∙ ap (λ (x : Expr). capped_forms (expression_forms (expression_of x))) c.deref-in-Chain.ensures)
    c.saturating_add-forms-in-Chain.ensures c.loop-link.invariant.sum
