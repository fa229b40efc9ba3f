use Rattle.std.proofs.Common.{◌≡◌, ◌∙◌, ap}
use Rattle.std.proofs.lemmas.Result.{IfOk-at_ok}
use Rattle.chp_syntax.specs.declared.tree.Expr.{Expr}
use Rattle.chp_syntax.specs.View.{expression_of}
use Rattle.slack_buffer.proofs.Copies.{join_copied, chain_copied}
use Rattle.slack_buffer.proofs.copy.+copied_expression.Goals as goal

pub returns-after-loop-part : goal.returns-after-loop-part
returns-after-loop-part t c = join_copied c.args.e.now c.in-Join.parts c.loop-part.made c.in-Join.at c.deref-part-items.result.now c.loop-part.part-index
    c.in-Join.is c.deref-part-items.ensures.value c.loop-part-test.false c.loop-part.invariant

pub returns-after-loop-link : goal.returns-after-loop-link
returns-after-loop-link t c =
    chain_copied c.args.e.now c.in-Chain.first c.in_ok-front-in-Chain.front c.in-Chain.rest c.loop-link.made c.in-Chain.at c.deref-link-items.result.now
    c.loop-link.link-index c.in-Chain.is c.deref-link-items.ensures.value c.loop-link-test.false
    (IfOk-at_ok (λ (m : Expr). expression_of m ≡ expression_of c.deref-in-Chain.result.now) c.in_ok-front-in-Chain.ensures
    c.copied_expression-in-Chain.ensures ∙ ap expression_of c.deref-in-Chain.ensures) c.loop-link.invariant
