use Rattle.std.proofs.Common.{refl, sym, ap, ◌∙◌}
use Rattle.std.specs.Prelude.{option_map}
use Rattle.chp_syntax.specs.View.{expression_of}
use Rattle.chp_syntax.specs.declared.tree.Expr.{Expr}
use Rattle.width_check.specs.Places.{own_width}
use Rattle.width_check.specs.Walk.{capped_width}
use Rattle.width_check.proofs.OwnWidths.{join_over, join_whole, comparison_one, chain_left, chain_link, chain_none, part_summed, link_passed}
use Rattle.width_check.proofs.scope.Scope.+own_width.Goals as goal

pub returns-then-width-gt64 : goal.returns-then-width-gt64
returns-then-width-gt64 t c =
    join_over _ _ _ _ _ c.loop-part.part-index _ _ _ _ _ c.in-Join.is c.deref-part-items.ensures.value c.loop-part-test.true c.part-item.is
    c.loop-part.invariant.sum c.own_width.ensures c.unwrap_or.ensures c.sum-width.ensures c.if-width-gt64.true

pub returns-then-compares : goal.returns-then-compares
returns-then-compares t c = comparison_one _ _ _ _ _ _ c.in-Chain.is c.deref-in-Chain.ensures.value (sym c.if-compares.ensures)

pub returns-in-Some : goal.returns-in-Some
returns-in-Some t c =
    let here = rw c.deref-in-Chain-2.ensures at c.in-Some.ensures in
    chain_left _ _ _ _ _ _ _ c.in-Chain.is c.deref-in-Chain.ensures.value (sym c.if-compares.ensures) here

pub returns-in-Some-own_width : goal.returns-in-Some-own_width
returns-in-Some-own_width t c =
    let none = rw c.deref-in-Chain-2.ensures at c.in_default.ensures in
    chain_link _ _ _ _ _ _ _ c.loop-link.link-index _ _ c.in-Chain.is c.deref-in-Chain.ensures.value c.deref-link-items.ensures.value
    (sym c.if-compares.ensures) none c.loop-link-test.true c.link-item.is c.loop-link.invariant c.in-Some-own_width.ensures

pub returns-after-loop-part : goal.returns-after-loop-part
returns-after-loop-part t c = join_whole _ _ _ _ _ c.loop-part.part-index _ c.in-Join.is c.deref-part-items.ensures.value c.loop-part-test.false
    c.loop-part.invariant.sum c.loop-part.invariant.most

pub returns-after-loop-link : goal.returns-after-loop-link
returns-after-loop-link t c =
    let none = rw c.deref-in-Chain-2.ensures at c.in_default.ensures in
    chain_none _ _ _ _ _ _ _ c.loop-link.link-index c.in-Chain.is c.deref-in-Chain.ensures.value c.deref-link-items.ensures.value (sym c.if-compares.ensures)
    none c.loop-link-test.false c.loop-link.invariant

pub loop-link-preserved : goal.loop-link-preserved
loop-link-preserved t c = link_passed _ _ c.loop-link.link-index _ _ _ c.loop-link-test.true c.link-item.is c.own_width-in-loop-link.ensures
    c.in_default-own_width.is c.loop-link.invariant

pub loop-part-preserved : goal.loop-part-preserved
loop-part-preserved t c = record {
  sum = part_summed _ _ c.loop-part.part-index _ _ _ _ _ _ c.loop-part-test.true c.part-item.is c.loop-part.invariant.sum c.own_width.ensures
      c.unwrap_or.ensures c.sum-width.ensures;
  most = c.if-width-gt64.false;
}

pub returns-in-Slice : goal.returns-in-Slice
returns-in-Slice t c = rw (c.in-Slice.is, c.slice_width.ensures) refl

pub returns-in-Whole : goal.returns-in-Whole
returns-in-Whole t c = rw (c.in-Whole.is, c.capped.ensures, c.width.ensures) refl

pub returns-in-Not : goal.returns-in-Not
returns-in-Not t c = c.own_width-in-Not.ensures
    ∙ ap (λ (x : Expr). option_map capped_width (own_width c.args.self.now.decls.now (expression_of x))) (c.deref.ensures)
    ∙ sym (ap (λ (x : Expr). option_map capped_width (own_width c.args.self.now.decls.now (expression_of x))) c.in-Not.is)

pub returns-in-Bit : goal.returns-in-Bit
returns-in-Bit t c = rw c.in-Bit.is refl
