use Rattle.std.proofs.lemmas.Bool.Decides.{Decides-eqb}
use Rattle.std.proofs.Common.{vec_len, length, ap, sym, ◌∙◌, arith}
use Rattle.width_check.specs.View.{formula_of}
use Rattle.width_check.proofs.Rows.{chained_links}
use Rattle.width_check.proofs.OverVars.{join_step, join_measured, chain_begun, chain_step, chain_measured}
use Rattle.width_check.proofs.Widths.{not_over, not_zero, links_counted}
use Rattle.width_check.proofs.Shapes.{number_over, read_over, read_not_over, compared_over_sides, compared_not_over, inner_over, inner_not_over}
use Rattle.width_check.proofs.fitting.+width_over.Goals as goal

pub loop-part-init : goal.loop-part-init
loop-part-init t c = record {
  some = record { sum = omega arith; most = omega arith; same = record { whole = λ all. all; rest = λ all. all } };
  none = tt;
}

pub loop-part-preserved : goal.loop-part-preserved
loop-part-preserved t c =
    join_step _ _ c.loop-part.part-index c.part-item.result _ _ _ c.loop-part-test.true c.part-item.is c.loop-part.invariant c.width_over.ensures.some
    c.width_over.ensures.none c.joined_width-width.ensures.some c.joined_width-width.ensures.none

pub returns-after-loop-part-clause-some : goal.returns-after-loop-part-clause-some
returns-after-loop-part-clause-some t c =
    (join_measured _ _ _ _ c.loop-part.part-index _ _ c.in-Join.is c.deref-part-items.ensures.value c.loop-part-test.false c.loop-part.invariant
    c.some_width.ensures.some c.some_width.ensures.none).some

pub returns-after-loop-part-clause-none : goal.returns-after-loop-part-clause-none
returns-after-loop-part-clause-none t c =
    (join_measured _ _ _ _ c.loop-part.part-index _ _ c.in-Join.is c.deref-part-items.ensures.value c.loop-part-test.false c.loop-part.invariant
    c.some_width.ensures.some c.some_width.ensures.none).none

pub loop-link-init : goal.loop-link-init
loop-link-init t c = chain_begun _ _ _ _ _ _ _ c.in-Chain.is c.deref-in-Chain.ensures c.width_over-width.ensures.none

pub loop-link-preserved : goal.loop-link-preserved
loop-link-preserved t c =
    chain_step _ _ _ _ _ _ c.loop-link.link-index c.link-item.result _ _ _ _ c.in-Chain.is c.deref-in-Chain.ensures c.deref-link-items.ensures.value
    c.loop-link-test.true c.link-item.is c.width_over-width.ensures.some c.loop-link.invariant c.width_over-in-loop-link.ensures.some
    c.width_over-in-loop-link.ensures.none c.operated_width-width.ensures.some c.operated_width-width.ensures.none

pub returns-in-Not-clause-some : goal.returns-in-Not-clause-some
returns-in-Not-clause-some t c = inner_over _ _ _ _ _ c.in-Not.is c.deref.ensures c.width_over-in-Not.ensures.some

pub returns-in-Not-clause-none : goal.returns-in-Not-clause-none
returns-in-Not-clause-none t c = inner_not_over _ _ _ _ _ c.in-Not.is c.deref.ensures c.width_over-in-Not.ensures.none

pub returns-in-Compare-clause-some : goal.returns-in-Compare-clause-some
returns-in-Compare-clause-some t c = compared_over_sides _ _ _ _ _ _ _ _ _ _ c.in-Compare.is c.deref-in-Compare.ensures c.deref-in-Compare-2.ensures
    c.width_over-in-Compare.ensures.some c.width_over-in-Compare-2.ensures.some c.compared_width.ensures.some

pub returns-in-Compare-clause-none : goal.returns-in-Compare-clause-none
returns-in-Compare-clause-none t c = compared_not_over _ _ _ _ _ _ _ _ _ _ c.in-Compare.is c.deref-in-Compare.ensures c.deref-in-Compare-2.ensures
    c.width_over-in-Compare.ensures.some c.width_over-in-Compare.ensures.none c.width_over-in-Compare-2.ensures.some
    c.width_over-in-Compare-2.ensures.none c.compared_width.ensures.none

pub returns-in-Number-clause-some : goal.returns-in-Number-clause-some
returns-in-Number-clause-some t c = number_over _ _ _ _ _ (ap formula_of c.in-Number.is) c.width.ensures c.in-Number.bits.some c.in-Number.bits.most
    c.in-Number.bits.fits

pub returns-then-has_bits-clause-some : goal.returns-then-has_bits-clause-some
returns-then-has_bits-clause-some t c = read_over _ _ _ _ _ _ _ c.in-Read.is c.has_bits.ensures c.if-has_bits.true

pub returns-else-has_bits-clause-none : goal.returns-else-has_bits-clause-none
returns-else-has_bits-clause-none t c = read_not_over _ _ _ _ _ _ _ c.in-Read.is c.has_bits.ensures c.if-has_bits.false

pub returns-then-is_empty-clause-none : goal.returns-then-is_empty-clause-none
returns-then-is_empty-clause-none t c =
    let is = chained_links _ _ _ c.in-Chain.is in
    let count = links_counted c.in-Chain.rest.items in
    not_over _ _ _ is (λ u h. let some = h.formed.1 in
    absurd (omega (arith, count, some, (Decides-eqb (vec_len c.in-Chain.rest) 0).0 (sym c.is_empty.ensures ∙ c.if-is_empty.true))))

pub returns-else-is_empty-clause-some : goal.returns-else-is_empty-clause-some
returns-else-is_empty-clause-some t c =
    let some = not_zero (vec_len c.in-Chain.rest) (sym c.if-is_empty.false ∙ c.is_empty.ensures) in
    (chain_measured _ _ _ _ _ _ c.loop-link.link-index _ _ c.in-Chain.is c.deref-in-Chain.ensures c.deref-link-items.ensures.value c.loop-link-test.false
    c.width_over-width.ensures.some c.loop-link.invariant (omega (arith, some, ap length c.deref-link-items.ensures.value))).some

pub returns-else-is_empty-clause-none : goal.returns-else-is_empty-clause-none
returns-else-is_empty-clause-none t c =
    let some = not_zero (vec_len c.in-Chain.rest) (sym c.if-is_empty.false ∙ c.is_empty.ensures) in
    (chain_measured _ _ _ _ _ _ c.loop-link.link-index _ _ c.in-Chain.is c.deref-in-Chain.ensures c.deref-link-items.ensures.value c.loop-link-test.false
    c.width_over-width.ensures.some c.loop-link.invariant (omega (arith, some, ap length c.deref-link-items.ensures.value))).none
