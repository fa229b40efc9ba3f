use Rattle.std.proofs.Common.{◌≡◌, rules, ap, sym, ◌∙◌, subst, slice_index, arith}
use Rattle.std.proofs.lemmas.List.{get_or_read}
use Rattle.width_check.specs.declared.typed.TExpr.{TExpr, the_lemmas}
use Rattle.width_check.specs.Processes.{Formula, Formulas}
use Rattle.width_check.specs.View.{formula_of}
use Rattle.width_check.specs.Values.{widths_of, value, joined_value, chained_value, IsWellFormed, AreWellFormed}
use Rattle.width_check.proofs.Rows.{parts_of, part_at, no_more_parts, no_more_links, joined_parts, chained_links}
use Rattle.width_check.proofs.Bounds.{join_begins, part_fits, part_joins, no_more_than, some_power, value_fits, width_some, width_most, link_fits, link_more}
use Rattle.width_check.proofs.Shapes.{read_formed, not_formed, first_formed, left_formed, right_formed, part_formed, link_formed, some_bits, few_bits, inverted_value, compared_value}
use Rattle.width_check.proofs.evaluate.+value.Goals as goal

pub loop-part-init : goal.loop-part-init
loop-part-init t c =
    let facts = subst (λ (f : Formula). IsWellFormed f) (joined_parts _ _ c.in-Join.is) c.requires in
    rw c.deref-part-items.ensures.value (record {
      joined = omega arith;
      formed = facts.2;
      most = join_begins (slice_index c.args.store.now) _ facts.1 facts.2;
      widths = facts.1;
    })

pub appended-number-requires-clause-back : goal.appended-number-requires-clause-back
appended-number-requires-clause-back t c =
    part_fits (slice_index c.args.store.now) c.deref-part-items.result.now c.loop-part.part-index _ _ _ c.loop-part-test.true c.part-item.is
    c.loop-part.invariant.formed c.width_of.ensures c.value-in-loop-part.ensures

pub appended-number-requires-clause-fits : goal.appended-number-requires-clause-fits
appended-number-requires-clause-fits t c =
    let joins = part_joins (slice_index c.args.store.now) c.deref-part-items.result.now c.loop-part.part-index _ c.loop-part.number _ _ c.loop-part-test.true
    c.part-item.is c.width_of.ensures c.value-in-loop-part.ensures in
    let below = no_more_than _ _ _ _ (sym joins ∙ c.loop-part.invariant.joined) (some_power _) in
    omega (arith, below, c.loop-part.invariant.most)

pub loop-part-preserved : goal.loop-part-preserved
loop-part-preserved t c =
    let e = part_at c.deref-part-items.result.now c.loop-part.part-index _ c.loop-part-test.true c.part-item.is in
    let rest = subst (λ (ps : Formulas). AreWellFormed ps) e c.loop-part.invariant.formed in
    let joins = part_joins (slice_index c.args.store.now) c.deref-part-items.result.now c.loop-part.part-index _ c.loop-part.number _ _ c.loop-part-test.true
    c.part-item.is c.width_of.ensures c.value-in-loop-part.ensures in
    record {
      joined = rw c.appended-number.ensures (sym joins ∙ c.loop-part.invariant.joined);
      formed = rest.1;
      most = c.loop-part.invariant.most;
      widths = omega (arith, ap widths_of e, c.loop-part.invariant.widths);
    }

pub returns-after-loop-part : goal.returns-after-loop-part
returns-after-loop-part t c =
    let none = no_more_parts c.deref-part-items.result.now c.loop-part.part-index c.loop-part-test.false in
    let store = slice_index c.args.store.now in
    let whole : value store (formula_of c.args.e.now) ≡ joined_value store (parts_of c.deref-part-items.result.now) =
    ap (value store) (joined_parts _ _ c.in-Join.is) ∙ ap (λ es. joined_value store (parts_of es)) (sym c.deref-part-items.ensures.value) in
    let last = rw none at c.loop-part.invariant.joined in
    omega (arith, last, whole)

pub loop-link-init : goal.loop-link-init
loop-link-init t c =
    let store = slice_index c.args.store.now in
    let is = chained_links _ _ _ c.in-Chain.is in
    let facts = subst (λ (f : Formula). IsWellFormed f) is c.requires in
    rw (c.deref-link-items.ensures.value, c.width_of-width.ensures, c.value-number.ensures, c.deref-in-Chain.ensures, c.deref-in-Chain-2.ensures) (record {
      chained = sym (ap (value store) is);
      formed = facts.2;
      small = value_fits store (formula_of c.in-Chain.first.value) facts.0;
      some = width_some (formula_of c.in-Chain.first.value) facts.0;
      most = width_most (formula_of c.in-Chain.first.value) facts.0;
    })

pub operated-number-requires-clause-right : goal.operated-number-requires-clause-right
operated-number-requires-clause-right t c =
    link_fits (slice_index c.args.store.now) c.deref-link-items.result.now c.loop-link.link-index _ _ _ c.loop-link-test.true c.link-item.is
    c.loop-link.invariant.formed c.value-in-loop-link.ensures

pub loop-link-preserved : goal.loop-link-preserved
loop-link-preserved t c =
    let more = link_more (slice_index c.args.store.now) c.deref-link-items.result.now c.loop-link.link-index _ _ c.loop-link.number _ _ _ c.loop-link-test.true
    c.link-item.is c.value-in-loop-link.ensures c.operated-number.ensures c.loop-link.invariant.chained c.loop-link.invariant.formed
    c.loop-link.invariant.small in
    record {
      chained = more.chained;
      formed = more.formed;
      small = more.small;
      some = c.loop-link.invariant.some;
      most = c.loop-link.invariant.most;
    }

pub returns-in-Number : goal.returns-in-Number
returns-in-Number t c = c.value.ensures ∙ sym (ap (λ (x : TExpr). value (slice_index c.args.store.now) (formula_of x)) c.in-Number.is)

pub returns-in-Not : goal.returns-in-Not
returns-in-Not t c = inverted_value (slice_index c.args.store.now) _ _ _ _ _ _ _ c.in-Not.is c.deref.ensures c.deref-in-Not.ensures
    c.width_of-in-Not.ensures c.greatest.ensures c.value-in-Not.ensures

pub returns-in-Compare : goal.returns-in-Compare
returns-in-Compare t c = c.operated.ensures ∙ (compared_value (slice_index c.args.store.now) _ _ _ _ _ _ _ _ _ _ c.in-Compare.is
    c.deref-in-Compare.ensures c.deref-in-Compare-2.ensures c.deref-in-Compare-3.ensures c.width_of-in-Compare.ensures c.value-in-Compare.ensures
    c.value-in-Compare-2.ensures c.requires).whole

pub returns-after-loop-link : goal.returns-after-loop-link
returns-after-loop-link t c = ap (chained_value (slice_index c.args.store.now) c.width_of-width.result c.loop-link.number)
    (sym (no_more_links c.deref-link-items.result.now c.loop-link.link-index c.loop-link-test.false)) ∙ c.loop-link.invariant.chained

pub overflow_add-high : goal.overflow_add-high
overflow_add-high t c = omega (arith, (read_formed _ _ _ _ _ c.in-Read.is c.requires).1)

pub overflow_sub-high : goal.overflow_sub-high
overflow_sub-high t c = omega (arith, (read_formed _ _ _ _ _ c.in-Read.is c.requires).0)

pub operated-requires-clause-some : goal.operated-requires-clause-some
operated-requires-clause-some t c = (compared_value (slice_index c.args.store.now) _ _ _ _ _ _ _ _ _ _ c.in-Compare.is
    c.deref-in-Compare.ensures c.deref-in-Compare-2.ensures c.deref-in-Compare-3.ensures c.width_of-in-Compare.ensures c.value-in-Compare.ensures
    c.value-in-Compare-2.ensures c.requires).some

pub operated-requires-clause-most : goal.operated-requires-clause-most
operated-requires-clause-most t c = (compared_value (slice_index c.args.store.now) _ _ _ _ _ _ _ _ _ _ c.in-Compare.is
    c.deref-in-Compare.ensures c.deref-in-Compare-2.ensures c.deref-in-Compare-3.ensures c.width_of-in-Compare.ensures c.value-in-Compare.ensures
    c.value-in-Compare-2.ensures c.requires).most

pub operated-requires-clause-left : goal.operated-requires-clause-left
operated-requires-clause-left t c = (compared_value (slice_index c.args.store.now) _ _ _ _ _ _ _ _ _ _ c.in-Compare.is
    c.deref-in-Compare.ensures c.deref-in-Compare-2.ensures c.deref-in-Compare-3.ensures c.width_of-in-Compare.ensures c.value-in-Compare.ensures
    c.value-in-Compare-2.ensures c.requires).left

pub operated-requires-clause-right : goal.operated-requires-clause-right
operated-requires-clause-right t c = (compared_value (slice_index c.args.store.now) _ _ _ _ _ _ _ _ _ _ c.in-Compare.is
    c.deref-in-Compare.ensures c.deref-in-Compare-2.ensures c.deref-in-Compare-3.ensures c.width_of-in-Compare.ensures c.value-in-Compare.ensures
    c.value-in-Compare-2.ensures c.requires).right

pub operated-number-requires-clause-some : goal.operated-number-requires-clause-some
operated-number-requires-clause-some t c = c.loop-link.invariant.some

pub operated-number-requires-clause-most : goal.operated-number-requires-clause-most
operated-number-requires-clause-most t c = c.loop-link.invariant.most

pub operated-number-requires-clause-left : goal.operated-number-requires-clause-left
operated-number-requires-clause-left t c = c.loop-link.invariant.small

pub appended-number-requires-clause-width : goal.appended-number-requires-clause-width
appended-number-requires-clause-width t c =
    few_bits c.part-item.result _ (part_formed _ c.loop-part.part-index _ c.loop-part-test.true c.part-item.is c.loop-part.invariant.formed)
    c.width_of.ensures

pub greatest-requires-clause-some : goal.greatest-requires-clause-some
greatest-requires-clause-some t c = some_bits c.deref.result.now _ (not_formed _ _ _ c.in-Not.is c.deref.ensures c.requires) c.width_of-in-Not.ensures

pub greatest-requires-clause-most : goal.greatest-requires-clause-most
greatest-requires-clause-most t c = few_bits c.deref.result.now _ (not_formed _ _ _ c.in-Not.is c.deref.ensures c.requires) c.width_of-in-Not.ensures

pub low_bits-requires : goal.low_bits-requires
low_bits-requires t c = omega (arith, (read_formed _ _ _ _ _ c.in-Read.is c.requires).1)

pub value-requires-in-loop-part : goal.value-requires-in-loop-part
value-requires-in-loop-part t c = (
  search (rules, the_lemmas, get_or_read),
  part_formed _ c.loop-part.part-index _ c.loop-part-test.true c.part-item.is c.loop-part.invariant.formed,
)

pub value-requires-in-loop-link : goal.value-requires-in-loop-link
value-requires-in-loop-link t c = (
  search (rules, the_lemmas, get_or_read),
  link_formed _ _ c.loop-link.link-index _ c.loop-link-test.true c.link-item.is c.loop-link.invariant.formed,
)

pub value-requires-in-Not : goal.value-requires-in-Not
value-requires-in-Not t c = (search (rules, the_lemmas, get_or_read), not_formed _ _ _ c.in-Not.is c.deref-in-Not.ensures c.requires)

pub value-requires-in-Compare : goal.value-requires-in-Compare
value-requires-in-Compare t c = (search (rules, the_lemmas, get_or_read), left_formed _ _ _ _ _ c.in-Compare.is c.deref-in-Compare-2.ensures c.requires)

pub value-requires-in-Compare-2 : goal.value-requires-in-Compare-2
value-requires-in-Compare-2 t c = (search (rules, the_lemmas, get_or_read), right_formed _ _ _ _ _ c.in-Compare.is c.deref-in-Compare-3.ensures c.requires)

pub width_of-requires : goal.width_of-requires
width_of-requires t c = part_formed _ c.loop-part.part-index _ c.loop-part-test.true c.part-item.is c.loop-part.invariant.formed

pub width_of-width-requires : goal.width_of-width-requires
width_of-width-requires t c = first_formed _ _ _ _ c.in-Chain.is c.deref-in-Chain.ensures c.requires

pub width_of-requires-in-Not : goal.width_of-requires-in-Not
width_of-requires-in-Not t c = not_formed _ _ _ c.in-Not.is c.deref.ensures c.requires

pub width_of-requires-in-Compare : goal.width_of-requires-in-Compare
width_of-requires-in-Compare t c = left_formed _ _ _ _ _ c.in-Compare.is c.deref-in-Compare.ensures c.requires

pub value-number-requires : goal.value-number-requires
value-number-requires t c = (search (rules, the_lemmas, get_or_read), first_formed _ _ _ _ c.in-Chain.is c.deref-in-Chain-2.ensures c.requires)
