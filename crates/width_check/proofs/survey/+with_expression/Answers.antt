use Rattle.std.proofs.Common.{refl, sym, ap, ◌∙◌, arith}
use Rattle.std.specs.Prelude.{option_map}
use Rattle.chp_syntax.specs.Trees.{number, whole, slice, bit}
use Rattle.chp_syntax.specs.View.{expression_of}
use Rattle.chp_syntax.specs.declared.tree.Expr.{Expr}
use Rattle.width_check.specs.Places.{own_width}
use Rattle.width_check.specs.Walk.{capped_width, join_parts}
use Rattle.width_check.proofs.OwnWidths.{part_summed, sum_done, join_own, from_none}
use Rattle.width_check.proofs.Scopes.{capped_most}
use Rattle.width_check.proofs.Strolls.{leaf_done, not_done, part_step, part_done, link_step, link_done, chain_own}
use Rattle.width_check.proofs.Swapping.{noted_parts}
use Rattle.width_check.proofs.survey.+with_expression.Goals as goal

pub loop-part-preserved : goal.loop-part-preserved
loop-part-preserved t c =
    let own = c.with_expression-surveyed.ensures.own refl in
    let total = noted_parts c.args.scope.now.decls.now c.args.findings (join_parts c.deref-part-items.result.now) in
    record {
      found = part_step c.args.scope.now.decls.now _ c.loop-part.part-index _ _ _ _ total _ _ c.loop-part-test.true c.part-item.is c.loop-part.invariant.found
          own c.span.ensures c.with_expression-surveyed.ensures.findings c.with_part-findings.ensures;
      own = part_summed c.args.scope.now.decls.now _ c.loop-part.part-index _ _ _ _ _ _ c.loop-part-test.true c.part-item.is c.loop-part.invariant.own own
          c.unwrap_or-in-loop-part.ensures c.sum-own.ensures;
      most = capped_most _ _ c.sum-own.ensures;
    }

pub loop-link-preserved : goal.loop-link-preserved
loop-link-preserved t c =
    link_step c.args.scope.now.decls.now _ _ c.loop-link.link-index _ _ _ _ c.loop-link-test.true c.link-item.is c.loop-link.invariant
    c.with_expression-in-loop-link.ensures.findings

pub returns-after-loop-part-clause-findings : goal.returns-after-loop-part-clause-findings
returns-after-loop-part-clause-findings t c =
    let own = sum_done c.args.scope.now.decls.now _ c.loop-part.part-index _ _ c.loop-part-test.false c.loop-part.invariant.own c.loop-part.invariant.most in
    part_done c.args.scope.now.decls.now _ _ _ _ c.loop-part.part-index _ _ _ _ _ c.args.wanted c.in-Join.is c.deref-part-items.ensures.value
    c.loop-part-test.false c.loop-part.invariant.found own c.unwrap_or-in-Join.ensures c.with_leaf.ensures

pub returns-after-loop-part-clause-own : goal.returns-after-loop-part-clause-own
returns-after-loop-part-clause-own t c = λ none.
    let own = sum_done c.args.scope.now.decls.now _ c.loop-part.part-index _ _ c.loop-part-test.false c.loop-part.invariant.own c.loop-part.invariant.most in
    join_own c.args.scope.now.decls.now _ _ _ _ _ c.in-Join.is c.deref-part-items.ensures.value own

pub returns-after-loop-link-clause-findings : goal.returns-after-loop-link-clause-findings
returns-after-loop-link-clause-findings t c =
    link_done c.args.scope.now.decls.now _ _ _ _ _ _ _ _ _ c.loop-link.link-index _ _ _ _ _ _ _ _ _ _ c.in-Chain.is
    c.deref-in-Chain.ensures.value c.compares-comparing.ensures
    c.deref-in-Chain-2.ensures c.deref-in-Chain-3.ensures.value c.lead_to-lead.ensures c.with_chain-findings.ensures
    c.deref-in-Chain-4.ensures (rw c.known.ensures at c.with_expression-surveyed-in-Chain.ensures.findings)
    (λ none. c.with_expression-surveyed-in-Chain.ensures.own (c.known.ensures ∙ none)) c.width-members.ensures c.unwrap_or-width.ensures
    c.deref-link-items.ensures.value c.loop-link-test.false c.loop-link.invariant

pub returns-after-loop-link-clause-own : goal.returns-after-loop-link-clause-own
returns-after-loop-link-clause-own t c = λ none.
    c.chain_width.ensures
    ∙ chain_own c.args.scope.now.decls.now _ _ _ _ _ _ _ _ _ _ _ _ _ c.in-Chain.is c.deref-in-Chain.ensures.value c.compares-comparing.ensures
    c.deref-in-Chain-2.ensures c.deref-in-Chain-3.ensures.value c.lead_to-lead.ensures c.deref-in-Chain-4.ensures
    (λ unknown. c.with_expression-surveyed-in-Chain.ensures.own (c.known.ensures ∙ unknown)) c.width-members.ensures none

pub loop-link-init : goal.loop-link-init
loop-link-init t c = refl

pub loop-part-init : goal.loop-part-init
loop-part-init t c = record { found = refl; own = from_none _; most = omega arith }

pub returns-in-Bit-clause-own : goal.returns-in-Bit-clause-own
returns-in-Bit-clause-own t c = λ none. rw c.in-Bit.is refl

pub returns-in-Number-clause-own : goal.returns-in-Number-clause-own
returns-in-Number-clause-own t c = λ none. rw c.in-Number.is refl

pub returns-in-Slice-clause-own : goal.returns-in-Slice-clause-own
returns-in-Slice-clause-own t c = λ none. rw (c.in-Slice.is, c.slice_width-own.ensures) refl

pub returns-in-Whole-clause-own : goal.returns-in-Whole-clause-own
returns-in-Whole-clause-own t c = λ none. rw (c.in-Whole.is, c.capped-own.ensures, c.width.ensures) refl

pub returns-in-Not-clause-own : goal.returns-in-Not-clause-own
returns-in-Not-clause-own t c = λ none. c.with_expression.ensures.own none
    ∙ ap (λ (x : Expr). option_map capped_width (own_width c.args.scope.now.decls.now (expression_of x))) c.deref.ensures
    ∙ sym (ap (λ (x : Expr). option_map capped_width (own_width c.args.scope.now.decls.now (expression_of x))) c.in-Not.is)

pub returns-in-Number-clause-findings : goal.returns-in-Number-clause-findings
returns-in-Number-clause-findings t c = leaf_done c.args.scope.now.decls.now c.args.e.now (number c.in-Number.value c.in-Number.at) c.args.findings
    c.with_number.result 0 c.unwrap_or.result c.args.wanted (ap expression_of c.in-Number.is) refl c.unwrap_or.ensures c.with_number.ensures

pub returns-in-Whole-clause-findings : goal.returns-in-Whole-clause-findings
returns-in-Whole-clause-findings t c = leaf_done c.args.scope.now.decls.now c.args.e.now (whole c.in-Whole.of) c.args.findings c.with_whole.result
    c.capped-own.result c.unwrap_or-in-Whole.result c.args.wanted (ap expression_of c.in-Whole.is) (c.capped-own.ensures ∙ ap capped_width c.width.ensures)
    c.unwrap_or-in-Whole.ensures c.with_whole.ensures

pub returns-in-Slice-clause-findings : goal.returns-in-Slice-clause-findings
returns-in-Slice-clause-findings t c = leaf_done c.args.scope.now.decls.now c.args.e.now (slice c.in-Slice.of c.in-Slice.high c.in-Slice.low c.in-Slice.at)
    c.args.findings c.with_slice.result c.slice_width-own.result c.unwrap_or-in-Slice.result c.args.wanted (ap expression_of c.in-Slice.is)
    c.slice_width-own.ensures c.unwrap_or-in-Slice.ensures c.with_slice.ensures

pub returns-in-Bit-clause-findings : goal.returns-in-Bit-clause-findings
returns-in-Bit-clause-findings t c = leaf_done c.args.scope.now.decls.now c.args.e.now (bit c.in-Bit.of c.in-Bit.place c.in-Bit.at) c.args.findings
    c.with_bit.result 1 c.unwrap_or-in-Bit.result c.args.wanted (ap expression_of c.in-Bit.is) refl c.unwrap_or-in-Bit.ensures c.with_bit.ensures

pub returns-in-Not-clause-findings : goal.returns-in-Not-clause-findings
returns-in-Not-clause-findings t c = not_done c.args.scope.now.decls.now c.args.e.now c.in-Not.inner c.in-Not.at c.deref.result.now c.args.findings _
    c.args.wanted c.in-Not.is c.deref.ensures c.with_expression.ensures.findings

pub with_whole-requires : goal.with_whole-requires
with_whole-requires t c = c.capped-own.ensures ∙ ap capped_width c.width.ensures
