use Rattle.std.proofs.Common.{List, drop, map, arith, refl, sym, ap}
use Rattle.std.proofs.lemmas.Result.{IfOk-weaker, IfErr-weaker}
use Rattle.chp_syntax.specs.declared.token.TokenKind.TheVariants.{Sign}
use Rattle.chp_syntax.specs.declared.token.Mark.TheVariants as mark
use Rattle.chp_syntax.specs.Trees.{Expression, no_parts, and_part}
use Rattle.chp_syntax.specs.Grammar.{comparison_of}
use Rattle.chp_syntax.specs.Parts.{here, level_operator}
use Rattle.chp_syntax.specs.declared.tree.Expr.{Expr}
use Rattle.chp_syntax.specs.View.{covered_of, expression_of, parts_of, onto}
use Rattle.chp_syntax.proofs.Ands.{made_good, made_on, made_bad, well_on, exit_of}
use Rattle.chp_syntax.proofs.Steps.{by_part, part_bad, good_done, exactly_good, operator_good, exit, not_so, fault_by}
use Rattle.chp_syntax.proofs.Group.{group_bad_first, members_begun, members_added, members_bad, members_end, whole_bad_first, whole_bad, whole_good}
use Rattle.chp_syntax.proofs.Expressions.{grouping_of, linked_none, linked_added, linked_bad, linked_end, comparison_start, sum_seam, compared_seam, right_seam, uncompared, with_comparison, plain_start, tilde_start, plain_seam, tilde_seam, inner_seam, numbered_start, number_seam, joined_start, curly_1, curly_2, curly_3, rounded_start, round_1, round_2, round_3, primary_bad, parts_group}
use Rattle.chp_syntax.proofs.parser.expression.+expression_parts.Goals as goal

pub links-loop-op-init : goal.links-loop-op-init
links-loop-op-init t c =
    record {
      within = c.requires;
      kept = omega arith;
      read = rw c.new.ensures.items (linked_none c.args.level (drop c.args.at.now c.args.tokens.now));
    }

pub links-returns-in_err-add_link-clause-bad : goal.links-returns-in_err-add_link-clause-bad
links-returns-in_err-add_link-clause-bad t c =
    let sign = operator_good (level_operator c.args.level) c.args.tokens.now c.loop-op.at c.in-Some.op (sym c.in-Some.ensures) in
    exit_of c.operand-right.result c.from_residual.result c.in_err-add_link.field-0.0 c.from_residual.ensures.1 c.in_err-add_link.ensures.fault
    c.operand-right.ensures.bad (linked_bad c.args.level c.loop-op.invariant.read sign)

pub links-loop-op-preserved : goal.links-loop-op-preserved
links-loop-op-preserved t c =
    let sign = operator_good (level_operator c.args.level) c.args.tokens.now c.loop-op.at c.in-Some.op (sym c.in-Some.ensures) in
    record {
      within = c.operand-right.ensures.within;
      kept = omega (arith, c.loop-op.invariant.kept, well_on _ c.operand-right.result c.in_ok-add_link.ensures.last c.operand-right.ensures.moved);
      read = linked_added c.args.level c.operand-right.result c.loop-op.invariant.read sign c.in_ok-add_link.ensures.links c.in_ok-add_link.ensures.last
          c.operand-right.ensures.good;
    }

pub links-returns-clause-good : goal.links-returns-clause-good
links-returns-clause-good t c =
    linked_end c.args.level c.loop-op.invariant.read (sym c.in_default.ensures)

pub chained-returns-in_err-first-clause-bad : goal.chained-returns-in_err-first-clause-bad
chained-returns-in_err-first-clause-bad t c =
    exit c.from_residual.result c.in_err-first.field-0.0 c.from_residual.ensures.1 (whole_bad_first (grouping_of c.args.level)) c.in_err-first.ensures.bad

pub chained-returns-clause-moved : goal.chained-returns-clause-moved
chained-returns-clause-moved t c =
    made_on _ c.links-rest.result c.chain.result c.chain.ensures.done c.links-rest.ensures.kept (λ k. omega (arith, k, c.in_ok-first.ensures.moved))

pub chained-returns-clause-good : goal.chained-returns-clause-good
chained-returns-clause-good t c =
    made_good c.links-rest.result c.chain.result c.chain.ensures.done c.links-rest.ensures.good
    (λ r x e good. rw e (whole_good (grouping_of c.args.level) c.in_ok-first.ensures.good good))

pub chained-returns-clause-bad : goal.chained-returns-clause-bad
chained-returns-clause-bad t c =
    made_bad c.links-rest.result c.chain.result c.chain.ensures.fault c.links-rest.ensures.bad
    (λ bad. whole_bad (grouping_of c.args.level) c.in_ok-first.ensures.good bad)

pub operand-returns-in-Sum-clause-good : goal.operand-returns-in-Sum-clause-good
operand-returns-in-Sum-clause-good t c = rw c.in-Sum.is c.negated.ensures.good

pub operand-returns-in-Sum-clause-bad : goal.operand-returns-in-Sum-clause-bad
operand-returns-in-Sum-clause-bad t c = rw c.in-Sum.is c.negated.ensures.bad

pub operand-returns-in-Conjunction-clause-good : goal.operand-returns-in-Conjunction-clause-good
operand-returns-in-Conjunction-clause-good t c = rw c.in-Conjunction.is c.comparison.ensures.good

pub operand-returns-in-Conjunction-clause-bad : goal.operand-returns-in-Conjunction-clause-bad
operand-returns-in-Conjunction-clause-bad t c = rw c.in-Conjunction.is c.comparison.ensures.bad

pub operand-returns-in-Exclusive-clause-good : goal.operand-returns-in-Exclusive-clause-good
operand-returns-in-Exclusive-clause-good t c = rw c.in-Exclusive.is c.chained.ensures.good

pub operand-returns-in-Exclusive-clause-bad : goal.operand-returns-in-Exclusive-clause-bad
operand-returns-in-Exclusive-clause-bad t c = rw c.in-Exclusive.is c.chained.ensures.bad

pub operand-returns-in-Disjunction-clause-good : goal.operand-returns-in-Disjunction-clause-good
operand-returns-in-Disjunction-clause-good t c = rw c.in-Disjunction.is c.chained-in-Disjunction.ensures.good

pub operand-returns-in-Disjunction-clause-bad : goal.operand-returns-in-Disjunction-clause-bad
operand-returns-in-Disjunction-clause-bad t c = rw c.in-Disjunction.is c.chained-in-Disjunction.ensures.bad

pub parts-returns-in_err-add_part-clause-bad : goal.parts-returns-in_err-add_part-clause-bad
parts-returns-in_err-add_part-clause-bad t c =
    exit_of c.chained-first.result c.from_residual.result c.in_err-add_part.field-0.0 c.from_residual.ensures.1 c.in_err-add_part.ensures.fault
    c.chained-first.ensures.bad (group_bad_first parts_group)

pub parts-loop-alloc-init : goal.parts-loop-alloc-init
parts-loop-alloc-init t c =
    record {
      within = c.chained-first.ensures.within;
      moved = well_on _ c.chained-first.result c.in_ok-add_part.ensures.done c.chained-first.ensures.moved;
      read = members_begun parts_group (λ c. c.expression) covered_of c.chained-first.result
          (ap (λ (vs : List Expr). map expression_of vs) c.new-members.ensures.items) c.in_ok-add_part.ensures.done c.chained-first.ensures.good;
    }

pub parts-returns-in_err-add_part-2-clause-bad : goal.parts-returns-in_err-add_part-2-clause-bad
parts-returns-in_err-add_part-2-clause-bad t c =
    let comma = exactly_good (Sign mark.Comma) c.args.tokens.now c.loop-alloc.at (c.loop-alloc-test.ensures.0 refl) in
    exit_of c.chained-next.result c.from_residual-in_err-add_part-2.result c.in_err-add_part-2.field-0.0 c.from_residual-in_err-add_part-2.ensures.1
    c.in_err-add_part-2.ensures.fault c.chained-next.ensures.bad (members_bad parts_group c.loop-alloc.invariant.read comma)

pub parts-loop-alloc-preserved : goal.parts-loop-alloc-preserved
parts-loop-alloc-preserved t c =
    let comma = exactly_good (Sign mark.Comma) c.args.tokens.now c.loop-alloc.at (c.loop-alloc-test.ensures.0 refl) in
    record {
      within = c.chained-next.ensures.within;
      moved = omega (arith, c.loop-alloc.invariant.moved, well_on _ c.chained-next.result c.in_ok-add_part-2.ensures.done c.chained-next.ensures.moved);
      read = members_added parts_group (λ c. c.expression) covered_of c.chained-next.result c.loop-alloc.invariant.read comma
          c.in_ok-add_part-2.ensures.done c.chained-next.ensures.good;
    }

pub parts-returns-clause-good : goal.parts-returns-clause-good
parts-returns-clause-good t c =
    members_end parts_group (parts_of c.loop-alloc.members) c.loop-alloc.invariant.read (not_so c.loop-alloc-test.ensures.1)
    (λ b got e. ap (λ (es : List Expression). onto and_part es no_parts) (sym e))

pub negated-returns-then-not-mark_at-clause-good : goal.negated-returns-then-not-mark_at-clause-good
negated-returns-then-not-mark_at-clause-good t c =
    IfOk-weaker c.primary.result _ _ (λ x g. good_done
    (by_part plain_seam (plain_start (drop c.args.at.now c.args.tokens.now) (not_so c.if-not-mark_at.ensures.1)) g)) c.primary.ensures.good

pub negated-returns-then-not-mark_at-clause-bad : goal.negated-returns-then-not-mark_at-clause-bad
negated-returns-then-not-mark_at-clause-bad t c =
    IfErr-weaker c.primary.result _ _ (λ e w.
    fault_by e (part_bad plain_seam (plain_start (drop c.args.at.now c.args.tokens.now) (not_so c.if-not-mark_at.ensures.1))) w) c.primary.ensures.bad

pub negated-returns-clause-moved : goal.negated-returns-clause-moved
negated-returns-clause-moved t c =
    made_on _ c.primary-inner.result c.negation.result c.negation.ensures.done c.primary-inner.ensures.moved (λ m. omega (arith, m))

pub negated-returns-clause-good : goal.negated-returns-clause-good
negated-returns-clause-good t c =
    let tilde = c.if-not-mark_at.ensures.0 refl in
    let s1 = by_part tilde_seam (tilde_start (drop c.args.at.now c.args.tokens.now) tilde)
    (exactly_good (Sign mark.Tilde) c.args.tokens.now c.args.at.now tilde) in
    made_good c.primary-inner.result c.negation.result c.negation.ensures.done c.primary-inner.ensures.good
    (λ d x e good. rw (e, c.span_at-tilde.ensures) (good_done (by_part (inner_seam (here (drop c.args.at.now c.args.tokens.now))) s1 good)))

pub negated-returns-clause-bad : goal.negated-returns-clause-bad
negated-returns-clause-bad t c =
    let tilde = c.if-not-mark_at.ensures.0 refl in
    let s1 = by_part tilde_seam (tilde_start (drop c.args.at.now c.args.tokens.now) tilde)
    (exactly_good (Sign mark.Tilde) c.args.tokens.now c.args.at.now tilde) in
    made_bad c.primary-inner.result c.negation.result c.negation.ensures.fault c.primary-inner.ensures.bad
    (part_bad (inner_seam (here (drop c.args.at.now c.args.tokens.now))) s1)

pub comparison-returns-in_err-first-clause-bad : goal.comparison-returns-in_err-first-clause-bad
comparison-returns-in_err-first-clause-bad t c =
    let s0 = comparison_start (drop c.args.at.now c.args.tokens.now) in
    exit c.from_residual.result c.in_err-first.field-0.0 c.from_residual.ensures.1 (part_bad sum_seam s0) c.in_err-first.ensures.bad

pub comparison-returns-in_default-clause-good : goal.comparison-returns-in_default-clause-good
comparison-returns-in_default-clause-good t c =
    let s0 = comparison_start (drop c.args.at.now c.args.tokens.now) in
    let s1 = by_part sum_seam s0 c.in_ok-first.ensures.good in
    good_done (uncompared s1 (sym c.in_default.ensures))

pub comparison-returns-clause-moved : goal.comparison-returns-clause-moved
comparison-returns-clause-moved t c =
    made_on _ c.chained-right.result c.compare.result c.compare.ensures.done c.chained-right.ensures.moved (λ m. omega (arith, m, c.in_ok-first.ensures.moved))

pub comparison-returns-clause-good : goal.comparison-returns-clause-good
comparison-returns-clause-good t c =
    let s0 = comparison_start (drop c.args.at.now c.args.tokens.now) in
    let s1 = by_part sum_seam s0 c.in_ok-first.ensures.good in
    let o = c.in-Some.op in
    let is = sym c.in-Some.ensures in
    let first = covered_of c.in_ok-first.first in
    let s3 = by_part (compared_seam first) (with_comparison o s1 is) (operator_good comparison_of c.args.tokens.now c.chained.new.at o is) in
    made_good c.chained-right.result c.compare.result c.compare.ensures.done c.chained-right.ensures.good
    (λ d x e good. rw e (good_done (by_part (right_seam first o) s3 good)))

pub comparison-returns-clause-bad : goal.comparison-returns-clause-bad
comparison-returns-clause-bad t c =
    let s0 = comparison_start (drop c.args.at.now c.args.tokens.now) in
    let s1 = by_part sum_seam s0 c.in_ok-first.ensures.good in
    let o = c.in-Some.op in
    let is = sym c.in-Some.ensures in
    let first = covered_of c.in_ok-first.first in
    let s3 = by_part (compared_seam first) (with_comparison o s1 is) (operator_good comparison_of c.args.tokens.now c.chained.new.at o is) in
    made_bad c.chained-right.result c.compare.result c.compare.ensures.fault c.chained-right.ensures.bad (part_bad (right_seam first o) s3)

pub primary-returns-in_err-number-in-Number-clause-bad : goal.primary-returns-in_err-number-in-Number-clause-bad
primary-returns-in_err-number-in-Number-clause-bad t c =
    let s0 = numbered_start (drop c.args.at.now c.args.tokens.now) (sym c.in-Number.ensures) in
    exit c.from_residual.result c.in_err-number-in-Number.field-0.0 c.from_residual.ensures.1 (part_bad number_seam s0) c.in_err-number-in-Number.ensures.bad

pub primary-returns-in_ok-number-in-Number-clause-good : goal.primary-returns-in_ok-number-in-Number-clause-good
primary-returns-in_ok-number-in-Number-clause-good t c =
    let s0 = numbered_start (drop c.args.at.now c.args.tokens.now) (sym c.in-Number.ensures) in
    good_done (by_part number_seam s0 c.in_ok-number-in-Number.ensures.good)

pub primary-returns-in_err-open-in-Round-clause-bad : goal.primary-returns-in_err-open-in-Round-clause-bad
primary-returns-in_err-open-in-Round-clause-bad t c =
    let s0 = rounded_start (drop c.args.at.now c.args.tokens.now) (sym c.in-Round.ensures) in
    exit c.from_residual-in_err-open-in-Round.result c.in_err-open-in-Round.field-0.0 c.from_residual-in_err-open-in-Round.ensures.1 (part_bad round_1 s0)
    c.in_err-open-in-Round.ensures.bad

pub primary-returns-in_err-inner-in-Round-clause-bad : goal.primary-returns-in_err-inner-in-Round-clause-bad
primary-returns-in_err-inner-in-Round-clause-bad t c =
    let s0 = rounded_start (drop c.args.at.now c.args.tokens.now) (sym c.in-Round.ensures) in
    let o = c.in_ok-open-in-Round.open in
    let s1 = by_part round_1 s0 c.in_ok-open-in-Round.ensures.good in
    exit c.from_residual-in_err-inner-in-Round.result c.in_err-inner-in-Round.field-0.0 c.from_residual-in_err-inner-in-Round.ensures.1
    (part_bad (round_2 o) s1) c.in_err-inner-in-Round.ensures.bad

pub primary-returns-in_ok-inner-in-Round-clause-moved : goal.primary-returns-in_ok-inner-in-Round-clause-moved
primary-returns-in_ok-inner-in-Round-clause-moved t c =
    made_on _ c.take_mark-close-in-Round.result c.in_round.result c.in_round.ensures.done c.take_mark-close-in-Round.ensures.moved
    (λ m. omega (arith, m, c.in_ok-open-in-Round.ensures.moved, c.in_ok-inner-in-Round.ensures.moved))

pub primary-returns-in_ok-inner-in-Round-clause-good : goal.primary-returns-in_ok-inner-in-Round-clause-good
primary-returns-in_ok-inner-in-Round-clause-good t c =
    let s0 = rounded_start (drop c.args.at.now c.args.tokens.now) (sym c.in-Round.ensures) in
    let o = c.in_ok-open-in-Round.open in
    let s1 = by_part round_1 s0 c.in_ok-open-in-Round.ensures.good in
    let e = covered_of c.in_ok-inner-in-Round.inner in
    let s2 = by_part (round_2 o) s1 c.in_ok-inner-in-Round.ensures.good in
    made_good c.take_mark-close-in-Round.result c.in_round.result c.in_round.ensures.done c.take_mark-close-in-Round.ensures.good
    (λ s x is good. rw is (good_done (by_part (round_3 o e) s2 good)))

pub primary-returns-in_ok-inner-in-Round-clause-bad : goal.primary-returns-in_ok-inner-in-Round-clause-bad
primary-returns-in_ok-inner-in-Round-clause-bad t c =
    let s0 = rounded_start (drop c.args.at.now c.args.tokens.now) (sym c.in-Round.ensures) in
    let o = c.in_ok-open-in-Round.open in
    let s1 = by_part round_1 s0 c.in_ok-open-in-Round.ensures.good in
    let e = covered_of c.in_ok-inner-in-Round.inner in
    let s2 = by_part (round_2 o) s1 c.in_ok-inner-in-Round.ensures.good in
    made_bad c.take_mark-close-in-Round.result c.in_round.result c.in_round.ensures.fault c.take_mark-close-in-Round.ensures.bad (part_bad (round_3 o e) s2)

pub primary-returns-in_err-open-in-Curly-clause-bad : goal.primary-returns-in_err-open-in-Curly-clause-bad
primary-returns-in_err-open-in-Curly-clause-bad t c =
    let s0 = joined_start (drop c.args.at.now c.args.tokens.now) (sym c.in-Curly.ensures) in
    exit c.from_residual-in_err-open-in-Curly.result c.in_err-open-in-Curly.field-0.0 c.from_residual-in_err-open-in-Curly.ensures.1 (part_bad curly_1 s0)
    c.in_err-open-in-Curly.ensures.bad

pub primary-returns-in_err-members-in-Curly-clause-bad : goal.primary-returns-in_err-members-in-Curly-clause-bad
primary-returns-in_err-members-in-Curly-clause-bad t c =
    let s0 = joined_start (drop c.args.at.now c.args.tokens.now) (sym c.in-Curly.ensures) in
    let o = c.in_ok-open-in-Curly.open in
    let s1 = by_part curly_1 s0 c.in_ok-open-in-Curly.ensures.good in
    exit c.from_residual-in_err-members-in-Curly.result c.in_err-members-in-Curly.field-0.0 c.from_residual-in_err-members-in-Curly.ensures.1
    (part_bad (curly_2 o) s1) c.in_err-members-in-Curly.ensures.bad

pub primary-returns-in_ok-members-in-Curly-clause-moved : goal.primary-returns-in_ok-members-in-Curly-clause-moved
primary-returns-in_ok-members-in-Curly-clause-moved t c =
    made_on _ c.take_mark-close.result c.in_braces.result c.in_braces.ensures.done c.take_mark-close.ensures.moved
    (λ m. omega (arith, m, c.in_ok-open-in-Curly.ensures.moved, c.in_ok-members-in-Curly.ensures.moved))

pub primary-returns-in_ok-members-in-Curly-clause-good : goal.primary-returns-in_ok-members-in-Curly-clause-good
primary-returns-in_ok-members-in-Curly-clause-good t c =
    let s0 = joined_start (drop c.args.at.now c.args.tokens.now) (sym c.in-Curly.ensures) in
    let o = c.in_ok-open-in-Curly.open in
    let s1 = by_part curly_1 s0 c.in_ok-open-in-Curly.ensures.good in
    let e = parts_of c.in_ok-members-in-Curly.members in
    let s2 = by_part (curly_2 o) s1 c.in_ok-members-in-Curly.ensures.good in
    made_good c.take_mark-close.result c.in_braces.result c.in_braces.ensures.done c.take_mark-close.ensures.good
    (λ s x is good. rw is (good_done (by_part (curly_3 o e) s2 good)))

pub primary-returns-in_ok-members-in-Curly-clause-bad : goal.primary-returns-in_ok-members-in-Curly-clause-bad
primary-returns-in_ok-members-in-Curly-clause-bad t c =
    let s0 = joined_start (drop c.args.at.now c.args.tokens.now) (sym c.in-Curly.ensures) in
    let o = c.in_ok-open-in-Curly.open in
    let s1 = by_part curly_1 s0 c.in_ok-open-in-Curly.ensures.good in
    let e = parts_of c.in_ok-members-in-Curly.members in
    let s2 = by_part (curly_2 o) s1 c.in_ok-members-in-Curly.ensures.good in
    made_bad c.take_mark-close.result c.in_braces.result c.in_braces.ensures.fault c.take_mark-close.ensures.bad (part_bad (curly_3 o e) s2)

pub primary-returns-in-Other-clause-bad : goal.primary-returns-in-Other-clause-bad
primary-returns-in-Other-clause-bad t c =
    primary_bad (drop c.args.at.now c.args.tokens.now) (sym c.in-Other.ensures)
