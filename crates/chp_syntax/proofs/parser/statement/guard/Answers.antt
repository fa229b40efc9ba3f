use Rattle.std.proofs.Common.{drop}
use Rattle.chp_syntax.specs.Parts.{Good, Guard, Anything}
use Rattle.chp_syntax.specs.View.{covered_of, expression_of}
use Rattle.chp_syntax.proofs.Ands.{and_good, and_bad}
use Rattle.chp_syntax.proofs.Steps.{by_part, part_bad, good_done, exit}
use Rattle.chp_syntax.proofs.Statements.{guard_start, guard_seam, arrow_seam}
use Rattle.chp_syntax.proofs.parser.statement.guard.Goals as goal

pub returns-in_err-guard-clause-bad : goal.returns-in_err-guard-clause-bad
returns-in_err-guard-clause-bad c =
    let s0 = guard_start (drop c.args.at.now c.args.tokens.now) in
    exit c.from_residual.result c.in_err-guard.field-0.0 c.from_residual.ensures.1 (part_bad guard_seam s0) c.in_err-guard.ensures.bad

pub returns-clause-good : goal.returns-clause-good
returns-clause-good c =
    let s0 = guard_start (drop c.args.at.now c.args.tokens.now) in
    let e = covered_of c.in_ok-guard.guard in
    let s1 = by_part guard_seam s0 c.in_ok-guard.ensures.good in
    and_good (λ x. Good Guard Anything (drop c.args.at.now c.args.tokens.now) (drop c.take_mark.new.at c.args.tokens.now) (expression_of x))
    c.take_mark.result _ c.and.ensures (λ s good. good_done (by_part (arrow_seam e) s1 good)) c.take_mark.ensures.good

pub returns-clause-bad : goal.returns-clause-bad
returns-clause-bad c =
    let s0 = guard_start (drop c.args.at.now c.args.tokens.now) in
    let e = covered_of c.in_ok-guard.guard in
    let s1 = by_part guard_seam s0 c.in_ok-guard.ensures.good in
    and_bad c.take_mark.result _ c.and.ensures (part_bad (arrow_seam e) s1) c.take_mark.ensures.bad
