use Rattle.std.proofs.Common.{drop}
use Rattle.chp_syntax.proofs.Steps.{by_part, part_bad, good_done, exit}
use Rattle.chp_syntax.proofs.Statements.{call_start, call_1, call_2}
use Rattle.chp_syntax.proofs.parser.statement.call.Goals as goal

pub returns-in_err-take_word-clause-bad : goal.returns-in_err-take_word-clause-bad
returns-in_err-take_word-clause-bad c =
    let s0 = call_start (drop c.args.at.now c.args.tokens.now) c.requires.front in
    exit c.from_residual.result c.in_err-take_word.field-0.0 c.from_residual.ensures.1
    (part_bad call_1 s0) c.in_err-take_word.ensures.bad

pub returns-in_err-of-clause-bad : goal.returns-in_err-of-clause-bad
returns-in_err-of-clause-bad c =
    let s0 = call_start (drop c.args.at.now c.args.tokens.now) c.requires.front in
    let s1 = by_part call_1 s0 c.in_ok-take_word.ensures.good in
    exit c.from_residual-in_err-of.result c.in_err-of.field-0.0 c.from_residual-in_err-of.ensures.1 (part_bad call_2 s1)
    c.in_err-of.ensures.bad

pub returns-clause-good : goal.returns-clause-good
returns-clause-good c =
    let s0 = call_start (drop c.args.at.now c.args.tokens.now) c.requires.front in
    let s1 = by_part call_1 s0 c.in_ok-take_word.ensures.good in
    good_done (by_part call_2 s1 c.in_ok-of.ensures.good)
