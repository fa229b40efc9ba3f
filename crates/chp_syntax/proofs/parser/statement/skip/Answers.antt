use Rattle.std.proofs.Common.{drop}
use Rattle.chp_syntax.proofs.Steps.{by_part, part_bad, good_done, exit}
use Rattle.chp_syntax.proofs.Statements.{skip_start, skip_seam}
use Rattle.chp_syntax.proofs.parser.statement.skip.Goals as goal

pub returns-in_err-span-clause-bad : goal.returns-in_err-span-clause-bad
returns-in_err-span-clause-bad c =
    let s0 = skip_start (drop c.args.at.now c.args.tokens.now) c.requires.front in
    exit c.from_residual.result c.in_err-span.field-0.0 c.from_residual.ensures.1 (part_bad skip_seam s0) c.in_err-span.ensures.bad

pub returns-clause-good : goal.returns-clause-good
returns-clause-good c =
    let s0 = skip_start (drop c.args.at.now c.args.tokens.now) c.requires.front in
    good_done (by_part skip_seam s0 c.in_ok-span.ensures.good)
