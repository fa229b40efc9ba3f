use Rattle.std.proofs.Common.{arith}
use Rattle.chp_syntax.proofs.Steps.{good_done, exit}
use Rattle.chp_syntax.proofs.Programs.{end_start, no_end, more_behind}
use Rattle.chp_syntax.proofs.parser.program.take_end.Goals as goal

pub returns-in_err-span-clause-bad : goal.returns-in_err-span-clause-bad
returns-in_err-span-clause-bad c = exit c.from_residual.result c.in_err-span.field-0.0 c.from_residual.ensures.1 no_end c.in_err-span.ensures.bad

pub returns-then-at-tokens-clause-bad : goal.returns-then-at-tokens-clause-bad
returns-then-at-tokens-clause-bad c = more_behind c.args.tokens.now c.take_word.new.at (end_start c.in_ok-span.ensures.good) (omega arith)

pub returns-clause-good : goal.returns-clause-good
returns-clause-good c = good_done (end_start c.in_ok-span.ensures.good)
