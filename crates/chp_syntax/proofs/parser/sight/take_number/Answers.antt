use Rattle.std.proofs.Common.{drop, sym}
use Rattle.chp_syntax.proofs.Steps.{number_good, number_bad}
use Rattle.chp_syntax.proofs.parser.sight.take_number.Goals as goal

pub returns-in_default-clause-bad : goal.returns-in_default-clause-bad
returns-in_default-clause-bad c = number_bad (drop c.args.at.now c.args.tokens.now) (sym c.in_default.ensures)

pub returns-clause-good : goal.returns-clause-good
returns-clause-good c =
    rw c.span_at-span.ensures (number_good c.args.tokens.now c.args.at.now c.in-Some.value (sym c.in-Some.ensures))
