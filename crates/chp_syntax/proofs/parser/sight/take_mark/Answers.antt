use Rattle.std.proofs.Common.{drop, refl}
use Rattle.chp_syntax.specs.declared.token.TokenKind.TheVariants.{Sign}
use Rattle.chp_syntax.proofs.Steps.{exactly_good, exactly_bad, not_so}
use Rattle.chp_syntax.proofs.parser.sight.take_mark.Goals as goal

pub returns-then-not-mark_at-clause-bad : goal.returns-then-not-mark_at-clause-bad
returns-then-not-mark_at-clause-bad c = exactly_bad (Sign c.args.mark) (drop c.args.at.now c.args.tokens.now) (not_so c.if-not-mark_at.ensures.1)

pub returns-clause-good : goal.returns-clause-good
returns-clause-good c =
    rw c.span_at-span.ensures (exactly_good (Sign c.args.mark) c.args.tokens.now c.args.at.now (c.if-not-mark_at.ensures.0 refl))
