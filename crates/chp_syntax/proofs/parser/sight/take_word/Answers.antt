use Rattle.std.proofs.Common.{drop, refl}
use Rattle.chp_syntax.specs.declared.token.TokenKind.TheVariants.{Word}
use Rattle.chp_syntax.proofs.Steps.{exactly_good, exactly_bad, not_so}
use Rattle.chp_syntax.proofs.parser.sight.take_word.Goals as goal

pub returns-then-not-word_at-clause-bad : goal.returns-then-not-word_at-clause-bad
returns-then-not-word_at-clause-bad c = exactly_bad (Word c.args.key) (drop c.args.at.now c.args.tokens.now) (not_so c.if-not-word_at.ensures.1)

pub returns-clause-good : goal.returns-clause-good
returns-clause-good c =
    rw c.span_at-span.ensures (exactly_good (Word c.args.key) c.args.tokens.now c.args.at.now (c.if-not-word_at.ensures.0 refl))
