use Rattle.std.proofs.Common.{sym}
use Rattle.chp_syntax.specs.Limits.{is_arbiter}
use Rattle.chp_syntax.proofs.Places.{first_at}
use Rattle.chp_syntax.proofs.limits.arbiter.Goals as goal

pub returns-then-is_arbiter-clause-some : goal.returns-then-is_arbiter-clause-some
returns-then-is_arbiter-clause-some c =
    first_at is_arbiter c.args.tokens.now c.loop-token.token-index c.token-item.result c.loop-token-test.true c.token-item.is c.loop-token.invariant
    (sym c.if-is_arbiter.ensures)
