use Rattle.std.proofs.Common.{sym}
use Rattle.chp_syntax.specs.Limits.{is_probe}
use Rattle.chp_syntax.proofs.Places.{first_at}
use Rattle.chp_syntax.proofs.limits.probe.Goals as goal

pub returns-then-is_probe-clause-some : goal.returns-then-is_probe-clause-some
returns-then-is_probe-clause-some c =
    first_at is_probe c.args.tokens.now c.loop-token.token-index c.token-item.result c.loop-token-test.true c.token-item.is c.loop-token.invariant
    (sym c.if-is_probe.ensures)
