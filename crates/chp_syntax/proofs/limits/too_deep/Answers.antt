use Rattle.std.proofs.Common.{arith}
use Rattle.chp_syntax.proofs.Places.{over_at, shallow_more}
use Rattle.chp_syntax.proofs.limits.too_deep.Goals as goal

pub returns-then-depth-gt-MOST_OPEN-clause-some : goal.returns-then-depth-gt-MOST_OPEN-clause-some
returns-then-depth-gt-MOST_OPEN-clause-some c =
    over_at c.args.tokens.now c.loop-token.token-index c.loop-token.depth c.token-item.result c.loop-token-test.true c.token-item.is c.loop-token.invariant.1
    c.loop-token.invariant.0 (omega (arith, c.depth_after-depth.ensures))

pub loop-token-preserved : goal.loop-token-preserved
loop-token-preserved c =
    rw c.depth_after-depth.ensures (shallow_more c.args.tokens.now c.loop-token.token-index c.loop-token.depth c.token-item.result c.loop-token-test.true
    c.token-item.is c.loop-token.invariant.1 c.loop-token.invariant.0 (omega (arith, c.depth_after-depth.ensures)))
