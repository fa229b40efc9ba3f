use Rattle.std.proofs.Common.{reverse, sym, ◌∙◌}
use Rattle.chp_syntax.proofs.FewArms.{seventeenth_at, counted_more, narrow_more}
use Rattle.chp_syntax.proofs.parser.arms.seventeenth_arm.Goals as goal

pub returns-then-full-clause-some : goal.returns-then-full-clause-some
returns-then-full-clause-some c =
    seventeenth_at c.args.tokens.now c.loop-token.token-index c.token-item.result (reverse c.loop-token.open.items) c.loop-token-test.true c.token-item.is
    c.loop-token.invariant.counts c.loop-token.invariant.narrow (sym c.in_ok-full.ensures.seventeenth ∙ c.if-full.true)

pub loop-token-preserved : goal.loop-token-preserved
loop-token-preserved c =
    let passes = sym c.in_ok-full.ensures.seventeenth ∙ c.if-full.false in
    record {
      counts = counted_more c.args.tokens.now c.loop-token.token-index c.token-item.result (reverse c.loop-token.open.items) _ c.loop-token-test.true
          c.token-item.is c.loop-token.invariant.counts (c.in_ok-full.ensures.after c.if-full.false);
      narrow = narrow_more c.args.tokens.now c.loop-token.token-index c.token-item.result (reverse c.loop-token.open.items) c.loop-token-test.true
          c.token-item.is c.loop-token.invariant.counts c.loop-token.invariant.narrow passes;
    }
