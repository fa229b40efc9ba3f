use Rattle.prs_core.specs.Pairs.{Pair}
use Rattle.net_compose.proofs.BodyDriven.{mapped_more}
use Rattle.net_compose.proofs.choice.all_unwanted.Goals as goal

pub loop-guard-preserved : goal.loop-guard-preserved
loop-guard-preserved c = mapped_more (λ (g : Pair). g.f) c.args.guards.now c.loop-guard.guard-index c.guard-item.result c.rail.result
    c.loop-guard.rails.items c.push.new.self.items c.loop-guard-test.true c.guard-item.is c.rail.ensures c.loop-guard.invariant c.in_ok-push.ensures.items
