use Rattle.std.proofs.Common.{List}
use Rattle.prs_core.specs.Pairs.{Pair, pair_of}
use Rattle.net_compose.specs.Contacts.{rail_in}
use Rattle.net_compose.proofs.BodyDriven.{mapped_more}
use Rattle.net_compose.proofs.contact.rails_at.Goals as goal

pub loop-site-preserved : goal.loop-site-preserved
loop-site-preserved c = mapped_more (λ (site : List Pair). rail_in c.args.one (pair_of site c.args.bit)) c.args.sites.now c.loop-site.site-index
    c.site-item.result c.rail.result c.loop-site.rails.items c.push.new.self.items c.loop-site-test.true c.site-item.is c.rail.ensures
    c.loop-site.invariant c.in_ok-push.ensures.items
