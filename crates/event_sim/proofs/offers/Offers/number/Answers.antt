use Rattle.std.proofs.Common.{◌∙◌, ap, arith}
use Rattle.env_script.specs.Offers.{offered}
use Rattle.event_sim.specs.Standings.{offered_count}
use Rattle.event_sim.proofs.Asked.{stands_at, stands_within}
use Rattle.event_sim.proofs.offers.Offers.number.Goals as goal

pub index-requires : goal.index-requires
index-requires c =
    let s = c.self.inside in
    let within = (stands_within s.standing.items s.script c.args.self.now c.args.chan c.self.invariant c.self.view_is c.requires).0 in
    omega (arith, within, s.standing.ok.0)

pub offer-requires : goal.offer-requires
offer-requires c =
    let s = c.self.inside in
    (stands_within s.standing.items s.script c.args.self.now c.args.chan c.self.invariant c.self.view_is c.requires).1

pub returns : goal.returns
returns c =
    let s = c.self.inside in
    let within = (stands_within s.standing.items s.script c.args.self.now c.args.chan c.self.invariant c.self.view_is c.requires).0 in
    c.number.ensures ∙ ap (offered_count)
    (stands_at s.standing.items s.script c.args.self.now c.args.chan c.index.result.now (offered c.offer.result.now) c.self.invariant within c.self.view_is
    c.index.ensures c.offer.ensures)
