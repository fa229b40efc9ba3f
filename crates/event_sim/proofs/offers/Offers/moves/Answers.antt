use Rattle.std.proofs.Common.{◌∙◌, ap, arith}
use Rattle.env_script.specs.Scripts.{OfferValue}
use Rattle.env_script.specs.Offers.{offered}
use Rattle.prs_core.specs.Moves.{high}
use Rattle.env_script.specs.Environment.{offer_moves}
use Rattle.event_sim.proofs.Asked.{stands_at, stands_within}
use Rattle.event_sim.proofs.offers.Offers.moves.Goals as goal

pub index-requires : goal.index-requires
index-requires c =
    let s = c.self.inside in
    let within = (stands_within s.standing.items s.script c.args.self.now c.args.chan c.self.invariant c.self.view_is c.requires.chan).0 in
    omega (arith, within, s.standing.ok.0)

pub offer-requires : goal.offer-requires
offer-requires c =
    let s = c.self.inside in
    (stands_within s.standing.items s.script c.args.self.now c.args.chan c.self.invariant c.self.view_is c.requires.chan).1

pub returns : goal.returns
returns c =
    let s = c.self.inside in
    let within = (stands_within s.standing.items s.script c.args.self.now c.args.chan c.self.invariant c.self.view_is c.requires.chan).0 in
    c.moves.ensures ∙ ap (λ (o : OfferValue). offer_moves (high c.args.state.now) c.args.wires.now o c.args.done c.args.node)
    (stands_at s.standing.items s.script c.args.self.now c.args.chan c.index.result.now (offered c.offer.result.now) c.self.invariant within c.self.view_is
    c.index.ensures c.offer.ensures)
