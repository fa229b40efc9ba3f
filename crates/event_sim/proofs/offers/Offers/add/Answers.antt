use Rattle.std.proofs.Common.{◌≡◌, ◌∙◌, ◌+◌, ap, set, List, arith}
use Rattle.std.specs.Prelude.{Some}
use Rattle.env_script.specs.Scripts.{OfferValue, offer_at}
use Rattle.event_sim.specs.Standings.{StandingValue, standing_of, one_now, are_alike, script_with, offered_count, script_and}
use Rattle.event_sim.proofs.Asked.{stands_within, add_alike, add_is}
use Rattle.event_sim.proofs.offers.Offers.add.Goals as goal

pub index_mut-requires : goal.index_mut-requires
index_mut-requires c =
    let s = c.self.inside in
    let within = (stands_within s.standing.items s.script c.args.self.now c.args.chan c.self.invariant c.self.view_is c.requires.chan).0 in
    omega (arith, within, s.standing.ok.0)

pub invariant_of-self : goal.invariant_of-self
invariant_of-self c =
    let s = c.self.inside in
    let k = c.args.chan in
    let within = (stands_within s.standing.items s.script c.args.self.now k c.self.invariant c.self.view_is c.requires.chan).0 in
    ap (λ (t : StandingValue). are_alike (set s.standing.items k t) s.script) (c.set.ensures
    ∙ ap (λ (t : StandingValue). standing_of (one_now c.args.value t.one) (Some (c.unwrap-number.result + 1))) c.index_mut.ensures.value)
    ∙ add_alike s.standing.items s.script k c.args.value (c.unwrap-number.result + 1) c.index_mut.result.now c.self.invariant within

pub returns : goal.returns
returns c =
    let s = c.self.inside in
    let k = c.args.chan in
    let n = c.unwrap-number.result in
    let within = (stands_within s.standing.items s.script c.args.self.now k c.self.invariant c.self.view_is c.requires.chan).0 in
    let told : offered_count (offer_at c.args.self.now k) ≡ Some n = cc (c.number.ensures, c.unwrap-number.ensures) in
    ap (λ (t : StandingValue). script_with (set s.standing.items k t) s.script) (c.set.ensures
    ∙ ap (λ (t : StandingValue). standing_of (one_now c.args.value t.one) (Some (n + 1))) c.index_mut.ensures.value)
    ∙ add_is s.standing.items s.script k c.args.value n c.index_mut.result.now c.self.invariant within
    (ap (λ (xs : List OfferValue). offered_count (offer_at xs k)) c.self.view_is ∙ told)
    ∙ ap (script_and k c.args.value) c.self.view_is
