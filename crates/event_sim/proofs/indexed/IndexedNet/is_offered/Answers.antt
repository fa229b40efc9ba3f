use Rattle.std.proofs.Common.{◌≡◌, ◌∙◌, refl, sym, ap, length, get_or, List, arith}
use Rattle.std.specs.Prelude.{Some, None, slice_index}
use Rattle.prs_core.specs.declared.wires.Wires.{Wires}
use Rattle.prs_core.specs.Moves.{high}
use Rattle.env_script.specs.Scripts.{OfferValue, offer_at}
use Rattle.env_script.specs.Environment.{offer_moves}
use Rattle.env_script.proofs.Wires.{wired_read, one_each}
use Rattle.event_sim.specs.Locality.{IndexedValue}
use Rattle.event_sim.proofs.HomeLemmas.{home_within, offered_nowhere, offered_there}
use Rattle.event_sim.proofs.indexed.IndexedNet.is_offered.Goals as goal

pub moves-requires-clause-chan : goal.moves-requires-clause-chan
moves-requires-clause-chan c =
    let s = c.args.self.now in
    let within = home_within s.net c.args.node c.in-Some.chan (Some c.in-Some.chan) c.in-Some.ensures.home refl in
    omega (arith, within, one_each s.net s.script c.in-Some.ensures.script, ap (λ (x : IndexedValue). length x.script) c.self.view_is)

pub moves-requires-clause-wired : goal.moves-requires-clause-wired
moves-requires-clause-wired c =
    let net = c.args.self.now.net in
    let all : c.channels.result.now ≡ net.channels = c.channels.ensures.channels ∙ ap (λ (x : IndexedValue). x.net.channels) c.self.view_is in
    let within = home_within net c.args.node c.in-Some.chan (Some c.in-Some.chan) c.in-Some.ensures.home refl in
    wired_read net c.in-Some.ensures.net (length c.args.state.now) c.requires.state net.channels refl c.in-Some.chan c.index-channels-chan.result within
    (c.index-channels-chan.is ∙ ap (λ (ws : List Wires). get_or ws c.in-Some.chan c.index-channels-chan.result) all)

pub returns-in-None : goal.returns-in-None
returns-in-None c =
    sym (offered_nowhere c.args.self.now.net c.args.self.now.script (slice_index c.args.done.now) (high c.args.state.now) c.args.node None
    c.in-None.ensures.home refl)

pub returns-in-Some : goal.returns-in-Some
returns-in-Some c =
    let s = c.args.self.now in
    let n = c.args.node in
    let k = c.in-Some.chan in
    let w = c.index-channels-chan.result in
    let all : c.channels.result.now ≡ s.net.channels = c.channels.ensures.channels ∙ ap (λ (x : IndexedValue). x.net.channels) c.self.view_is in
    let here : w ≡ get_or s.net.channels k w = c.index-channels-chan.is ∙ ap (λ (ws : List Wires). get_or ws k w) all in
    let offer = ap (λ (x : IndexedValue). offer_at x.script k) c.self.view_is in
    c.moves.ensures ∙ ap (λ (o : OfferValue). offer_moves (high c.args.state.now) w o (slice_index c.args.done.now k) n) offer
    ∙ offered_there s.net s.script (slice_index c.args.done.now) (high c.args.state.now) n k w (Some k) c.in-Some.ensures.home refl here
