use Rattle.std.proofs.Common.{◌≡◌, ◌<◌, ◌∙◌, sym, ap, refl, false, length, get_or, List}
use Rattle.std.specs.Prelude.{◌==◌, Some, None}
use Rattle.std.proofs.lemmas.Bool.{eq-eqb, ne_eqb}
use Rattle.std.proofs.lemmas.List.{get_or_default}
use Rattle.prs_core.specs.declared.wires.Wires.{Wires}
use Rattle.event_sim.specs.Locality.{IndexedValue}
use Rattle.event_sim.proofs.HomeLemmas.{home_within, no_ack, unfound, unfound_there, found_there}
use Rattle.event_sim.proofs.indexed.IndexedNet.acknowledged.Goals as goal

pub returns-in-None : goal.returns-in-None
returns-in-None c =
    let n = c.args.node in
    sym (unfound c.args.self.now.net n None (λ (w : Wires). n == w.ack) c.in-None.ensures.home (λ w apart. no_ack n w apart) refl)

pub returns-then-node-channels : goal.returns-then-node-channels
returns-then-node-channels c =
    let net = c.args.self.now.net in
    let n = c.args.node in
    let k = c.in-Some.chan in
    let w = c.index-channels-chan.result in
    let all : c.channels.result.now ≡ net.channels = c.channels.ensures.channels ∙ ap (λ (x : IndexedValue). x.net.channels) c.self.view_is in
    let here : w ≡ get_or net.channels k w = c.index-channels-chan.is ∙ ap (λ (ws : List Wires). get_or ws k w) all in
    let within : k < length net.channels = home_within net n k (Some k) c.in-Some.ensures.home refl in
    sym (found_there net n k w (Some k) (λ (x : Wires). n == x.ack) c.in-Some.ensures.home (λ x apart. no_ack n x apart) refl within
    (ap (λ (x : Wires). n == x.ack) (sym here) ∙ eq-eqb n w.ack (c.if-node-channels.true ∙ ap (λ (x : Wires). x.ack) (sym c.index-channels-chan.is))))

pub returns-else-node-channels : goal.returns-else-node-channels
returns-else-node-channels c =
    let net = c.args.self.now.net in
    let n = c.args.node in
    let k = c.in-Some.chan in
    let w = c.index-channels-chan.result in
    let all : c.channels.result.now ≡ net.channels = c.channels.ensures.channels ∙ ap (λ (x : IndexedValue). x.net.channels) c.self.view_is in
    let here : w ≡ get_or net.channels k w = c.index-channels-chan.is ∙ ap (λ (ws : List Wires). get_or ws k w) all in
    let within : k < length net.channels = home_within net n k (Some k) c.in-Some.ensures.home refl in
    let fails : (n == w.ack) ≡ false = ne_eqb n w.ack (λ e. c.if-node-channels.false (e ∙ ap (λ (x : Wires). x.ack) c.index-channels-chan.is)) in
    sym (unfound_there net n k w (Some k) (λ (x : Wires). n == x.ack) c.in-Some.ensures.home (λ x apart. no_ack n x apart) refl
    (λ d. ap (λ (x : Wires). n == x.ack) (get_or_default net.channels k d w within ∙ sym here) ∙ fails))
