use Rattle.std.proofs.Common.{◌≡◌, ◌∙◌, refl, sym, ap, length, get_or, false, List}
use Rattle.std.specs.Prelude.{Some, None}
use Rattle.prs_core.specs.declared.wires.Wires.{Wires}
use Rattle.prs_core.specs.Moves.{high}
use Rattle.env_script.specs.Environment.{in_reset}
use Rattle.env_script.proofs.Wires.{wired_read}
use Rattle.event_sim.specs.Locality.{IndexedValue}
use Rattle.event_sim.proofs.HomeLemmas.{home_within, completes_nothing, completes_there}
use Rattle.event_sim.proofs.indexed.IndexedNet.completion.Goals as goal

pub completes-requires-clause-wired : goal.completes-requires-clause-wired
completes-requires-clause-wired c =
    let net = c.args.self.now.net in
    let all : c.channels.result.now ≡ net.channels = c.channels.ensures.channels ∙ ap (λ (x : IndexedValue). x.net.channels) c.self.view_is in
    let within = home_within net c.args.node c.in-Some.chan (Some c.in-Some.chan) c.in-Some.ensures.home refl in
    wired_read net c.in-Some.ensures.net (length c.args.state.now) c.requires.state net.channels refl c.in-Some.chan c.index-channels-chan.result within
    (c.index-channels-chan.is ∙ ap (λ (ws : List Wires). get_or ws c.in-Some.chan c.index-channels-chan.result) all)

pub returns-in-None-clause-completion : goal.returns-in-None-clause-completion
returns-in-None-clause-completion c = completes_nothing c.args.self.now.net (high c.args.state.now) c.args.node c.in-None.ensures.home

pub returns-in-None-completes-clause-completion : goal.returns-in-None-completes-clause-completion
returns-in-None-completes-clause-completion c =
    let net = c.args.self.now.net in
    let off : in_reset net.reset (high c.args.state.now) ≡ false = rw (← c.self.view_is) (sym c.in_reset.ensures.reset ∙ c.if-in_reset.false) in
    let all : c.channels.result.now ≡ net.channels = c.channels.ensures.channels ∙ ap (λ (x : IndexedValue). x.net.channels) c.self.view_is in
    completes_there net (high c.args.state.now) c.args.node c.in-Some.chan c.index-channels-chan.result None c.in-Some.ensures.home off
    (c.index-channels-chan.is ∙ ap (λ (ws : List Wires). get_or ws c.in-Some.chan c.index-channels-chan.result) all) c.in-None-completes.ensures

pub returns-in-Some-completes-clause-completion : goal.returns-in-Some-completes-clause-completion
returns-in-Some-completes-clause-completion c =
    let net = c.args.self.now.net in
    let off : in_reset net.reset (high c.args.state.now) ≡ false = rw (← c.self.view_is) (sym c.in_reset.ensures.reset ∙ c.if-in_reset.false) in
    let all : c.channels.result.now ≡ net.channels = c.channels.ensures.channels ∙ ap (λ (x : IndexedValue). x.net.channels) c.self.view_is in
    completes_there net (high c.args.state.now) c.args.node c.in-Some.chan c.index-channels-chan.result (Some c.in-Some-completes.value)
    c.in-Some.ensures.home off (c.index-channels-chan.is ∙ ap (λ (ws : List Wires). get_or ws c.in-Some.chan c.index-channels-chan.result) all)
    c.in-Some-completes.ensures
