use Rattle.std.proofs.Common.{◌≡◌, ◌∙◌, refl, sym, ap, length, get_or, false, List}
use Rattle.std.specs.Prelude.{Some}
use Rattle.prs_core.specs.declared.wires.Wires.{Wires}
use Rattle.prs_core.specs.Moves.{high}
use Rattle.env_script.specs.Environment.{in_reset}
use Rattle.env_script.proofs.Wires.{wired_read}
use Rattle.event_sim.specs.Locality.{IndexedValue}
use Rattle.event_sim.proofs.HomeLemmas.{home_within, breaks_nothing, keeps_there, breaks_there}
use Rattle.event_sim.proofs.indexed.IndexedNet.broken_phases.Goals as goal

pub phases_keep-requires : goal.phases_keep-requires
phases_keep-requires c =
    let net = c.args.self.now.net in
    let all : c.channels.result.now ≡ net.channels = c.channels.ensures.channels ∙ ap (λ (x : IndexedValue). x.net.channels) c.self.view_is in
    let within = home_within net c.args.node c.in-Some.chan (Some c.in-Some.chan) c.in-Some.ensures.home refl in
    wired_read net c.in-Some.ensures.net (length c.args.state.now) c.requires.state net.channels refl c.in-Some.chan c.index-channels-chan.result within
    (c.index-channels-chan.is ∙ ap (λ (ws : List Wires). get_or ws c.in-Some.chan c.index-channels-chan.result) all)

pub returns-in-None : goal.returns-in-None
returns-in-None c =
    let off : in_reset c.args.self.now.net.reset (high c.args.state.now) ≡ false =
    rw (← c.self.view_is) (sym c.in_reset.ensures.reset ∙ c.if-in_reset.false) in
    breaks_nothing c.args.self.now.net (high c.args.state.now) c.args.node c.in-None.ensures.home off

pub returns-then-phases_keep : goal.returns-then-phases_keep
returns-then-phases_keep c =
    let net = c.args.self.now.net in
    let off : in_reset net.reset (high c.args.state.now) ≡ false = rw (← c.self.view_is) (sym c.in_reset.ensures.reset ∙ c.if-in_reset.false) in
    let all : c.channels.result.now ≡ net.channels = c.channels.ensures.channels ∙ ap (λ (x : IndexedValue). x.net.channels) c.self.view_is in
    keeps_there net (high c.args.state.now) c.args.node c.in-Some.chan c.index-channels-chan.result c.in-Some.ensures.home off
    (c.index-channels-chan.is ∙ ap (λ (ws : List Wires). get_or ws c.in-Some.chan c.index-channels-chan.result) all)
    (sym c.phases_keep.ensures ∙ c.if-phases_keep.true)

pub returns-else-phases_keep : goal.returns-else-phases_keep
returns-else-phases_keep c =
    let net = c.args.self.now.net in
    let off : in_reset net.reset (high c.args.state.now) ≡ false = rw (← c.self.view_is) (sym c.in_reset.ensures.reset ∙ c.if-in_reset.false) in
    let all : c.channels.result.now ≡ net.channels = c.channels.ensures.channels ∙ ap (λ (x : IndexedValue). x.net.channels) c.self.view_is in
    breaks_there net (high c.args.state.now) c.args.node c.in-Some.chan c.index-channels-chan.result c.in-Some.ensures.home off
    (c.index-channels-chan.is ∙ ap (λ (ws : List Wires). get_or ws c.in-Some.chan c.index-channels-chan.result) all)
    (sym c.phases_keep.ensures ∙ c.if-phases_keep.false)
