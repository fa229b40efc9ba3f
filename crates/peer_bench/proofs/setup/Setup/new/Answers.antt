use Rattle.std.proofs.Common.{◌≡◌, ◌∙◌, ℕ, Bool, true, sym, ap, subst, refl, map, [], List, length, replicate, arith}
use Rattle.prs_core.specs.Nets.{NetValue}
use Rattle.prs_core.specs.declared.wires.Wires.{Wires}
use Rattle.env_script.specs.Scripts.{OfferValue, IsScript}
use Rattle.env_script.specs.Environment.{net_channels}
use Rattle.event_sim.specs.Stages.{StageValue, now_of}
use Rattle.peer_bench.specs.Growing.{offer_by}
use Rattle.peer_bench.specs.Benches.{IsUnasked}
use Rattle.peer_bench.specs.Sets.{HasIdle}
use Rattle.peer_bench.proofs.Idle.{all_idle, channels_fit}
use Rattle.peer_bench.proofs.Unasked.{none_is, none_suits}
use Rattle.peer_bench.proofs.setup.Setup.new.Goals as goal

pub new-requires-clause-script : goal.new-requires-clause-script
new-requires-clause-script c =
    let net = c.args.net in
    let is : c.in_ok-script.script ≡ map (λ (w : Wires). offer_by w.channel.kind 0 []) net.channels =
    c.in_ok-script.ensures ∙ ap (map (λ (w : Wires). offer_by w.channel.kind 0 [])) c.channels.ensures.channels in
    subst (λ (s : List OfferValue). IsScript (net_channels net) s) (sym is) (none_suits net.channels)

pub invariant_of-result : goal.invariant_of-result
invariant_of-result c =
    let net = c.args.net in
    let is : c.in_ok-script.script ≡ map (λ (w : Wires). offer_by w.channel.kind 0 []) net.channels =
    c.in_ok-script.ensures ∙ ap (map (λ (w : Wires). offer_by w.channel.kind 0 [])) c.channels.ensures.channels in
    let all : length c.channels-2.result.now ≡ length c.in_ok-stage.stage.net.channels = ap length c.channels-2.ensures.channels
    ∙ ap (λ (w : NetValue). length w.channels) c.net-2.ensures.net in (
      subst (λ (s : StageValue). IsUnasked s c.args.steps) (sym c.in_ok-stage.ensures) (record {
        script = is ∙ none_is net;
        values = c.in_ok-state.ensures.values;
        passed = refl;
        room = omega arith;
        steps_few = c.requires;
      }),
      subst (λ (marks : List Bool). HasIdle c.in_ok-stage.stage.net c.in_ok-stage.stage.script (now_of c.in_ok-stage.stage) marks)
          (sym (c.in_ok-idle.ensures ∙ ap (λ (n : ℕ). replicate n true) all))
          (all_idle c.in_ok-stage.stage.net c.in_ok-stage.stage.script (now_of c.in_ok-stage.stage)),
    )

pub all-requires : goal.all-requires
all-requires c =
    let all = ap (λ (w : NetValue). length w.channels) c.net-2.ensures.net in
    omega (arith, channels_fit _ c.net-2.ensures.is_net, ap length c.channels-2.ensures.channels, all)
