use Rattle.std.proofs.Common.{◌≡◌, ◌∙◌, List, map, sym, ap, subst}
use Rattle.std.proofs.lemmas.Bool.{false≢true}
use Rattle.chp_base.specs.declared.channel.Channel.{Channel}
use Rattle.prs_core.specs.declared.wires.Wires.{Wires}
use Rattle.prs_core.specs.Nets.{NetValue}
use Rattle.env_script.specs.Environment.{net_channels}
use Rattle.env_script.specs.Scripts.{IsScript}
use Rattle.history_report.proofs.comparison.compare.Goals as goal

-- the net's channels, as the run and its wires have them
of_net : (net run : NetValue) (ws : List Wires) → net ≡ run → ws ≡ net.channels → net_channels run ≡ map (λ (w : Wires). w.channel) ws
of_net net run ws held read = ap net_channels (sym held) ∙ ap (map (λ (w : Wires). w.channel)) (sym read)

pub start-requires : goal.start-requires
start-requires c =
    let alike = of_net c.net.result.now c.args.ran.now.net c.channels.result.now c.net.ensures.net c.channels.ensures.channels
    ∙ (c.are_channels.ensures.0 c.if-are_channels.true ∙ c.channels-2.ensures) in
    subst (λ (cs : List Channel). IsScript cs c.args.script.now) alike c.requires.script

pub compare_from-against-requires-clause-alike : goal.compare_from-against-requires-clause-alike
compare_from-against-requires-clause-alike c =
    of_net c.net.result.now c.args.ran.now.net c.channels.result.now c.net.ensures.net c.channels.ensures.channels
    ∙ (c.are_channels.ensures.0 c.if-are_channels.true ∙ c.channels-2.ensures)

pub returns-in_ok-config-clause-against : goal.returns-in_ok-config-clause-against
returns-in_ok-config-clause-against c = c.compare_from-against.ensures.against c.args.script.now c.in_ok-config.ensures.start

pub returns-else-are_channels-clause-against : goal.returns-else-are_channels-clause-against
returns-else-are_channels-clause-against c alike =
    let same = sym (of_net c.net.result.now c.args.ran.now.net c.channels.result.now c.net.ensures.net c.channels.ensures.channels)
    ∙ (alike ∙ sym c.channels-2.ensures) in
    false≢true (sym c.if-are_channels.false ∙ c.are_channels.ensures.1 same)
