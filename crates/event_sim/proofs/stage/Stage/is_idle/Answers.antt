use Rattle.std.proofs.Common.{◌≡◌, ◌<◌, ◌∙◌, sym, ap, false, length, get_or, ℕ, List, arith}
use Rattle.std.proofs.lemmas.List.{get_or_default}
use Rattle.prs_core.specs.declared.wires.Wires.{Wires}
use Rattle.prs_core.specs.Nets.{NetValue}
use Rattle.prs_core.specs.Moves.{high}
use Rattle.env_script.specs.Runs.{RunState, completed}
use Rattle.event_sim.specs.Passing.{channel_histories}
use Rattle.event_sim.specs.Standings.{is_idle}
use Rattle.event_sim.specs.Stages.{StageValue, now_of}
use Rattle.event_sim.proofs.Histories.{counts_whole}
use Rattle.event_sim.proofs.Staged.{counts_are}
use Rattle.event_sim.proofs.Added.{idle_some}
use Rattle.event_sim.proofs.stage.Stage.is_idle.Goals as goal

pub index-requires : goal.index-requires
index-requires c =
    let s = c.self.inside in
    let whole = counts_whole (length s.indexed.net.channels) s.passed.items s.done.items c.self.invariant.counts_are in
    omega (arith, c.requires, whole, s.done.ok.0, ap (λ (v : StageValue). length v.net.channels) c.self.view_is)

pub returns-in-Some : goal.returns-in-Some
returns-in-Some c =
    let s = c.self.inside in
    let net = s.indexed.net in
    let k = c.args.chan in
    let w = c.index-channels-chan.result in
    let hs = channel_histories (length net.channels) s.passed.items in
    let st : RunState = record { values = s.state; histories = hs } in
    let within : k < length net.channels = omega (arith, c.requires, ap (λ (v : StageValue). length v.net.channels) c.self.view_is) in
    let whole = counts_whole (length net.channels) s.passed.items s.done.items c.self.invariant.counts_are in
    let all : c.channels.result.now ≡ net.channels = c.channels.ensures.channels ∙ ap (λ (x : NetValue). x.channels) c.net.ensures.net in
    let here : w ≡ get_or net.channels k w = c.index-channels-chan.is ∙ ap (λ (ws : List Wires). get_or ws k w) all in
    let off : high s.state w.ack ≡ false =
    ap (λ (x : Wires). high s.state x.ack) c.index-channels-chan.is ∙ sym c.is_high.ensures ∙ c.if-is_high.false in
    let done : c.index.result.now ≡ completed hs k = c.index.ensures
    ∙ get_or_default s.done.items k c.index.result.now 0 (omega (arith, whole, within))
    ∙ ap (λ (ks : List ℕ). get_or ks k 0) c.self.invariant.counts_are ∙ counts_are hs k in
    idle_some net s.indexed.script st k c.in-Some.number c.index.result.now w within here off c.in-Some.ensures done
    ∙ ap (λ (v : StageValue). is_idle v.net v.script (now_of v) k) c.self.view_is
