use Rattle.std.proofs.Common.{◌≡◌, ◌<◌, ◌∙◌, ap, length, get_or, cond, ℕ, List, refl, arith}
use Rattle.std.specs.Prelude.{◌==◌, Some, None}
use Rattle.std.specs.List.{list_any}
use Rattle.prs_core.specs.declared.wires.Wires.{Wires}
use Rattle.env_script.proofs.Wires.{wired_read}
use Rattle.event_sim.proofs.HomesMade.{channel_fits, AreHomesBelow, one_more}
use Rattle.event_sim.proofs.homes.homes_of.Goals as goal

pub overflow_cast-chan : goal.overflow_cast-chan
overflow_cast-chan c =
    let within : c.loop-chan.chan < length c.args.net.now.channels =
    omega (arith, c.loop-chan-test.true, ap length c.channels-channels.ensures.channels) in
    omega (arith, channel_fits c.args.net.now c.channels-channels.ensures.net c.loop-chan.chan within)

pub overflow_cast-chan-in-loop-chan : goal.overflow_cast-chan-in-loop-chan
overflow_cast-chan-in-loop-chan c =
    let within : c.loop-chan.chan < length c.args.net.now.channels =
    omega (arith, c.loop-chan-test.true, ap length c.channels-channels.ensures.channels) in
    omega (arith, channel_fits c.args.net.now c.channels-channels.ensures.net c.loop-chan.chan within)

pub loop-chan-preserved : goal.loop-chan-preserved
loop-chan-preserved c =
    let net = c.args.net.now in
    let k = c.loop-chan.chan in
    let w = c.index-channels-chan.result in
    let old = c.loop-chan.homes in
    let mid = c.settle.new.homes in
    let all = c.channels-channels.ensures.channels in
    let within : k < length net.channels = omega (arith, c.loop-chan-test.true, ap length all) in
    let here : w ≡ get_or net.channels k w = c.index-channels-chan.is ∙ ap (λ (ws : List Wires). get_or ws k w) all in
    let wired = wired_read net c.channels-channels.ensures.net (length net.first) refl net.channels refl k w within here in
    let settled : (n : ℕ) → n < length old.items → get_or mid.items n None ≡ cond (list_any (λ m. n == m) w.rails) (Some k) (get_or old.items n None) =
    λ n less. rw (← c.nodes.ensures) (c.settle.ensures.each n (omega (arith, old.ok.0))) in
    let below : AreHomesBelow net k old.items = record {
      count = c.loop-chan.invariant.count;
      within = c.loop-chan.invariant.within;
      only = c.loop-chan.invariant.only;
    } in
    let more = one_more net c.channels-channels.ensures.net k w old.items mid.items _ below within here wired.ack
    (omega (arith, c.settle.ensures.count, old.ok.0, mid.ok.0)) settled refl in
    record {
      count = more.count;
      within = more.within;
      only = more.only;
    }
