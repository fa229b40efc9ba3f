use Rattle.std.proofs.Common.{◌∙◌, ◌<◌, ◌≤◌, List, map, length, get_or, refl, sym, ap, arith}
use Rattle.std.proofs.lemmas.Bool.{false≢true}
use Rattle.std.proofs.lemmas.List.{length-map, get_or-map, take_all}
use Rattle.chp_base.specs.declared.channel.Channel.{Channel}
use Rattle.prs_core.specs.declared.wires.Wires.{Wires}
use Rattle.history_report.proofs.Fronts.{take_further}
use Rattle.history_report.proofs.comparison.are_channels.Goals as goal

pub loop-chan-preserved : goal.loop-chan-preserved
loop-chan-preserved c =
    let wires = c.args.wires.now in
    let channels = c.args.channels.now in
    let k = c.loop-chan.chan in
    let w = c.index-wires-chan.result in
    let x = c.index-channels-chan.result in
    let counted = length-map wires (λ (w : Wires). w.channel) in
    let one : k < length (map (λ (w : Wires). w.channel) wires) = omega arith in
    let other : k < length channels = omega arith in
    let same = c.is_same_channel.ensures.0 c.if-not-is_same_channel.false in
    take_further (map (λ (w : Wires). w.channel) wires) channels k x c.loop-chan.invariant one other
    (get_or-map (λ (w : Wires). w.channel) wires k w x c.loop-chan-test.true
    ∙ (ap (λ (w : Wires). w.channel) (sym c.index-wires-chan.is) ∙ (same ∙ c.index-channels-chan.is)))

pub returns-then-not-is_same_channel : goal.returns-then-not-is_same_channel
returns-then-not-is_same_channel c =
    let k = c.loop-chan.chan in
    let w = c.index-wires-chan.result in
    let x = c.index-channels-chan.result in
    let read = ap (λ (w : Wires). w.channel) c.index-wires-chan.is
    ∙ sym (get_or-map (λ (w : Wires). w.channel) c.args.wires.now k w x c.loop-chan-test.true) in (
      λ other. absurd (false≢true other),
      λ alike. absurd (false≢true (sym c.if-not-is_same_channel.true
          ∙ c.is_same_channel.ensures.1 (read ∙ (ap (λ (cs : List Channel). get_or cs k x) alike ∙ sym c.index-channels-chan.is)))),
    )

pub returns : goal.returns
returns c =
    let k = c.loop-chan.chan in
    let all = map (λ (w : Wires). w.channel) c.args.wires.now in
    let counted = length-map c.args.wires.now (λ (w : Wires). w.channel) in
    let one : length all ≤ k = omega (arith, counted, c.loop-chan-test.false) in
    let other : length c.args.channels.now ≤ k = omega (arith, c.if-wires-channels.false, c.loop-chan-test.false) in
    (λ _. sym (take_all k all one) ∙ (c.loop-chan.invariant ∙ take_all k c.args.channels.now other), λ _. refl)
