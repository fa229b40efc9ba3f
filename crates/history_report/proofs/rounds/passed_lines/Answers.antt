use Rattle.std.proofs.Common.{◌<◌, ◌++◌, ◌∙◌, List, ℕ, length, get_or, ap, arith}
use Rattle.history_report.specs.Reports.{channel_line}
use Rattle.history_report.proofs.Lines.{passed_further, all_passed}
use Rattle.history_report.proofs.rounds.passed_lines.Goals as goal

pub loop-chan-preserved : goal.loop-chan-preserved
loop-chan-preserved c =
    let k = c.loop-chan.chan in
    let channel = c.index-channels-chan.result in
    let history = c.index-histories-chan.result in
    let to = c.loop-chan.to.items in
    let within = c.loop-chan-test.true in
    let inside : k < length c.args.histories.now = omega (arith, within, c.requires) in
    passed_further c.args.channels.now c.args.histories.now k to channel history within inside c.loop-chan.invariant
    (c.in_ok-passed_line.ensures ∙ ap (λ (xs : List ℕ). to ++ channel_line (get_or c.args.channels.now k channel).name xs)
    (c.deref.ensures.value ∙ ap (λ v. v.items) c.index-histories-chan.is))

pub returns : goal.returns
returns c =
    all_passed c.args.channels.now c.args.histories.now c.loop-chan.chan c.loop-chan.to.items c.loop-chan-test.false c.loop-chan.invariant
