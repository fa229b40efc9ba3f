use Rattle.std.proofs.Common.{◌<◌, ◌++◌, ◌∙◌, List, ℕ, length, get_or, ap, arith}
use Rattle.history_report.specs.Reports.{channel_line}
use Rattle.history_report.proofs.Pieces.{history_at, histories_count, line_further, lines_written}
use Rattle.history_report.proofs.report.history_lines.Goals as goal

pub index-requires : goal.index-requires
index-requires c =
    let count = histories_count (length c.args.channels.now) c.args.passed.now c.in_ok-histories.histories.items c.in_ok-histories.ensures in
    omega (arith, count, c.loop-chan-test.true, c.in_ok-histories.histories.ok.0)

pub loop-chan-preserved : goal.loop-chan-preserved
loop-chan-preserved c =
    let chan = c.loop-chan.chan in
    let passed = c.args.passed.now in
    let channels = c.args.channels.now in
    let wires = c.index-channels-chan.result in
    let history = c.index.result.now in
    let to = c.loop-chan.to.items in
    let within : chan < length channels = c.loop-chan-test.true in
    let values = c.deref.ensures.value ∙ ap (λ v. v.items) c.index.ensures
    ∙ history_at (length channels) chan passed c.in_ok-histories.histories.items history c.in_ok-histories.ensures within in
    line_further passed chan channels wires to within c.loop-chan.invariant (c.in_ok-passed_line.ensures
    ∙ ap (λ (xs : List ℕ). to ++ channel_line (get_or channels chan wires).channel.name xs) values)

pub returns : goal.returns
returns c = lines_written c.args.passed.now c.loop-chan.chan c.args.channels.now c.loop-chan.to.items c.loop-chan-test.false c.loop-chan.invariant
