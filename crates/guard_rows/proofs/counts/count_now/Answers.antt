use Rattle.std.proofs.Common.{◌+◌, ◌∙◌, ap, arith}
use Rattle.prs_core.specs.Moves.{high}
use Rattle.guard_rows.specs.Places.{as_bit}
use Rattle.guard_rows.proofs.Indexes.{byte_of}
use Rattle.guard_rows.proofs.Counting.{count_more, count_part}
use Rattle.guard_rows.proofs.counts.count_now.Goals as goal

pub overflow_add-count : goal.overflow_add-count
overflow_add-count c =
    let ns = c.args.nodes.now in
    let v = high c.args.state.now in
    let i = c.loop-node.node-index in
    let bit = c.from-count.ensures ∙ byte_of c.is_high.result ∙ ap as_bit c.is_high.ensures in
    omega (arith, bit, c.loop-node.invariant, c.requires.few, count_more v ns i c.loop-node-test.true, count_part v ns (i + 1) (omega arith))

pub loop-node-preserved : goal.loop-node-preserved
loop-node-preserved c =
    let ns = c.args.nodes.now in
    let v = high c.args.state.now in
    let i = c.loop-node.node-index in
    let bit = c.from-count.ensures ∙ byte_of c.is_high.result ∙ ap as_bit c.is_high.ensures in
    omega (arith, bit, c.loop-node.invariant, count_more v ns i c.loop-node-test.true)
