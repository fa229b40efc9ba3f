use Rattle.std.proofs.Common.{◌≤◌, ◌∙◌, length, ap, arith}
use Rattle.prs_core.specs.Moves.{high}
use Rattle.guard_rows.specs.Places.{as_bit}
use Rattle.guard_rows.proofs.Indexes.{index_step, byte_of}
use Rattle.guard_rows.proofs.words.index_now.Goals as goal

pub overflow_mul-index : goal.overflow_mul-index
overflow_mul-index c =
    let ns = c.args.inputs.now in
    let within : c.loop-place.place ≤ length ns = omega arith in
    let step = index_step (high c.args.state.now) ns c.loop-place.place c.loop-place.index c.requires.few c.loop-place-test.true within
    c.loop-place.invariant in
    omega (arith, step.small)

pub overflow_add-index : goal.overflow_add-index
overflow_add-index c =
    let ns = c.args.inputs.now in
    let within : c.loop-place.place ≤ length ns = omega arith in
    let step = index_step (high c.args.state.now) ns c.loop-place.place c.loop-place.index c.requires.few c.loop-place-test.true within
    c.loop-place.invariant in
    omega (arith, step.small, c.from.ensures ∙ byte_of c.is_high.result ∙ ap as_bit c.is_high.ensures)
