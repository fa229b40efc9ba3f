use Rattle.std.proofs.Common.{◌∙◌, arith}
use Rattle.prs_core.specs.Moves.{high}
use Rattle.guard_rows.proofs.Indexes.{bit_small, byte_of}
use Rattle.guard_rows.proofs.Counting.{count_few}
use Rattle.guard_rows.proofs.counts.place_now.Goals as goal

pub overflow_add-place : goal.overflow_add-place
overflow_add-place c = omega (arith, c.count_now-place.ensures, c.requires.few, count_few (high c.args.state.now) c.args.nodes.now)

pub overflow_add-result : goal.overflow_add-result
overflow_add-result c = omega (
  arith,
  c.count_now-place.ensures,
  c.requires.few,
  count_few (high c.args.state.now) c.args.nodes.now,
  c.from.ensures ∙ byte_of c.is_high.result,
  bit_small c.is_high.result,
)
