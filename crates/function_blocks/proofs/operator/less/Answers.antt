use Rattle.std.proofs.Common.{arith}
use Rattle.function_blocks.specs.Functions.{carried_on}
use Rattle.function_blocks.proofs.Emitted.{borrow_step}
use Rattle.function_blocks.proofs.operator.less.Goals as goal

pub loop-place-preserved : goal.loop-place-preserved
loop-place-preserved c = record {
  made =
      rw c.at.ensures
      (borrow_step c.args.left.now c.args.right.now c.loop-place.place c.loop-place.node c.index-left-place.result c.index-right-place.result
      (carried_on c.loop-place.borrowed) _ _ _ (omega arith) c.requires.agree c.index-left-place.is c.index-right-place.is c.loop-place.invariant.made
      c.in_ok-gate_over.ensures);
  at = omega (arith, c.loop-place.invariant.at);
}
