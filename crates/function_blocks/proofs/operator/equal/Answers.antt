use Rattle.std.proofs.Common.{length, refl, arith}
use Rattle.function_blocks.proofs.Emitted.{equality_begin, conjunction_step}
use Rattle.function_blocks.proofs.operator.equal.Goals as goal

pub loop-place-init : goal.loop-place-init
loop-place-init c = record {
  made = equality_begin c.args.left.now c.args.right.now c.args.from _ c.args.drivers.now.items _ c.requires.some c.in_ok-bitwise.ensures c.at-all.ensures;
  at = refl;
}

pub loop-place-preserved : goal.loop-place-preserved
loop-place-preserved c = record {
  made =
      rw c.at-all-in-loop-place.ensures
      (conjunction_step (length c.args.left.now) c.args.from c.loop-place.place c.loop-place.node c.loop-place.all c.at-next.result _ _ _ (omega arith)
      c.at-next.ensures c.loop-place.invariant.made c.in_ok-gate_over.ensures);
  at = omega (arith, c.loop-place.invariant.at);
}
