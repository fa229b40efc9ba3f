use Rattle.std.proofs.Common.{arith}
use Rattle.function_blocks.specs.Functions.{truth}
use Rattle.function_blocks.proofs.Emitted.{bitwise_step}
use Rattle.function_blocks.proofs.operator.bitwise.Goals as goal

pub loop-place-preserved : goal.loop-place-preserved
loop-place-preserved c =
    bitwise_step (truth c.args.function) c.args.left.now c.args.right.now c.loop-place.place c.index-left-place.result c.index-right-place.result _ _ _
    (omega arith) c.requires.agree c.index-left-place.is c.index-right-place.is c.loop-place.invariant c.in_ok-gate_over.ensures
