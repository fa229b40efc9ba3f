use Rattle.std.proofs.Common.{arith}
use Rattle.function_blocks.proofs.Emitted.{constant_step}
use Rattle.function_blocks.proofs.expression.constant.Goals as goal

pub loop-bit-preserved : goal.loop-bit-preserved
loop-bit-preserved c = constant_step c.args.request c.args.bits.now.width c.loop-bit._bit c.loop-bit.value _ _ _
    (omega (arith, c.loop-bit-test.true, c.width-bit-end.ensures)) c.loop-bit.invariant c.in_ok-constant_bit.ensures
