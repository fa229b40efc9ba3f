use Rattle.std.proofs.Common.{◌≡◌, ◌-◌, ◌++◌}
use Rattle.function_blocks.specs.Expressions.{constant_bits}
use Rattle.function_blocks.proofs.expression.constant.Given as goal

abbrev pub invariant-loop-bit : goal.invariant-loop-bit
invariant-loop-bit l =
    l.drivers.items ++ constant_bits l.request (l.bits.width - l._bit) l.value ≡ l.fn.drivers.items ++ constant_bits l.request l.bits.width l.bits.value
