use Rattle.std.proofs.Common.{◌≡◌, ◌+◌, ◌-◌, ◌*◌, ◌++◌}
use Rattle.function_blocks.specs.Expressions.{read_bits, bits_between}
use Rattle.function_blocks.specs.Blocks.{bits_apart}
use Rattle.function_blocks.proofs.expression.read_drivers.Given as goal

abbrev pub invariant-loop-bit : goal.invariant-loop-bit
invariant-loop-bit l = l.drivers.items ++ read_bits l.request (bits_apart 5 (l.high + 1 - l.bit) (l.first + 5 * l.bit)) ≡ l.fn.drivers.items ++ read_bits
    l.request (bits_between l.high l.low (bits_apart 5 64 l.first))
