use Rattle.std.proofs.Common.{◌≡◌, ◌+◌, ◌-◌, ◌*◌, ◌++◌, length}
use Rattle.function_blocks.specs.Blocks.{bits_apart}
use Rattle.function_blocks.specs.Gates.{conjunctions, equality}
use Rattle.function_blocks.proofs.operator.equal.Given as goal

abbrev pub invariant-loop-place : goal.invariant-loop-place
invariant-loop-place l = record {
  made : l.drivers.items ++ conjunctions l.all (bits_apart 2 (length l.left - l.place) (l.from + 2 * l.place)) l.node ≡ l.fn.drivers.items ++ equality
      l.left l.right l.from;
  at : l.node + 2 ≡ l.from + 2 * length l.left + 2 * l.place;
}
