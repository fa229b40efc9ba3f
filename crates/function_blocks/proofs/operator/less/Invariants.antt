use Rattle.std.proofs.Common.{◌≡◌, ◌+◌, ◌*◌, ◌++◌, [], drop}
use Rattle.function_blocks.specs.Gates.{borrow_gates}
use Rattle.function_blocks.specs.Functions.{carried_on}
use Rattle.function_blocks.proofs.operator.less.Given as goal

abbrev pub invariant-loop-place : goal.invariant-loop-place
invariant-loop-place l = record {
  made : l.drivers.items ++ borrow_gates (drop l.place l.left) (drop l.place l.right) (carried_on l.borrowed) l.node ≡ l.fn.drivers.items ++ borrow_gates l.left
      l.right [] l.from;
  at : l.node ≡ l.from + 2 * l.place;
}
