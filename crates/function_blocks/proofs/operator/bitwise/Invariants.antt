use Rattle.std.proofs.Common.{◌≡◌, ◌++◌, drop}
use Rattle.function_blocks.specs.Functions.{truth}
use Rattle.function_blocks.specs.Gates.{bitwise}
use Rattle.function_blocks.proofs.operator.bitwise.Given as goal

abbrev pub invariant-loop-place : goal.invariant-loop-place
invariant-loop-place l =
    l.drivers.items ++ bitwise (truth l.function) (drop l.place l.left) (drop l.place l.right) ≡ l.fn.drivers.items ++ bitwise
    (truth l.function) l.left l.right
