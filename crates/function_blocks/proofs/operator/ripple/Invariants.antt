use Rattle.std.proofs.Common.{◌≡◌, ◌+◌, ◌*◌, ◌++◌, [], drop}
use Rattle.function_blocks.specs.Gates.{ripple}
use Rattle.function_blocks.specs.Functions.{truth, carried_on}
use Rattle.function_blocks.proofs.operator.ripple.Given as goal

abbrev pub invariant-loop-place : goal.invariant-loop-place
invariant-loop-place l = record {
  made : l.drivers.items ++ ripple (truth l.carry) (drop l.place l.left) (drop l.place l.right)
      (carried_on l.carried) l.node ≡ l.fn.drivers.items ++ ripple
      (truth l.carry) l.left l.right [] l.from;
  at : l.node ≡ l.from + 4 * l.place;
}
