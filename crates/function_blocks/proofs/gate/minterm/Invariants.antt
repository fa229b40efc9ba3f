use Rattle.std.proofs.Common.{◌≡◌, ◌++◌, drop}
use Rattle.function_blocks.specs.Gates.{minterm}
use Rattle.function_blocks.proofs.gate.minterm.Given as goal

abbrev pub invariant-loop-place : goal.invariant-loop-place
invariant-loop-place l = l.literals.items ++ minterm (drop l.place l.inputs) (drop l.place l.row) ≡ minterm l.inputs l.row
