use Rattle.std.proofs.Common.{◌≡◌, ◌++◌, map, length, drop}
use Rattle.std.specs.Prelude.{filter}
use Rattle.function_blocks.specs.Gates.{table, minterm}
use Rattle.function_blocks.specs.Waves.{rows_of}
use Rattle.function_blocks.specs.Functions.{truth}
use Rattle.function_blocks.proofs.gate.rows_with.Given as goal

abbrev pub invariant-loop-number : goal.invariant-loop-number
invariant-loop-number l =
    l.terms.items ++ map (minterm l.inputs) (filter (rows_of l.value (truth l.function)) (drop l.number (table (length l.inputs))))
    ≡ map (minterm l.inputs) (filter (rows_of l.value (truth l.function)) (table (length l.inputs)))
