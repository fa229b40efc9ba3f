use Rattle.std.proofs.Common.{◌≡◌, ◌-◌, ◌++◌}
use Rattle.std.specs.Prelude.{codes}
use Rattle.std.specs.List.{flat_map, range_with_len}
use Rattle.program_maker.specs.Generated.{byte_line}
use Rattle.program_maker.proofs.generated.variable_lines.Given as goal

abbrev pub invariant-loop-number : goal.invariant-loop-number
invariant-loop-number l = l.to.items ≡ l.initial.to.items ++ flat_map (byte_line (codes "var v")) (range_with_len 1 (l.number - 1))
