-- What drives a node of an expression's circuit: the two guards of each kind of driver.
use Rattle.std.specs.Prelude.{◌∷◌}
use Rattle.prs_core.specs.Nets.{NodeRules}
use Rattle.prs_core.specs.Pairs.{no_rules}
use Rattle.function_blocks.specs.Expressions.{following, read_rail}
use Rattle.function_blocks.specs.Functions.{truth, carried_on}
use Rattle.function_blocks.specs.Gates.{gate_rail}
use Rattle.function_blocks.specs.Waves.{rows_of}
use Rattle.function_blocks.specs.declared.rail.RailPattern.{RailPattern}
use Rattle.function_blocks.specs.declared.rail.RailPattern.TheVariants.{Undriven, Follow, Read, Gate}

abbrev pub rail_driven : RailPattern → NodeRules
rail_driven Undriven = no_rules
rail_driven (Follow request) = following request
rail_driven (Read request rail) = read_rail request rail
rail_driven (Gate function one left right below) =
    gate_rail (left ∷ right ∷ carried_on below) (rows_of one (truth function))
