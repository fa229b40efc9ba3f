use Rattle.std.proofs.Common.{◌≡◌, ◌++◌, drop}
use Rattle.prs_core.specs.Pairs.{lows, rails_of}
use Rattle.function_blocks.proofs.gate.all_neutral.Given as goal

abbrev pub invariant-loop-input : goal.invariant-loop-input
invariant-loop-input l = l.literals.items ++ lows (rails_of (drop l.input-index l.inputs)) ≡ lows (rails_of l.inputs)
