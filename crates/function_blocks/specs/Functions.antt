-- Truth functions by their names.
use Rattle.std.specs.Prelude.{Bool, List, [], ◌∷◌, Option, Some, None}
use Rattle.prs_core.specs.Pairs.{Pair}
use Rattle.function_blocks.specs.declared.gate.Function.{Function}
use Rattle.function_blocks.specs.declared.gate.Function.TheVariants.{And, Or, Xor, Equal, Carry, Borrow}
use Rattle.function_blocks.specs.Gates.{all_one, some_one, odd_ones, alike, carries, borrows}

-- the truth function of this name
abbrev pub truth : Function → List Bool → Bool
truth And = all_one
truth Or = some_one
truth Xor = odd_ones
truth Equal = alike
truth Carry = carries
truth Borrow = borrows

-- what is carried in from below, or nothing
abbrev pub carried_on : Option Pair → List Pair
carried_on None = []
carried_on (Some p) = p ∷ []
