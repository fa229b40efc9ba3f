-- Where the bits of variables lie: a variable's block begins with five nodes for each bit; the first two of these are
-- the bit's rails.
use Rattle.std.specs.Prelude.{ℕ, zero, suc, ◌+◌, ◌*◌, ◌<◌, List, [], ◌∷◌, length, slice_index_or}
use Rattle.prs_core.specs.Nets.{NodeRules, IsBelow}
use Rattle.prs_core.specs.Pairs.{Pair, pair_at}

-- so many bits, each one's rails so many nodes after those of the one before
abbrev pub bits_apart : (step count from : ℕ) → List Pair
bits_apart step zero from = []
bits_apart step (suc n) from = pair_at from ∷ bits_apart step n (from + step)

-- The bits of each variable, where the variables' blocks begin at these nodes. No variable has more than 64 bits; what
-- lies beyond the bits that it has is never read.
abbrev pub bits_in_blocks : (firsts : List ℕ) → ℕ → List Pair
bits_in_blocks firsts x = bits_apart 5 64 (slice_index_or firsts x 0)

-- the variable has an entry, and the rails of the bit are below a number
pub record HasBit (count : ℕ) (firsts : List ℕ) (x bit : ℕ) : Type 0 where
  pub entry : x < length firsts
  pub within : slice_index_or firsts x 0 + 5 * bit + 1 < count

-- the guards of a node are over nodes below a number
abbrev pub AreBelow : (count : ℕ) → NodeRules → Type 0
AreBelow count n = IsBelow count n.up × IsBelow count n.down
