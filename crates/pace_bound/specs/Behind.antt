-- How many gates move one behind the other, of those up to the bits of a value and of those behind these.
use Rattle.std.specs.Prelude.{ℕ, ◌+◌, max, List, [], ◌∷◌, length}
use Rattle.handshake_expand.specs.Layout.{capped}
use Rattle.pace_bound.specs.declared.behind.Order.{Order}
use Rattle.pace_bound.specs.declared.behind.Order.TheVariants.{Alike, Carried, Joined}
use Rattle.pace_bound.specs.declared.behind.Behind.{Behind}

-- so many behind each
abbrev pub evenly : ℕ → List ℕ → ℕ
evenly n [] = 0
evenly n (d ∷ ds) = max (n + d) (evenly n ds)

-- behind each one more for each bit above it
abbrev pub carried : ℕ → List ℕ → ℕ
carried n [] = 0
carried n (d ∷ ds) = max (n + length ds + d) (carried n ds)

-- the same, but behind the lowest no more than behind the next one
abbrev pub joint : ℕ → List ℕ → ℕ
joint n [] = 0
joint n (d ∷ ds) = max (n + length ds + d) (carried (n + 1) ds)

abbrev pub through : Order → ℕ → List ℕ → ℕ
through Alike n ds = evenly n ds
through Carried n ds = carried n ds
through Joined n ds = joint n ds

-- the same, saturated
abbrev pub reached_over : Behind → List ℕ → ℕ
reached_over b ds = capped (through b.order b.gates ds)
