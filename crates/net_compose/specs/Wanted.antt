-- Which rails of some guards a latch waits for.
use Rattle.std.specs.Prelude.{ℕ, zero, suc, List, [], ◌∷◌, map}
use Rattle.prs_core.specs.Pairs.{Pair}

-- all guards false
abbrev pub all_unwanted : List Pair → List ℕ
all_unwanted guards = map (λ (g : Pair). g.f) guards

-- the guard of this index true, and all others false
abbrev pub one_wanted : List Pair → (place : ℕ) → List ℕ
one_wanted [] place = []
one_wanted (g ∷ more) zero = g.t ∷ all_unwanted more
one_wanted (g ∷ more) (suc place) = g.f ∷ one_wanted more place
