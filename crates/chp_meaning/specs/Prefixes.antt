-- One history as the beginning of another one.
use Rattle.std.specs.Prelude.{◌≡◌, ℕ, List, ◌++◌}

-- the first list is a prefix of the second
abbrev pub IsPrefixOf : List ℕ → List ℕ → Type 0
IsPrefixOf xs ys = (rest : List ℕ) × (ys ≡ xs ++ rest)
