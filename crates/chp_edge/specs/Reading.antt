-- What is left of a file.
use Rattle.std.specs.Prelude.{◌≡◌, ℕ, ◌++◌, List, Option, Some}

-- the file is what was taken of it and what is left
abbrev pub IsLeft : (held : Option (List ℕ)) → (rest : List ℕ) → (taken : List ℕ) → Type 0
IsLeft held rest taken = held ≡ Some (taken ++ rest)
