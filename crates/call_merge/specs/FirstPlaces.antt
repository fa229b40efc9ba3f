-- Where the first declaration of each name stands.
use Rattle.std.specs.Prelude.{◌≡◌, ℕ, ◌<◌, List, length, slice_get, MatchOption, Option, None}
use Rattle.chp_syntax.specs.declared.tree.Decl.{Decl}
use Rattle.width_check.specs.Places.{declaration}

-- a table of the places of first declarations
abbrev pub AreFirstPlaces : List Decl → (List ℕ → Option ℕ) → Type 0
AreFirstPlaces decls places = (name : List ℕ) →
    MatchOption (places name) (declaration decls name ≡ None)
    (λ k. (k < length decls) × (declaration decls name ≡ slice_get decls k))
