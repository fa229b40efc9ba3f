-- Identifiers, changes and names as they are spelled in a text.
use Rattle.std.specs.Prelude.{◌≡◌, ℕ, ◌+◌, ◌-◌, ◌*◌, Bool, not, ◌&&◌, ◌||◌, ◌==◌, List, [], ◌∷◌, ◌++◌, length, slice_index_or, true}
use Rattle.std.specs.List.{list_all}
use Rattle.chp_base.specs.Names.{between}
use Rattle.wave_file.specs.Waves.{value_spelling_of}

-- an identifier: digits in base 94, the highest of them not zero, or only one digit
abbrev pub id_part : ℕ → Bool
id_part b = between 33 126 b

abbrev pub has_high_digit : List ℕ → Bool
has_high_digit id = not (slice_index_or id (length id - 1) 33 == 33)

abbrev pub is_id : List ℕ → Bool
is_id id = list_all id_part id && (length id == 1 || has_high_digit id)

-- the number that an identifier writes, the lowest digit first
abbrev pub id_value : List ℕ → ℕ
id_value [] = 0
id_value (b ∷ bs) = (b - 33) + 94 * id_value bs

-- the text goes on with a line of the form of a change
abbrev pub GoesOnWithChange : List ℕ → Type 0
GoesOnWithChange text = (value : Bool) × (id : List ℕ) × (behind : List ℕ) × (is_id id ≡ true)
    × (text ≡ value_spelling_of value id ++ behind)

-- none of the bytes is this one
abbrev pub is_free_of : ℕ → List ℕ → Bool
is_free_of end text = list_all (λ b. not (b == end)) text
