-- How a script is cut into lines, and a line into words.
use Rattle.std.specs.Prelude.{ℕ, Bool, not, ◌&&◌, ◌||◌, ◌==◌, List, [], ◌∷◌, length, filter, if◌then◌else◌}
use Rattle.std.specs.List.{slice_split}

-- the lines, without their ends; the last one may lack its end, or be empty after it
abbrev pub lines_of : List ℕ → List (List ℕ)
lines_of text = slice_split (λ b. b == 10) text

-- what comes before the first two slashes
abbrev pub uncommented : List ℕ → List ℕ
uncommented [] = []
uncommented (b ∷ []) = b ∷ []
uncommented (b ∷ c ∷ rest) = if b == 47 && c == 47 then [] else b ∷ uncommented (c ∷ rest)

-- space and tab
abbrev pub is_blank : ℕ → Bool
is_blank b = b == 32 || b == 9

abbrev pub is_some_word : List ℕ → Bool
is_some_word word = not (length word == 0)

-- the words of a line: what is between blanks
abbrev pub words_of : List ℕ → List (List ℕ)
words_of line = filter is_some_word (slice_split is_blank (uncommented line))
