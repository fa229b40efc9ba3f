-- The lines of a text.
use Rattle.std.specs.Prelude.{ℕ, ◌+◌, ◌==◌, List, length, take, drop, min}
use Rattle.std.specs.List.{position_or_len}

-- the number of bytes of the first line, its end included where it has one
abbrev pub line_length : List ℕ → ℕ
line_length text = min (position_or_len (λ b. b == 10) text + 1) (length text)

abbrev pub first_line : List ℕ → List ℕ
first_line text = take (line_length text) text

abbrev pub behind_line : List ℕ → List ℕ
behind_line text = drop (line_length text) text
