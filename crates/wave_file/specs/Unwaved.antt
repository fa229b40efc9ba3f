-- What is printed of a wave.
use Rattle.std.specs.Prelude.{ℕ, Bool, not, List, [], ◌∷◌, ◌++◌, length, slice_index_or, codes, decimal, if◌then◌else◌}
use Rattle.std.specs.List.{concat}
use Rattle.prs_core.specs.Moves.{high, fired}
use Rattle.wave_file.specs.Waves.{WaveValue}

-- the time of a change, the node and the value that it takes
abbrev pub told_change : (time : ℕ) → (name : List ℕ) → (value : Bool) → List ℕ
told_change time name value =
    concat (decimal time ∷ codes " " ∷ name ∷ (if value then codes " 1\n" else codes " 0\n") ∷ [])

-- a line for each change, where the nodes have these values before them
abbrev pub told_changes : List (List ℕ) → List Bool → List (ℕ × ℕ) → List ℕ
told_changes names values [] = []
told_changes names values (c ∷ cs) = told_change c.0 (slice_index_or names c.1 []) (not (high values c.1))
    ++ told_changes names (fired values c.1) cs

abbrev pub count_line : ℕ → List ℕ
count_line count = concat (codes "changes " ∷ decimal count ∷ codes "\n" ∷ [])

abbrev pub unwaved : WaveValue → List ℕ
unwaved w = told_changes w.names w.first w.changes ++ count_line (length w.changes)
