-- The position in a text, by what was kept of it, and what follows wherever a text is at that position.
use Rattle.std.specs.Prelude.{◌≡◌, ℕ, length, List, [], ◌∷◌, ◌++◌, Option, Some, None}
use Rattle.wave_file.specs.declared.fault.WaveError.{WaveError}
use Rattle.wave_file.specs.declared.read.Told.{Told}
use Rattle.wave_file.specs.declared.unwave.Printed.{Printed}
use Rattle.wave_file.specs.declared.wave.Wave.{Wave}
use Rattle.wave_file.specs.Unwaved.{told_changes}
use Rattle.wave_file.specs.Waves.{WaveValue, wave_of}
use Rattle.wave_file.specs.WaveFaults.{OfWaveRefusal}
use Rattle.wave_file.specs.WaveReading.{BeginsWith, IsToldTo, IsWaveRefused, WaveLine, WavePlace, place_behind, values_behind, wave_line_fault}

abbrev pub kept_wave : Wave → WaveValue
kept_wave w = wave_of w.names.items w.first.items w.changes.items

-- what is kept of the wave so far: its names, and its nodes' values after its changes
pub record IsSoFar (t : Told) (w : WaveValue) : Type 0 where
  pub names : t.names.items ≡ w.names
  pub values : t.values.items ≡ values_behind w.first w.changes

-- the changes of the wave are printed
pub record IsPrinted (p : Printed) (w : WaveValue) : Type 0 where
  pub told : p.text.items ≡ told_changes w.names w.first w.changes
  pub count : p.count ≡ length w.changes

-- the changes, and one of the node at this time, if there is one
abbrev pub changes_with : List (ℕ × ℕ) → (now : ℕ) → Option ℕ → List (ℕ × ℕ)
changes_with changes now None = changes
changes_with changes now (Some node) = changes ++ (now, node) ∷ []

abbrev pub with_turn : WaveValue → (now : ℕ) → Option ℕ → WaveValue
with_turn w now node = wave_of w.names w.first (changes_with w.changes now node)

-- a line without a fault leads from one position to the other
abbrev pub IsLineOn : (rest behind : List ℕ) → (p q : WavePlace) → Type 0
IsLineOn rest behind p q =
    (l : WaveLine) × BeginsWith rest behind p l × (wave_line_fault p l ≡ None) × (q ≡ place_behind p l)

-- each text of which so many lines come to the one position, with this left of it, comes by so many to the other one
abbrev pub ComesOn : (lines : ℕ) → WavePlace → (rest : List ℕ) → (more : ℕ) → WavePlace → (behind : List ℕ) → Type 0
ComesOn lines place rest more next behind =
    (whole : List ℕ) → IsToldTo whole lines place rest → IsToldTo whole more next behind

-- each such text is refused for this
abbrev pub IsRefusedFrom : (lines : ℕ) → WavePlace → (rest : List ℕ) → WaveError → Type 0
IsRefusedFrom lines place rest e =
    (whole : List ℕ) → IsToldTo whole lines place rest → OfWaveRefusal (IsWaveRefused whole) e
