-- The text before each position, and what is so there.
use Rattle.std.proofs.Common.{◌≡◌, ℕ, ◌<◌, ◌≤◌, ◌^◌, Bool, List, [], ◌∷◌, ◌++◌, length}
use Rattle.std.specs.Prelude.{◌⊎◌, All}
use Rattle.chp_base.specs.Names.{IsNodeName}
use Rattle.wave_file.specs.Waves.{IsWave, IsKeptWave, naming_lines, first_lines, mark_before, change_lines}
use Rattle.wave_file.specs.WaveLines.{GoesOnWithChange}
use Rattle.wave_file.specs.WaveReading.{WavePlace, at_timescale, at_scope, at_names, at_definitions, at_start, at_values, at_changes, timescale_line, scope_line, upscope_line, definitions_line, start_line}

abbrev pub front_of_names : List (List ℕ) → List ℕ
front_of_names names = timescale_line ++ (scope_line ++ naming_lines 0 names)

abbrev pub front_of_values : List (List ℕ) → List Bool → List ℕ
front_of_values names first = front_of_names names ++ (upscope_line ++ (definitions_line ++ (start_line ++ first_lines 0 first)))

-- the time of the last change
abbrev pub last_time : ℕ → List (ℕ × ℕ) → ℕ
last_time now [] = now
last_time now (c ∷ cs) = last_time c.0 cs

abbrev pub front_at : WavePlace → List ℕ
front_at at_timescale = []
front_at at_scope = timescale_line
front_at (at_names names) = front_of_names names
front_at (at_definitions names) = front_of_names names ++ upscope_line
front_at (at_start names) = front_of_names names ++ (upscope_line ++ definitions_line)
front_at (at_values names first) = front_of_values names first
front_at (at_changes w now) = front_of_values w.names w.first ++ (change_lines 0 w.first w.changes ++ mark_before (last_time 0 w.changes) now)

-- a wave's nodes
pub record AreWaveNodes (names : List (List ℕ)) : Type 0 where
  pub some : 2 ≤ length names
  pub most : length names ≤ 65537
  pub named : All IsNodeName names

-- what is so at a position, before this rest of the text: after a mark of a time it goes on with a change
abbrev pub IsPlaceBefore : List ℕ → WavePlace → Type 0
IsPlaceBefore rest at_timescale = Unit {0}
IsPlaceBefore rest at_scope = Unit {0}
IsPlaceBefore rest (at_names names) = (length names ≤ 65537) × All IsNodeName names
IsPlaceBefore rest (at_definitions names) = AreWaveNodes names
IsPlaceBefore rest (at_start names) = AreWaveNodes names
IsPlaceBefore rest (at_values names first) = AreWaveNodes names × (length first < length names)
IsPlaceBefore rest (at_changes w now) =
    IsWave w × IsKeptWave w × ((now ≡ last_time 0 w.changes) ⊎ ((last_time 0 w.changes < now) × (now < 2 ^ 64) × GoesOnWithChange rest))

pub record IsFront (text : List ℕ) (place : WavePlace) (rest : List ℕ) : Type 0 where
  pub told : text ≡ front_at place ++ rest
  pub reached : IsPlaceBefore rest place
