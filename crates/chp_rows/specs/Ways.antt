-- What adversarial schedulers choose, by how many choices they made.
use Rattle.std.specs.Prelude.{ℕ, ◌-◌, ◌%◌, ◌==◌, if◌then◌else◌, List, length, codes, slice_index}
use Rattle.chp_rows.specs.declared.pickers.Way.{Way}
use Rattle.chp_rows.specs.declared.pickers.Way.TheVariants.{Swing, Starve, ByText}

abbrev pub way_name : Way → List ℕ
way_name Swing = codes "swing"
way_name Starve = codes "starve"
way_name ByText = codes "by-text"

abbrev pub way_choice : Way → (text : List ℕ) → (picks count : ℕ) → ℕ
way_choice Swing text picks count = if picks % 2 == 0 then count - 1 else 0
way_choice Starve text picks count = count - 2
way_choice ByText text picks count = slice_index text (picks % length text) % count
