-- Which nodes the environment moves, and that the node lines of version 2 end with the reset node.
use Rattle.std.specs.Prelude.{◌≡◌, ℕ, ◌-◌, ◌<◌, ◌==◌, Bool, true, false, List, [], length, codes, slice_index_or}
use Rattle.chp_base.specs.declared.channel.Channel.{Channel}
use Rattle.prs_file.specs.RulesTold.{is_driven}

pub record AreDriven (reset : Bool) (channels : List Channel) (names : List (List ℕ)) (driven : List Bool) : Type 0
  where
    pub count : length driven ≡ length names
    pub each : (n : ℕ) → n < length names →
        slice_index_or driven n false ≡ is_driven reset channels (slice_index_or names n [])

pub record EndsInReset (names : List (List ℕ)) (first : List Bool) : Type 0 where
  pub name : slice_index_or names (length names - 1) [] ≡ codes "reset"
  pub high : slice_index_or first (length names - 1) false ≡ true

-- in version 2
abbrev pub HasItsReset : ℕ → List (List ℕ) → List Bool → Type 0
HasItsReset version names first = (version == 2) ≡ true → EndsInReset names first
