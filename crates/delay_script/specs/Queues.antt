-- The moves that are due, and their times.
use Rattle.std.specs.Prelude.{◌≡◌, ℕ, suc, ◌≤◌, List, [], ◌∷◌, length, Option, Some, None}
use Rattle.std.specs.List.{sum_by}
use Rattle.delay_script.specs.declared.due.Due.{Due}

-- the times and the nodes of the moves that are due, where the nodes are numbered from this one on
abbrev pub entries_from : ℕ → List (Option Due) → List (ℕ × ℕ)
entries_from k [] = []
entries_from k (None ∷ ds) = entries_from (suc k) ds
entries_from k (Some due ∷ ds) = (due.time, k) ∷ entries_from (suc k) ds

-- the calendar has these, each as often (all sums over them agree), and room for one of each node
pub record IsQueue (dues : List (Option Due)) (entries : List (ℕ × ℕ)) (room : ℕ) : Type 0 where
  pub sums : (f : ℕ × ℕ → ℕ) → sum_by f entries ≡ sum_by f (entries_from 0 dues)
  pub room_is : length dues ≤ room
