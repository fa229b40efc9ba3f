-- The causes of a run's last move, and how they are printed.
use Rattle.std.specs.Prelude.{◌≡◌, ℕ, ◌+◌, ◌<◌, ◌≤◌, Bool, not, false, if◌then◌else◌, List, [], ◌∷◌, ◌++◌, length, map, reverse, slice_index, slice_index_or, codes, decimal}
use Rattle.std.specs.List.{concat, flat_map, sum_by}
use Rattle.prs_core.specs.Moves.{high, fired}
use Rattle.delay_script.specs.declared.noted.NotedMove.{NotedMove}
use Rattle.delay_script.specs.DelayTables.{DelayTable, rise_delay, fall_delay}
use Rattle.delay_script.specs.TimedRuns.{moved_nodes, time_behind}

-- the value that each move gives its node, where the nodes have these values before them
abbrev pub values_given : List Bool → List NotedMove → List Bool
values_given values [] = []
values_given values (m ∷ ms) = not (high values m.node) ∷ values_given (fired values m.node) ms

-- of the move at an index, counted from 0: its node and its cause
abbrev pub moved_at : List NotedMove → ℕ → ℕ
moved_at ms place = slice_index (moved_nodes ms) place

abbrev pub cause_at : List NotedMove → ℕ → ℕ
cause_at ms place = slice_index (map (λ (m : NotedMove). m.cause) ms) place

-- how long the node takes to turn to this value
abbrev pub delay_of_turn : DelayTable → (value : Bool) → (node : ℕ) → ℕ
delay_of_turn d value node = if value then rise_delay d node else fall_delay d node

-- the delay of the move at an index, where the moves give these values
abbrev pub own_delay : DelayTable → (given : List Bool) → List NotedMove → ℕ → ℕ
own_delay d given ms place = delay_of_turn d (slice_index_or given place false) (moved_at ms place)

-- Each move has an earlier move for its cause, or the start, which has the number 0; and it comes by its own delay
-- later than its cause.
pub record AreCaused (d : DelayTable) (given : List Bool) (ms : List NotedMove) : Type 0 where
  pub earlier : (place : ℕ) → place < length ms → cause_at ms place ≤ place
  pub later : (place : ℕ) → place < length ms →
      time_behind ms (place + 1) ≡ time_behind ms (cause_at ms place) + own_delay d given ms place

-- the indexes of the moves by which the move of this number came: its own, that of its cause, of its cause's cause,
-- and so on back to the start
pub data IsCauseChain (ms : List NotedMove) : (number : ℕ) → (places : List ℕ) → Type 0 where
  at_start : IsCauseChain ms 0 []
  by_cause : {place : ℕ} {places : List ℕ} → place < length ms → IsCauseChain ms (cause_at ms place) places →
      IsCauseChain ms (place + 1) (place ∷ places)

-- the sum of the delays of the moves at these indexes
abbrev pub delays_together : DelayTable → (given : List Bool) → List NotedMove → (places : List ℕ) → ℕ
delays_together d given ms places = sum_by (own_delay d given ms) places

-- the time of a move, its node, the value that the node takes, and the move's own delay
abbrev pub cause_spelling : (time : ℕ) → (name : List ℕ) → (value : Bool) → (delay : ℕ) → List ℕ
cause_spelling time name value delay = concat (decimal time ∷ codes " " ∷ name
    ∷ (if value then codes " 1 delay " else codes " 0 delay ") ∷ decimal delay ∷ codes "\n" ∷ [])

abbrev pub cause_line_at : (names : List (List ℕ)) → DelayTable → (given : List Bool) → List NotedMove → ℕ → List ℕ
cause_line_at names d given ms place = cause_spelling (time_behind ms (place + 1))
    (slice_index_or names (moved_at ms place) []) (slice_index_or given place false) (own_delay d given ms place)

abbrev pub end_time_line : ℕ → List ℕ
end_time_line time = concat (codes "time " ∷ decimal time ∷ codes "\n" ∷ [])

-- a line for each move at these indexes, the last of them first, and then the time of the run's last move
abbrev pub causes_spelling : (names : List (List ℕ)) → DelayTable → (given : List Bool) → List NotedMove →
    (places : List ℕ) → List ℕ
causes_spelling names d given ms places =
    flat_map (cause_line_at names d given ms) (reverse places) ++ end_time_line (time_behind ms (length ms))

-- the text lists the moves by which the last one came, the earliest first, and their delays add up to its time
pub record TellsCauses (names : List (List ℕ)) (d : DelayTable) (given : List Bool) (ms : List NotedMove)
    (text : List ℕ) : Type 0 where
  pub places : List ℕ
  pub chain : IsCauseChain ms (length ms) places
  pub told_causes : text ≡ causes_spelling names d given ms places
  pub adds_up : delays_together d given ms places ≡ time_behind ms (length ms)
