-- How long the moves of a net's nodes take.
use Rattle.std.specs.Prelude.{◌≡◌, ℕ, ◌≤◌, Bool, if◌then◌else◌, List, length, replicate, All, slice_index}

-- for each node how long its rise and its fall take
pub record DelayTable : Type 0 where
  pub up : List ℕ
  pub down : List ℕ

abbrev pub delay_table : List ℕ → List ℕ → DelayTable
delay_table up down = record { up = up; down = down }

-- of so many nodes, each delay is 1
abbrev pub unit_delays : (nodes : ℕ) → DelayTable
unit_delays nodes = delay_table (replicate nodes 1) (replicate nodes 1)

abbrev pub rise_delay : DelayTable → ℕ → ℕ
rise_delay d node = slice_index d.up node

abbrev pub fall_delay : DelayTable → ℕ → ℕ
fall_delay d node = slice_index d.down node

-- how long the next move of the node takes under the values of the nodes
abbrev pub next_delay : DelayTable → (ℕ → Bool) → ℕ → ℕ
next_delay d v node = if v node then fall_delay d node else rise_delay d node

-- two delays for each of so many nodes, none above a million
pub record IsDelayTable (nodes : ℕ) (d : DelayTable) : Type 0 where
  pub rises : length d.up ≡ nodes
  pub falls : length d.down ≡ nodes
  pub rises_few : All (λ delay. delay ≤ 1000000) d.up
  pub falls_few : All (λ delay. delay ≤ 1000000) d.down

-- no rise and no fall takes longer
pub record TakesAtMost (most : ℕ) (d : DelayTable) : Type 0 where
  pub rises : All (λ delay. delay ≤ most) d.up
  pub falls : All (λ delay. delay ≤ most) d.down
