-- Runs of a net under a script: moves in any order, what has passed on each channel, and when a run is safe.
use Rattle.std.specs.Prelude.{◌≡◌, ◌≢◌, ℕ, Bool, true, false, not, ◌&&◌, ◌||◌, ◌==◌, if◌then◌else◌, List, [], ◌∷◌, ◌++◌, length, replicate, AllPairs, slice_index_or, Option, Some, None}
use Rattle.prs_core.specs.declared.wires.Wires.{Wires}
use Rattle.prs_core.specs.Nets.{NetValue, first_at, IsUndriven}
use Rattle.prs_core.specs.Moves.{high, rule_enabled, both_ways, fired, rail_value_of}
use Rattle.env_script.specs.Scripts.{OfferValue}
use Rattle.env_script.specs.Environment.{env_enabled, in_reset, is_reset}
use Rattle.env_script.specs.Phases.{phase_fault}

-- the nodes' values, and for each channel the values that have passed, the first one first
pub record RunState : Type 0 where
  pub values : List Bool
  pub histories : List (List ℕ)

abbrev pub history_at : List (List ℕ) → ℕ → List ℕ
history_at histories channel = slice_index_or histories channel []

-- how many values are completed on a channel
abbrev pub completed : List (List ℕ) → ℕ → ℕ
completed histories channel = length (history_at histories channel)

-- a move of the node is enabled, a rule's or the environment's
abbrev pub move_enabled : NetValue → List OfferValue → RunState → ℕ → Bool
move_enabled net script st n = rule_enabled net (high st.values) n
    || env_enabled net script (completed st.histories) (high st.values) n

-- the value that the move of the node completes on the channel: the one on the rails where the acknowledge rises
abbrev pub completes : (ℕ → Bool) → Wires → ℕ → Option ℕ
completes v w n = if (n == w.ack) && not (v n) then rail_value_of v w.rails else None

abbrev pub with_value : Option ℕ → List ℕ → List ℕ
with_value None history = history
with_value (Some value) history = history ++ value ∷ []

abbrev pub with_values : (ℕ → Bool) → ℕ → List Wires → List (List ℕ) → List (List ℕ)
with_values v n [] histories = histories
with_values v n (w ∷ ws) [] = []
with_values v n (w ∷ ws) (h ∷ hs) = with_value (completes v w n) h ∷ with_values v n ws hs

-- nothing is completed while a reset node is high
abbrev pub histories_after : NetValue → RunState → ℕ → List (List ℕ)
histories_after net st n = if in_reset net.reset (high st.values) then st.histories else with_values (high st.values) n
    net.channels st.histories

-- the state after the move of the node
abbrev pub moved : NetValue → RunState → ℕ → RunState
moved net st n = record { values = fired st.values n; histories = histories_after net st n }

-- move by move, what is enabled when its turn comes
abbrev pub IsRun : NetValue → List OfferValue → RunState → List ℕ → Type 0
IsRun net script st [] = Unit {0}
IsRun net script st (n ∷ ns) = (move_enabled net script st n ≡ true) × IsRun net script (moved net st n) ns

abbrev pub after : NetValue → RunState → List ℕ → RunState
after net st [] = st
after net st (n ∷ ns) = after net (moved net st n) ns

-- with these values of the nodes, before anything has passed
abbrev pub begin_at : NetValue → List Bool → RunState
begin_at net values = record { values = values; histories = replicate (length net.channels) [] }

abbrev pub run_start : NetValue → RunState
run_start net = begin_at net net.first

-- no move is enabled
abbrev pub IsAtRest : NetValue → List OfferValue → RunState → Type 0
IsAtRest net script st = (n : ℕ) → move_enabled net script st n ≡ false

-- no node has interference (both guards hold)
abbrev pub IsApart : NetValue → RunState → Type 0
IsApart net st = (n : ℕ) → both_ways net (high st.values) n ≡ false

-- the move disables no other enabled move, and breaks the phases of no channel
pub record IsSafeMove (net : NetValue) (script : List OfferValue) (st : RunState) (n : ℕ) : Type 0 where
  pub stable : (m : ℕ) → m ≢ n → move_enabled net script st m ≡ true → move_enabled net script (moved net st n) m ≡ true
  pub phases : phase_fault net (high st.values) n ≡ None

abbrev pub IsSafeRun : NetValue → List OfferValue → RunState → List ℕ → Type 0
IsSafeRun net script st [] = IsApart net st
IsSafeRun net script st (n ∷ ns) = IsApart net st × IsSafeMove net script st n
    × IsSafeRun net script (moved net st n) ns

-- Reset runs. Each node that has rules has any value at first, and every other node its first value.
pub record IsPowered (net : NetValue) (values : List Bool) : Type 0 where
  pub count : length values ≡ length net.first
  pub others : (n : ℕ) → IsUndriven net n → high values n ≡ first_at net n

-- the moves of a reset run before reset falls: all of them where it doesn't
abbrev pub until_reset : Option ℕ → List ℕ → List ℕ
until_reset reset [] = []
until_reset reset (n ∷ ns) = if is_reset reset n then [] else n ∷ until_reset reset ns

-- how many moves come after the one that lowers reset
abbrev pub moves_since_reset : Option ℕ → List ℕ → ℕ
moves_since_reset reset [] = 0
moves_since_reset reset (n ∷ ns) = if is_reset reset n then length ns else moves_since_reset reset ns

-- no node moves twice
abbrev pub IsOnceEach : List ℕ → Type 0
IsOnceEach ns = AllPairs (λ (a b : ℕ). a ≢ b) ns
