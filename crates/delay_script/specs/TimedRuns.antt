-- Runs whose moves have times: each comes its delay later than the move since which it is enabled.
use Rattle.std.specs.Prelude.{◌≡◌, ◌⊎◌, ℕ, ◌+◌, ◌<◌, ◌≤◌, Bool, List, [], ◌∷◌, ◌++◌, length, map, slice_index}
use Rattle.prs_core.specs.Nets.{NetValue}
use Rattle.prs_core.specs.Moves.{high}
use Rattle.env_script.specs.Scripts.{OfferValue}
use Rattle.env_script.specs.Runs.{RunState, IsRun, after, begin_at}
use Rattle.event_sim.specs.Following.{power_of}
use Rattle.event_sim.specs.Passing.{passed_in}
use Rattle.event_sim.specs.Ends.{EndsSo}
use Rattle.event_sim.specs.Simulating.{RanValue}
use Rattle.delay_script.specs.declared.noted.NotedMove.{NotedMove}
use Rattle.delay_script.specs.DelayTables.{DelayTable, next_delay}
use Rattle.delay_script.specs.Causes.{IsEnabledSince}

abbrev pub moved_nodes : List NotedMove → List ℕ
moved_nodes ms = map (λ (m : NotedMove). m.node) ms

-- the time of the move of this number, counted from 1; the start is at 0
abbrev pub time_behind : List NotedMove → ℕ → ℕ
time_behind ms number = slice_index (0 ∷ map (λ (m : NotedMove). m.time) ms) number

-- when the node's next move comes, if it is enabled since the move of this number
abbrev pub due_time : DelayTable → NetValue → RunState → List NotedMove → ℕ → ℕ → ℕ
due_time d net st ms number n =
    time_behind ms number + next_delay d (high (after net st (moved_nodes ms)).values) n

-- ordered by time, and at equal times by node
abbrev pub ComesNoLater : (time node other_time other : ℕ) → Type 0
ComesNoLater t n u m = (t < u) ⊎ ((t ≡ u) × (n ≤ m))

-- this move is the next one after these: its node is enabled since its cause, and of all enabled moves it is the first
pub record IsNextMove (d : DelayTable) (net : NetValue) (script : List OfferValue) (st : RunState) (ms : List NotedMove)
    (m : NotedMove) : Type 0 where
  pub cause : IsEnabledSince net script st (moved_nodes ms) m.node m.cause
  pub time : m.time ≡ due_time d net st ms m.cause m.node
  pub first : (n number : ℕ) → IsEnabledSince net script st (moved_nodes ms) n number →
      ComesNoLater m.time m.node (due_time d net st ms number n) n

-- after some moves these come, one by one
abbrev pub ComeNext : DelayTable → NetValue → List OfferValue → RunState → List NotedMove → List NotedMove → Type 0
ComeNext d net script st before [] = Unit {0}
ComeNext d net script st before (m ∷ ms) =
    IsNextMove d net script st before m × ComeNext d net script st (before ++ m ∷ []) ms

abbrev pub IsTimedRun : DelayTable → NetValue → List OfferValue → RunState → List NotedMove → Type 0
IsTimedRun d net script st ms = ComeNext d net script st [] ms

-- what is run, by which delays, for how many moves at most, and the value of the nodes that have rules at power-up
pub record TimedValue : Type 0 where
  pub net : NetValue
  pub script : List OfferValue
  pub steps : ℕ
  pub delays : DelayTable
  pub high : Bool

abbrev pub timed_value : NetValue → List OfferValue → ℕ → DelayTable → Bool → TimedValue
timed_value net script steps delays high =
    record { net = net; script = script; steps = steps; delays = delays; high = high }

abbrev pub timed_start : TimedValue → RunState
timed_start t = begin_at t.net (power_of t.net t.high)

-- these moves are the timed run until it has ended, this is its result, and the time of its last move
pub record IsTimedRan (t : TimedValue) (ms : List NotedMove) (r : RanValue) (end_time : ℕ) : Type 0 where
  pub run : IsRun t.net t.script (timed_start t) (moved_nodes ms)
  pub timed : IsTimedRun t.delays t.net t.script (timed_start t) ms
  pub ends : EndsSo t.net t.script t.steps (timed_start t) (moved_nodes ms) r.end
  pub net : r.net ≡ t.net
  pub moves : r.moves ≡ length ms
  pub done : r.done_high ≡ high (after t.net (timed_start t) (moved_nodes ms)).values 1
  pub passed : r.passed ≡ passed_in t.net (timed_start t) (moved_nodes ms)
  pub time : end_time ≡ time_behind ms (length ms)
