-- What is kept of the moves that are enabled: since which move, and when they are due.
use Rattle.std.specs.Prelude.{◌≡◌, ℕ, ◌+◌, ◌*◌, ◌<◌, ◌≤◌, Bool, true, false, ◌&&◌, List, [], ◌∷◌, length, take, slice_index_or, slice_set, Option, Some, None}
use Rattle.prs_core.specs.Nets.{NetValue}
use Rattle.prs_core.specs.Moves.{high}
use Rattle.env_script.specs.declared.hazard.Hazard.{Hazard}
use Rattle.env_script.specs.Scripts.{OfferValue}
use Rattle.env_script.specs.Runs.{RunState, move_enabled, after}
use Rattle.event_sim.specs.Passing.{passed_in}
use Rattle.event_sim.specs.Following.{power_of}
use Rattle.event_sim.specs.Ends.{last_hazard, end_after}
use Rattle.event_sim.specs.Locality.{is_among}
use Rattle.event_sim.specs.Stages.{StageValue, now_of}
use Rattle.delay_script.specs.declared.due.Due.{Due}
use Rattle.delay_script.specs.declared.due.Next.{Next}
use Rattle.delay_script.specs.declared.noted.NotedMove.{NotedMove}
use Rattle.delay_script.specs.DelayTables.{DelayTable, IsDelayTable, next_delay}
use Rattle.delay_script.specs.Causes.{IsEnabledSince}
use Rattle.delay_script.specs.TimedRuns.{moved_nodes, due_time, ComesNoLater, IsTimedRun, TimedValue, timed_start}

abbrev pub due_at : List (Option Due) → ℕ → Option Due
due_at dues n = slice_index_or dues n None

-- after these moves a node's move is enabled since that cause, and due at that time
pub record IsDue (d : DelayTable) (net : NetValue) (script : List OfferValue) (st : RunState) (ms : List NotedMove)
    (n : ℕ) (due : Due) : Type 0 where
  pub since : IsEnabledSince net script st (moved_nodes ms) n due.cause
  pub time : due.time ≡ due_time d net st ms due.cause n
  pub soon : due.time ≤ (length ms + 1) * 1000000

-- nothing is kept of a node that has no enabled move
abbrev pub IsKeptDue : DelayTable → NetValue → List OfferValue → RunState → List NotedMove → ℕ → Option Due → Type 0
IsKeptDue d net script st ms n None = move_enabled net script (after net st (moved_nodes ms)) n ≡ false
IsKeptDue d net script st ms n (Some due) = IsDue d net script st ms n due

abbrev pub AreKeptDues : DelayTable → NetValue → List OfferValue → RunState → List NotedMove → List (Option Due) →
    Type 0
AreKeptDues d net script st ms dues = (n : ℕ) → n < length dues → IsKeptDue d net script st ms n (due_at dues n)

-- the first of the moves that are due, of the nodes below a number
pub record IsFirstDue (dues : List (Option Due)) (count : ℕ) (m : Next) : Type 0 where
  pub within : m.node < count
  pub due : due_at dues m.node ≡ Some m.due
  pub first : (n : ℕ) (due : Due) → n < count → due_at dues n ≡ Some due →
      ComesNoLater m.due.time m.node due.time n

abbrev pub IsFirstOf : List (Option Due) → ℕ → Option Next → Type 0
IsFirstOf dues count None = (n : ℕ) → n < count → due_at dues n ≡ None
IsFirstOf dues count (Some m) = IsFirstDue dues count m

abbrev pub next_due : ℕ → Option Due → Option Next
next_due n None = None
next_due n (Some due) = Some (record { node = n; due = due })

-- what is kept without the move that comes next
abbrev pub without : List (Option Due) → Option Next → List (Option Due)
without dues None = dues
without dues (Some m) = slice_set dues m.node None

-- what is kept of a node after a move, where it is enabled then or not, and the move is its own or not
abbrev pub renewed_due : (now own : Bool) → Option Due → Due → Option Due
renewed_due false own was fresh = None
renewed_due true true was fresh = Some fresh
renewed_due true false None fresh = Some fresh
renewed_due true false (Some due) fresh = Some due

-- the entry of a node that is enabled since the move of this cause and time
abbrev pub fresh_due : DelayTable → (ℕ → Bool) → Due → ℕ → Due
fresh_due d v made n = record { cause = made.cause; time = made.time + next_delay d v n }

-- what is kept of a node: an entry is added where it is wanted and there is none; else nothing changes
abbrev pub filled_due : Bool → Option Due → Due → Option Due
filled_due false was fresh = was
filled_due true None fresh = Some fresh
filled_due true (Some due) fresh = Some due

-- each of these nodes that is enabled has an entry: a new one is as enabled since the move of this cause and time
pub record AreFilled (s : StageValue) (d : DelayTable) (made : Due) (nodes : List ℕ) (was now : List (Option Due)) :
    Type 0 where
  pub count : length now ≡ length was
  pub each : (n : ℕ) → n < length was → due_at now n ≡ filled_due
      (is_among nodes n && move_enabled s.net s.script (now_of s) n) (due_at was n) (fresh_due d (high s.values) made n)

-- the enabled moves as far as they are looked at: none, or one of them
abbrev pub list_of_next : Option Next → List ℕ
list_of_next None = []
list_of_next (Some m) = m.node ∷ []

-- A timed run that has made these moves, none of whose parts has ended. Where no hazard has come, an enabled move has
-- stayed enabled, so what was kept is still right.
pub record IsOnItsWay (t : TimedValue) (ms : List NotedMove) (s : StageValue) (dues : List (Option Due))
    (last : Option Hazard) : Type 0 where
  pub net : s.net ≡ t.net
  pub script : s.script ≡ t.script
  pub now : now_of s ≡ after t.net (timed_start t) (moved_nodes ms)
  pub passed : s.passed ≡ passed_in t.net (timed_start t) (moved_nodes ms)
  pub room : t.steps ≤ s.room + length ms
  pub timed : IsTimedRun t.delays t.net t.script (timed_start t) ms
  pub count : length dues ≡ length t.net.first
  pub kept : last ≡ None → AreKeptDues t.delays t.net t.script (timed_start t) ms dues
  pub hazard : last ≡ last_hazard t.net t.script (timed_start t) (moved_nodes ms)
  pub no_end : (k : ℕ) → k < length ms →
      end_after t.net t.script t.steps (timed_start t) (moved_nodes (take k ms)) ≡ None

-- of a timed run that hasn't begun
pub record IsTimedReady (s : StageValue) (d : DelayTable) (dues : List (Option Due)) (ms : List NotedMove)
    (slots steps : ℕ) (start : Bool) : Type 0 where
  pub values : s.values ≡ power_of s.net start
  pub passed : s.passed ≡ []
  pub room : steps ≤ s.room
  pub none_made : ms ≡ []
  pub slots_are : steps ≤ slots
  pub steps_few : steps ≤ 1000000
  pub delays : IsDelayTable (length s.net.first) d
  pub count : length dues ≡ length s.net.first
  pub kept : AreKeptDues d s.net s.script (now_of s) [] dues
