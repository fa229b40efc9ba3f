-- No value on a channel waits for ever because others go on. What a program passes under a script its net passes too:
-- in a run that begins with enough sweeps, in one that never ends and in which each sweep ends, and in a timed run that
-- lasts long enough.
use Rattle.std.specs.Prelude.{◌≡◌, ℕ, zero, suc, ◌+◌, ◌*◌, true, Bool, List, [], ◌∷◌, slice_get, Some}
use Rattle.prs_core.specs.Nets.{NetValue}
use Rattle.env_script.specs.Scripts.{OfferValue, IsScript}
use Rattle.env_script.specs.Runs.{RunState, history_at, move_enabled, begin_at, after, IsRun, IsPowered}
use Rattle.env_script.specs.Sweeps.{IsSweep, Sweeps}
use Rattle.delay_script.specs.declared.noted.NotedMove.{NotedMove}
use Rattle.delay_script.specs.DelayTables.{DelayTable, TakesAtMost}
use Rattle.delay_script.specs.TimedRuns.{moved_nodes, IsTimedRun}
use Rattle.width_check.specs.Processes.{TypedProgram}
use Rattle.chp_meaning.specs.Rounds.{rounds}
use Rattle.net_pace.specs.Lasting.{HasLasted}

-- the value has passed on the channel, behind k others
abbrev pub HasValue : List (List ℕ) → (channel k value : ℕ) → Type 0
HasValue histories channel k value = slice_get (history_at histories channel) k ≡ Some value

-- so it has in n rounds of the program under the script
pub record RoundsPass (p : TypedProgram) (script : List OfferValue) (n channel k value : ℕ) : Type 0 where
  pub fits : IsScript p.channels script
  pub passed : HasValue (rounds p script n).histories channel k value

-- ---- runs that never end: the node of each move

-- so many moves of it, behind those before
abbrev pub stretch : (ℕ → ℕ) → (before count : ℕ) → List ℕ
stretch nodes before zero = []
stretch nodes before (suc k) = nodes before ∷ stretch nodes (suc before) k

-- all its beginnings are runs from the state
abbrev pub IsEndlessRun : NetValue → List OfferValue → RunState → (ℕ → ℕ) → Type 0
IsEndlessRun net script st nodes = (count : ℕ) → IsRun net script st (stretch nodes 0 count)

-- the state after so many of its moves
abbrev pub state_after : NetValue → RunState → (ℕ → ℕ) → (count : ℕ) → RunState
state_after net st nodes count = after net st (stretch nodes 0 count)

-- each sweep ends, whenever it begins
abbrev pub SweepsEnd : NetValue → List OfferValue → RunState → (ℕ → ℕ) → Type 0
SweepsEnd net script st nodes =
    (before : ℕ) → (count : ℕ) × IsSweep net script (state_after net st nodes before) (stretch nodes before count)

-- no enabled node waits for ever, whenever it is enabled
abbrev pub NoNodeWaits : NetValue → List OfferValue → RunState → (ℕ → ℕ) → Type 0
NoNodeWaits net script st nodes =
    (before n : ℕ) → move_enabled net script (state_after net st nodes before) n ≡ true
    → (more : ℕ) × (nodes (before + more) ≡ n)

-- ---- what a net passes, from these values of its nodes, where so many sweeps are enough for n rounds

-- each run that begins with enough sweeps has passed the value
abbrev pub SweptRunsPass : NetValue → TypedProgram → (start : List Bool) → (sweeps : ℕ → ℕ) → Type 0
SweptRunsPass net p start sweeps =
    (script : List OfferValue) (n channel k value : ℕ) → RoundsPass p script n channel k value
    → (moves : List ℕ) → IsRun net script (begin_at net start) moves
    → Sweeps net script (begin_at net start) (sweeps n) moves
    → HasValue (after net (begin_at net start) moves).histories channel k value

-- each run that never ends, and in which each sweep ends, passes it
abbrev pub EndlessRunsPass : NetValue → TypedProgram → (start : List Bool) → Type 0
EndlessRunsPass net p start =
    (script : List OfferValue) (n channel k value : ℕ) → RoundsPass p script n channel k value
    → (nodes : ℕ → ℕ) → IsEndlessRun net script (begin_at net start) nodes
    → SweepsEnd net script (begin_at net start) nodes
    → (count : ℕ) × HasValue (state_after net (begin_at net start) nodes count).histories channel k value

-- each timed run, with delays of at most `most`, that has lasted as many times `most` has passed it
abbrev pub TimedRunsPass : NetValue → TypedProgram → (start : List Bool) → (sweeps : ℕ → ℕ) → Type 0
TimedRunsPass net p start sweeps =
    (script : List OfferValue) (n channel k value : ℕ) → RoundsPass p script n channel k value
    → (most : ℕ) (d : DelayTable) → TakesAtMost most d
    → (ms : List NotedMove) → IsTimedRun d net script (begin_at net start) ms
    → HasLasted net script (begin_at net start) ms (sweeps n * most)
    → HasValue (after net (begin_at net start) (moved_nodes ms)).histories channel k value

pub record NoValueWaitsFrom (net : NetValue) (p : TypedProgram) (start : List Bool) (sweeps : ℕ → ℕ) : Type 0 where
  pub swept : SweptRunsPass net p start sweeps
  pub endless : EndlessRunsPass net p start
  pub timed : TimedRunsPass net p start sweeps

-- from the net's first values, in so many sweeps for each round
abbrev pub NoValueWaits : NetValue → TypedProgram → (sweeps : ℕ) → Type 0
NoValueWaits net p sweeps = NoValueWaitsFrom net p net.first (λ n. n * sweeps)

-- from every power-up state, in two sweeps more
abbrev pub NoValueWaitsReset : NetValue → TypedProgram → (sweeps : ℕ) → Type 0
NoValueWaitsReset net p sweeps =
    (values : List Bool) → IsPowered net values → NoValueWaitsFrom net p values (λ n. suc (suc (n * sweeps)))
