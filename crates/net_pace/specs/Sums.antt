-- How soon a net has passed what n rounds of its program pass under one script: by a number that is read off the run of
-- the program.
use Rattle.std.specs.Prelude.{◌*◌, ℕ, suc, Bool, List}
use Rattle.prs_core.specs.Nets.{NetValue}
use Rattle.reset_net.specs.Resets.{reset_of}
use Rattle.env_script.specs.Scripts.{OfferValue}
use Rattle.env_script.specs.Runs.{begin_at, after, IsRun, IsPowered}
use Rattle.env_script.specs.Sweeps.{Sweeps}
use Rattle.delay_script.specs.declared.noted.NotedMove.{NotedMove}
use Rattle.delay_script.specs.DelayTables.{DelayTable, TakesAtMost}
use Rattle.delay_script.specs.TimedRuns.{moved_nodes, IsTimedRun}
use Rattle.width_check.specs.Processes.{TypedProgram}
use Rattle.chp_meaning.specs.Halves.{ReadsNoTarget, halved_program}
use Rattle.chp_meaning.specs.Rounds.{rounds}
use Rattle.round_time.specs.Sums.{rounds_sum}
use Rattle.net_compose.specs.Time.{HasPassed, PassesInSweeps}
use Rattle.net_pace.specs.Lasting.{HasLasted}
use Rattle.net_pace.specs.Pace.{IsRoundTime}

-- Enough moves, one behind the other, for what n rounds of the program pass under a script: what its rounds come to
-- together, each for itself; where an assignment reads its own target those of the program in halves, of which it
-- takes twice as many. Or n times what is enough for any round.
pub data IsRoundsTime (p : TypedProgram) (script : List OfferValue) (n : ℕ) : (sweeps : ℕ) → Type 0 where
  as_summed : ReadsNoTarget p.body → IsRoundsTime p script n (rounds_sum p script n)
  as_halves_summed : IsRoundsTime p script n (rounds_sum (halved_program p) script (n * 2))
  as_counted : {sweeps : ℕ} → IsRoundTime p sweeps → IsRoundsTime p script n (n * sweeps)

-- each timed run with delays of at most `most`, the environment's too, if it has lasted so many times `most`
abbrev pub PassesInTime : NetValue → TypedProgram → List OfferValue → (n delays : ℕ) → Type 0
PassesInTime net p script n delays =
    (most : ℕ) (d : DelayTable) → TakesAtMost most d
    → (ms : List NotedMove) → IsTimedRun d net script (begin_at net net.first) ms
    → HasLasted net script (begin_at net net.first) ms (delays * most)
    → HasPassed (after net (begin_at net net.first) (moved_nodes ms)) (rounds p script n)

-- each run from power-up whose moves begin with two sweeps and so many
abbrev pub PassesInSweepsReset : NetValue → TypedProgram → List OfferValue → (n sweeps : ℕ) → Type 0
PassesInSweepsReset net p script n sweeps =
    (values : List Bool) → IsPowered net values
    → (moves : List ℕ) → IsRun net script (begin_at net values) moves
    → Sweeps net script (begin_at net values) (suc (suc sweeps)) moves
    → HasPassed (after net (begin_at net values) moves) (rounds p script n)

-- and each timed run from power-up, if it has lasted twice `most` longer
abbrev pub PassesInTimeReset : NetValue → TypedProgram → List OfferValue → (n delays : ℕ) → Type 0
PassesInTimeReset net p script n delays =
    (values : List Bool) → IsPowered net values
    → (most : ℕ) (d : DelayTable) → TakesAtMost most d
    → (ms : List NotedMove) → IsTimedRun d net script (begin_at net values) ms
    → HasLasted net script (begin_at net values) ms (suc (suc delays) * most)
    → HasPassed (after net (begin_at net values) (moved_nodes ms)) (rounds p script n)

-- The net without a reset node has passed what n rounds pass after so many moves, one behind the other, in whatever
-- order nodes switch and by the longest delay, and with a reset node after two more, from every power-up state.
pub record PassesRounds (net : NetValue) (p : TypedProgram) (script : List OfferValue) (n moves : ℕ) : Type 0 where
  pub swept : PassesInSweeps net p script n moves
  pub timed : PassesInTime net p script n moves
  pub swept_reset : PassesInSweepsReset (reset_of net) p script n moves
  pub timed_reset : PassesInTimeReset (reset_of net) p script n moves
