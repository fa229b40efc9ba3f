-- How soon a net passes what its program passes: by time, where no delay is longer than a bound, and from power-up
-- under reset.
use Rattle.std.specs.Prelude.{◌*◌, ℕ, suc, min, Bool, List}
use Rattle.prs_core.specs.Nets.{NetValue}
use Rattle.env_script.specs.Scripts.{OfferValue, IsScript}
use Rattle.env_script.specs.Runs.{begin_at, after, IsRun, IsPowered}
use Rattle.env_script.specs.Sweeps.{Sweeps}
use Rattle.delay_script.specs.declared.noted.NotedMove.{NotedMove}
use Rattle.delay_script.specs.DelayTables.{DelayTable, TakesAtMost}
use Rattle.delay_script.specs.TimedRuns.{moved_nodes, IsTimedRun}
use Rattle.width_check.specs.Processes.{TypedProgram}
use Rattle.chp_meaning.specs.Halves.{ReadsNoTarget, halved_program}
use Rattle.chp_meaning.specs.Rounds.{rounds}
use Rattle.round_time.specs.Longest.{longest}
use Rattle.net_compose.specs.Time.{HasPassed, sweeps_for_round}
use Rattle.net_pace.specs.Lasting.{HasLasted}

-- Enough sweeps for what a round of the program passes: as many as `longest`, which no way of moves through the circuit
-- from the steps of one round to those of the next exceeds. Where an assignment reads its own target the circuit is
-- that of the program in halves, of which a round takes two. (In both 2 nodes + 1 takes the place of `longest` where it
-- is less.)
pub data IsRoundTime (p : TypedProgram) : (sweeps : ℕ) → Type 0 where
  as_whole : ReadsNoTarget p.body → IsRoundTime p (min (longest p) (sweeps_for_round p))
  as_halves : IsRoundTime p (2 * min (longest (halved_program p)) (sweeps_for_round p))

-- Each timed run from the net's first values, under every script, with delays of at most `most`, the environment's too,
-- has passed what n rounds of the program pass, if it has lasted so many times `most` for each of them.
abbrev pub TimedPace : NetValue → TypedProgram → (delays : ℕ) → Type 0
TimedPace net p delays =
    (script : List OfferValue) → IsScript p.channels script
    → (most : ℕ) (d : DelayTable) → TakesAtMost most d
    → (ms : List NotedMove) → IsTimedRun d net script (begin_at net net.first) ms
    → (n : ℕ) → HasLasted net script (begin_at net net.first) ms (n * delays * most)
    → HasPassed (after net (begin_at net net.first) (moved_nodes ms)) (rounds p script n)

-- Each run from power-up, whose moves begin with two sweeps and so many for each of n rounds of the program, has passed
-- what these pass. (In the first sweep each node goes to its first value, in the second reset falls.)
abbrev pub KeepsTimeReset : NetValue → TypedProgram → (sweeps : ℕ) → Type 0
KeepsTimeReset net p sweeps =
    (script : List OfferValue) → IsScript p.channels script
    → (values : List Bool) → IsPowered net values
    → (moves : List ℕ) → IsRun net script (begin_at net values) moves
    → (n : ℕ) → Sweeps net script (begin_at net values) (suc (suc (n * sweeps))) moves
    → HasPassed (after net (begin_at net values) moves) (rounds p script n)

-- and so has each timed run from power-up, if it has lasted twice `most` longer
abbrev pub TimedPaceReset : NetValue → TypedProgram → (delays : ℕ) → Type 0
TimedPaceReset net p delays =
    (script : List OfferValue) → IsScript p.channels script
    → (values : List Bool) → IsPowered net values
    → (most : ℕ) (d : DelayTable) → TakesAtMost most d
    → (ms : List NotedMove) → IsTimedRun d net script (begin_at net values) ms
    → (n : ℕ) → HasLasted net script (begin_at net values) ms (suc (suc (n * delays)) * most)
    → HasPassed (after net (begin_at net values) (moved_nodes ms)) (rounds p script n)
