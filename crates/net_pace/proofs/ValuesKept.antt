-- What keeps time lets no value wait for ever.
use Rattle.std.proofs.Common.{◌≡◌, ℕ, suc, ◌*◌, List, Bool, sym, subst}
use Rattle.std.specs.Prelude.{slice_get, Some}
use Rattle.prs_core.specs.Nets.{NetValue}
use Rattle.env_script.specs.Runs.{RunState, history_at, begin_at, after}
use Rattle.delay_script.specs.TimedRuns.{moved_nodes}
use Rattle.width_check.specs.Processes.{TypedProgram}
use Rattle.chp_meaning.specs.Steps.{Configuration}
use Rattle.chp_meaning.specs.Rounds.{rounds}
use Rattle.net_compose.specs.Time.{HasPassed, KeepsTime}
use Rattle.net_pace.specs.Endless.{HasValue, stretch, SweptRunsPass, EndlessRunsPass, TimedRunsPass, NoValueWaits, NoValueWaitsReset}
use Rattle.net_pace.specs.Pace.{TimedPace, KeepsTimeReset, TimedPaceReset}
use Rattle.net_pace.proofs.EndlessSweeps.{still_there, many_sweeps}

has_value : (st : RunState) (c : Configuration) → HasPassed st c → (channel k value : ℕ) → HasValue c.histories channel k value
    → HasValue st.histories channel k value
has_value st c passed channel k value there =
    let more = passed channel in
    subst (λ (xs : List ℕ). slice_get xs k ≡ Some value) (sym more.1) (still_there (history_at c.histories channel) more.0 k value there)

-- a run that never ends begins with enough sweeps
endless_pass : (net : NetValue) (p : TypedProgram) (start : List Bool) (sweeps : ℕ → ℕ) → SweptRunsPass net p start sweeps → EndlessRunsPass net p start
endless_pass net p start sweeps swept script n channel k value due nodes run ends =
    let enough = many_sweeps nodes net script (begin_at net start) ends (sweeps n) 0 in
    (enough.0, swept script n channel k value due (stretch nodes 0 enough.0) (run enough.0) enough.1)

pub no_value_waits : (net : NetValue) (p : TypedProgram) (sweeps : ℕ) → KeepsTime net p sweeps → TimedPace net p sweeps → NoValueWaits net p sweeps
no_value_waits net p sweeps keeps timed = record { swept = swept; endless = endless_pass net p net.first (λ n. n * sweeps) swept; timed = by_time }
  where
    swept : SweptRunsPass net p net.first (λ n. n * sweeps)
    swept script n channel k value due moves run begins =
        has_value (after net (begin_at net net.first) moves) (rounds p script n) (keeps script due.fits moves run n begins) channel k value due.passed

    by_time : TimedRunsPass net p net.first (λ n. n * sweeps)
    by_time script n channel k value due most d few ms is lasted =
        has_value (after net (begin_at net net.first) (moved_nodes ms)) (rounds p script n) (timed script due.fits most d few ms is n lasted)
        channel k value due.passed

pub no_value_waits_reset : (net : NetValue) (p : TypedProgram) (sweeps : ℕ) → KeepsTimeReset net p sweeps → TimedPaceReset net p sweeps
    → NoValueWaitsReset net p sweeps
no_value_waits_reset net p sweeps keeps timed values powered =
    record { swept = swept; endless = endless_pass net p values (λ n. suc (suc (n * sweeps))) swept; timed = by_time }
  where
    swept : SweptRunsPass net p values (λ n. suc (suc (n * sweeps)))
    swept script n channel k value due moves run begins =
        has_value (after net (begin_at net values) moves) (rounds p script n) (keeps script due.fits values powered moves run n begins)
        channel k value due.passed

    by_time : TimedRunsPass net p values (λ n. suc (suc (n * sweeps)))
    by_time script n channel k value due most d few ms is lasted =
        has_value (after net (begin_at net values) (moved_nodes ms)) (rounds p script n)
        (timed script due.fits values powered most d few ms is n lasted) channel k value due.passed
