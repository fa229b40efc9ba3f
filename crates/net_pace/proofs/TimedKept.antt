-- What a net passes in so many sweeps it passes in as many delays.
use Rattle.std.proofs.Common.{ℕ, suc, ◌*◌, Bool, List}
use Rattle.prs_core.specs.Nets.{NetValue}
use Rattle.env_script.specs.Scripts.{OfferValue, IsScript}
use Rattle.env_script.specs.Runs.{begin_at, IsPowered}
use Rattle.env_script.specs.OneLength.{AllSafe}
use Rattle.delay_script.specs.TimedRuns.{moved_nodes}
use Rattle.width_check.specs.Processes.{TypedProgram}
use Rattle.net_compose.specs.Carries.{Carries}
use Rattle.net_compose.specs.Time.{PassesInSweeps, KeepsTime}
use Rattle.net_compose.proofs.TimeKept.{carried_safe}
use Rattle.net_pace.specs.Pace.{TimedPace, KeepsTimeReset, TimedPaceReset}
use Rattle.net_pace.specs.Sums.{PassesInTime, PassesInSweepsReset, PassesInTimeReset}
use Rattle.net_pace.proofs.SweepLemmas.{timed_run, lasting_sweeps}

pub passes_in_time : (net : NetValue) (p : TypedProgram) (script : List OfferValue) (n sweeps : ℕ) → AllSafe net script (begin_at net net.first)
    → PassesInSweeps net p script n sweeps → PassesInTime net p script n sweeps
passes_in_time net p script n sweeps safe passes most d few ms timed lasted =
    let st = begin_at net net.first in
    passes (moved_nodes ms) (timed_run net script d st ms timed) (lasting_sweeps net script most d few st safe ms timed sweeps lasted)

pub passes_in_time_reset : (net : NetValue) (p : TypedProgram) (script : List OfferValue) (n sweeps : ℕ)
    → ((values : List Bool) → IsPowered net values → AllSafe net script (begin_at net values)) → PassesInSweepsReset net p script n sweeps
    → PassesInTimeReset net p script n sweeps
passes_in_time_reset net p script n sweeps safe passes values powered most d few ms timed lasted =
    let st = begin_at net values in
    passes values powered (moved_nodes ms) (timed_run net script d st ms timed)
    (lasting_sweeps net script most d few st (safe values powered) ms timed (suc (suc sweeps)) lasted)

-- so that what keeps time by sweeps keeps it by delays
pub timed_pace : (net : NetValue) (p : TypedProgram) (sweeps : ℕ) → Carries net p → KeepsTime net p sweeps → TimedPace net p sweeps
timed_pace net p sweeps carries keeps script fits most d few ms timed n =
    passes_in_time net p script n (n * sweeps) (carried_safe net p carries script fits) (λ moves run. keeps script fits moves run n) most d few ms timed

pub timed_pace_reset : (net : NetValue) (p : TypedProgram) (sweeps : ℕ)
    → ((script : List OfferValue) → IsScript p.channels script → (values : List Bool) → IsPowered net values → AllSafe net script (begin_at net values))
    → KeepsTimeReset net p sweeps → TimedPaceReset net p sweeps
timed_pace_reset net p sweeps safe keeps script fits values powered most d few ms timed n =
    passes_in_time_reset net p script n (n * sweeps) (safe script fits)
    (λ start powers moves run. keeps script fits start powers moves run n) values powered most d few ms timed
