-- What a net passes in so many sweeps without a reset node it passes with one in two more.
use Rattle.std.proofs.Common.{◌≡◌, ◌⊎◌, ℕ, ◌*◌, Bool, None, List, sym, subst, inl, inr}
use Rattle.prs_core.specs.Nets.{NetValue, IsNet}
use Rattle.reset_net.specs.Resets.{reset_of}
use Rattle.env_script.specs.Scripts.{OfferValue}
use Rattle.env_script.specs.Runs.{RunState, IsPowered, IsSafeRun, begin_at}
use Rattle.env_script.specs.OneLength.{AllSafe}
use Rattle.reset_runs.specs.Power.{IsBefore, AfterReset, EachFromPower}
use Rattle.width_check.specs.Processes.{TypedProgram}
use Rattle.chp_meaning.specs.Rounds.{rounds}
use Rattle.net_compose.specs.Carries.{Carries}
use Rattle.net_compose.specs.Time.{HasPassed, PassesInSweeps, KeepsTime}
use Rattle.net_compose.proofs.TimeKept.{carried_safe}
use Rattle.net_pace.specs.Pace.{KeepsTimeReset, TimedPaceReset}
use Rattle.net_pace.specs.Sums.{PassesInSweepsReset}
use Rattle.net_pace.proofs.TimedKept.{timed_pace_reset}
use Rattle.net_pace.proofs.ResetSweeps.{since_reset}

-- runs from power-up are told by the law of `reset_runs`
abbrev pub ResetRuns : Type 0
ResetRuns = (net : NetValue) → IsNet net → net.reset ≡ None → EachFromPower net

pub passes_reset : ResetRuns → (net : NetValue) (p : TypedProgram) (script : List OfferValue) (n sweeps : ℕ) → IsNet net → net.reset ≡ None
    → AllSafe net script (begin_at net net.first) → PassesInSweeps net p script n sweeps → PassesInSweepsReset (reset_of net) p script n sweeps
passes_reset each net p script n sweeps is plain safe passes values powered moves run begins =
    let s = since_reset net is plain script (each net is plain) safe values powered moves run sweeps begins in
    subst (λ (st : RunState). HasPassed st (rounds p script n)) (sym s.ends) (passes s.since s.run s.sweeps)

-- so that what keeps time without it keeps it with it
pub keeps_time_reset : ResetRuns → (net : NetValue) (p : TypedProgram) (sweeps : ℕ) → IsNet net → net.reset ≡ None → Carries net p → KeepsTime net p sweeps
    → KeepsTimeReset (reset_of net) p sweeps
keeps_time_reset each net p sweeps is plain carries keeps script fits values powered moves run n =
    passes_reset each net p script n (n * sweeps) is plain (carried_safe net p carries script fits) (λ ns other. keeps script fits ns other n) values powered
    moves run

pub safe_reset : ResetRuns → (net : NetValue) (script : List OfferValue) → IsNet net → net.reset ≡ None → AllSafe net script (begin_at net net.first)
    → (values : List Bool) → IsPowered (reset_of net) values → AllSafe (reset_of net) script (begin_at (reset_of net) values)
safe_reset each net script is plain safe values powered moves run = by (each net is plain script values powered moves run).course
  where
    by : IsBefore net script (begin_at (reset_of net) values) moves ⊎ AfterReset net script (begin_at (reset_of net) values) moves
        → IsSafeRun (reset_of net) script (begin_at (reset_of net) values) moves
    by (inl b) = b.safe
    by (inr b) = b.safe (safe b.since b.run)

pub keeps_timed_pace_reset : ResetRuns → (net : NetValue) (p : TypedProgram) (sweeps : ℕ) → IsNet net → net.reset ≡ None → Carries net p
    → KeepsTime net p sweeps → TimedPaceReset (reset_of net) p sweeps
keeps_timed_pace_reset each net p sweeps is plain carries keeps =
    timed_pace_reset (reset_of net) p sweeps (λ script fits. safe_reset each net script is plain (carried_safe net p carries script fits))
    (keeps_time_reset each net p sweeps is plain carries keeps)
