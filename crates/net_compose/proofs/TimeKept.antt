-- Where one run of so many layers passes what n rounds of the program pass, each run of as many sweeps does.
use Rattle.std.proofs.Common.{◌*◌, ◌≤◌, ℕ, zero, suc, List, ◌++◌, ap, ◌∙◌, arith, append_assoc}
use Rattle.prs_core.specs.Nets.{NetValue, IsNet}
use Rattle.env_script.specs.Scripts.{OfferValue, IsScript}
use Rattle.env_script.specs.Runs.{RunState, history_at, begin_at, after}
use Rattle.env_script.specs.OneLength.{AllSafe}
use Rattle.env_script.specs.Sweeps.{Sweeps}
use Rattle.env_script.proofs.Overtakes.{passes_layers}
use Rattle.width_check.specs.Processes.{TypedProgram}
use Rattle.chp_meaning.specs.Rounds.{rounds}
use Rattle.net_compose.specs.Carries.{Carries}
use Rattle.net_compose.specs.Time.{KeepsTime, PassesInSweeps, PassesInLayers, HasLayers}

-- each run of a net that carries the program is safe
pub carried_safe : (net : NetValue) (p : TypedProgram) → Carries net p → (script : List OfferValue) → IsScript p.channels script
    → AllSafe net script (begin_at net net.first)
carried_safe net p carries script fits ns run = (carries.runs script fits ns run).safe

pub passes_by_safe : (net : NetValue) (p : TypedProgram) (script : List OfferValue) (n layers : ℕ) → IsNet net → AllSafe net script (begin_at net net.first)
    → PassesInLayers net p script n layers → PassesInSweeps net p script n layers
passes_by_safe net p script n layers is safe one moves run sweeps k =
    let passed = one.2 k in
    let more = passes_layers net script is layers one.0 moves (begin_at net net.first) safe one.1 run sweeps k in (
      passed.0 ++ more.0,
      more.1 ∙ (ap (λ h. h ++ more.0) passed.1 ∙ append_assoc (history_at (rounds p script n).histories k) passed.0 more.0),
    )

-- and so for each number of rounds
pub keeps_time_by_safe : (net : NetValue) (p : TypedProgram) (layers : ℕ) → IsNet net
    → ((script : List OfferValue) → IsScript p.channels script → AllSafe net script (begin_at net net.first)) → HasLayers net p layers
    → KeepsTime net p layers
keeps_time_by_safe net p layers is safe has script fits moves run n =
    passes_by_safe net p script n (n * layers) is (safe script fits) (has script fits n) moves run

pub keeps_time_by_layers : (net : NetValue) (p : TypedProgram) (layers : ℕ) → IsNet net → Carries net p → HasLayers net p layers → KeepsTime net p layers
keeps_time_by_layers net p layers is carries has =
    keeps_time_by_safe net p layers is (carried_safe net p carries) has

-- what begins with so many sweeps begins with fewer
fewer_sweeps : (net : NetValue) (script : List OfferValue) (few many : ℕ) → few ≤ many → (st : RunState) (ns : List ℕ) → Sweeps net script st many ns
    → Sweeps net script st few ns
fewer_sweeps net script zero many le st ns s = tt
fewer_sweeps net script (suc few) zero le st ns s = absurd (omega (arith, le))
fewer_sweeps net script (suc few) (suc many) le st ns s =
    (s.0, s.1, s.2, s.3, fewer_sweeps net script few many (omega (arith, le)) (after net st s.0) s.1 s.4)

more_each : (n few many : ℕ) → few ≤ many → n * few ≤ n * many
more_each zero few many le = omega arith
more_each (suc n) few many le = let e = more_each n few many le in omega (arith, e, le)

-- what keeps time in so many sweeps keeps it in more
pub keeps_more : (net : NetValue) (p : TypedProgram) (few many : ℕ) → few ≤ many → KeepsTime net p few → KeepsTime net p many
keeps_more net p few many le keeps script fits moves run n sweeps =
    keeps script fits moves run n (fewer_sweeps net script (n * few) (n * many) (more_each n few many le) (begin_at net net.first) moves sweeps)
