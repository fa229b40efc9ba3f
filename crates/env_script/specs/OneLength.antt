-- What is claimed of runs of a net that is free of hazards: those that rest all have one length.
use Rattle.std.specs.Prelude.{◌≡◌, ℕ, ◌≤◌, ◌==◌, List, length}
use Rattle.std.specs.List.{count_by}
use Rattle.prs_core.specs.Nets.{NetValue}
use Rattle.env_script.specs.Scripts.{OfferValue}
use Rattle.env_script.specs.Runs.{RunState, IsRun, IsSafeRun, IsAtRest, after}

-- each run from the state is safe
abbrev pub AllSafe : NetValue → List OfferValue → RunState → Type 0
AllSafe net script st = (ns : List ℕ) → IsRun net script st ns → IsSafeRun net script st ns

-- how often a run moves the node
abbrev pub times_moved : ℕ → List ℕ → ℕ
times_moved node ns = count_by (λ n. n == node) ns

-- two runs from one state have as many moves, move each node as often, and leave the same values and histories
pub record IsAlike (net : NetValue) (st : RunState) (ms ns : List ℕ) : Type 0 where
  pub moves : length ms ≡ length ns
  pub each : (node : ℕ) → times_moved node ms ≡ times_moved node ns
  pub state : after net st ms ≡ after net st ns

-- no run from the state has more moves than this one, and each that rests is like it
pub record EndsAll (net : NetValue) (script : List OfferValue) (st : RunState) (ns : List ℕ) : Type 0 where
  pub most : (ms : List ℕ) → IsRun net script st ms → length ms ≤ length ns
  pub alike : (ms : List ℕ) → IsRun net script st ms → IsAtRest net script (after net st ms) → IsAlike net st ms ns
