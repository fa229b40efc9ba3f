-- The wave of a run.
use Rattle.std.specs.Prelude.{ℕ, Bool, List, map}
use Rattle.prs_core.specs.Nets.{NetValue}
use Rattle.event_sim.specs.Following.{power_of}
use Rattle.delay_script.specs.declared.noted.NotedMove.{NotedMove}
use Rattle.wave_file.specs.Waves.{WaveValue, wave_of}

abbrev pub timed_changes : List NotedMove → List (ℕ × ℕ)
timed_changes ms = map (λ (m : NotedMove). (m.time, m.node)) ms

-- The nodes with their values at power-up, and a change for each move.
abbrev pub wave_of_run : NetValue → (high : Bool) → List NotedMove → WaveValue
wave_of_run net high ms = wave_of net.names (power_of net high) (timed_changes ms)
