-- When a timed run has lasted long enough for what is to have come by then.
use Rattle.std.specs.Prelude.{◌⊎◌, ◌<◌, ℕ, List, length}
use Rattle.prs_core.specs.Nets.{NetValue}
use Rattle.env_script.specs.Scripts.{OfferValue}
use Rattle.env_script.specs.Runs.{RunState, after, IsAtRest}
use Rattle.delay_script.specs.declared.noted.NotedMove.{NotedMove}
use Rattle.delay_script.specs.TimedRuns.{moved_nodes, time_behind}

-- the last move of the timed run comes later than that, or the run has come to rest
abbrev pub HasLasted : NetValue → List OfferValue → RunState → List NotedMove → (time : ℕ) → Type 0
HasLasted net script st ms time =
    (time < time_behind ms (length ms)) ⊎ IsAtRest net script (after net st (moved_nodes ms))
