-- A net, a script of its channels, and how far a run has come.
use Rattle.std.specs.Prelude.{◌≡◌, ℕ, Bool, not, ◌&&◌, ◌==◌, List, length, Option, Some, None}
use Rattle.env_script.specs.declared.hazard.Hazard.{Hazard}
use Rattle.env_script.specs.declared.hazard.Hazard.TheVariants.{BothWays, Unstable, Protocol}
use Rattle.prs_core.specs.Nets.{NetValue}
use Rattle.env_script.specs.Scripts.{OfferValue, IsScript}
use Rattle.env_script.specs.Environment.{net_channels}
use Rattle.env_script.specs.Runs.{RunState}

pub record RunValue : Type 0 where
  pub net : NetValue
  pub script : List OfferValue
  pub now : RunState

abbrev pub running : NetValue → List OfferValue → List Bool → List (List ℕ) → RunValue
running net script values histories =
    record { net = net; script = script; now = record { values = values; histories = histories } }

pub record IsRunning (r : RunValue) : Type 0 where
  pub script : IsScript (net_channels r.net) r.script
  pub values : length r.now.values ≡ length r.net.first
  pub histories : length r.now.histories ≡ length r.net.channels

-- a node other than this one had an enabled move, and has none
abbrev pub lost : (was now : Bool) (other node : ℕ) → Bool
lost was now other node = not (other == node) && (was && not now)

-- a node with interference, else a node whose move is lost, else a channel whose phases are broken
abbrev pub worst : Option ℕ → Option ℕ → Option ℕ → Option Hazard
worst (Some k) taken broken = Some (BothWays k)
worst None (Some k) broken = Some (Unstable k)
worst None None (Some c) = Some (Protocol c)
worst None None None = None
