-- How far a simulation has come.
use Rattle.std.specs.Prelude.{◌≡◌, ℕ, ◌+◌, ◌<◌, ◌≤◌, Bool, true, false, List, [], length, take, map, All, Option, Some, None}
use Rattle.prs_core.specs.Nets.{NetValue, IsNet}
use Rattle.prs_core.specs.Moves.{high, both_ways}
use Rattle.guard_rows.specs.Places.{RowsValue, AreRows}
use Rattle.env_script.specs.Scripts.{OfferValue, IsScript}
use Rattle.env_script.specs.Environment.{net_channels}
use Rattle.env_script.specs.Runs.{RunState, move_enabled, moved, after}
use Rattle.env_script.specs.declared.hazard.Hazard.{Hazard}
use Rattle.env_script.specs.declared.hazard.Hazard.TheVariants.{BothWays, Unstable, Protocol}
use Rattle.env_script.specs.Hazards.{least_below}
use Rattle.event_sim.specs.Locality.{IsPassing, is_among}
use Rattle.event_sim.specs.Following.{enabled_moves, follow, power_of, ArePicks}
use Rattle.event_sim.specs.Ends.{last_hazard, end_after}
use Rattle.event_sim.specs.Simulating.{SimValue, start_at}
use Rattle.event_sim.specs.Passing.{channel_histories, passed_in}

-- the net, the script, the nodes' values, what has passed, and for how many more values there is room
pub record StageValue : Type 0 where
  pub net : NetValue
  pub script : List OfferValue
  pub values : List Bool
  pub passed : List (ℕ × ℕ)
  pub room : ℕ

abbrev pub stage_with : NetValue → List OfferValue → List Bool → List (ℕ × ℕ) → ℕ → StageValue
stage_with net script values passed room =
    record { net = net; script = script; values = values; passed = passed; room = room }

abbrev pub now_of : StageValue → RunState
now_of s = record { values = s.values; histories = channel_histories (length s.net.channels) s.passed }

-- the enabled moves
abbrev pub moves_now : StageValue → List ℕ
moves_now s = enabled_moves s.net s.script (now_of s)

-- what is also kept: the counts of completed values, the rows of the guards, the set of the enabled moves, and the
-- least node with interference
pub record IsKeptBeside (s : StageValue) (counts : List ℕ) (rows : RowsValue) (moves : List Bool)
    (pulled : Option ℕ) : Type 0 where
  pub net : IsNet s.net
  pub script : IsScript (net_channels s.net) s.script
  pub values : length s.values ≡ length s.net.first
  pub counts_are : counts ≡ map (λ (h : List ℕ). length h) (now_of s).histories
  pub passed : All (λ (p : ℕ × ℕ). p.0 < length s.net.channels) s.passed
  pub rows_are : AreRows s.net s.values rows
  pub moves_are : IsPassing (length s.net.first) (move_enabled s.net s.script (now_of s)) moves
  pub pulled_is : pulled ≡ least_below (length s.net.first) (both_ways s.net (high s.values))

-- After a move of the node: these nodes have it among them, and each node that has a move now and had none before.
pub record AreConcerned (s : StageValue) (n : ℕ) (nodes : List ℕ) : Type 0 where
  pub own : is_among nodes n ≡ true
  pub others : (before : RunState) (m : ℕ) → now_of s ≡ moved s.net before n →
      length before.histories ≡ length s.net.channels → m < length s.net.first → is_among nodes m ≡ false →
      move_enabled s.net s.script (now_of s) m ≡ true → move_enabled s.net s.script before m ≡ true

-- a node with interference, else one whose move was disabled, else a channel whose phases are broken
abbrev pub worst_cause : Option ℕ → Option ℕ → Option ℕ → Option Hazard
worst_cause (Some k) lost broken = Some (BothWays k)
worst_cause None (Some k) broken = Some (Unstable k)
worst_cause None None (Some c) = Some (Protocol c)
worst_cause None None None = None

-- of a simulation that hasn't begun
pub record IsUnbegun (s : StageValue) (steps : ℕ) (start : Bool) : Type 0 where
  pub values : s.values ≡ power_of s.net start
  pub passed : s.passed ≡ []
  pub room : steps ≤ s.room
  pub steps_few : steps ≤ 1000000

-- of one that has made these picks, none of whose parts has ended
pub record IsUnderway (s : SimValue) (made : List ℕ) (stage : StageValue) (last : Option Hazard) : Type 0 where
  pub net : stage.net ≡ s.net
  pub script : stage.script ≡ s.script
  pub now : now_of stage ≡ after s.net (start_at s) (follow s.net s.script (start_at s) made)
  pub passed : stage.passed ≡ passed_in s.net (start_at s) (follow s.net s.script (start_at s) made)
  pub room : s.steps ≤ stage.room + length made
  pub picks : ArePicks s.net s.script (start_at s) made
  pub hazard : last ≡ last_hazard s.net s.script (start_at s) (follow s.net s.script (start_at s) made)
  pub no_end : (k : ℕ) → k < length made →
      end_after s.net s.script s.steps (start_at s) (take k (follow s.net s.script (start_at s) made)) ≡ None
