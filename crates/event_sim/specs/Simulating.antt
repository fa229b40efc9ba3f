-- A simulation that hasn't begun, and one that has ended.
use Rattle.std.specs.Prelude.{ℕ, ◌<◌, Bool, List, length, drop, All}
use Rattle.prs_core.specs.Nets.{NetValue}
use Rattle.env_script.specs.Scripts.{OfferValue}
use Rattle.env_script.specs.Runs.{RunState, begin_at}
use Rattle.event_sim.specs.declared.ran.End.{End}
use Rattle.event_sim.specs.declared.ran.End.TheVariants.{AtRest, Spent, Unstable, BothWays, Protocol}
use Rattle.event_sim.specs.Following.{power_of, follow}

-- what is simulated, for how many moves at most, and the value of the nodes that have rules at power-up
pub record SimValue : Type 0 where
  pub net : NetValue
  pub script : List OfferValue
  pub steps : ℕ
  pub high : Bool

abbrev pub start_at : SimValue → RunState
start_at s = begin_at s.net (power_of s.net s.high)

-- what was appended to a log
abbrev pub growth : (before now : List ℕ) → List ℕ
growth before now = drop (length before) now

-- the moves that the growth of a scheduler's log leads to
abbrev pub picked_moves : SimValue → (before now : List ℕ) → List ℕ
picked_moves s before now = follow s.net s.script (start_at s) (growth before now)

-- how a run ended, how many moves it had, whether done is high then, and what has passed
pub record RanValue : Type 0 where
  pub net : NetValue
  pub end : End
  pub moves : ℕ
  pub done_high : Bool
  pub passed : List (ℕ × ℕ)

abbrev pub IsEndIn : NetValue → End → Type 0
IsEndIn net AtRest = Unit {0}
IsEndIn net Spent = Unit {0}
IsEndIn net (Unstable node) = node < length net.first
IsEndIn net (BothWays node) = node < length net.first
IsEndIn net (Protocol chan) = chan < length net.channels

-- its end and its channels are the net's
pub record IsRan (r : RanValue) : Type 0 where
  pub end : IsEndIn r.net r.end
  pub passed : All (λ (p : ℕ × ℕ). p.0 < length r.net.channels) r.passed
