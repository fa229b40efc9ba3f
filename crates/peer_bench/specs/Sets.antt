-- Sets of channels: how they are kept, and which of them has each channel on which a device is to be asked.
use Rattle.std.specs.Prelude.{◌≡◌, ◌≢◌, ℕ, ◌-◌, ◌*◌, ◌/◌, ◌^◌, ◌<◌, Bool, true, List, [], length}
use Rattle.std.specs.List.{range_with_len}
use Rattle.prs_core.specs.Nets.{NetValue}
use Rattle.env_script.specs.Scripts.{OfferValue}
use Rattle.env_script.specs.Runs.{RunState}
use Rattle.event_sim.specs.Locality.{is_member}
use Rattle.event_sim.specs.Standings.{is_idle}
use Rattle.peer_bench.specs.declared.note.Note.{Note}
use Rattle.peer_bench.specs.Asking.{PeerValue}
use Rattle.peer_bench.specs.Steps.{asked_under, IsPassBy}

-- a mark for each channel and one for each block of channels: the block of a marked channel is marked
pub record AreBlocks (marks blocks : List Bool) : Type 0 where
  pub few : length marks < 2 ^ 32
  pub all : length marks < 128 * length blocks
  pub each : (chan : ℕ) → is_member marks chan ≡ true → is_member blocks (chan / 128) ≡ true

-- a set of channels of the net that has each idle one
pub record HasIdle (net : NetValue) (script : List OfferValue) (st : RunState) (marks : List Bool) : Type 0 where
  pub count : length marks ≡ length net.channels
  pub each : (chan : ℕ) → is_idle net script st chan ≡ true → is_member marks chan ≡ true

-- the channels from this one on are asked once, in ascending order
abbrev pub IsPassFrom : {P : Type 0} (known : P → PeerValue) → NetValue → RunState → (at from : ℕ) →
    (script behind : List OfferValue) → List Note → (was is : P) → Type 0
IsPassFrom known net st at from script behind more was is =
    IsPassBy known net st at (range_with_len from (length net.channels - from)) script behind more was is

-- no answer would come on any channel
abbrev pub IsQuiet : NetValue → List OfferValue → RunState → PeerValue → Type 0
IsQuiet net script st p = (chan at : ℕ) → asked_under net script st p at chan ≡ []

-- on any other channel than this one
abbrev pub IsQuietBut : NetValue → List OfferValue → RunState → PeerValue → ℕ → Type 0
IsQuietBut net script st p but = (chan at : ℕ) → chan ≢ but → asked_under net script st p at chan ≡ []
