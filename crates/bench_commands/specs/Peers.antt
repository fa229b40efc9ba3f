-- The handed-in devices, as far as a call speaks of them.
use Rattle.std.specs.Prelude.{◌≡◌, ◌≢◌, ℕ, List, ◌++◌, map, slice_get, position, bytes_eq, Option, Some, None}
use Rattle.peer_bench.specs.Asking.{PeerValue}
use Rattle.peer_bench.specs.Benches.{noted_since}
use Rattle.command_answers.specs.declared.status.Status.TheVariants.{NoPeer}
use Rattle.command_answers.specs.Answers.{Answer, refuses}
use Rattle.command_answers.specs.Lines.{no_peer_line}

-- what is known of the devices before a call, and of the same ones after it
pub record Peered : Type 0 where
  pub before : List PeerValue
  pub after : List PeerValue

abbrev pub peered_by : (before after : List PeerValue) → Peered
peered_by before after = record { before = before; after = after }

-- of these devices, of each of which this is known
abbrev pub peered_over : {P : Type 0} → (peer : P → PeerValue) → (before after : List P) → Peered
peered_over peer before after = peered_by (map peer before) (map peer after)

-- the place of the first one of this name
abbrev pub peer_named : List PeerValue → (name : List ℕ) → Option ℕ
peer_named peers name = position (λ (p : PeerValue). bytes_eq p.name name) peers

-- All have their names still, and each but the one at the place that is asked for, if any is, is as it was. The notes
-- of each before are a prefix of those after.
pub record KeepsPeers (asked : Option ℕ) (peers : Peered) : Type 0 where
  pub names : map (λ (p : PeerValue). p.name) peers.after ≡ map (λ (p : PeerValue). p.name) peers.before
  pub others : (place : ℕ) → asked ≢ Some place → slice_get peers.after place ≡ slice_get peers.before place
  pub logs : (place : ℕ) (was is : PeerValue) → slice_get peers.before place ≡ Some was →
      slice_get peers.after place ≡ Some is → is.log ≡ was.log ++ noted_since was.log is.log

-- a step: it wants a device of this name
pub data FromPeer (peers : Peered) (name : List ℕ) (Next : ℕ → Answer → Type 0) : Answer → Type 0 where
  no_peer : peer_named peers.before name ≡ None → FromPeer peers name Next (refuses NoPeer (no_peer_line name))
  a_peer : {place : ℕ} {answer : Answer} → peer_named peers.before name ≡ Some place → Next place answer →
      FromPeer peers name Next answer
