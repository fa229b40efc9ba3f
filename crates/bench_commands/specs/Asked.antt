-- With which lists of moves `bench` asks an order.
use Rattle.std.specs.Prelude.{◌≡◌, ℕ, List, map, slice_get, Some}
use Rattle.prs_core.specs.Nets.{NetValue}
use Rattle.event_sim.specs.Asking.{PickerValue}
use Rattle.peer_bench.specs.Asking.{PeerValue}
use Rattle.peer_bench.specs.Benches.{bench_enabled}
use Rattle.command_answers.specs.Answers.{Given}
use Rattle.command_steps.specs.Held.{HoldsNet}
use Rattle.command_steps.specs.Orders.{place_named}
use Rattle.command_words.specs.BenchWords.{AskedBench}
use Rattle.simulation_commands.specs.Asked.{IsAskedAt, order_of_picker}
use Rattle.bench_commands.specs.OnBench.{notes_grown}
use Rattle.bench_commands.specs.Peers.{Peered, peer_named, peered_over}

-- This holds of the lists of enabled moves in a run of the net against the device at this place: those that are enabled
-- after some picks, under the script that the device's notes give then.
pub record WithNotesOf (net : NetValue) (peers : Peered) (which : ℕ) (Holds : (List ℕ → List ℕ) → Type 0) : Type 0 where
  pub was : PeerValue
  pub is : PeerValue
  pub before : slice_get peers.before which ≡ Some was
  pub after : slice_get peers.after which ≡ Some is
  pub holds : Holds (bench_enabled net (notes_grown was is))

-- the order at the one place was asked with these lists, in a run of the file's net against the device at the other
pub record AsksBenchAt {O P K : Type 0} (seen : O → PickerValue K) (peer : P → PeerValue) (b : AskedBench)
    (given : Given) (place which : ℕ) (orders_before orders_after : List O)
    (peers_before peers_after : List P) : Type 0 where
  pub net : NetValue
  pub held : HoldsNet given b.net net
  pub asked : WithNotesOf net (peered_over peer peers_before peers_after) which
      (λ enabled. IsAskedAt seen place enabled b.seed orders_before orders_after)

-- these are the first order and the first device of the wanted names
pub record AsksBench {O P K : Type 0} (seen : O → PickerValue K) (peer : P → PeerValue) (b : AskedBench) (given : Given)
    (orders_before orders_after : List O) (peers_before peers_after : List P) : Type 0 where
  pub place : ℕ
  pub which : ℕ
  pub named : place_named (map (λ o. order_of_picker (seen o)) orders_before) b.order ≡ Some place
  pub device : peer_named (map peer peers_before) b.peer ≡ Some which
  pub asked : AsksBenchAt seen peer b given place which orders_before orders_after peers_before peers_after
