-- What `bench` answers.
use Rattle.std.specs.Prelude.{◌≡◌, ℕ, List, ◌++◌, length, slice_get, Some, None}
use Rattle.prs_core.specs.Nets.{NetValue}
use Rattle.event_sim.specs.Simulating.{RanValue, growth}
use Rattle.peer_bench.specs.declared.note.Note.{Note}
use Rattle.peer_bench.specs.Asking.{PeerValue}
use Rattle.peer_bench.specs.Benches.{SetupValue, IsBenchRun, noted_since}
use Rattle.peer_bench.specs.Growing.{script_by}
use Rattle.command_answers.specs.Answers.{Given, Answer}
use Rattle.command_words.specs.BenchWords.{AskedBench}
use Rattle.command_steps.specs.Orders.{OrderState}
use Rattle.command_steps.specs.RunSteps.{FromOrder}
use Rattle.command_steps.specs.Steps.{FromFile, FromNet, most_of_net}
use Rattle.run_reports.specs.RunReporting.{IsReported}
use Rattle.bench_commands.specs.HandedIn.{HandedIn}
use Rattle.bench_commands.specs.Peers.{FromPeer, Peered}

-- what a device has noted in a call
abbrev pub notes_grown : (was is : PeerValue) → List Note
notes_grown was is = noted_since was.log is.log

-- An order was given this seed, and a device room for notes; then they led to this run on a bench: what the one's log
-- has grown by are the places that were picked, and what the other's has grown by are the notes of the run.
pub record IsPlayedAgainst (s : SetupValue) (seed : ℕ) (was is : OrderState) (peer_was peer_is : PeerValue)
    (ran : RanValue) : Type 0 where
  pub seeded : is.seeded ≡ Some (seed, length was.log)
  pub grown : is.log ≡ was.log ++ growth was.log is.log
  pub noted : peer_is.log ≡ peer_was.log ++ notes_grown peer_was peer_is
  pub room : ℕ
  pub run : IsBenchRun (λ (p : PeerValue). p) s (growth was.log is.log) (notes_grown peer_was peer_is)
      (record peer_was { spare = room }) peer_is ran

-- the order and the device at this place led to a run on a bench, whose report is written
pub record AgainstPeer (s : SetupValue) (seed : ℕ) (was is : OrderState) (peers : Peered) (which : ℕ)
    (answer : Answer) : Type 0 where
  pub peer_was : PeerValue
  pub peer_is : PeerValue
  pub before : slice_get peers.before which ≡ Some peer_was
  pub after : slice_get peers.after which ≡ Some peer_is
  pub ran : RanValue
  pub run : IsPlayedAgainst s seed was is peer_was peer_is ran
  pub written : IsReported (script_by s.net (notes_grown peer_was peer_is)) None ran None answer

-- the order at this place did
pub record BenchesNet (handed : HandedIn) (place which seed : ℕ) (s : SetupValue) (answer : Answer) : Type 0 where
  pub was : OrderState
  pub is : OrderState
  pub before : slice_get handed.orders.before place ≡ Some was
  pub after : slice_get handed.orders.after place ≡ Some is
  pub against : AgainstPeer s seed was is handed.peers which answer

abbrev pub setup_for : NetValue → (steps : ℕ) → SetupValue
setup_for net steps = record { net = net; steps = steps }

-- the order and the device at these places are wanted, and the rule file is read
abbrev pub BenchesAt : AskedBench → Given → HandedIn → (place which : ℕ) → Answer → Type 0
BenchesAt b given handed place which = FromFile given b.net most_of_net
    (λ text. FromNet text (λ net. BenchesNet handed place which b.seed (setup_for net b.steps)))

-- the order at this place is wanted, and a device
abbrev pub BenchesBy : AskedBench → Given → HandedIn → (place : ℕ) → Answer → Type 0
BenchesBy b given handed place = FromPeer handed.peers b.peer (BenchesAt b given handed place)

abbrev pub Benches : AskedBench → Given → HandedIn → Answer → Type 0
Benches b given handed = FromOrder handed.orders b.order (BenchesBy b given handed)
