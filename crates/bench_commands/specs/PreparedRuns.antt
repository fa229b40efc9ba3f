-- A run on a bench for which order and device have room.
use Rattle.std.specs.Prelude.{◌≡◌, ℕ, List, ◌++◌, slice_get, Some, None}
use Rattle.event_sim.specs.Simulating.{RanValue, growth}
use Rattle.peer_bench.specs.Asking.{PeerValue}
use Rattle.peer_bench.specs.Benches.{SetupValue, IsBenchRun}
use Rattle.peer_bench.specs.Growing.{script_by}
use Rattle.command_answers.specs.Answers.{Answer}
use Rattle.run_reports.specs.RunReporting.{IsReported}
use Rattle.bench_commands.specs.OnBench.{notes_grown}
use Rattle.bench_commands.specs.Peers.{Peered}

-- an order with these logs and the device at this place led to it, and its report is written
pub record RunsAgainst (s : SetupValue) (was is : List ℕ) (peers : Peered) (which : ℕ) (answer : Answer) : Type 0 where
  pub peer_was : PeerValue
  pub peer_is : PeerValue
  pub before : slice_get peers.before which ≡ Some peer_was
  pub after : slice_get peers.after which ≡ Some peer_is
  pub ran : RanValue
  pub grown : is ≡ was ++ growth was is
  pub noted : peer_is.log ≡ peer_was.log ++ notes_grown peer_was peer_is
  pub run : IsBenchRun (λ (p : PeerValue). p) s (growth was is) (notes_grown peer_was peer_is) peer_was peer_is ran
  pub written : IsReported (script_by s.net (notes_grown peer_was peer_is)) None ran None answer
