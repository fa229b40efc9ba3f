-- The steps of `bench` within it.
use Rattle.std.proofs.Common.{◌≡◌, ℕ, [], ◌∷◌, Some, arith}
use Rattle.prs_core.specs.Nets.{NetValue}
use Rattle.command_answers.specs.declared.answer.Stop.{Stop}
use Rattle.command_answers.specs.Answers.{Given, Answer}
use Rattle.command_answers.specs.Replies.{Stops}
use Rattle.command_steps.specs.Held.{HoldsNet}
use Rattle.command_steps.specs.Orders.{place_named}
use Rattle.command_steps.specs.RunSteps.{an_order}
use Rattle.command_steps.specs.Steps.{FromFile, a_file, Never, FromNet, a_net, most_of_net}
use Rattle.command_steps.proofs.RunStopping.{file_as}
use Rattle.command_steps.proofs.Stopping.{stops_in, net_goes}
use Rattle.command_words.specs.BenchWords.{AskedBench}
use Rattle.bench_commands.specs.HandedIn.{HandedIn}
use Rattle.bench_commands.specs.OnBench.{Benches, BenchesAt, BenchesNet, setup_for}
use Rattle.bench_commands.specs.Peers.{a_peer, peer_named}

module _ (b : AskedBench) (given : Given) (handed : HandedIn) (place which : ℕ) where
  pub net_stops : (before after : ℕ) (stop : Stop) →
      Stops (FromFile given b.net most_of_net (λ text. FromNet text Never)) (b.net ∷ []) given before after stop
      → Stops (BenchesAt b given handed place which) (b.net ∷ []) given before after stop
  net_stops before after stop stops =
      stops_in (FromFile given b.net most_of_net (λ text. FromNet text Never)) (BenchesAt b given handed place which)
      (λ answer is. file_as (λ text there. net_goes there) is) (b.net ∷ []) (b.net ∷ []) given before before after (λ name own. own) (omega arith) stop stops

  pub net_answers : (net : NetValue) → HoldsNet given b.net net → (a : Answer) → BenchesNet handed place which b.seed (setup_for net b.steps) a →
      BenchesAt b given handed place which a
  net_answers net holds a is = a_file holds.gives holds.short (a_net holds.is is)

  module _ (named : place_named handed.orders.before b.order ≡ Some place) (there : peer_named handed.peers.before b.peer ≡ Some which) where
    pub named_answers : (a : Answer) → BenchesAt b given handed place which a → Benches b given handed a
    named_answers a is = an_order named (a_peer there is)

    pub named_stops : (before after : ℕ) (stop : Stop) → Stops (BenchesAt b given handed place which) (b.net ∷ []) given before after stop
        → Stops (Benches b given handed) (b.net ∷ []) given before after stop
    named_stops before after stop stops =
        stops_in (BenchesAt b given handed place which) (Benches b given handed) named_answers (b.net ∷ []) (b.net ∷ []) given before before after
        (λ name own. own) (omega arith) stop stops
