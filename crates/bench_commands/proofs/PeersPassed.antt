-- Where there is a device of the wanted name, a command passes the step from its name to it.
--
-- P: what is to hold of each answer; Next: with what the command goes on.
use Rattle.std.proofs.Common.{◌≡◌, ℕ, List, Some, subst}
use Rattle.command_answers.specs.Answers.{Answer}
use Rattle.bench_commands.specs.Peers.{Peered, FromPeer, no_peer, a_peer, peer_named}

pub peer_passed : (P : Answer → Type 0) (peers : Peered) (name : List ℕ) (place : ℕ) → peer_named peers.before name ≡ Some place
    → (Next : ℕ → Answer → Type 0)
    → ((a : Answer) → Next place a → P a) → (a : Answer) → FromPeer peers name Next a → P a
peer_passed P peers name place named Next next a (no_peer none) = absurd (cc (none, named))
peer_passed P peers name place named Next next a (a_peer {place = k} is are) = next a (subst (λ j. Next j a) (same is) are)
  where
    same : peer_named peers.before name ≡ Some k → k ≡ place
    same e = cc (e, named)
