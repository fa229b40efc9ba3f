-- A device is found by its name.
use Rattle.std.proofs.Common.{◌≡◌, ℕ, List, map}
use Rattle.std.specs.Prelude.{bytes_eq}
use Rattle.std.specs.List.{position}
use Rattle.command_steps.proofs.OrderNames.{position_mapped}
use Rattle.peer_bench.specs.Asking.{PeerValue}
use Rattle.bench_commands.specs.Peers.{peer_named}

-- in a list of what is known of each
pub peer_mapped : {X : Type 0} (f : X → PeerValue) (xs : List X) (name : List ℕ) → peer_named (map f xs) name ≡ position (λ x. bytes_eq (f x).name name) xs
peer_mapped f xs name = position_mapped (λ (p : PeerValue). bytes_eq p.name name) f xs
