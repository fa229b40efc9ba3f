use Rattle.std.proofs.Common.{◌∙◌, sym}
use Rattle.command_steps.proofs.OrderNames.{found_within}
use Rattle.peer_bench.specs.Asking.{peer_value}
use Rattle.bench_commands.proofs.PeerNames.{peer_mapped}
use Rattle.bench_commands.proofs.peer_places.place_of_peer.Goals as goal

pub returns : goal.returns
returns g c =
    let found = rw c.deref.ensures.value at c.first_named.ensures in
    record {
      place = found
          ∙ sym (peer_mapped
          (λ peer. let p = goal.Peer-dyn g (peer.vtable, peer.value) in
          peer_value (p.name peer.value) (p.log peer.value) (p.spare peer.value) (p.due peer.value) (p.willing peer.value))
          c.args.peers.now.items c.args.wanted.now);
      within = found_within _ _ _ found;
    }
