use Rattle.std.proofs.Common.{◌≡◌, ◌+◌, ◌-◌, ◌<◌, ◌≤◌, true, length, List}
use Rattle.std.specs.Prelude.{nat_lt}
use Rattle.std.specs.List.{range_with_len}
use Rattle.event_sim.specs.Stages.{now_of}
use Rattle.peer_bench.specs.declared.note.Note.{Note}
use Rattle.peer_bench.specs.Asking.{peer_value}
use Rattle.peer_bench.specs.Steps.{IsPassBy, AreOffered, free_on}
use Rattle.peer_bench.specs.Sets.{HasIdle}
use Rattle.peer_bench.proofs.ask.ask_from.Given as goal

abbrev pub invariant-loop-chan : goal.invariant-loop-chan
invariant-loop-chan g l =
    let now = goal.Peer-dyn g (l.peer.vtable, l.peer.value) in
    let first = goal.Peer-dyn g (l.fn.peer.vtable, l.fn.peer.value) in
    record {
      stage : l.stage ≡ record l.fn.stage { script = l.stage.script };
      behind : l.fn.from ≤ l.first;
      within : l.first ≤ length l.fn.stage.net.channels;
      asked : (more : List Note) × (l.came ≡ nat_lt 0 (length more)) × IsPassBy (λ p. let q = goal.Peer-dyn g (p.vtable, p.value) in
          peer_value (q.name p.value) (q.log p.value) (q.spare p.value) (q.due p.value) (q.willing p.value)) l.fn.stage.net (now_of l.fn.stage) l.at
          (range_with_len l.fn.from (l.first - l.fn.from)) l.fn.stage.script l.stage.script more l.fn.peer l.peer;
      idle : HasIdle l.fn.stage.net l.stage.script (now_of l.fn.stage) l.idle;
      offered : AreOffered l.stage.script (now_of l.fn.stage);
      room : now.spare l.peer.value + free_on l.fn.stage.net l.fn.stage.script (now_of l.fn.stage) ≡
          first.spare l.fn.peer.value + free_on l.fn.stage.net l.stage.script (now_of l.fn.stage);
      most : now.spare l.peer.value ≤ first.spare l.fn.peer.value;
      fewer : l.came ≡ true → now.spare l.peer.value < first.spare l.fn.peer.value;
      kind : l.peer.vtable ≡ l.fn.peer.vtable;
    }

abbrev pub decreases-loop-chan : goal.decreases-loop-chan
decreases-loop-chan g l = length l.fn.stage.net.channels - l.first
