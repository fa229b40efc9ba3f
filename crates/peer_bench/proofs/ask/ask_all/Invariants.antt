use Rattle.std.proofs.Common.{◌≡◌, ◌+◌, List}
use Rattle.event_sim.specs.Stages.{now_of}
use Rattle.peer_bench.specs.declared.note.Note.{Note}
use Rattle.peer_bench.specs.Asking.{peer_value}
use Rattle.peer_bench.specs.Steps.{ArePassesBy, AreOffered, free_on}
use Rattle.peer_bench.specs.Sets.{HasIdle}
use Rattle.peer_bench.proofs.ask.ask_all.Given as goal

abbrev pub invariant-loop : goal.invariant-loop
invariant-loop g l =
    let now = goal.Peer-dyn g (l.peer.vtable, l.peer.value) in
    let first = goal.Peer-dyn g (l.fn.peer.vtable, l.fn.peer.value) in
    record {
      stage : l.stage ≡ record l.fn.stage { script = l.stage.script };
      asked : (more : List Note) × ArePassesBy (λ p. let q = goal.Peer-dyn g (p.vtable, p.value) in
          peer_value (q.name p.value) (q.log p.value) (q.spare p.value) (q.due p.value) (q.willing p.value)) l.fn.stage.net (now_of l.fn.stage) l.at
          l.fn.stage.script l.fn.peer l.stage.script more l.peer;
      idle : HasIdle l.fn.stage.net l.stage.script (now_of l.fn.stage) l.idle;
      offered : AreOffered l.stage.script (now_of l.fn.stage);
      room : now.spare l.peer.value + free_on l.fn.stage.net l.fn.stage.script (now_of l.fn.stage) ≡
          first.spare l.fn.peer.value + free_on l.fn.stage.net l.stage.script (now_of l.fn.stage);
      kind : l.peer.vtable ≡ l.fn.peer.vtable;
    }

abbrev pub decreases-loop : goal.decreases-loop
decreases-loop g l = let now = goal.Peer-dyn g (l.peer.vtable, l.peer.value) in now.spare l.peer.value
