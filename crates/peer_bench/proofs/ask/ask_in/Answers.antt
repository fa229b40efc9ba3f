use Rattle.std.proofs.Common.{sym, ap, subst, arith}
use Rattle.event_sim.specs.Stages.{StageValue, now_of}
use Rattle.peer_bench.specs.Asking.{PeerValue, peer_value}
use Rattle.peer_bench.specs.Steps.{AreOffered, free_on}
use Rattle.peer_bench.proofs.Room.{asked_room}
use Rattle.peer_bench.proofs.ask.ask_in.Goals as goal

pub returns-then-came-clause-offered : goal.returns-then-came-clause-offered
returns-then-came-clause-offered g c =
    let s = c.args.stage.now in
    let q = goal.Peer-dyn g (c.args.peer.now.vtable, c.args.peer.now.value) in
    let v = c.args.peer.now.value in
    let p : PeerValue = peer_value (q.name v) (q.log v) (q.spare v) (q.due v) (q.willing v) in
    subst (λ (t : StageValue). AreOffered t.script (now_of t)) (sym c.ask-came.ensures.stage)
    (asked_room s.net (now_of s) s.script p c.args.at c.args.chan c.requires.chan c.requires.offered).offered

pub returns-then-came-clause-room : goal.returns-then-came-clause-room
returns-then-came-clause-room g c =
    let s = c.args.stage.now in
    let q = goal.Peer-dyn g (c.args.peer.now.vtable, c.args.peer.now.value) in
    let v = c.args.peer.now.value in
    let p : PeerValue = peer_value (q.name v) (q.log v) (q.spare v) (q.due v) (q.willing v) in
    let room = asked_room s.net (now_of s) s.script p c.args.at c.args.chan c.requires.chan c.requires.offered in
    let behind = ap (λ (t : StageValue). free_on t.net t.script (now_of t)) c.ask-came.ensures.stage in
    omega (arith, c.ask-came.ensures.noted.spare, room.free, behind)
