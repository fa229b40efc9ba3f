use Rattle.std.proofs.Common.{arith}
use Rattle.std.proofs.lemmas.List.{length-set}
use Rattle.event_sim.proofs.KindsKept.{kinds_kept}
use Rattle.peer_bench.proofs.Listed.{set_apart, there, both_there}
use Rattle.peer_bench.proofs.Seen.{run_seen}
use Rattle.peer_bench.proofs.bench.Bench.run.Goals as goal

pub drive-ran-requires-clause-spare : goal.drive-ran-requires-clause-spare
drive-ran-requires-clause-spare g c = c.requires.spare

pub drive-ran-requires-clause-nodes : goal.drive-ran-requires-clause-nodes
drive-ran-requires-clause-nodes g c = c.requires.nodes

pub drive-ran-requires-clause-room : goal.drive-ran-requires-clause-room
drive-ran-requires-clause-room g c =
    let self = c.args.self in
    there self.peers.items self.which c.index_mut.result.now _ (omega (arith, self.within, self.peers.ok.0)) c.index_mut.ensures.value c.requires.room

pub returns-clause-log : goal.returns-clause-log
returns-clause-log g c = c.drive-ran.ensures.log

pub returns-clause-count : goal.returns-clause-count
returns-clause-count g c = length-set c.args.self.peers.items c.args.self.which c.drive-ran.new.peer

pub returns-clause-spare : goal.returns-clause-spare
returns-clause-spare g c = c.drive-ran.ensures.spare

pub returns-clause-name : goal.returns-clause-name
returns-clause-name g c = c.drive-ran.ensures.name

pub returns-clause-nodes : goal.returns-clause-nodes
returns-clause-nodes g c = c.drive-ran.ensures.nodes

pub returns-clause-seeded : goal.returns-clause-seeded
returns-clause-seeded g c = c.drive-ran.ensures.seeded

pub returns-clause-noted : goal.returns-clause-noted
returns-clause-noted g c =
    let self = c.args.self in
    both_there self.peers.items self.which c.index_mut.result.now c.drive-ran.new.peer _
    (omega (arith, self.within, self.peers.ok.0)) c.index_mut.ensures.value c.drive-ran.ensures.noted

pub returns-clause-run : goal.returns-clause-run
returns-clause-run g c =
    let self = c.args.self in
    both_there self.peers.items self.which c.index_mut.result.now c.drive-ran.new.peer _
    (omega (arith, self.within, self.peers.ok.0)) c.index_mut.ensures.value
    (run_seen _ self.setup _ _ c.index_mut.result.now c.drive-ran.new.peer c.drive-ran.result c.drive-ran.ensures.run)

pub returns-clause-others : goal.returns-clause-others
returns-clause-others g c =
    let self = c.args.self in
    λ k apart. set_apart self.peers.items self.which k c.drive-ran.new.peer apart

pub returns-clause-asked : goal.returns-clause-asked
returns-clause-asked g c =
    let self = c.args.self in
    both_there self.peers.items self.which c.index_mut.result.now c.drive-ran.new.peer _
    (omega (arith, self.within, self.peers.ok.0)) c.index_mut.ensures.value c.drive-ran.ensures.asked

pub returns-clause-kinds : goal.returns-clause-kinds
returns-clause-kinds g c =
    let self = c.args.self in
    kinds_kept (λ p. p.vtable) self.peers.items self.which c.index_mut.result.now c.drive-ran.new.peer
    (omega (arith, self.within, self.peers.ok.0)) c.index_mut.ensures.value c.drive-ran.ensures.device_kind

pub returns-clause-kind : goal.returns-clause-kind
returns-clause-kind g c = c.drive-ran.ensures.kind
