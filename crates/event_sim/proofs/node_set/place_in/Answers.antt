use Rattle.std.proofs.Common.{refl}
use Rattle.event_sim.proofs.Members.{placed, placed_near}
use Rattle.event_sim.proofs.node_set.place_in.Goals as goal

pub returns-clause-place : goal.returns-clause-place
returns-clause-place c = λ marks are. placed marks c.args.list.now c.args.node c.binary_search-2.result are c.binary_search-2.ensures.position

pub returns-then-node-list-clause-place : goal.returns-then-node-list-clause-place
returns-then-node-list-clause-place c = λ marks are.
    placed_near marks c.args.list.now _ c.args.node 15 c.binary_search.result are refl c.if-list-gt-NEAR.true c.if-node-list.true
    c.binary_search.ensures.position
