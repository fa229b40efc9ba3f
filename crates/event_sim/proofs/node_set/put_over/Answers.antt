use Rattle.std.proofs.Common.{arith}
use Rattle.event_sim.proofs.Exchange.{put_at}
use Rattle.event_sim.proofs.node_set.put_over.Goals as goal

pub returns-clause-list : goal.returns-clause-list
returns-clause-list c =
    let old = c.args.slots.now in
    let mid = c.free_slot.new.slots in
    let told = c.free_slot.ensures in
    put_at old.items mid.items c.args.from c.args.place c.args.to c.args.node (omega (arith, c.requires.place, old.ok.0))
    (omega (arith, c.requires.to, old.ok.0)) (omega (arith, told.count, old.ok.0, mid.ok.0)) told.before told.behind told.down told.up
