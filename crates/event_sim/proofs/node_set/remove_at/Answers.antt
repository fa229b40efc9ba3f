use Rattle.std.proofs.Common.{◌+◌, ◌-◌, arith}
use Rattle.event_sim.proofs.Members.{pulled_out}
use Rattle.event_sim.proofs.node_set.remove_at.Goals as goal

pub returns-clause-list : goal.returns-clause-list
returns-clause-list c =
    let xs = c.args.slots.now.items in
    let from = c.args.from in
    let place = c.args.place in
    rw c.deref_mut.ensures.value
    (pulled_out xs c.rotate_left.new.self from place (from + place + 1 - from) c.args.slots.now.len (omega arith)
    (omega (arith, c.requires.place, c.args.slots.now.ok.0)) (omega (arith, c.args.slots.now.ok.0))
    (rw c.deref_mut.ensures.value at c.rotate_left.ensures.after))
