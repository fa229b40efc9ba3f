use Rattle.std.proofs.Common.{arith}
use Rattle.event_sim.proofs.Members.{not_found}
use Rattle.event_sim.proofs.Exchange.{stays_here, before_gone, past_gone}
use Rattle.event_sim.proofs.node_set.place_after.Goals as goal

pub returns-then-fits-clause-place : goal.returns-then-fits-clause-place
returns-then-fits-clause-place c = λ marks are isnt.
    stays_here marks c.args.list.now c.args.place c.args.node are c.requires (c.fits.ensures.before c.if-fits.true) (c.fits.ensures.behind c.if-fits.true)

pub returns-in-Ok-clause-place : goal.returns-in-Ok-clause-place
returns-in-Ok-clause-place c = λ marks are isnt.
    let found = c.in-Ok.ensures.place marks are in
    absurd (not_found marks c.args.list.now c.args.node c.in-Ok.field-0 are isnt found.0 found.1)

pub returns-then-to-place-clause-place : goal.returns-then-to-place-clause-place
returns-then-to-place-clause-place c = λ marks are isnt.
    before_gone c.args.list.now c.args.place c.args.node c.in-Err.to c.requires c.if-to-place.true (c.in-Err.ensures.place marks are)

pub returns-else-to-place-clause-place : goal.returns-else-to-place-clause-place
returns-else-to-place-clause-place c = λ marks are isnt.
    let past = c.if-to-place.false in
    past_gone c.args.list.now c.args.place c.args.node c.in-Err.to c.requires (omega arith) (c.in-Err.ensures.place marks are)
