use Rattle.event_sim.proofs.Present.{at_rank}
use Rattle.event_sim.proofs.ages.place_in_order.Goals as goal

pub returns-clause-within : goal.returns-clause-within
returns-clause-within c =
    (at_rank c.args.since.now c.args.order.now.items c.args.node c.count_older.result c.requires.ranked c.requires.there c.count_older.ensures.older
    c.count_older.ensures.others).0

pub returns-clause-here : goal.returns-clause-here
returns-clause-here c =
    (at_rank c.args.since.now c.args.order.now.items c.args.node c.count_older.result c.requires.ranked c.requires.there c.count_older.ensures.older
    c.count_older.ensures.others).1
