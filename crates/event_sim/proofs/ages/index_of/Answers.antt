use Rattle.event_sim.proofs.Present.{not_missing}
use Rattle.event_sim.proofs.ages.index_of.Goals as goal

pub returns-in-Err-clause-within : goal.returns-in-Err-clause-within
returns-in-Err-clause-within c =
    absurd (not_missing c.args.list.now c.args.node c.in-Err.index c.requires.ascending c.requires.there c.in-Err.ensures.position)

pub returns-in-Err-clause-here : goal.returns-in-Err-clause-here
returns-in-Err-clause-here c =
    absurd (not_missing c.args.list.now c.args.node c.in-Err.index c.requires.ascending c.requires.there c.in-Err.ensures.position)
