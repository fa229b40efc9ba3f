use Rattle.chp_meaning.proofs.plan.chosen_change.Goals as goal

pub set_entered-requires-clause-within : goal.set_entered-requires-clause-within
set_entered-requires-clause-within c = rw c.in-One.is at c.requires.within
