use Rattle.pace_command.proofs.pace.pace_plain.Goals as goal

pub returns-in-Some-clause-answered : goal.returns-in-Some-clause-answered
returns-in-Some-clause-answered g c = rw c.in-Some.is c.pace_under.ensures.answered

pub returns-in-Some-clause-stopped : goal.returns-in-Some-clause-stopped
returns-in-Some-clause-stopped g c = rw c.in-Some.is c.pace_under.ensures.stopped

pub returns-in-Ok-clause-answered : goal.returns-in-Ok-clause-answered
returns-in-Ok-clause-answered g c = rw c.in-None.is c.in-Ok.ensures
