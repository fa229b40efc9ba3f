use Rattle.std.proofs.Common.{sym}
use Rattle.event_sim.proofs.Behind.{reset_within}
use Rattle.event_sim.proofs.Concerning.{one_reset, no_reset}
use Rattle.event_sim.proofs.stage.reset_or.Goals as goal

pub returns-in-None-clause-other : goal.returns-in-None-clause-other
returns-in-None-clause-other c = λ m apart. no_reset c.args.net.now.reset m (sym c.in-None.ensures.reset)

pub returns-in-Some-clause-within : goal.returns-in-Some-clause-within
returns-in-Some-clause-within c = reset_within c.args.net.now c.in-Some.reset c.in-Some.ensures.net (sym c.in-Some.ensures.reset)

pub returns-in-Some-clause-other : goal.returns-in-Some-clause-other
returns-in-Some-clause-other c = λ m apart. one_reset c.args.net.now.reset c.in-Some.reset m (sym c.in-Some.ensures.reset) apart
