use Rattle.net_compose.specs.Translation.{translation}
use Rattle.net_pace.proofs.TimedKept.{timed_pace}
use Rattle.net_pace.proofs.keeps_timed_pace.Goals as goal

pub returns-clause-every : goal.returns-clause-every
returns-clause-every c = λ p is small sweeps bound.
    timed_pace (translation p) p sweeps (c.carries.ensures p is) (c.keeps_time.ensures p is small sweeps bound)

pub returns-clause-net : goal.returns-clause-net
returns-clause-net c = timed_pace
