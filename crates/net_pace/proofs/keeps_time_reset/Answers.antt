use Rattle.std.proofs.Common.{refl}
use Rattle.net_compose.specs.Translation.{translation}
use Rattle.net_pace.proofs.ResetKept.{keeps_time_reset}
use Rattle.net_pace.proofs.keeps_time_reset.Goals as goal

pub returns-clause-every : goal.returns-clause-every
returns-clause-every c = λ p is small sweeps bound. keeps_time_reset c.reset_runs.ensures (translation p) p sweeps (c.whole_nets.ensures p is.typed small) refl
    (c.carries.ensures p is) (c.keeps_time.ensures p is small sweeps bound)

pub returns-clause-net : goal.returns-clause-net
returns-clause-net c = keeps_time_reset c.reset_runs.ensures
