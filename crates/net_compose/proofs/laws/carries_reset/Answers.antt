use Rattle.net_compose.proofs.ResetCarried.{carries_reset}
use Rattle.net_compose.proofs.laws.carries_reset.Goals as goal

pub returns : goal.returns
returns c = carries_reset c.reset_runs.ensures
