use Rattle.net_compose.proofs.ResetProgress.{reset_progresses}
use Rattle.net_compose.proofs.laws.runs_end_reset.Goals as goal

pub returns : goal.returns
returns c = reset_progresses c.reset_runs.ensures
