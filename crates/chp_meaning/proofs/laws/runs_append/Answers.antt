use Rattle.chp_meaning.proofs.RoundRuns.{run_behind}
use Rattle.chp_meaning.proofs.laws.runs_append.Goals as goal

pub returns : goal.returns
returns run c d n l = run_behind l
