use Rattle.delay_script.proofs.InTime.{ends_in_time}
use Rattle.delay_script.proofs.laws.timed_runs_end_in_time.Goals as goal

pub returns : goal.returns
returns c = ends_in_time
