use Rattle.call_map.proofs.Along.{shared_runs}
use Rattle.call_map.proofs.shared_runs.Goals as goal

pub returns : goal.returns
returns c = shared_runs
