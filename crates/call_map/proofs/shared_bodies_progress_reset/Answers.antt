use Rattle.call_map.proofs.CallReset.{call_net_progresses}
use Rattle.call_map.proofs.shared_bodies_progress_reset.Goals as goal

pub returns : goal.returns
returns c = call_net_progresses c.runs_end_reset.ensures c.shared_bodies_progress.ensures c.shared_bodies_hold.ensures
