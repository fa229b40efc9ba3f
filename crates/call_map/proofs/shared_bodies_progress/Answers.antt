use Rattle.call_map.proofs.CallProgress.{all_progress}
use Rattle.call_map.proofs.shared_bodies_progress.Goals as goal

pub returns : goal.returns
returns c = all_progress c.carries.ensures c.parts_in_turns.ensures c.runs_end.ensures.every c.runs_end.ensures.plain
