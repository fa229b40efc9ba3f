use Rattle.program_commands.proofs.Promised.{shared_faithful}
use Rattle.program_commands.proofs.laws.shared_nets_are_faithful.Goals as goal

pub returns : goal.returns
returns c = shared_faithful c.calls_hold.ensures c.calls_carried.ensures c.calls_carried_reset.ensures c.calls_progress.ensures c.calls_progress_reset.ensures
