use Rattle.call_compose.proofs.Accepting.{calls_progress}
use Rattle.call_compose.proofs.calls_progress.Goals as goal

pub returns : goal.returns
returns c = calls_progress c.form_is_typed.ensures c.shared_bodies_progress.ensures
