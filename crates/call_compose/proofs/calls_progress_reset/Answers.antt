use Rattle.call_compose.proofs.Accepting.{calls_progress_reset}
use Rattle.call_compose.proofs.calls_progress_reset.Goals as goal

pub returns : goal.returns
returns c = calls_progress_reset c.form_is_typed.ensures c.shared_bodies_progress_reset.ensures
