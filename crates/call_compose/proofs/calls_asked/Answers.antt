use Rattle.call_compose.proofs.Accepting.{calls_asked}
use Rattle.call_compose.proofs.calls_asked.Goals as goal

pub returns : goal.returns
returns c = calls_asked c.form_is_typed.ensures
