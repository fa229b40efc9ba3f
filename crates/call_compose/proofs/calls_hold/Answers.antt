use Rattle.call_compose.proofs.Accepting.{calls_hold}
use Rattle.call_compose.proofs.calls_hold.Goals as goal

pub returns : goal.returns
returns c = calls_hold c.form_is_typed.ensures c.shared_bodies_hold.ensures
