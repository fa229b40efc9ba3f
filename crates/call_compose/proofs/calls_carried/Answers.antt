use Rattle.call_compose.proofs.Accepting.{calls_carried}
use Rattle.call_compose.proofs.calls_carried.Goals as goal

pub returns : goal.returns
returns c = calls_carried c.form_is_typed.ensures c.shared_bodies_carry.ensures
