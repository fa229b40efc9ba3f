use Rattle.call_compose.proofs.Accepting.{calls_carried_reset}
use Rattle.call_compose.proofs.calls_carried_reset.Goals as goal

pub returns : goal.returns
returns c = calls_carried_reset c.form_is_typed.ensures c.shared_bodies_carry_reset.ensures
