use Rattle.std.proofs.Common.{sym, ap, ◌∙◌}
use Rattle.width_check.specs.Processes.{in_turn}
use Rattle.width_check.specs.View.{members_in}
use Rattle.handshake_expand.proofs.Rows.{then_is}
use Rattle.call_compose.proofs.inner.members_of.Goals as goal

pub returns : goal.returns
returns c = then_is _ c.in-Then.parts c.in-Then.is ∙ ap (λ ss. in_turn (members_in ss)) (sym c.deref.ensures.value)
