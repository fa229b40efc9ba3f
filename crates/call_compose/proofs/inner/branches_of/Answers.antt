use Rattle.std.proofs.Common.{sym, ap, ◌∙◌}
use Rattle.width_check.specs.Processes.{side_by_side}
use Rattle.width_check.specs.View.{members_in}
use Rattle.handshake_expand.proofs.Rows.{beside_is}
use Rattle.call_compose.proofs.inner.branches_of.Goals as goal

pub returns : goal.returns
returns c = beside_is _ c.in-Beside.parts c.in-Beside.is ∙ ap (λ ss. side_by_side (members_in ss)) (sym c.deref.ensures.value)
