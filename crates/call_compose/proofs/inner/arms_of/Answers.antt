use Rattle.std.proofs.Common.{◌≡◌, sym, ap, ◌∙◌}
use Rattle.width_check.specs.View.{choices_in}
use Rattle.handshake_expand.proofs.Rows.{select_is}
use Rattle.call_compose.proofs.inner.arms_of.Goals as goal

pub returns : goal.returns
returns c again choices h =
    let both = sym h ∙ select_is _ c.in-Select.again c.in-Select.arms c.in-Select.is in
    let e : choices ≡ choices_in c.in-Select.arms.items = cc both in
    e ∙ ap choices_in (sym c.deref.ensures.value)
