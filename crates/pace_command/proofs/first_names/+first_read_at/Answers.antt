use Rattle.std.proofs.Common.{◌≡◌, None, ap, sym, ◌∙◌}
use Rattle.width_check.specs.View.{formula_of}
use Rattle.handshake_expand.proofs.Rows.{join_is, chain_is, links_of}
use Rattle.pace_command.specs.FirstNames.{or_next, first_read_at, operand_read_at}
use Rattle.pace_command.proofs.first_names.+first_read_at.Goals as goal

pub loop-part-init : goal.loop-part-init
loop-part-init t c = rw c.deref-part-items.ensures.value (ap first_read_at (join_is _ _ c.in-Join.is))

pub loop-link-init : goal.loop-link-init
loop-link-init t c =
    let first : first_read_at (formula_of c.in-Chain.first.value) ≡ None = sym (rw c.deref-in-Chain.ensures at c.first_read_at-in-Chain.ensures)
    ∙ c.in_default-first_read_at.is in
    rw c.deref-link-items.ensures.value (ap first_read_at (chain_is _ _ _ c.in-Chain.is)
    ∙ ap (λ o. or_next o (operand_read_at (links_of c.in-Chain.rest.items))) first)
