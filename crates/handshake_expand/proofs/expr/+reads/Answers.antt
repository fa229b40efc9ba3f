use Rattle.std.proofs.Common.{◌≡◌, false, ap, sym, ◌∙◌}
use Rattle.std.specs.Prelude.{◌||◌}
use Rattle.width_check.specs.View.{formula_of}
use Rattle.width_check.specs.Reads.{reads, reads_in_operations}
use Rattle.handshake_expand.proofs.Rows.{join_is, chain_is, links_of}
use Rattle.handshake_expand.proofs.expr.+reads.Goals as goal

pub loop-part-init : goal.loop-part-init
loop-part-init t c = rw c.deref-part-items.ensures.value (ap (reads c.args.var) (join_is _ _ c.in-Join.is))

pub loop-link-init : goal.loop-link-init
loop-link-init t c =
    let first : reads c.args.var (formula_of c.in-Chain.first.value) ≡ false = sym (rw c.deref-in-Chain.ensures at c.reads-in-Chain.ensures)
    ∙ c.if-reads-2.false in
    rw c.deref-link-items.ensures.value (ap (reads c.args.var) (chain_is _ _ _ c.in-Chain.is)
    ∙ ap (λ b. b || reads_in_operations c.args.var (links_of c.in-Chain.rest.items)) first)
