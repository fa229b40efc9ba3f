use Rattle.std.proofs.Common.{sym, subst}
use Rattle.width_check.specs.Sharing.{reads_of}
use Rattle.width_check.specs.View.{formula_of}
use Rattle.sharing_check.specs.declared.deeds.Deeds.{Deeds}
use Rattle.sharing_check.specs.Tells.{Adds}
use Rattle.sharing_check.proofs.deeds.with_guard.Goals as goal

pub returns : goal.returns
returns c =
    let reads = reads_of (formula_of c.args.guard.now) in
    subst (λ (d : Deeds). Adds c.args.cause reads c.args.deeds.value d) (sym c.in_ok-new.ensures.ok)
    (subst (λ (d : Deeds). Adds c.args.cause reads d c.note_reads.new.deeds) c.into_inner-noted.ensures c.in_ok-note_reads.ensures)
