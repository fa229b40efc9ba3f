use Rattle.std.proofs.lemmas.Result.{on_ok_weaker}
use Rattle.sharing_check.proofs.Telling.{adds_none}
use Rattle.sharing_check.proofs.Members.{join_read, parts_noted, links_begun, links_noted, chain_noted, sides_noted}
use Rattle.sharing_check.proofs.deeds.+note_reads.Goals as goal

pub loop-part-init : goal.loop-part-init
loop-part-init t c = adds_none _ _

pub loop-part-preserved : goal.loop-part-preserved
loop-part-preserved t c = parts_noted _ _ c.loop-part.part-index _ _ _ _ c.loop-part.noted c.note_reads.result c.and-noted.result c.loop-part-test.true
    c.part-item.is c.loop-part.invariant c.note_reads.ensures c.and-noted.ensures

pub returns-after-loop-part : goal.returns-after-loop-part
returns-after-loop-part t c = on_ok_weaker c.loop-part.noted (λ adds. join_read _ _ _ _ c.loop-part.part-index _ _ c.in-Join.is
    c.deref-part-items.ensures.value c.loop-part-test.false adds) c.loop-part.invariant

pub loop-link-init : goal.loop-link-init
loop-link-init t c = links_begun c.note_reads-noted.result _ (adds_none _ _)

pub loop-link-preserved : goal.loop-link-preserved
loop-link-preserved t c = links_noted _ _ c.loop-link.link-index _ _ _ _ c.note_reads-noted.result c.loop-link.noted c.note_reads-in-loop-link.result
    c.and-noted-in-loop-link.result c.loop-link-test.true c.link-item.is c.loop-link.invariant c.note_reads-in-loop-link.ensures
    c.and-noted-in-loop-link.ensures

pub returns-after-loop-link : goal.returns-after-loop-link
returns-after-loop-link t c = chain_noted _ _ _ _ _ _ c.loop-link.link-index _ _ _ c.note_reads-noted.result c.loop-link.noted c.in-Chain.is
    c.deref-in-Chain.ensures c.deref-link-items.ensures.value c.loop-link-test.false c.note_reads-noted.ensures c.loop-link.invariant

pub returns-in-Compare : goal.returns-in-Compare
returns-in-Compare t c = sides_noted _ _ _ _ _ _ _ _ _ _ c.note_reads-noted-in-Compare.result c.note_reads-in-Compare.result c.and.result c.in-Compare.is
    c.deref-in-Compare.ensures c.deref-in-Compare-2.ensures c.note_reads-noted-in-Compare.ensures c.note_reads-in-Compare.ensures c.and.ensures
