use Rattle.std.proofs.Common.{◌≡◌, ◌++◌}
use Rattle.chp_syntax.specs.View.{expression_of}
use Rattle.call_merge.specs.CallSplits.{names_read}
use Rattle.call_merge.proofs.Collecting.{part_collected, link_collected, join_collected, chain_collected}
use Rattle.call_merge.proofs.Mapping.{collects_reads}
use Rattle.call_merge.proofs.own_vars.+note_reads.Goals as goal

pub loop-part-preserved : goal.loop-part-preserved
loop-part-preserved t c = part_collected collects_reads _ c.loop-part.part-index _ _ _ _ c.loop-part-test.true c.part-item.is c.loop-part.invariant
    c.in_ok-note_reads-in-Join.ensures

pub loop-link-preserved : goal.loop-link-preserved
loop-link-preserved t c = link_collected collects_reads _ c.loop-link.link-index _ _ _ _ c.loop-link-test.true c.link-item.is c.loop-link.invariant
    c.in_ok-note_reads-in-Chain-2.ensures

pub returns-after-loop-part : goal.returns-after-loop-part
returns-after-loop-part t c = join_collected collects_reads _ _ _ _ c.loop-part.part-index _ _ c.in-Join.is c.deref-part-items.ensures.value
    c.loop-part-test.false c.loop-part.invariant

pub returns-after-loop-link : goal.returns-after-loop-link
returns-after-loop-link t c =
    let first : c.note_reads-in-Chain.new.names.items ≡ c.args.names.now.items ++ names_read (expression_of c.in-Chain.first.value) =
    rw (← c.deref-in-Chain.ensures) c.in_ok-note_reads-in-Chain.ensures in
    chain_collected collects_reads _ _ _ _ _ c.loop-link.link-index _ _ _ c.in-Chain.is c.deref-link-items.ensures.value c.loop-link-test.false first
    c.loop-link.invariant
