use Rattle.prs_core.proofs.FanLemmas.{noted_term}
use Rattle.prs_core.proofs.fan.note_guard.Goals as goal

pub loop-term-preserved : goal.loop-term-preserved
loop-term-preserved c =
    noted_term c.args.reader c.loop-term.term-index c.terms-term-items.result.now c.term-item.result _ c.loop-term.readers.items _ c.loop-term-test.true
    c.term-item.is c.loop-term.invariant c.in_ok-note_term.ensures
