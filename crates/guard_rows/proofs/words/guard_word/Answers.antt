use Rattle.guard_rows.specs.Places.{index_of}
use Rattle.guard_rows.proofs.Masks.{guard_more}
use Rattle.guard_rows.proofs.words.guard_word.Goals as goal

pub loop-term-preserved : goal.loop-term-preserved
loop-term-preserved c = λ v.
    guard_more v c.terms-term-items.result.now c.loop-term.term-index (index_of v c.args.inputs.now) c.loop-term.word c.in_ok-word.field-0
    c.term-item.result c.loop-term-test.true c.term-item.is (c.loop-term.invariant v) (c.in_ok-word.ensures v)
