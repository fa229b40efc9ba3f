use Rattle.guard_rows.specs.Places.{index_of}
use Rattle.guard_rows.proofs.Masks.{all_ones, term_more}
use Rattle.guard_rows.proofs.words.term_word.Goals as goal

pub loop-literal-init : goal.loop-literal-init
loop-literal-init c = λ v. all_ones v c.args.inputs.now c.requires

pub loop-literal-preserved : goal.loop-literal-preserved
loop-literal-preserved c = λ v.
    term_more v c.literals-literal-items.result.now c.loop-literal.literal-index (index_of v c.args.inputs.now) c.loop-literal.word c.in_ok-word.field-0 _
    c.loop-literal-test.true (c.loop-literal.invariant v) (c.in_ok-word.ensures v)
