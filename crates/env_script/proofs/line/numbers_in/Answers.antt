use Rattle.env_script.proofs.Sayings.{numbers_more, no_numbers}
use Rattle.env_script.proofs.line.numbers_in.Goals as goal

pub returns-in_default-clause-none : goal.returns-in_default-clause-none
returns-in_default-clause-none c = no_numbers c.args.words.now c.loop-word.word-index _ c.loop-word-test.true c.in_default.ensures.none

pub loop-word-preserved : goal.loop-word-preserved
loop-word-preserved c =
    rw c.in_ok-push.ensures.items (numbers_more c.args.words.now c.loop-word.word-index _ _ _ c.loop-word-test.true c.loop-word.invariant
    c.in-Some.ensures.some)
