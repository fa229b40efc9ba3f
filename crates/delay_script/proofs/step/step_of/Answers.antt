use Rattle.std.proofs.Common.{rules}
use Rattle.env_script.specs.Cutting.{words_of}
use Rattle.env_script.proofs.Places.{some_words}
use Rattle.delay_script.specs.DelaySteps.{says_no_delays}
use Rattle.delay_script.proofs.SaidWords.{said_so, said_nothing}
use Rattle.delay_script.proofs.step.step_of.Goals as goal

pub returns-in_default : goal.returns-in_default
returns-in_default c =
    let some = some_words c.in_ok-words.words.items (words_of c.args.line.now) c.in_ok-words.ensures in
    says_no_delays (some (search rules))
    (said_nothing c.in_ok-words.words.items _ _ _ c.deref.ensures.value c.in_ok-words.ensures c.in_ok-line.ensures.none c.in_default.is)

pub returns : goal.returns
returns c =
    c.step_for.ensures (words_of c.args.line.now)
    (said_so c.in_ok-words.words.items _ _ c.in-Some.line _ c.deref.ensures.value c.in_ok-words.ensures c.in_ok-line.ensures.some c.in-Some.is)
