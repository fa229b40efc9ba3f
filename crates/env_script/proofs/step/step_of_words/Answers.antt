use Rattle.std.proofs.Common.{refl, rules}
use Rattle.env_script.specs.LineSteps.{says_nothing}
use Rattle.env_script.proofs.Places.{some_words, line_said, nothing_said}
use Rattle.env_script.proofs.Sayings.{texts}
use Rattle.env_script.proofs.step.step_of_words.Goals as goal

pub returns-in-Some : goal.returns-in-Some
returns-in-Some c = c.step_of_line.ensures (texts c.args.words.now)
    (line_said (texts c.args.words.now) _ c.in-Some.line c.in_ok-line.ensures.some c.in-Some.is)

pub returns-in-None : goal.returns-in-None
returns-in-None c = says_nothing (some_words c.args.words.now (texts c.args.words.now) refl (search rules))
    (nothing_said (texts c.args.words.now) _ c.in_ok-line.ensures.none c.in-None.is)
