use Rattle.std.proofs.Common.{ℕ, List, Option, sym, ap, subst}
use Rattle.std.specs.Prelude.{IfErr, option_to_list}
use Rattle.command_answers.specs.Answers.{given_by}
use Rattle.command_answers.specs.Replies.{Stops}
use Rattle.command_words.specs.SimulateWords.{text_given}
use Rattle.command_steps.specs.Steps.{Never}
use Rattle.command_steps.specs.DelaySteps.{FromDelayFile}
use Rattle.command_steps.proofs.delay_files.delays_if.Goals as goal

pub returns-in-Some-clause-stopped : goal.returns-in-Some-clause-stopped
returns-in-Some-clause-stopped g c =
    let S = g.S.Shelf in
    let given = given_by (S.tells c.args.shelf.now) (S.holds c.args.shelf.now) in
    subst (λ (name : Option (List ℕ)). IfErr c.delays_in.result
    (Stops (FromDelayFile given name c.args.net.now.names Never) (option_to_list name) given (S.faults c.args.shelf.now) (S.faults c.delays_in.new.shelf)))
    (sym (ap text_given c.in-Some.is)) c.delays_in.ensures.stopped
