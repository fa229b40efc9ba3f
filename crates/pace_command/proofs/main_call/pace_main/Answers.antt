use Rattle.std.proofs.Common.{◌∙◌, ◌++◌, ap, sym, append-nil}
use Rattle.command_answers.specs.Statuses.{is_whole}
use Rattle.pace_command.proofs.Ending.{paced_of, read_of, silent_of}
use Rattle.pace_command.proofs.main_call.pace_main.Goals as goal

pub returns-clause-paced : goal.returns-clause-paced
returns-clause-paced g c = λ is.
    let (appended, ends, put) = c.run-end.ensures.ended in
    let (asked, named, paces) = paced_of _ _ _ _ ends (sym c.status.ensures ∙ is) in
    (asked, appended, named, paces, c.bounds_are_kept.ensures _ _ _ paces, put)

pub returns-clause-read : goal.returns-clause-read
returns-clause-read g c = λ is.
    let (appended, ends, put) = c.run-end.ensures.ended in
    read_of _ _ _ _ ends (sym c.status.ensures ∙ is)

pub returns-clause-silent : goal.returns-clause-silent
returns-clause-silent g c = λ not cut told.
    let (appended, ends, put) = c.run-end.ensures.ended in
    let same = c.status.ensures in
    let none = silent_of _ _ _ _ ends (ap is_whole (sym same) ∙ not) (λ is. cut (same ∙ is)) in
    put told ∙ (ap (λ xs. g.K.Sink.written c.args.out.now ++ xs) none ∙ append-nil _)
