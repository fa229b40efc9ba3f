use Rattle.std.proofs.Common.{[], ◌∷◌, arith}
use Rattle.std.specs.Prelude.{option_to_list}
use Rattle.command_answers.specs.Answers.{given_by}
use Rattle.command_steps.specs.Steps.{FromFile, FromProgram, Never, a_file, most_of_text}
use Rattle.command_steps.proofs.Stopping.{file_answers, file_goes, passed_on, stops_in}
use Rattle.pace_command.specs.Names.{pace_asked}
use Rattle.pace_command.specs.Pacing.{Paces, PacesProgram, files_of}
use Rattle.pace_command.proofs.Pausing.{head_file, stops_behind}
use Rattle.pace_command.proofs.pace.pace.Goals as goal

pub returns-clause-answered : goal.returns-clause-answered
returns-clause-answered g c =
    let S = g.S.Shelf in
    let given = given_by (S.tells c.args.shelf.now) (S.holds c.args.shelf.now) in
    let asked = pace_asked c.args.asked.now in
    file_answers given asked.file most_of_text c.in_ok-text.text.items (λ text. FromProgram text (PacesProgram given asked.script))
    c.in_ok-text.ensures.read c.in_ok-text.ensures.short c.pace_of_text.result
    (rw (c.deref.ensures.value, c.text_of_file.ensures.same, c.text_of_file.ensures.kept) at c.pace_of_text.ensures.answered)

pub returns-clause-stopped : goal.returns-clause-stopped
returns-clause-stopped g c =
    let S = g.S.Shelf in
    let given = given_by (S.tells c.args.shelf.now) (S.holds c.args.shelf.now) in
    let asked = pace_asked c.args.asked.now in
    stops_behind (FromProgram c.in_ok-text.text.items (PacesProgram given asked.script)) (Paces given asked)
    (λ answer is. a_file c.in_ok-text.ensures.read c.in_ok-text.ensures.short is) given (S.faults c.text_of_file.new.shelf) (S.faults c.pace_of_text.new.shelf)
    asked.file (option_to_list asked.script) (S.faults c.args.shelf.now) c.text_of_file.ensures.faults c.pace_of_text.result
    (rw (c.deref.ensures.value, c.text_of_file.ensures.same, c.text_of_file.ensures.kept) at c.pace_of_text.ensures.stopped)

pub returns-in_err-text-clause-stopped : goal.returns-in_err-text-clause-stopped
returns-in_err-text-clause-stopped g c =
    let S = g.S.Shelf in
    let given = given_by (S.tells c.args.shelf.now) (S.holds c.args.shelf.now) in
    let asked = pace_asked c.args.asked.now in
    passed_on c.from_residual.result _ _ c.from_residual.ensures.1
    (stops_in (FromFile given asked.file most_of_text Never) (Paces given asked) (λ answer is. file_goes is) (asked.file ∷ []) (files_of asked) given
    (S.faults c.args.shelf.now) (S.faults c.args.shelf.now) (S.faults c.text_of_file.new.shelf)
    (head_file asked.file (option_to_list asked.script)) (omega arith) c.in_err-text.field-0.0 c.in_err-text.ensures.stopped)
