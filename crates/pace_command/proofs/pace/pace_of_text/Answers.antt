use Rattle.std.specs.Prelude.{option_to_list}
use Rattle.chp_syntax.specs.View.{program_tree}
use Rattle.command_answers.specs.Answers.{given_by}
use Rattle.command_words.specs.SimulateWords.{text_given}
use Rattle.command_steps.specs.Steps.{FromProgram, Never, a_program}
use Rattle.command_steps.proofs.Stopping.{passed_on, program_answers, program_goes, stops_where}
use Rattle.pace_command.specs.Pacing.{PacesProgram}
use Rattle.pace_command.proofs.Pausing.{stops_as}
use Rattle.pace_command.proofs.pace.pace_of_text.Goals as goal

pub returns-clause-answered : goal.returns-clause-answered
returns-clause-answered g c =
    let S = g.S.Shelf in
    let given = given_by (S.tells c.args.shelf.now) (S.holds c.args.shelf.now) in
    program_answers c.args.text.now (program_tree c.in_ok-program.program) (PacesProgram given (text_given c.args.script)) c.in_ok-program.ensures.read
    c.pace_program.result c.pace_program.ensures.answered

pub returns-clause-stopped : goal.returns-clause-stopped
returns-clause-stopped g c =
    let S = g.S.Shelf in
    let given = given_by (S.tells c.args.shelf.now) (S.holds c.args.shelf.now) in
    let script = text_given c.args.script in
    stops_as (PacesProgram given script (program_tree c.in_ok-program.program)) (FromProgram c.args.text.now (PacesProgram given script))
    (λ answer is. a_program c.in_ok-program.ensures.read is) given (S.faults c.args.shelf.now) (S.faults c.pace_program.new.shelf)
    (option_to_list script) c.pace_program.result c.pace_program.ensures.stopped

pub returns-in_err-program-clause-stopped : goal.returns-in_err-program-clause-stopped
returns-in_err-program-clause-stopped g c =
    let S = g.S.Shelf in
    let given = given_by (S.tells c.args.shelf.now) (S.holds c.args.shelf.now) in
    let script = text_given c.args.script in
    passed_on c.from_residual.result _ _ c.from_residual.ensures.1
    (stops_where (FromProgram c.args.text.now Never) (FromProgram c.args.text.now (PacesProgram given script)) (λ answer is. program_goes is)
    (option_to_list script) given (S.faults c.args.shelf.now) (S.faults c.args.shelf.now) c.in_err-program.field-0.0 c.in_err-program.ensures.stopped)
