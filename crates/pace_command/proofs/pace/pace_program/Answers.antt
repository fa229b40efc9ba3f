use Rattle.std.proofs.Common.{◌∙◌, ap, subst}
use Rattle.std.specs.Prelude.{option_to_list}
use Rattle.chp_syntax.specs.View.{program_tree}
use Rattle.width_check.specs.Typed.{program_of as typed_of}
use Rattle.command_answers.specs.Answers.{given_by}
use Rattle.command_words.specs.SimulateWords.{text_given}
use Rattle.command_steps.specs.Steps.{FromChecks, Never, accepted}
use Rattle.command_steps.proofs.Stopping.{checks_go, form_answers, passed_on, stops_where}
use Rattle.pace_command.specs.Pacing.{PacesProgram, PacesUnder}
use Rattle.pace_command.proofs.Pausing.{stops_as}
use Rattle.pace_command.proofs.pace.pace_program.Goals as goal

pub returns-in_err-checked-clause-stopped : goal.returns-in_err-checked-clause-stopped
returns-in_err-checked-clause-stopped g c =
    let S = g.S.Shelf in
    let given = given_by (S.tells c.args.shelf.now) (S.holds c.args.shelf.now) in
    let program = program_tree c.args.program.now in
    let script = text_given c.args.script in
    passed_on c.from_residual.result _ _ c.from_residual.ensures.1
    (stops_where (FromChecks program Never) (PacesProgram given script program) (λ answer is. checks_go is) (option_to_list script) given
    (S.faults c.args.shelf.now) (S.faults c.args.shelf.now) c.in_err-checked.field-0.0 c.in_err-checked.ensures.stopped)

pub returns-clause-answered : goal.returns-clause-answered
returns-clause-answered g c =
    let S = g.S.Shelf in
    let given = given_by (S.tells c.args.shelf.now) (S.holds c.args.shelf.now) in
    let program = program_tree c.args.program.now in
    form_answers program (typed_of c.typed.result.now) (typed_of c.in_ok-checked.checked) (λ p. PacesUnder given (text_given c.args.script) program p)
    (ap typed_of c.typed.ensures.program) c.in_ok-checked.ensures.checked c.pace_plain.result c.pace_plain.ensures.answered

pub returns-clause-stopped : goal.returns-clause-stopped
returns-clause-stopped g c =
    let S = g.S.Shelf in
    let given = given_by (S.tells c.args.shelf.now) (S.holds c.args.shelf.now) in
    let program = program_tree c.args.program.now in
    let script = text_given c.args.script in
    let checked = c.in_ok-checked.ensures.checked in
    stops_as (PacesUnder given script program (typed_of c.typed.result.now)) (PacesProgram given script program)
    (λ answer is. accepted checked.means checked.accepted
    (subst (λ p. PacesUnder given script program p answer) (ap typed_of c.typed.ensures.program ∙ checked.form) is))
    given (S.faults c.args.shelf.now) (S.faults c.pace_plain.new.shelf) (option_to_list script) c.pace_plain.result c.pace_plain.ensures.stopped
