use Rattle.std.proofs.Common.{◌∷◌, []}
use Rattle.command_answers.specs.Answers.{given_by}
use Rattle.command_answers.specs.Replies.{Halts, Stops}
use Rattle.command_steps.specs.Steps.{FromFile, FromProgram, a_file, most_of_text}
use Rattle.command_steps.proofs.BufferStopping.{OnlyChecks}
use Rattle.command_steps.proofs.Stopping.{err_in, file_passed, stops_where}
use Rattle.command_steps.proofs.program_files.program_in.Goals as goal

pub returns-clause-stopped : goal.returns-clause-stopped
returns-clause-stopped g c =
    let S = g.S.Shelf in
    let given = given_by (S.tells c.args.shelf.now) (S.holds c.args.shelf.now) in
    let next = FromProgram c.in_ok-text.text.items OnlyChecks in
    let whole = FromFile given c.args.file.now most_of_text (λ t. FromProgram t OnlyChecks) in
    err_in c.accepted_program.result (Halts next) (Stops whole (c.args.file.now ∷ []) given (S.faults c.args.shelf.now) (S.faults c.text_of_file.new.shelf))
    (stops_where next whole (λ answer is. a_file c.in_ok-text.ensures.read c.in_ok-text.ensures.short is) (c.args.file.now ∷ []) given
    (S.faults c.args.shelf.now) (S.faults c.text_of_file.new.shelf))
    (rw c.deref.ensures.value at c.accepted_program.ensures.stopped)

pub returns-in_err-text-clause-stopped : goal.returns-in_err-text-clause-stopped
returns-in_err-text-clause-stopped g c =
    let S = g.S.Shelf in
    let given = given_by (S.tells c.args.shelf.now) (S.holds c.args.shelf.now) in
    file_passed given c.args.file.now most_of_text (λ t. FromProgram t OnlyChecks) (S.faults c.args.shelf.now) (S.faults c.text_of_file.new.shelf)
    c.from_residual.result c.in_err-text.field-0.0 c.from_residual.ensures.1 c.in_err-text.ensures.stopped
