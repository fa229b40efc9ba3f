use Rattle.std.proofs.Common.{◌∷◌, []}
use Rattle.command_answers.specs.Answers.{given_by}
use Rattle.simulation_commands.specs.Unwaving.{FromWave, PrintsChanges, most_of_wave}
use Rattle.command_steps.proofs.Stopping.{file_answers, file_passed, file_stops}
use Rattle.simulation_commands.proofs.unwave.unwave.Goals as goal

pub returns-clause-answered : goal.returns-clause-answered
returns-clause-answered g c =
    let S = g.S.Shelf in
    let given = given_by (S.tells c.args.shelf.now) (S.holds c.args.shelf.now) in
    file_answers given c.args.file.now most_of_wave c.in_ok-text.text.items (λ text. FromWave text PrintsChanges) c.in_ok-text.ensures.read
    c.in_ok-text.ensures.short c.told_text.result (rw c.deref.ensures.value at c.told_text.ensures.answered)

pub returns-clause-stopped : goal.returns-clause-stopped
returns-clause-stopped g c =
    let S = g.S.Shelf in
    let given = given_by (S.tells c.args.shelf.now) (S.holds c.args.shelf.now) in
    file_stops given c.args.file.now most_of_wave c.in_ok-text.text.items (λ text. FromWave text PrintsChanges) c.in_ok-text.ensures.read
    c.in_ok-text.ensures.short c.told_text.result (c.args.file.now ∷ []) _ _ (rw c.deref.ensures.value at c.told_text.ensures.stopped)

pub returns-in_err-text-clause-stopped : goal.returns-in_err-text-clause-stopped
returns-in_err-text-clause-stopped g c =
    let S = g.S.Shelf in
    let given = given_by (S.tells c.args.shelf.now) (S.holds c.args.shelf.now) in
    file_passed given c.args.file.now most_of_wave (λ text. FromWave text PrintsChanges) (S.faults c.args.shelf.now) (S.faults c.text_of_file.new.shelf)
    c.from_residual.result c.in_err-text.field-0.0 c.from_residual.ensures.1 c.in_err-text.ensures.stopped
