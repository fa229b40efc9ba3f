use Rattle.std.proofs.Common.{◌∷◌, []}
use Rattle.std.specs.Prelude.{option_map}
use Rattle.std.specs.Borrow.{Bor}
use Rattle.clap.specs.Walk.{Text}
use Rattle.command_answers.specs.Answers.{given_by}
use Rattle.command_answers.specs.Replies.{Halts, Stops}
use Rattle.command_steps.specs.Steps.{FromFile, FromProgram, a_file, most_of_text}
use Rattle.command_steps.proofs.BufferStopping.{OnlyBuffer}
use Rattle.command_steps.proofs.Stopping.{err_in, file_passed, stops_where}
use Rattle.command_words.proofs.Results.{ok_in}
use Rattle.command_steps.proofs.buffered.buffered_program_in.Goals as goal

pub returns-clause-read : goal.returns-clause-read
returns-clause-read g c =
    ok_in c.buffered_of_text.result _ _
    (λ program is. record { text = c.in_ok-text.text.items; gives = c.in_ok-text.ensures.read; short = c.in_ok-text.ensures.short; is = is })
    (rw c.deref.ensures.value at c.buffered_of_text.ensures.read)

pub returns-clause-stopped : goal.returns-clause-stopped
returns-clause-stopped g c =
    let S = g.S.Shelf in
    let given = given_by (S.tells c.args.shelf.now) (S.holds c.args.shelf.now) in
    let chan = option_map (λ (t : Bor Text). t.now) c.args.buffer in
    let next = FromProgram c.in_ok-text.text.items (OnlyBuffer chan) in
    let whole = FromFile given c.args.file.now most_of_text (λ t. FromProgram t (OnlyBuffer chan)) in
    err_in c.buffered_of_text.result (Halts next) (Stops whole (c.args.file.now ∷ []) given (S.faults c.args.shelf.now) (S.faults c.text_of_file.new.shelf))
    (stops_where next whole (λ answer is. a_file c.in_ok-text.ensures.read c.in_ok-text.ensures.short is) (c.args.file.now ∷ []) given
    (S.faults c.args.shelf.now) (S.faults c.text_of_file.new.shelf))
    (rw c.deref.ensures.value at c.buffered_of_text.ensures.stopped)

pub returns-in_err-text-clause-stopped : goal.returns-in_err-text-clause-stopped
returns-in_err-text-clause-stopped g c =
    let S = g.S.Shelf in
    let given = given_by (S.tells c.args.shelf.now) (S.holds c.args.shelf.now) in
    let chan = option_map (λ (t : Bor Text). t.now) c.args.buffer in
    file_passed given c.args.file.now most_of_text (λ t. FromProgram t (OnlyBuffer chan)) (S.faults c.args.shelf.now) (S.faults c.text_of_file.new.shelf)
    c.from_residual.result c.in_err-text.field-0.0 c.from_residual.ensures.1 c.in_err-text.ensures.stopped
