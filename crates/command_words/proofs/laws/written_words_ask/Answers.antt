use Rattle.std.proofs.Common.{◌∙◌, ap}
use Rattle.std.specs.Prelude.{option_and_then}
use Rattle.command_words.specs.CommandWords.{arguments_of, asks_by, plain_with}
use Rattle.command_words.specs.WrittenForms.{written_words}
use Rattle.command_words.proofs.PlainCommands.{well_made}
use Rattle.command_words.proofs.Written.{written_read}
use Rattle.command_words.proofs.laws.written_words_ask.Goals as goal

pub returns : goal.returns
returns c = λ word v texts named are.
    let arguments = arguments_of v in
    let made = well_made v in
    ap (option_and_then (λ w. plain_with w (written_words arguments texts))) named
    ∙ ap (option_and_then (asks_by v)) (written_read arguments texts made.1 made.2 are)
