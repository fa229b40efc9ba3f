use Rattle.std.proofs.Common.{◌≡◌, ◌∙◌, ap, List, Option, None, Some}
use Rattle.std.specs.Prelude.{option_and_then}
use Rattle.clap.specs.Words.{found_of}
use Rattle.clap.specs.Walk.{Text}
use Rattle.command_words.specs.BuiltForms.{texts_found}
use Rattle.command_words.specs.CommandWords.{arguments_of, asks_by}
use Rattle.command_words.specs.Forms.{texts_of}
use Rattle.command_words.specs.PlainForms.{plain_words}
use Rattle.command_words.proofs.command.command_with.Goals as goal

pub returns-in-Ok-Some : goal.returns-in-Ok-Some
returns-in-Ok-Some c =
    let verb = c.args.verb in
    let words = texts_of c.args.rest.now in
    let given : ◌≡◌ {A = Option (List (Option Text))} (Some (texts_found (arguments_of verb) (found_of c.in-Ok-Some.matches)))
    (plain_words (arguments_of verb) words) = rw c.in-Ok-Some.field-0-is at c.in-Ok-Some.ensures in
    record {
      plain = c.asked_with.ensures.asked ∙ ap (option_and_then (asks_by verb)) given;
      bounds = c.asked_with.ensures.bounds;
    }

pub returns-in-Ok-None : goal.returns-in-Ok-None
returns-in-Ok-None c =
    let verb = c.args.verb in
    let words = texts_of c.args.rest.now in
    let given : ◌≡◌ {A = Option (List (Option Text))} None (plain_words (arguments_of verb) words) =
    rw c.in-Ok-None.field-0-is at c.in-Ok-None.ensures in
    record { plain = ap (option_and_then (asks_by verb)) given; bounds = tt }
