use Rattle.std.proofs.Common.{◌≡◌, ◌∙◌, ap, option_map}
use Rattle.clap.specs.Words.{found_of}
use Rattle.clap.specs.declared.parser.matches.ArgMatches.{ArgMatches}
use Rattle.command_words.specs.BuiltForms.{form_of, texts_found}
use Rattle.command_words.specs.CommandWords.{arguments_of}
use Rattle.command_words.specs.Forms.{is_form, texts_of}
use Rattle.command_words.specs.PlainForms.{plain_words}
use Rattle.command_words.proofs.FormsBuilt.{is_served}
use Rattle.command_words.proofs.FormsRead.{found_plainly}
use Rattle.command_words.proofs.Results.{both_in}
use Rattle.command_words.proofs.command.matches_with.Goals as goal

pub matches_in-requires : goal.matches_in-requires
matches_in-requires c =
    let verb = c.args.verb in
    let name = c.args.word.now in
    ap is_form (c.in_ok-form.ensures ∙ ap (form_of name) c.arguments_of.ensures) ∙ is_served name (arguments_of verb)

pub returns : goal.returns
returns c =
    let verb = c.args.verb in
    let name = c.args.word.now in
    let words = c.args.rest.now in
    let is = c.in_ok-form.ensures ∙ ap (form_of name) c.arguments_of.ensures in
    both_in c.matches_in.result _ _
    (λ found. option_map (λ (m : ArgMatches). texts_found (arguments_of verb) (found_of m)) found ≡ plain_words (arguments_of verb) (texts_of words))
    (λ found taken rows. found_plainly verb name words _ found is taken rows) c.matches_in.ensures.taken c.matches_in.ensures.matches
