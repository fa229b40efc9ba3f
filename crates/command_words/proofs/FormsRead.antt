-- What the matches of a form say of its arguments.
use Rattle.std.proofs.Common.{◌≡◌, ◌∙◌, cond, refl, ap, ap₂, List, [], ◌∷◌, map, Option, Some, None, is_some, option_map}
use Rattle.std.specs.Prelude.{IfSome}
use Rattle.std.specs.declared.alloc.Global.{Global}
use Rattle.std.specs.declared.string.String.{String}
use Rattle.clap.specs.Walk.{Row, Text, first_of, rows_of}
use Rattle.clap.specs.Words.{App, matches_of, takes}
use Rattle.clap.specs.declared.parser.matches.ArgMatches.{ArgMatches}
use Rattle.clap.specs.declared.parser.matches.Found.{Found}
use Rattle.clap.specs.Words.{found_of}
use Rattle.clap.proofs.WalkLemmas.{first_value-rows}
use Rattle.command_words.specs.BuiltForms.{form_of, texts_found}
use Rattle.command_words.specs.CommandWords.{arguments_of}
use Rattle.command_words.specs.Forms.{texts_of}
use Rattle.command_words.specs.PlainForms.{Argument, plain_words}
use Rattle.command_words.specs.declared.command.Verb.{Verb}
use Rattle.command_words.proofs.FormTaken.{form_is}
use Rattle.command_words.proofs.PlainCommands.{well_made}

found_texts : (found : Found) (arguments : List Argument) →
    texts_found arguments found ≡ map (λ (a : Argument). first_of a.name (rows_of found)) arguments
found_texts found [] = refl
found_texts found (a ∷ rest) = ap₂ (λ (text : Option Text) more. text ∷ more) (first_value-rows found a.name) (found_texts found rest)

module _ (arguments : List Argument) where
  abbrev texts_by : App → List Text → Option (List (Option Text))
  texts_by form words = cond (takes form words) (Some (map (λ (a : Argument). first_of a.name (matches_of form words)) arguments)) None

  -- what was found is what the form gives
  found_is : (form : App) (words : List Text) (found : Option ArgMatches) → is_some found ≡ takes form words
      → IfSome found (λ m. rows_of (found_of m) ≡ matches_of form words)
      → option_map (λ (m : ArgMatches). texts_found arguments (found_of m)) found ≡ texts_by form words
  found_is form words None taken rows = rw (← taken) refl
  found_is form words (Some m) taken rows =
      rw (← taken) (ap Some (found_texts (found_of m) arguments ∙ ap (λ (rs : List Row). map (λ (a : Argument). first_of a.name rs) arguments) rows))

-- what was found is what the words say plainly
pub found_plainly : (v : Verb) (name : Text) (words : List (String Global)) (form : App) (found : Option ArgMatches)
    → form ≡ form_of name (arguments_of v) → is_some found ≡ takes form (texts_of words)
    → IfSome found (λ m. rows_of (found_of m) ≡ matches_of form (texts_of words))
    → option_map (λ (m : ArgMatches). texts_found (arguments_of v) (found_of m)) found ≡ plain_words (arguments_of v) (texts_of words)
found_plainly v name words form found is taken rows = found_is (arguments_of v) form (texts_of words) found taken rows
    ∙ (ap (λ (f : App). texts_by (arguments_of v) f (texts_of words)) is ∙ form_is name (arguments_of v) (well_made v).0 words)
