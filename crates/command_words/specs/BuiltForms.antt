-- The forms that `clap` is given, by the arguments that they have.
use Rattle.std.specs.Prelude.{Bool, true, false, List, map, Option, Some, None}
use Rattle.clap.specs.Words.{App, Rule, Text, new_rule}
use Rattle.clap.specs.Matches.{first_value}
use Rattle.clap.specs.Simple.{on_top}
use Rattle.clap.specs.declared.builder.ArgAction.{ArgAction}
use Rattle.clap.specs.declared.builder.ArgAction.TheVariants.{Set, SetTrue}
use Rattle.clap.specs.declared.parser.matches.Found.{Found}
use Rattle.command_words.specs.PlainForms.{Argument, ArgumentKind, a_word, a_flag, an_option, flag_named, needed_named, option_named, word_named}
use Rattle.command_words.specs.SimulateWords.{bare_form}
use Rattle.command_words.specs.declared.arguments.Argument.{Argument as Named}
use Rattle.command_words.specs.declared.arguments.Argument.TheVariants as named

-- an argument of the code
abbrev pub argument_of : Named → Argument
argument_of (named.Word name) = word_named name.now
argument_of (named.Flag name) = flag_named name.now
argument_of (named.Value name) = option_named name.now
argument_of (named.Needed name) = needed_named name.now

abbrev pub is_needed : ArgumentKind → Bool
is_needed a_word = true
is_needed a_flag = false
is_needed (an_option needed) = needed

abbrev pub action_for : ArgumentKind → ArgAction
action_for a_flag = SetTrue
action_for _ = Set

-- a flag and an option are called by their names
abbrev pub called : ArgumentKind → Text → Option Text
called a_word name = None
called _ name = Some name

-- what the argument is to `clap`
abbrev pub rule_for : Argument → Rule
rule_for a = record (new_rule a.name) {
  long = called a.kind a.name;
  action = Some (action_for a.kind);
  required = is_needed a.kind;
}

-- the form of these arguments
abbrev pub form_of : Text → List Argument → App
form_of name arguments = on_top (λ s. record s { rules = map rule_for arguments }) (bare_form name)

-- the text that was found for each of them
abbrev pub texts_found : List Argument → Found → List (Option Text)
texts_found arguments found = map (λ a. first_value found a.name) arguments
