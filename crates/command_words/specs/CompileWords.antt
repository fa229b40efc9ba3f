-- The words of `compile`: a file, the flag `--reset`, and the option `--buffer` with the name of a channel.
use Rattle.std.specs.Prelude.{Bool, List, [], ◌∷◌, Option, None, codes, option_map, if◌then◌else◌}
use Rattle.std.specs.Borrow.{Bor}
use Rattle.clap.specs.Words.{App, Text, first_of, matches_of, takes, with_rule}
use Rattle.command_words.specs.declared.compile_words.Compilation.{Compilation}
use Rattle.command_words.specs.SimulateWords.{bare_form, flag_rule, word_rule, option_rule}
use Rattle.command_words.specs.PlainForms.{Argument, flag_named, option_named, word_named}
use Rattle.command_words.specs.Words.{is_set}

-- what `compile` is asked for: the name of its file, whether the net has a reset node, and the channel that gets a
-- buffer, if one is named
pub record AskedCompilation : Type 0 where
  pub file : Text
  pub reset : Bool
  pub buffer : Option Text

-- with its names as their bytes
abbrev pub compilation_asked : Compilation → AskedCompilation
compilation_asked c = record {
  file = c.file.now;
  reset = c.reset;
  buffer = option_map (λ (t : Bor Text). t.now) c.buffer;
}

-- the form: one file, a flag, and an option with a value
abbrev pub compile_form : Text → App
compile_form name = with_rule (with_rule (with_rule (bare_form name) (word_rule (codes "FILE")))
    (flag_rule (codes "reset"))) (option_rule (codes "buffer"))

abbrev pub compile_with : (file reset buffer : Option Text) → Option AskedCompilation
compile_with file reset buffer =
    option_map (λ name. record { file = name; reset = is_set reset; buffer = buffer }) file

-- what the words after `compile` ask for, where its form takes them
unfoldable pub compile_of : Text → List Text → Option AskedCompilation
compile_of name words = if takes (compile_form name) words
    then compile_with (first_of (codes "FILE") (matches_of (compile_form name) words))
    (first_of (codes "reset") (matches_of (compile_form name) words))
    (first_of (codes "buffer") (matches_of (compile_form name) words))
    else None

-- ---- the same in plain words

-- a file, and beside it `--reset` and `--buffer X`
abbrev pub compile_arguments : List Argument
compile_arguments =
    word_named (codes "FILE") ∷ flag_named (codes "reset") ∷ option_named (codes "buffer") ∷ []

abbrev pub compile_by : List (Option Text) → Option AskedCompilation
compile_by (file ∷ reset ∷ buffer ∷ []) = compile_with file reset buffer
compile_by _ = None
