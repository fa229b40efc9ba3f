-- The words of `run`.
use Rattle.std.specs.Prelude.{ℕ, if◌then◌else◌, List, [], ◌∷◌, Option, Some, None, codes, option_map}
use Rattle.clap.specs.Words.{App, Text, first_of, matches_of, takes, with_rule}
use Rattle.command_words.specs.PlainForms.{Argument, option_named, word_named}
use Rattle.command_words.specs.SimulateWords.{bare_form, word_rule, option_rule, number_or}

-- what a run of rounds is asked for: the names of its program text and of its script, how many rounds, and the channel
-- that gets a buffer, if one is named
pub record AskedRounds : Type 0 where
  pub file : Text
  pub script : Text
  pub rounds : ℕ
  pub buffer : Option Text

-- the form: two files, and two options with a value each
abbrev pub rounds_form : Text → App
rounds_form name = with_rule (with_rule (with_rule (with_rule (bare_form name)
    (word_rule (codes "FILE"))) (word_rule (codes "SCRIPT"))) (option_rule (codes "rounds")))
    (option_rule (codes "buffer"))

-- 1000 rounds where no number is given, and 1,000,000 at most
abbrev pub rounds_with : (file script rounds buffer : Option Text) → Option AskedRounds
rounds_with (Some file) (Some script) rounds buffer =
    option_map (λ n. record { file = file; script = script; rounds = n; buffer = buffer })
    (number_or 1000 1000000 rounds)
rounds_with _ _ rounds buffer = None

-- what the words after `run` ask for, where its form takes them
unfoldable pub rounds_of : Text → List Text → Option AskedRounds
rounds_of name words = if takes (rounds_form name) words
    then rounds_with (first_of (codes "FILE") (matches_of (rounds_form name) words))
    (first_of (codes "SCRIPT") (matches_of (rounds_form name) words))
    (first_of (codes "rounds") (matches_of (rounds_form name) words))
    (first_of (codes "buffer") (matches_of (rounds_form name) words))
    else None

-- ---- the same in plain words

-- a program text and a script, and beside them `--rounds N` and `--buffer X`
abbrev pub run_arguments : List Argument
run_arguments = word_named (codes "FILE") ∷ word_named (codes "SCRIPT")
    ∷ option_named (codes "rounds") ∷ option_named (codes "buffer") ∷ []

abbrev pub rounds_by : List (Option Text) → Option AskedRounds
rounds_by (file ∷ script ∷ rounds ∷ buffer ∷ []) = rounds_with file script rounds buffer
rounds_by _ = None
