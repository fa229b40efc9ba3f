-- The words of `waves`.
use Rattle.std.specs.Prelude.{if◌then◌else◌, List, [], ◌∷◌, Option, Some, None, codes, option_map, ℕ, Bool}
use Rattle.clap.specs.Words.{App, Text, first_of, matches_of, takes, with_rule}
use Rattle.command_words.specs.PlainForms.{Argument, flag_named, option_named, word_named}
use Rattle.command_words.specs.SimulateWords.{bare_form, flag_rule, word_rule, option_rule, number_or, most_of_steps}
use Rattle.command_words.specs.Words.{is_set}

-- the form: two files, two options with a value each, and a flag
abbrev pub waves_form : Text → App
waves_form name =
    with_rule (with_rule (with_rule (with_rule (with_rule (bare_form name)
    (word_rule (codes "PRS"))) (word_rule (codes "SCRIPT")))
    (option_rule (codes "steps"))) (option_rule (codes "delays"))) (flag_rule (codes "causes"))

-- what is asked for: the names of the rule file, of the script and of the delay file, if there is one, the most moves,
-- and whether the causes of the last move are wanted in place of the wave
pub record AskedWaves : Type 0 where
  pub net : List ℕ
  pub script : List ℕ
  pub steps : ℕ
  pub delays : Option (List ℕ)
  pub causes : Bool

-- 100,000 moves at most where no number is given
abbrev pub waves_with : (net script steps delays causes : Option Text) → Option AskedWaves
waves_with (Some net) (Some script) steps delays causes = option_map
    (λ n. record { net = net; script = script; steps = n; delays = delays; causes = is_set causes })
    (number_or 100000 most_of_steps steps)
waves_with _ _ steps delays causes = None

-- what the words after `waves` ask for, where its form takes them
unfoldable pub waves_of : Text → List Text → Option AskedWaves
waves_of name words = if takes (waves_form name) words
    then waves_with (first_of (codes "PRS") (matches_of (waves_form name) words))
    (first_of (codes "SCRIPT") (matches_of (waves_form name) words))
    (first_of (codes "steps") (matches_of (waves_form name) words))
    (first_of (codes "delays") (matches_of (waves_form name) words))
    (first_of (codes "causes") (matches_of (waves_form name) words))
    else None

-- ---- the same in plain words

-- a rule file and a script, and beside them `--steps N`, `--delays FILE` and `--causes`
abbrev pub waves_arguments : List Argument
waves_arguments = word_named (codes "PRS") ∷ word_named (codes "SCRIPT") ∷ option_named (codes "steps")
    ∷ option_named (codes "delays") ∷ flag_named (codes "causes") ∷ []

abbrev pub waves_by : List (Option Text) → Option AskedWaves
waves_by (net ∷ script ∷ steps ∷ delays ∷ causes ∷ []) = waves_with net script steps delays causes
waves_by _ = None
