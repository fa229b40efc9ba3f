-- The words of `grow`: a seed, a number of stages, and the flag `--sum`.
use Rattle.std.specs.Prelude.{ℕ, ◌≤◌, nat_le, Bool, List, [], ◌∷◌, Option, Some, None, codes, if◌then◌else◌, option_and_then}
use Rattle.clap.specs.Words.{App, Text, first_of, matches_of, takes, with_rule}
use Rattle.command_words.specs.declared.grow_words.Growth.{Growth}
use Rattle.command_words.specs.SimulateWords.{bare_form, flag_rule, most_of_seed, number_up_to, word_rule}
use Rattle.command_words.specs.PlainForms.{Argument, flag_named, word_named}
use Rattle.command_words.specs.Words.{is_set}

-- the form: both numbers and the flag
abbrev pub grow_form : Text → App
grow_form name =
    with_rule (with_rule (with_rule (bare_form name) (word_rule (codes "SEED"))) (word_rule (codes "STAGES")))
    (flag_rule (codes "sum"))

-- the most stages
abbrev pub most_of_stages : ℕ
most_of_stages = 400

-- a seed of 64 bits, and 1 to 400 stages
abbrev pub growth_in : (seed stages : Text) → (sum : Bool) → Option Growth
growth_in seed stages sum = option_and_then (λ s. option_and_then
    (λ n. if nat_le 1 n then Some (record { seed = s; stages = n; sum = sum }) else None)
    (number_up_to most_of_stages stages)) (number_up_to most_of_seed seed)

-- there are 1 to 400 stages
pub record IsGrowable (growth : Growth) : Type 0 where
  pub some : 1 ≤ growth.stages
  pub most : growth.stages ≤ most_of_stages

abbrev pub growth_with : (seed stages sum : Option Text) → Option Growth
growth_with (Some seed) (Some stages) sum = growth_in seed stages (is_set sum)
growth_with _ _ sum = None

-- what the words after `grow` ask for, where its form takes them
unfoldable pub growth_of : Text → List Text → Option Growth
growth_of name words = if takes (grow_form name) words
    then growth_with (first_of (codes "SEED") (matches_of (grow_form name) words))
    (first_of (codes "STAGES") (matches_of (grow_form name) words))
    (first_of (codes "sum") (matches_of (grow_form name) words))
    else None

-- ---- the same in plain words

-- two numbers, and beside them `--sum`
abbrev pub grow_arguments : List Argument
grow_arguments =
    word_named (codes "SEED") ∷ word_named (codes "STAGES") ∷ flag_named (codes "sum") ∷ []

abbrev pub grow_by : List (Option Text) → Option Growth
grow_by (seed ∷ stages ∷ sum ∷ []) = growth_with seed stages sum
grow_by _ = None
