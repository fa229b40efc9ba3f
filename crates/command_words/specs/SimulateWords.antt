-- The words of `simulate`.
use Rattle.std.specs.Prelude.{◌&&◌, ◌||◌, ℕ, nat_le, nat_lt, Bool, true, false, if◌then◌else◌, List, [], ◌∷◌, length, Option, Some, None, codes, is_some, option_and_then, option_map}
use Rattle.std.specs.List.{list_all}
use Rattle.std.specs.Str.{bytes_eq}
use Rattle.chp_base.specs.Names.{digit}
use Rattle.env_script.specs.Numbers.{number_of_word}
use Rattle.clap.specs.Words.{App, Row, Rule, Text, first_of, matches_of, new_app, new_rule, takes, with_rule}
use Rattle.clap.specs.Simple.{on_top}
use Rattle.clap.specs.declared.builder.ArgAction.TheVariants.{Set, SetTrue}
use Rattle.std.specs.Borrow.{Bor}
use Rattle.command_words.specs.PlainForms.{Argument, option_named, word_named}
use Rattle.command_words.specs.declared.run_words.Texts.{Texts}

-- ---- numbers in words

-- 1 to 20 decimal digits
abbrev pub is_decimal : Text → Bool
is_decimal text = nat_lt 0 (length text) && (nat_le (length text) 20 && list_all digit text)

-- the number that the text is, where it is one of at most so much
abbrev pub number_up_to : (most : ℕ) → Text → Option ℕ
number_up_to most text =
    if is_decimal text && nat_le (number_of_word 10 text) most then Some (number_of_word 10 text) else None

-- the number of an option, at most `most`; `otherwise` where it isn't given
abbrev pub number_or : (otherwise most : ℕ) → Option Text → Option ℕ
number_or otherwise most None = Some otherwise
number_or otherwise most (Some text) = number_up_to most text

-- ---- the form: two files, and six options, each with a value

-- a positional that is required, and is given once
abbrev pub word_rule : Text → Rule
word_rule id = record (new_rule id) { required = true; action = Some Set }

-- an option of this name with a value, which may be given once
abbrev pub option_rule : Text → Rule
option_rule id = record (new_rule id) { long = Some id; action = Some Set }

-- a flag of this name, which may be given once
abbrev pub flag_rule : Text → Rule
flag_rule id = record (new_rule id) { long = Some id; action = Some SetTrue }

-- a form that takes nothing, not even a flag for help
abbrev pub bare_form : Text → App
bare_form name = on_top (λ s. record s { no_binary_name = true; disable_help_flag = true }) (new_app name)

abbrev pub simulate_form : Text → App
simulate_form name =
    with_rule (with_rule (with_rule (with_rule (with_rule (with_rule (with_rule (with_rule (bare_form name)
    (word_rule (codes "PRS"))) (word_rule (codes "SCRIPT")))
    (option_rule (codes "order"))) (option_rule (codes "seed")))
    (option_rule (codes "steps"))) (option_rule (codes "power"))) (option_rule (codes "against")))
    (option_rule (codes "delays"))

-- ---- what is asked for

-- the texts that the words give, each if it is given
pub record GivenTexts : Type 0 where
  pub net : Option Text
  pub script : Option Text
  pub order : Option Text
  pub seed : Option Text
  pub steps : Option Text
  pub power : Option Text
  pub against : Option Text
  pub delays : Option Text

abbrev pub given_texts : List Row → GivenTexts
given_texts rows = record {
  net = first_of (codes "PRS") rows;
  script = first_of (codes "SCRIPT") rows;
  order = first_of (codes "order") rows;
  seed = first_of (codes "seed") rows;
  steps = first_of (codes "steps") rows;
  power = first_of (codes "power") rows;
  against = first_of (codes "against") rows;
  delays = first_of (codes "delays") rows;
}

-- a text that is given, as its bytes
abbrev pub text_given : Option (Bor Text) → Option Text
text_given text = option_map (λ (t : Bor Text). t.now) text

abbrev pub texts_given : Texts → GivenTexts
texts_given t = record {
  net = text_given t.net;
  script = text_given t.script;
  order = text_given t.order;
  seed = text_given t.seed;
  steps = text_given t.steps;
  power = text_given t.power;
  against = text_given t.against;
  delays = text_given t.delays;
}

abbrev pub order_or : Option Text → Text
order_or None = codes "lowest"
order_or (Some text) = text

-- `low`, `high` or nothing
abbrev pub power_of_words : Option Text → Option (Option Bool)
power_of_words None = Some None
power_of_words (Some text) = if bytes_eq text (codes "low") then Some (Some false)
    else if bytes_eq text (codes "high") then Some (Some true) else None

-- the most moves that may be asked for, and the greatest seed
abbrev pub most_of_steps : ℕ
most_of_steps = 1000000

abbrev pub most_of_seed : ℕ
most_of_seed = 18446744073709551615

-- what a simulation is asked for: the names of its rule file and of its script, the name of the order and its seed, the
-- most moves, the value of the nodes that have rules at power-up, where one is given, and the name of the program text
-- with whose rounds the run is compared, where it is
pub record AskedRun : Type 0 where
  pub net : List ℕ
  pub script : List ℕ
  pub order : List ℕ
  pub seed : ℕ
  pub steps : ℕ
  pub power : Option Bool
  pub against : Option (List ℕ)

abbrev pub run_with : GivenTexts → Option AskedRun
run_with t = option_and_then (λ net. option_and_then (λ script.
    option_and_then (λ seed. option_and_then (λ steps. option_map (λ power. record {
      net = net;
      script = script;
      order = order_or t.order;
      seed = seed;
      steps = steps;
      power = power;
      against = t.against;
    }) (power_of_words t.power)) (number_or 100000 most_of_steps t.steps)) (number_or 0 most_of_seed t.seed))
    t.script) t.net

-- what a timed simulation is asked for: the names of its rule file, of its script and of its delay file, the most
-- moves, the value of the nodes that have rules at power-up, where one is given, and the name of the program text with
-- whose rounds the run is compared, where it is
pub record AskedTiming : Type 0 where
  pub net : List ℕ
  pub script : List ℕ
  pub delays : List ℕ
  pub steps : ℕ
  pub power : Option Bool
  pub against : Option (List ℕ)

-- with delays there is no order and no seed
abbrev pub timing_with : GivenTexts → (delays : Text) → Option AskedTiming
timing_with t delays = if is_some t.order || is_some t.seed then None else option_and_then (λ net. option_and_then
    (λ script. option_and_then (λ steps. option_map (λ power. record {
      net = net;
      script = script;
      delays = delays;
      steps = steps;
      power = power;
      against = t.against;
    }) (power_of_words t.power)) (number_or 100000 most_of_steps t.steps)) t.script) t.net

-- a simulation whose moves an order chooses, or delays
pub data AskedSimulation : Type 0 where
  by_order : AskedRun → AskedSimulation
  by_delays : AskedTiming → AskedSimulation

abbrev pub simulation_by : GivenTexts → (delays : Option Text) → Option AskedSimulation
simulation_by t None = option_map by_order (run_with t)
simulation_by t (Some delays) = option_map by_delays (timing_with t delays)

abbrev pub simulation_with : GivenTexts → Option AskedSimulation
simulation_with t = simulation_by t t.delays

-- what the words after `simulate` ask for, where its form takes them
unfoldable pub simulate_of : Text → List Text → Option AskedSimulation
simulate_of name words = if takes (simulate_form name) words
    then simulation_with (given_texts (matches_of (simulate_form name) words)) else None

-- ---- the same in plain words

-- a rule file and a script, and beside them an option for each of the others
abbrev pub simulate_arguments : List Argument
simulate_arguments = word_named (codes "PRS") ∷ word_named (codes "SCRIPT") ∷ option_named (codes "order")
    ∷ option_named (codes "seed") ∷ option_named (codes "steps") ∷ option_named (codes "power")
    ∷ option_named (codes "against") ∷ option_named (codes "delays") ∷ []

abbrev pub simulate_by : List (Option Text) → Option AskedSimulation
simulate_by (net ∷ script ∷ order ∷ seed ∷ steps ∷ power ∷ against ∷ delays ∷ []) = simulation_with (record {
  net = net;
  script = script;
  order = order;
  seed = seed;
  steps = steps;
  power = power;
  against = against;
  delays = delays;
})
simulate_by _ = None
