-- The words of `bench`.
use Rattle.std.specs.Prelude.{ℕ, true, if◌then◌else◌, List, [], ◌∷◌, Option, Some, None, codes, option_and_then, option_map}
use Rattle.clap.specs.Words.{App, Rule, Text, first_of, matches_of, new_rule, takes, with_rule}
use Rattle.clap.specs.declared.builder.ArgAction.TheVariants.{Set}
use Rattle.command_words.specs.declared.bench_words.Benching.{Benching}
use Rattle.command_words.specs.PlainForms.{Argument, needed_named, option_named, word_named}
use Rattle.command_words.specs.SimulateWords.{bare_form, word_rule, option_rule, number_or, order_or, most_of_seed, most_of_steps}

-- an option of this name with a value, which has to be there, and is given once
abbrev pub needed_rule : Text → Rule
needed_rule id = record (new_rule id) { long = Some id; required = true; action = Some Set }

-- the form: a file, and four options with a value each, of which the first has to be there
abbrev pub bench_form : Text → App
bench_form name =
    with_rule (with_rule (with_rule (with_rule (with_rule (bare_form name)
    (word_rule (codes "PRS"))) (needed_rule (codes "peer")))
    (option_rule (codes "order"))) (option_rule (codes "seed"))) (option_rule (codes "steps"))

-- what is asked for: the names of the rule file, of the device, and of the order with its seed, and the most moves
pub record AskedBench : Type 0 where
  pub net : List ℕ
  pub peer : List ℕ
  pub order : List ℕ
  pub seed : ℕ
  pub steps : ℕ

-- with its names as their bytes
abbrev pub bench_asked : Benching → AskedBench
bench_asked b =
    record { net = b.net.now; peer = b.peer.now; order = b.order.now; seed = b.seed; steps = b.steps }

-- the order `lowest`, the seed 0 and 100,000 moves at most where none is given
abbrev pub bench_with : (net peer order seed steps : Option Text) → Option AskedBench
bench_with net peer order seed steps = option_and_then (λ file. option_and_then (λ device.
    option_and_then (λ first. option_map
    (λ most. record { net = file; peer = device; order = order_or order; seed = first; steps = most })
    (number_or 100000 most_of_steps steps)) (number_or 0 most_of_seed seed)) peer) net

-- what the words after `bench` ask for, where its form takes them
unfoldable pub bench_of : Text → List Text → Option AskedBench
bench_of name words = if takes (bench_form name) words
    then bench_with (first_of (codes "PRS") (matches_of (bench_form name) words))
    (first_of (codes "peer") (matches_of (bench_form name) words))
    (first_of (codes "order") (matches_of (bench_form name) words))
    (first_of (codes "seed") (matches_of (bench_form name) words))
    (first_of (codes "steps") (matches_of (bench_form name) words))
    else None

-- ---- the same in plain words

-- a rule file and `--peer NAME`, and beside them `--order NAME`, `--seed N` and `--steps N`
abbrev pub bench_arguments : List Argument
bench_arguments = word_named (codes "PRS") ∷ needed_named (codes "peer")
    ∷ option_named (codes "order") ∷ option_named (codes "seed") ∷ option_named (codes "steps") ∷ []

abbrev pub bench_by : List (Option Text) → Option AskedBench
bench_by (net ∷ peer ∷ order ∷ seed ∷ steps ∷ []) = bench_with net peer order seed steps
bench_by _ = None
