-- What the forms of the commands come to in plain words.
use Rattle.std.proofs.Common.{◌≡◌, ◌∙◌, ap, true, List, [], ◌∷◌, None, Option, Some, option_map, refl}
use Rattle.std.specs.Prelude.{option_and_then}
use Rattle.std.specs.List.{list_all}
use Rattle.std.specs.String.{string_bytes}
use Rattle.std.specs.declared.alloc.Global.{Global}
use Rattle.std.specs.declared.string.String.{String}
use Rattle.clap.specs.Walk.{Text}
use Rattle.command_words.specs.CommandWords.{Asked, arguments_of, benches, checks, command_of, command_with, compiles, expands, file_arguments, file_by, file_of, grows, migrates, plain_command, plain_with, runs, simulate_asked, traces, unwaves, verb_of}
use Rattle.command_words.specs.BenchWords.{bench_arguments, bench_by, bench_of}
use Rattle.command_words.specs.CompileWords.{compile_arguments, compile_by, compile_of}
use Rattle.command_words.specs.Forms.{texts_of}
use Rattle.command_words.specs.GrowWords.{grow_arguments, grow_by, growth_of}
use Rattle.command_words.specs.PlainForms.{plain_words}
use Rattle.command_words.specs.RoundsWords.{rounds_by, rounds_of, run_arguments}
use Rattle.command_words.specs.SimulateWords.{simulate_arguments, simulate_by, simulate_of}
use Rattle.command_words.specs.WavesWords.{waves_arguments, waves_by, waves_of}
use Rattle.command_words.specs.declared.command.Verb.{Verb}
use Rattle.command_words.specs.declared.command.Verb.TheVariants as verb
use Rattle.command_words.specs.WrittenForms.{are_named_apart, is_callable}
use Rattle.command_words.proofs.FormTaken.{asks_plainly, is_clear}

-- Of each form: an argument's name is its own, it can be called by it, and no two have the same.
pub well_made : (v : Verb) → (is_clear (arguments_of v) ≡ true) × (list_all (is_callable (arguments_of v)) (arguments_of v) ≡ true)
    × (are_named_apart (arguments_of v) ≡ true)
well_made verb.Compile = (refl, refl, refl)
well_made verb.Migrate = (refl, refl, refl)
well_made verb.Check = (refl, refl, refl)
well_made verb.Expand = (refl, refl, refl)
well_made verb.Simulate = (refl, refl, refl)
well_made verb.Bench = (refl, refl, refl)
well_made verb.Waves = (refl, refl, refl)
well_made verb.Unwave = (refl, refl, refl)
well_made verb.Run = (refl, refl, refl)
well_made verb.Grow = (refl, refl, refl)

-- what a command makes of what is asked for may be said before or after
mapped : {R : Type 0} (by : List (Option Text) → Option R) (asks : R → Asked) (o : Option (List (Option Text)))
    → option_map asks (option_and_then by o) ≡ option_and_then (λ texts. option_map asks (by texts)) o
mapped by asks None = refl
mapped by asks (Some texts) = refl

with_is : (v : Verb) (name : Text) (words : List (String Global)) → command_with v name (texts_of words) ≡ plain_with v (texts_of words)
unfolding file_of compile_of growth_of rounds_of simulate_of bench_of waves_of
with_is verb.Compile name words = ap (option_map compiles) (asks_plainly compile_arguments compile_by refl name words)
    ∙ mapped compile_by compiles (plain_words compile_arguments (texts_of words))
with_is verb.Migrate name words = ap (option_map migrates) (asks_plainly file_arguments file_by refl name words)
    ∙ mapped file_by migrates (plain_words file_arguments (texts_of words))
with_is verb.Check name words = ap (option_map checks) (asks_plainly file_arguments file_by refl name words)
    ∙ mapped file_by checks (plain_words file_arguments (texts_of words))
with_is verb.Expand name words = ap (option_map expands) (asks_plainly file_arguments file_by refl name words)
    ∙ mapped file_by expands (plain_words file_arguments (texts_of words))
with_is verb.Simulate name words = ap (option_map simulate_asked) (asks_plainly simulate_arguments simulate_by refl name words)
    ∙ mapped simulate_by simulate_asked (plain_words simulate_arguments (texts_of words))
with_is verb.Bench name words = ap (option_map benches) (asks_plainly bench_arguments bench_by refl name words)
    ∙ mapped bench_by benches (plain_words bench_arguments (texts_of words))
with_is verb.Waves name words = ap (option_map traces) (asks_plainly waves_arguments waves_by refl name words)
    ∙ mapped waves_by traces (plain_words waves_arguments (texts_of words))
with_is verb.Unwave name words = ap (option_map unwaves) (asks_plainly file_arguments file_by refl name words)
    ∙ mapped file_by unwaves (plain_words file_arguments (texts_of words))
with_is verb.Run name words = ap (option_map runs) (asks_plainly run_arguments rounds_by refl name words)
    ∙ mapped rounds_by runs (plain_words run_arguments (texts_of words))
with_is verb.Grow name words = ap (option_map grows) (asks_plainly grow_arguments grow_by refl name words)
    ∙ mapped grow_by grows (plain_words grow_arguments (texts_of words))

-- whatever the first word is
pub command_is : (words : List (String Global)) → command_of (texts_of words) ≡ plain_command (texts_of words)
command_is [] = refl
command_is (first ∷ rest) = go (verb_of (string_bytes first))
  where
    go : (v : Option Verb) → option_and_then (λ v. command_with v (string_bytes first) (texts_of rest)) v
        ≡ option_and_then (λ v. plain_with v (texts_of rest)) v
    go None = refl
    go (Some v) = with_is v (string_bytes first) rest
