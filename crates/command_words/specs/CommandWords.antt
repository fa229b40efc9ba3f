-- The words of a command, and what they ask for.
use Rattle.std.specs.Prelude.{◌≤◌, List, [], ◌∷◌, Option, Some, None, codes, option_map, if◌then◌else◌, option_and_then}
use Rattle.std.specs.Borrow.{Bor}
use Rattle.std.specs.Str.{bytes_eq}
use Rattle.std.specs.declared.alloc.Global.{Global}
use Rattle.std.specs.declared.string.String.{String}
use Rattle.command_words.specs.BenchWords.{AskedBench, bench_arguments, bench_asked, bench_by, bench_of}
use Rattle.command_words.specs.CompileWords.{AskedCompilation, compilation_asked, compile_arguments, compile_by, compile_of}
use Rattle.command_words.specs.GrowWords.{IsGrowable, grow_arguments, grow_by, growth_of}
use Rattle.command_words.specs.RoundsWords.{AskedRounds, rounds_by, rounds_of, run_arguments}
use Rattle.command_words.specs.SimulateWords.{AskedRun, AskedSimulation, AskedTiming, bare_form, by_order, by_delays, most_of_steps, simulate_arguments, simulate_by, simulate_of, word_rule}
use Rattle.command_words.specs.WavesWords.{AskedWaves, waves_arguments, waves_by, waves_of}
use Rattle.command_words.specs.Forms.{texts_of}
use Rattle.command_words.specs.PlainForms.{Argument, plain_words, word_named}
use Rattle.clap.specs.Words.{App, Text, first_of, matches_of, takes, with_rule}
use Rattle.command_words.specs.declared.command.Command.{Command}
use Rattle.command_words.specs.declared.command.Command.TheVariants.{Compile, Migrate, Check, Expand, Simulate, Time, Bench, Waves, Unwave, Run, Grow}
use Rattle.command_words.specs.declared.rounds_words.Rounds.{Rounds}
use Rattle.command_words.specs.declared.waves_words.Waves.{Waves as WavesWanted}
use Rattle.command_words.specs.declared.simulation.Simulation.{Simulation}
use Rattle.command_words.specs.declared.simulation.Timing.{Timing}
use Rattle.command_words.specs.declared.command.Verb.{Verb}
use Rattle.command_words.specs.declared.grow_words.Growth.{Growth}
use Rattle.command_words.specs.declared.command.Verb.TheVariants as verb
use Rattle.command_words.specs.declared.command.FileVerb.{FileVerb}
use Rattle.command_words.specs.declared.command.FileVerb.TheVariants as file_verb

-- ---- the form of a command with one file

-- the form of a command of this name: one file, and no flag, not even for help
abbrev pub file_form : Text → App
file_form name = with_rule (bare_form name) (word_rule (codes "FILE"))

-- the file that the words after the command's name give, where its form takes them
unfoldable pub file_of : Text → List Text → Option Text
file_of name words = if takes (file_form name) words
    then first_of (codes "FILE") (matches_of (file_form name) words) else None

-- ---- the commands

-- the command that a word names
abbrev pub verb_of : Text → Option Verb
verb_of word = if bytes_eq word (codes "compile") then Some verb.Compile
    else if bytes_eq word (codes "migrate") then Some verb.Migrate
    else if bytes_eq word (codes "check") then Some verb.Check
    else if bytes_eq word (codes "expand") then Some verb.Expand
    else if bytes_eq word (codes "simulate") then Some verb.Simulate
    else if bytes_eq word (codes "bench") then Some verb.Bench
    else if bytes_eq word (codes "waves") then Some verb.Waves
    else if bytes_eq word (codes "unwave") then Some verb.Unwave
    else if bytes_eq word (codes "run") then Some verb.Run
    else if bytes_eq word (codes "grow") then Some verb.Grow
    else None

-- a command and its file, as its bytes, or what else it is asked for
pub data Asked : Type 0 where
  compiles : AskedCompilation → Asked
  migrates : Text → Asked
  checks : Text → Asked
  expands : Text → Asked
  simulates : AskedRun → Asked
  times : AskedTiming → Asked
  benches : AskedBench → Asked
  traces : AskedWaves → Asked
  unwaves : Text → Asked
  runs : AskedRounds → Asked
  grows : Growth → Asked

-- a simulation, with its names as their bytes
abbrev pub run_asked : Simulation → AskedRun
run_asked run = record {
  net = run.net.now;
  script = run.script.now;
  order = run.order.now;
  seed = run.seed;
  steps = run.steps;
  power = run.power;
  against = option_map (λ file. file.now) run.against;
}

abbrev pub timing_asked : Timing → AskedTiming
timing_asked t = record {
  net = t.net.now;
  script = t.script.now;
  delays = t.delays.now;
  steps = t.steps;
  power = t.power;
  against = option_map (λ file. file.now) t.against;
}

abbrev pub waves_asked : WavesWanted → AskedWaves
waves_asked w = record {
  net = w.net.now;
  script = w.script.now;
  steps = w.steps;
  delays = option_map (λ file. file.now) w.delays;
  causes = w.causes;
}

-- rounds that are asked for, with the names as their bytes
abbrev pub rounds_asked : Rounds → AskedRounds
rounds_asked r = record {
  file = r.file.now;
  script = r.script.now;
  rounds = r.rounds;
  buffer = option_map (λ (t : Bor Text). t.now) r.buffer;
}

abbrev pub asked : Command → Asked
asked (Compile c) = compiles (compilation_asked c)
asked (Migrate net) = migrates net.now
asked (Check file) = checks file.now
asked (Expand file) = expands file.now
asked (Simulate run) = simulates (run_asked run)
asked (Time timing) = times (timing_asked timing)
asked (Bench b) = benches (bench_asked b)
asked (Waves w) = traces (waves_asked w)
asked (Unwave file) = unwaves file.now
asked (Run r) = runs (rounds_asked r)
asked (Grow growth) = grows growth

-- what a command with one file asks for
abbrev pub asked_of : FileVerb → Text → Asked
asked_of file_verb.Migrate = migrates
asked_of file_verb.Check = checks
asked_of file_verb.Expand = expands
asked_of file_verb.Unwave = unwaves

-- the numbers of a command are within their bounds
abbrev pub IsWithinBounds : Command → Type 0
IsWithinBounds (Simulate run) = run.steps ≤ most_of_steps
IsWithinBounds (Time timing) = timing.steps ≤ most_of_steps
IsWithinBounds (Bench b) = b.steps ≤ most_of_steps
IsWithinBounds (Waves w) = w.steps ≤ most_of_steps
IsWithinBounds (Grow growth) = IsGrowable growth
IsWithinBounds _ = Unit {0}

abbrev pub simulate_asked : AskedSimulation → Asked
simulate_asked (by_order run) = simulates run
simulate_asked (by_delays timing) = times timing

-- what the words after this word ask for
abbrev pub command_with : Verb → Text → List Text → Option Asked
command_with verb.Compile word rest = option_map compiles (compile_of word rest)
command_with verb.Migrate word rest = option_map migrates (file_of word rest)
command_with verb.Check word rest = option_map checks (file_of word rest)
command_with verb.Expand word rest = option_map expands (file_of word rest)
command_with verb.Simulate word rest = option_map simulate_asked (simulate_of word rest)
command_with verb.Bench word rest = option_map benches (bench_of word rest)
command_with verb.Waves word rest = option_map traces (waves_of word rest)
command_with verb.Unwave word rest = option_map unwaves (file_of word rest)
command_with verb.Run word rest = option_map runs (rounds_of word rest)
command_with verb.Grow word rest = option_map grows (growth_of word rest)

-- what the words ask for, where they are a command's name and words that its form takes
abbrev pub command_of : List Text → Option Asked
command_of [] = None
command_of (word ∷ rest) = option_and_then (λ v. command_with v word rest) (verb_of word)

-- ---- the same in plain words

-- a file, with nothing beside it
abbrev pub file_arguments : List Argument
file_arguments = word_named (codes "FILE") ∷ []

abbrev pub file_by : List (Option Text) → Option Text
file_by (file ∷ []) = file
file_by _ = None

-- the arguments of a command
abbrev pub arguments_of : Verb → List Argument
arguments_of verb.Compile = compile_arguments
arguments_of verb.Simulate = simulate_arguments
arguments_of verb.Bench = bench_arguments
arguments_of verb.Waves = waves_arguments
arguments_of verb.Run = run_arguments
arguments_of verb.Grow = grow_arguments
arguments_of verb.Migrate = file_arguments
arguments_of verb.Check = file_arguments
arguments_of verb.Expand = file_arguments
arguments_of verb.Unwave = file_arguments

-- what it asks for by their texts
abbrev pub asks_by : Verb → List (Option Text) → Option Asked
asks_by verb.Compile texts = option_map compiles (compile_by texts)
asks_by verb.Migrate texts = option_map migrates (file_by texts)
asks_by verb.Check texts = option_map checks (file_by texts)
asks_by verb.Expand texts = option_map expands (file_by texts)
asks_by verb.Simulate texts = option_map simulate_asked (simulate_by texts)
asks_by verb.Bench texts = option_map benches (bench_by texts)
asks_by verb.Waves texts = option_map traces (waves_by texts)
asks_by verb.Unwave texts = option_map unwaves (file_by texts)
asks_by verb.Run texts = option_map runs (rounds_by texts)
asks_by verb.Grow texts = option_map grows (grow_by texts)

abbrev pub plain_with : Verb → List Text → Option Asked
plain_with v rest = option_and_then (asks_by v) (plain_words (arguments_of v) rest)

abbrev pub plain_command : List Text → Option Asked
plain_command [] = None
plain_command (word ∷ rest) = option_and_then (λ v. plain_with v rest) (verb_of word)

-- ---- the command of the words

abbrev pub asked_by : List (String Global) → Option Asked
asked_by words = command_of (texts_of words)
