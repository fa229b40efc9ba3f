use Rattle.std.proofs.Common.{◌≡◌, map, take}
use Rattle.clap.specs.Words.{app_of}
use Rattle.command_words.specs.BuiltForms.{argument_of, form_of}
use Rattle.command_words.proofs.arguments.form_of.Given as goal

abbrev pub invariant-loop-argument : goal.invariant-loop-argument
invariant-loop-argument l = app_of l.form ≡ form_of l.name (map argument_of (take l.argument-index l.arguments))
