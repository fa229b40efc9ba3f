use Rattle.std.proofs.Common.{◌≡◌, take}
use Rattle.env_script.specs.Numbers.{number_of_word}
use Rattle.command_words.proofs.run_words.value_of.Given as goal

abbrev pub invariant-loop-digit : goal.invariant-loop-digit
invariant-loop-digit l = l.value ≡ number_of_word 10 (take l.digit-index l.digits)
