use Rattle.std.proofs.Common.{map, take}
use Rattle.std.specs.List.{AllZip}
use Rattle.env_script.specs.Numbers.{IsNumber}
use Rattle.env_script.proofs.line.numbers_in.Given as goal

abbrev pub invariant-loop-word : goal.invariant-loop-word
invariant-loop-word l = AllZip IsNumber (map (λ word. word.now) (take l.word-index l.words)) l.numbers.items
