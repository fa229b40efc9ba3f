use Rattle.std.proofs.Common.{◌≡◌, take}
use Rattle.chp_syntax.specs.Spelling.{number_in}
use Rattle.chp_syntax.proofs.scan.value_of.Given as goal

abbrev pub invariant-loop-digit : goal.invariant-loop-digit
invariant-loop-digit l = l.value ≡ number_in l.base (take l.digit-index l.digits)
