use Rattle.std.proofs.Common.{arith}
use Rattle.env_script.proofs.Numerals.{too_large}
use Rattle.command_words.proofs.run_words.value_of.Goals as goal

pub returns-in_err-shifted-clause-none : goal.returns-in_err-shifted-clause-none
returns-in_err-shifted-clause-none c =
    rw c.from_residual.ensures (too_large 10 _ _ _ (omega arith) c.loop-digit-test.true c.loop-digit.invariant (λ h. c.in_err-shifted.ensures (omega arith)))

pub returns-in_err-value-clause-none : goal.returns-in_err-value-clause-none
returns-in_err-value-clause-none c =
    rw c.from_residual-in_err-value.ensures (too_large 10 _ _ _ (omega arith) c.loop-digit-test.true c.loop-digit.invariant
    (λ h. c.in_err-value.ensures (omega (arith, c.in_ok-shifted.ensures, c.from.ensures, c.value_of_digit.ensures))))
