use Rattle.std.proofs.Common.{get_or, refl, sym, ◌∙◌, arith}
use Rattle.wave_file.proofs.Numbers.{not_a_digit, too_large, value_more}
use Rattle.wave_file.proofs.line.number_in.Goals as goal

pub returns-then-not-is_digit-clause-none : goal.returns-then-not-is_digit-clause-none
returns-then-not-is_digit-clause-none c = λ n small e.
    let digits = c.args.digits.now in
    let i = c.loop-byte.byte-index in
    not_a_digit digits i (get_or digits i 0) n c.loop-byte-test.true refl (sym c.is_digit.ensures ∙ c.if-not-is_digit.true) small e

pub returns-in_err-shifted-clause-none : goal.returns-in_err-shifted-clause-none
returns-in_err-shifted-clause-none c = rw c.from_residual.ensures (λ n small e.
    let digits = c.args.digits.now in
    let i = c.loop-byte.byte-index in
    too_large digits i (get_or digits i 0) c.loop-byte.number n c.loop-byte-test.true refl (sym c.is_digit.ensures ∙ c.if-not-is_digit.false)
    c.loop-byte.invariant (λ h. c.in_err-shifted.ensures (omega (arith, h))) small e)

pub returns-in_err-number-clause-none : goal.returns-in_err-number-clause-none
returns-in_err-number-clause-none c = rw c.from_residual-in_err-number.ensures (λ n small e.
    let digits = c.args.digits.now in
    let i = c.loop-byte.byte-index in
    too_large digits i (get_or digits i 0) c.loop-byte.number n c.loop-byte-test.true refl (sym c.is_digit.ensures ∙ c.if-not-is_digit.false)
    c.loop-byte.invariant (λ h. c.in_err-number.ensures (omega (arith, h, c.in_ok-shifted.ensures, c.from.ensures))) small e)

pub loop-byte-preserved : goal.loop-byte-preserved
loop-byte-preserved c =
    let digits = c.args.digits.now in
    let i = c.loop-byte.byte-index in
    let more = value_more digits i (get_or digits i 0) c.loop-byte-test.true refl (sym c.is_digit.ensures ∙ c.if-not-is_digit.false) in
    omega (arith, more, c.in_ok-number.ensures, c.in_ok-shifted.ensures, c.from.ensures, c.loop-byte.invariant)
