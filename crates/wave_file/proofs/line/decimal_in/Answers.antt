use Rattle.std.proofs.Common.{◌≡◌, sym, ap, ◌∙◌}
use Rattle.std.specs.Prelude.{decimal}
use Rattle.std.specs.Str.Parse.{digits_value}
use Rattle.std.specs.Cmp.Lexicographic.{bytes_decides}
use Rattle.std.proofs.lemmas.Fmt.{decimal_is_IsNumeral}
use Rattle.wave_file.proofs.line.decimal_in.Goals as goal

pub returns-else-is_decimal-clause-none : goal.returns-else-is_decimal-clause-none
returns-else-is_decimal-clause-none c = λ n small e.
    let number = c.in_ok-number.number in
    let value : number ≡ n = c.in_ok-number.ensures.some ∙ ap (digits_value 10) e ∙ (decimal_is_IsNumeral n small).1 in
    absurd (cc (c.if-is_decimal.false, c.is_decimal.ensures, (bytes_decides c.args.digits.now (decimal number)).1 (e ∙ ap decimal (sym value))))

pub returns-then-is_decimal-clause-some : goal.returns-then-is_decimal-clause-some
returns-then-is_decimal-clause-some c =
    (bytes_decides c.args.digits.now (decimal c.in_ok-number.number)).0 (sym c.is_decimal.ensures ∙ c.if-is_decimal.true)
