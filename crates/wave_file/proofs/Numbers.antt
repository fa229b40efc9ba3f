-- Numbers and their digits.
use Rattle.std.proofs.Common.{◌≡◌, ℕ, ◌+◌, ◌-◌, ◌*◌, ◌^◌, ◌<◌, ◌≤◌, ◌%◌, true, false, List, [], ◌∷◌, ◌++◌, length, get_or, take, refl, ap, sym, ◌∙◌, arith}
use Rattle.std.specs.Prelude.{◌&&◌, decimal}
use Rattle.std.specs.Char.{digit_value}
use Rattle.std.specs.List.{list_all}
use Rattle.std.specs.Str.Parse.{digits_value}
use Rattle.std.proofs.lemmas.Bool.Decides.{nat_tests}
use Rattle.std.proofs.lemmas.Fmt.{decimal_by_steps, decimal_is_IsNumeral}
use Rattle.std.proofs.lemmas.Int.Digits.{digits_value_more}
use Rattle.std.proofs.lemmas.List.Folds.{list_all-append, list_all_at}
use Rattle.std.proofs.lemmas.Str.Parse.{digits_value-take-le}
use Rattle.chp_base.specs.Names.{digit}

decimal_digits : (n : ℕ) → n < 2 ^ 64 → list_all digit (decimal n) ≡ true
decimal_digits n small = decimal_by_steps (λ n ds. list_all digit ds ≡ true) one more n small
  where
    one_digit : (d : ℕ) → d < 10 → digit (48 + d) ≡ true
    one_digit d below = grind (arith, nat_tests)

    one : (n : ℕ) → n < 10 → list_all digit ((48 + n) ∷ []) ≡ true
    one n below = rw (one_digit n below) refl

    more : (n : ℕ) (ds : List ℕ) → 10 ≤ n → list_all digit ds ≡ true → list_all digit (ds ++ ((48 + n % 10) ∷ [])) ≡ true
    more n ds above so_far = list_all-append digit ds ((48 + n % 10) ∷ []) ∙ ap (λ b. b && (digit (48 + n % 10) && true)) so_far
        ∙ rw (one_digit (n % 10) (omega arith)) refl

pub not_a_digit : (text : List ℕ) (i b n : ℕ) → i < length text → b ≡ get_or text i 0 → digit b ≡ false → n < 2 ^ 64 → text ≡ decimal n → ⊥
not_a_digit text i b n within is other small e =
    let none : list_all digit text ≡ false = list_all_at digit text i 0 within (ap digit (sym is) ∙ other) in
    absurd (cc (none, ap (list_all digit) e, decimal_digits n small))

digit_number : (b : ℕ) → digit b ≡ true → digit_value b ≡ b - 48
digit_number b is = grind (arith, nat_tests)

-- with one digit more the number is too large
pub too_large : (text : List ℕ) (i b number n : ℕ) → i < length text → b ≡ get_or text i 0 → digit b ≡ true → number ≡ digits_value 10 (take i text) →
    (number * 10 + (b - 48) < 2 ^ 64 → ⊥) → n < 2 ^ 64 → text ≡ decimal n → ⊥
too_large text i b number n within is a_digit so_far over small e =
    let more : digits_value 10 (take (i + 1) text) ≡ digits_value 10 (take i text) * 10 + (b - 48) =
    digits_value_more 10 text i within ∙ ap (λ x. digits_value 10 (take i text) * 10 + digit_value x) (sym is)
    ∙ ap (λ v. digits_value 10 (take i text) * 10 + v) (digit_number b a_digit) in
    let part = digits_value-take-le 10 text (i + 1) (omega arith) in
    let whole : digits_value 10 text ≡ n = ap (digits_value 10) e ∙ (decimal_is_IsNumeral n small).1 in
    omega (arith, more, part, whole, so_far, over)

pub value_more : (text : List ℕ) (i b : ℕ) → i < length text → b ≡ get_or text i 0 → digit b ≡ true →
    digits_value 10 (take (i + 1) text) ≡ digits_value 10 (take i text) * 10 + (b - 48)
value_more text i b within is a_digit =
    digits_value_more 10 text i within ∙ ap (λ x. digits_value 10 (take i text) * 10 + digit_value x) (sym is)
    ∙ ap (λ v. digits_value 10 (take i text) * 10 + v) (digit_number b a_digit)
