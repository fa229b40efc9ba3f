-- What the decimal digits of a number spell, by themselves and behind a letter.
use Rattle.std.proofs.Common.{◌≡◌, ◌∙◌, ℕ, suc, ◌+◌, ◌*◌, ◌-◌, ◌/◌, ◌%◌, ◌^◌, ◌<◌, ◌≤◌, ◌&&◌, ◌||◌, ◌==◌, Bool, true, false, List, [], ◌∷◌, ◌++◌, length, refl, sym, ap, arith, inl, length-append}
use Rattle.std.specs.Prelude.{decimal, fold}
use Rattle.std.specs.List.{list_all}
use Rattle.std.proofs.lemmas.Bool.Decides.{nat_tests}
use Rattle.std.proofs.lemmas.Fmt.{decimal_by_steps, decimal_injective, length-decimal-le}
use Rattle.std.proofs.lemmas.List.Folds.{list_all-append}
use Rattle.std.proofs.lemmas.List.Sums.{fold-append}
use Rattle.chp_base.specs.Names.{digit, word_part, is_keyword, IsName}
use Rattle.chp_syntax.specs.Spelling.{digit_value, number_in, IsDecimal, Spells}
use Rattle.chp_syntax.specs.declared.token.TokenKind.TheVariants.{Number}

-- digits of a number
pub record AreDigits (n : ℕ) (ds : List ℕ) : Type 0 where
  pub some : 0 < length ds
  pub digits : list_all digit ds ≡ true
  pub value : number_in 10 ds ≡ n

last_digit : (n : ℕ) → n < 10 → digit (48 + n) ≡ true
last_digit n small = grind (arith, nat_tests)

last_value : (n : ℕ) → n < 10 → digit_value (48 + n) ≡ n
last_value n small = rw (last_digit n small) (omega arith)

one_digit : (n : ℕ) → n < 10 → AreDigits n ((48 + n) ∷ [])
one_digit n small = record {
  some = omega arith;
  digits = rw (last_digit n small) refl;
  value = let last = last_value n small in omega (arith, last);
}

more_digits : (n : ℕ) (ds : List ℕ) → 10 ≤ n → AreDigits (n / 10) ds → AreDigits n (ds ++ ((48 + n % 10) ∷ []))
more_digits n ds large are =
    let small : n % 10 < 10 = omega arith in
    let last : digit_value (48 + n % 10) ≡ n % 10 = last_value (n % 10) small in
    let value : number_in 10 (ds ++ ((48 + n % 10) ∷ [])) ≡ 10 * number_in 10 ds + digit_value (48 + n % 10) =
    fold-append (λ m b. 10 * m + digit_value b) 0 ds ((48 + n % 10) ∷ []) in
    let front = are.value in
    record {
      some = omega (arith, are.some, length-append ds ((48 + n % 10) ∷ []));
      digits = rw (list_all-append digit ds ((48 + n % 10) ∷ []), are.digits, last_digit (n % 10) small) refl;
      value = omega (arith, value, last, front);
    }

pub digits_of_decimal : (n : ℕ) → n < 2 ^ 64 → AreDigits n (decimal n)
digits_of_decimal = decimal_by_steps AreDigits one_digit more_digits

pub number_spelled : (n : ℕ) → n < 2 ^ 64 → Spells (Number n) (decimal n)
number_spelled n fits =
    let are = digits_of_decimal n fits in
    inl (record { some = are.some; digits = are.digits; value = are.value; fits = fits })

-- digits are parts of words
digit_part : (b : ℕ) → digit b ≡ true → word_part b ≡ true
digit_part b is = grind (arith, nat_tests)

pub digits_parts : (ds : List ℕ) → list_all digit ds ≡ true → list_all word_part ds ≡ true
digits_parts [] all = refl
digits_parts (d ∷ ds) all = go (digit d) refl all (digits_parts ds)
  where
    go : (b : Bool) → digit d ≡ b → (b && list_all digit ds) ≡ true → (list_all digit ds ≡ true → list_all word_part ds ≡ true)
        → (word_part d && list_all word_part ds) ≡ true
    go true is rest next = rw (digit_part d is, next rest) refl
    go false is rest next = cc

-- the name of a letter and a number
abbrev pub numbered : (letter number : ℕ) → List ℕ
numbered letter number = letter ∷ decimal number

-- no keyword begins with one of these letters and a digit
no_letter : (d : ℕ) → digit d ≡ true → ((d == 104) ≡ false) × ((d == 97) ≡ false)
no_letter d is = (grind (arith, nat_tests), grind (arith, nat_tests))

first_digit : (d : ℕ) (ds : List ℕ) → list_all digit (d ∷ ds) ≡ true → digit d ≡ true
first_digit d ds all = go (digit d) all
  where
    go : (b : Bool) → (b && list_all digit ds) ≡ true → b ≡ true
    go true e = refl
    go false e = cc

channel_free : (ds : List ℕ) → 0 < length ds → list_all digit ds ≡ true → is_keyword (99 ∷ ds) ≡ false
channel_free [] some all = absurd (omega arith)
channel_free (d ∷ ds) some all = let free = no_letter d (first_digit d ds all) in rw (free.0, free.1) refl

variable_free : (ds : List ℕ) → 0 < length ds → list_all digit ds ≡ true → is_keyword (118 ∷ ds) ≡ false
variable_free [] some all = absurd (omega arith)
variable_free (d ∷ ds) some all = let free = no_letter d (first_digit d ds all) in rw free.1 refl

pub short_decimal : (n : ℕ) → n ≤ 400 → length (decimal n) ≤ 3
short_decimal n few = length-decimal-le 3 n (omega arith) (omega arith) (omega arith)

pub channel_name : (n : ℕ) → n ≤ 400 → IsName (numbered 99 n)
channel_name n few =
    let are = digits_of_decimal n (omega arith) in
    let short = short_decimal n few in
    record {
      short = omega (arith, short);
      first = refl;
      parts = digits_parts (decimal n) are.digits;
      free = channel_free (decimal n) are.some are.digits;
    }

pub variable_name : (n : ℕ) → n ≤ 400 → IsName (numbered 118 n)
variable_name n few =
    let are = digits_of_decimal n (omega arith) in
    let short = short_decimal n few in
    record {
      short = omega (arith, short);
      first = refl;
      parts = digits_parts (decimal n) are.digits;
      free = variable_free (decimal n) are.some are.digits;
    }

pub one_number : (letter m n : ℕ) → m ≤ 400 → n ≤ 400 → numbered letter m ≡ numbered letter n → m ≡ n
one_number letter m n few some same = decimal_injective m n (omega arith) (omega arith) (cc)
