-- How a number is written in a script: as in a program.
use Rattle.std.specs.Prelude.{◌≡◌, ◌⊎◌, ℕ, ◌+◌, ◌*◌, ◌-◌, ◌^◌, ◌<◌, ◌≤◌, ◌||◌, Bool, true, List, ◌++◌, length, fold, codes, if◌then◌else◌}
use Rattle.std.specs.List.{list_all}
use Rattle.chp_base.specs.Names.{between, digit}

abbrev pub hex_digit_of_word : ℕ → Bool
hex_digit_of_word b = digit b || between 97 102 b || between 65 70 b

-- the value of a digit of either kind
abbrev pub digit_of_word : ℕ → ℕ
digit_of_word b = if digit b then b - 48 else if between 97 102 b then b - 87 else b - 55

-- the value of digits, the highest first
abbrev pub number_of_word : ℕ → List ℕ → ℕ
number_of_word base bs = fold (λ n b. base * n + digit_of_word b) 0 bs

-- decimal digits alone, with a value of at most 2 ^ 64 - 1
pub record IsDecimalWord (n : ℕ) (bs : List ℕ) : Type 0 where
  pub some : 0 < length bs
  pub digits : list_all digit bs ≡ true
  pub value : number_of_word 10 bs ≡ n
  pub fits : n < 2 ^ 64

-- 0x and 1 to 16 hexadecimal digits
pub record IsHexadecimalWord (n : ℕ) (bs : List ℕ) : Type 0 where
  pub tail : List ℕ
  pub begins : bs ≡ codes "0x" ++ tail
  pub some : 0 < length tail
  pub most : length tail ≤ 16
  pub digits : list_all hex_digit_of_word tail ≡ true
  pub value : number_of_word 16 tail ≡ n

abbrev pub IsNumber : List ℕ → ℕ → Type 0
IsNumber word n = IsDecimalWord n word ⊎ IsHexadecimalWord n word
