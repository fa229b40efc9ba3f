-- How each kind of token is spelled.
use Rattle.std.specs.Prelude.{◌≡◌, ℕ, ◌+◌, ◌*◌, ◌-◌, ◌^◌, ◌<◌, ◌≤◌, ◌||◌, Bool, true, List, ◌++◌, length, ◌⊎◌, fold, if◌then◌else◌}
use Rattle.std.specs.List.{list_all}
use lib.Chars.{codes}
use Rattle.chp_base.specs.Names.{between, digit, IsName}
use Rattle.chp_syntax.specs.declared.token.TokenKind.{TokenKind}
use Rattle.chp_syntax.specs.declared.token.TokenKind.TheVariants.{Word, Ident, Number, Sign}
use Rattle.chp_syntax.specs.declared.token.Key.{Key}
use Rattle.chp_syntax.specs.declared.token.Key.TheVariants as key
use Rattle.chp_syntax.specs.declared.token.Mark.{Mark}
use Rattle.chp_syntax.specs.declared.token.Mark.TheVariants as mark

abbrev pub key_text : Key → List ℕ
key_text key.In = codes "in"
key_text key.Out = codes "out"
key_text key.Chan = codes "chan"
key_text key.Var = codes "var"
key_text key.Begin = codes "begin"
key_text key.End = codes "end"
key_text key.Skip = codes "skip"
key_text key.Proc = codes "proc"
key_text key.Call = codes "call"

abbrev pub sign_text : Mark → List ℕ
sign_text mark.BarBar = codes "||"
sign_text mark.Choice = codes "[]"
sign_text mark.BracketBar = codes "[|"
sign_text mark.Becomes = codes ":="
sign_text mark.Arrow = codes "->"
sign_text mark.NotEqual = codes "!="
sign_text mark.AtMost = codes "<="
sign_text mark.AtLeast = codes ">="
sign_text mark.Semicolon = codes ";"
sign_text mark.Comma = codes ","
sign_text mark.Colon = codes ":"
sign_text mark.Bang = codes "!"
sign_text mark.Question = codes "?"
sign_text mark.OpenRound = codes "("
sign_text mark.CloseRound = codes ")"
sign_text mark.OpenSquare = codes "["
sign_text mark.CloseSquare = codes "]"
sign_text mark.OpenCurly = codes "{"
sign_text mark.CloseCurly = codes "}"
sign_text mark.Star = codes "*"
sign_text mark.Hash = codes "#"
sign_text mark.Tilde = codes "~"
sign_text mark.Amp = codes "&"
sign_text mark.Bar = codes "|"
sign_text mark.Caret = codes "^"
sign_text mark.Plus = codes "+"
sign_text mark.Minus = codes "-"
sign_text mark.Equal = codes "="
sign_text mark.Less = codes "<"
sign_text mark.Greater = codes ">"

abbrev pub hex_digit : ℕ → Bool
hex_digit b = digit b || between 97 102 b || between 65 70 b

-- the value of a digit of either kind
abbrev pub digit_value : ℕ → ℕ
digit_value b = if digit b then b - 48 else if between 97 102 b then b - 87 else b - 55

-- the value of digits, the highest first
abbrev pub number_in : ℕ → List ℕ → ℕ
number_in base bs = fold (λ n b. base * n + digit_value b) 0 bs

-- decimal digits alone, with a value of at most 2 ^ 64 - 1
pub record IsDecimal (n : ℕ) (bs : List ℕ) : Type 0 where
  pub some : 0 < length bs
  pub digits : list_all digit bs ≡ true
  pub value : number_in 10 bs ≡ n
  pub fits : n < 2 ^ 64

-- 0x and 1 to 16 hexadecimal digits
pub record IsHexadecimal (n : ℕ) (bs : List ℕ) : Type 0 where
  pub tail : List ℕ
  pub begins : bs ≡ codes "0x" ++ tail
  pub some : 0 < length tail
  pub most : length tail ≤ 16
  pub digits : list_all hex_digit tail ≡ true
  pub value : number_in 16 tail ≡ n

-- the bytes spell a token of this kind
abbrev pub Spells : TokenKind → List ℕ → Type 0
Spells (Word k) bs = bs ≡ key_text k
Spells (Ident n) bs = (bs ≡ n) × IsName bs
Spells (Number n) bs = IsDecimal n bs ⊎ IsHexadecimal n bs
Spells (Sign m) bs = bs ≡ sign_text m
