-- What a text begins with.
use Rattle.std.specs.Prelude.{◌≡◌, ℕ, ◌≤◌, List, ◌++◌, length}
use Rattle.chp_syntax.specs.declared.token.Mark.{Mark}
use Rattle.chp_syntax.specs.declared.scan.Front.{Front}
use Rattle.chp_syntax.specs.declared.scan.Front.TheVariants.{Gap, Piece, Bad}
use Rattle.chp_syntax.specs.Spelling.{sign_text}
use Rattle.chp_syntax.specs.Tokens.{IsGap, IsToken, IsNoToken}

abbrev pub IsFront : List ℕ → Front → Type 0
IsFront text (Gap n) = IsGap n text
IsFront text (Piece kind n) = IsToken kind n text
IsFront text (Bad n) = IsNoToken n text

-- the text begins with the sign
abbrev pub HasSign : List ℕ → Mark → Type 0
HasSign text m = (rest : List ℕ) × (text ≡ sign_text m ++ rest)

-- the longest of the signs that the text begins with
pub record LongestSign (text : List ℕ) (m : Mark) : Type 0 where
  pub begins : HasSign text m
  pub longest : (other : Mark) → HasSign text other → length (sign_text other) ≤ length (sign_text m)
