-- Where a seventeenth arm begins, in a list of tokens.
use Rattle.std.specs.Prelude.{◌≡◌, ℕ, ◌&&◌, nat_le, not, Bool, true, false, List, [], ◌∷◌, ◌++◌}
use Prim.Native.Nat.{suc}
use Rattle.chp_base.specs.declared.span.Span.{Span}
use Rattle.chp_syntax.specs.declared.token.Token.{Token}
use Rattle.chp_syntax.specs.declared.token.TokenKind.{TokenKind}
use Rattle.chp_syntax.specs.declared.token.TokenKind.TheVariants.{Sign}
use Rattle.chp_syntax.specs.declared.token.Mark.TheVariants as mark
use Rattle.chp_syntax.specs.Grammar.{sign}

abbrev pub closed : List ℕ → List ℕ
closed [] = []
closed (n ∷ ns) = ns

abbrev pub bar_counted : List ℕ → List ℕ
bar_counted [] = []
bar_counted (n ∷ ns) = suc n ∷ ns

-- how many signs `[]` there are, after a token, in each open bracket, the innermost one first
abbrev pub counted : List ℕ → TokenKind → List ℕ
counted ns (Sign mark.OpenRound) = 0 ∷ ns
counted ns (Sign mark.OpenSquare) = 0 ∷ ns
counted ns (Sign mark.OpenCurly) = 0 ∷ ns
counted ns (Sign mark.CloseRound) = closed ns
counted ns (Sign mark.CloseSquare) = closed ns
counted ns (Sign mark.CloseCurly) = closed ns
counted ns (Sign mark.Choice) = bar_counted ns
counted ns _ = ns

abbrev pub counts : List ℕ → List Token → List ℕ
counts ns [] = ns
counts ns (t ∷ ts) = counts (counted ns t.kind) ts

-- there are fifteen or more signs `[]` in the innermost bracket
abbrev pub is_full : List ℕ → Bool
is_full [] = false
is_full (n ∷ ns) = nat_le 15 n

-- a further `[]` comes before a seventeenth arm
abbrev pub is_seventeenth : List ℕ → TokenKind → Bool
is_seventeenth ns (Sign mark.Choice) = is_full ns
is_seventeenth ns _ = false

-- no `[]` comes before a seventeenth arm
abbrev pub is_narrow : List ℕ → List Token → Bool
is_narrow ns [] = true
is_narrow ns (t ∷ ts) = not (is_seventeenth ns t.kind) && is_narrow (counted ns t.kind) ts

-- the first `[]` before a seventeenth arm has this span
pub record IsSeventeenth (ts : List Token) (place : Span) : Type 0 where
  pub before : List Token
  pub behind : List Token
  pub is : ts ≡ before ++ sign mark.Choice place ∷ behind
  pub narrow : is_narrow [] before ≡ true
  pub full : is_full (counts [] before) ≡ true
