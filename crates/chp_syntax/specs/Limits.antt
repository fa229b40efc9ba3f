-- Where there are tokens that the language leaves out, and where brackets are nested too deep.
use Rattle.std.specs.Prelude.{◌≡◌, ◌<◌, Bool, true, false, List, [], ◌∷◌, ◌++◌}
use Rattle.std.specs.List.{list_any}
use Rattle.chp_base.specs.declared.span.Span.{Span}
use Rattle.chp_syntax.specs.declared.token.Token.{Token}
use Rattle.chp_syntax.specs.declared.token.TokenKind.{TokenKind}
use Rattle.chp_syntax.specs.declared.token.TokenKind.TheVariants.{Sign}
use Rattle.chp_syntax.specs.declared.token.Mark.TheVariants as mark
use Rattle.chp_syntax.specs.Reading.{depth_of, IsShallow}

-- the sign of a probe
abbrev pub is_probe : TokenKind → Bool
is_probe (Sign mark.Hash) = true
is_probe _ = false

-- the sign that begins an arbitrated selection
abbrev pub is_arbiter : TokenKind → Bool
is_arbiter (Sign mark.BracketBar) = true
is_arbiter _ = false

abbrev pub has_kind : (TokenKind → Bool) → List Token → Bool
has_kind test ts = list_any (λ (t : Token). test t.kind) ts

-- the first of the tokens whose kind passes the test has this span
pub record IsFirstToken (test : TokenKind → Bool) (ts : List Token) (place : Span) : Type 0 where
  pub before : List Token
  pub kind : TokenKind
  pub behind : List Token
  pub is : ts ≡ before ++ record { kind = kind; at = place } ∷ behind
  pub passes : test kind ≡ true
  pub none : has_kind test before ≡ false

-- the token with this span is the first after which more than 256 brackets are open
pub record GoesOver (ts : List Token) (place : Span) : Type 0 where
  pub before : List Token
  pub kind : TokenKind
  pub behind : List Token
  pub is : ts ≡ before ++ record { kind = kind; at = place } ∷ behind
  pub shallow : IsShallow before
  pub over : 256 < depth_of 0 (before ++ record { kind = kind; at = place } ∷ [])
