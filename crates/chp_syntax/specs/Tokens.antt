-- How a text is cut into blanks, comments and tokens.
use Rattle.std.specs.Prelude.{◌≡◌, ℕ, ◌+◌, ◌<◌, ◌≤◌, ◌||◌, ◌==◌, Bool, true, false, List, [], ◌∷◌, ◌++◌, length, take, drop, ◌⊎◌}
use Rattle.std.specs.List.{list_all, position_or_len}
use lib.Chars.{codes}
use Rattle.chp_base.specs.Names.{word_part}
use Rattle.chp_base.specs.declared.span.Span.{Span}
use Rattle.chp_base.specs.declared.fault.Fault.{Fault}
use Rattle.chp_base.specs.declared.fault.TextError.{TextError}
use Rattle.chp_base.specs.declared.fault.TextError.TheVariants.{Refused, NoMemory}
use Rattle.chp_syntax.specs.declared.token.TokenKind.{TokenKind}
use Rattle.chp_syntax.specs.declared.token.Token.{Token}
use Rattle.chp_syntax.specs.declared.token.Mark.{Mark}
use Rattle.chp_syntax.specs.Spelling.{Spells, sign_text}

-- space, tab, CR and LF
abbrev pub blank : ℕ → Bool
blank b = b == 32 || b == 9 || b == 13 || b == 10

abbrev pub begins_blank : List ℕ → Bool
begins_blank [] = false
begins_blank (b ∷ bs) = blank b

-- the first n bytes are a comment: two slashes, and what follows up to the next LF or the end
pub record IsComment (n : ℕ) (text : List ℕ) : Type 0 where
  pub behind : List ℕ
  pub begins : text ≡ codes "//" ++ behind
  pub ends : n ≡ 2 + position_or_len (λ b. b == 10) behind

-- the first n bytes separate tokens: they are one blank, or a comment
abbrev pub IsGap : ℕ → List ℕ → Type 0
IsGap n text = ((n ≡ 1) × (begins_blank text ≡ true)) ⊎ IsComment n text

-- letters, digits and underscores, at least one
pub record IsWordRun (bs : List ℕ) : Type 0 where
  pub some : 0 < length bs
  pub parts : list_all word_part bs ≡ true

-- what is never cut in two: a run, or a sign
abbrev pub IsPiece : List ℕ → Type 0
IsPiece bs = IsWordRun bs ⊎ ((m : Mark) × (bs ≡ sign_text m))

-- the first n bytes are a piece, and no more of them are one
pub record IsLongest (n : ℕ) (text : List ℕ) : Type 0 where
  pub within : n ≤ length text
  pub piece : IsPiece (take n text)
  pub longest : (m : ℕ) → m ≤ length text → IsPiece (take m text) → m ≤ n

-- the first n bytes are a token of this kind
pub record IsToken (kind : TokenKind) (n : ℕ) (text : List ℕ) : Type 0 where
  pub longest : IsLongest n text
  pub spells : Spells kind (take n text)

abbrev pub span : ℕ → ℕ → Span
span from to = record { from = from; to = to }

-- the text, which begins at byte `at`, is these tokens with blanks and comments between them, up to byte `to`, where
-- this rest of it is left
pub data Cuts : ℕ → List Token → List ℕ → ℕ → List ℕ → Type 0 where
  so_far : {at : ℕ} {text : List ℕ} → Cuts at [] text at text
  a_gap : {at to : ℕ} {ts : List Token} {text rest : List ℕ} (n : ℕ) → IsGap n text →
      Cuts (at + n) ts (drop n text) to rest → Cuts at ts text to rest
  a_token : {at to : ℕ} {ts : List Token} {text rest : List ℕ} (kind : TokenKind) (n : ℕ) → IsToken kind n text →
      Cuts (at + n) ts (drop n text) to rest → Cuts at (record { kind = kind; at = span at (at + n) } ∷ ts) text to rest

-- the whole text is cut into these tokens
abbrev pub Tokens : List ℕ → List Token → Type 0
Tokens text ts = Cuts 0 ts text (length text) []

-- the text begins with n bytes that are no token: the whole of a run that spells none, or one byte with which neither a
-- piece nor a gap begins
abbrev pub IsNoToken : ℕ → List ℕ → Type 0
IsNoToken n text = (IsLongest n text × ((kind : TokenKind) → ¬ Spells kind (take n text)))
    ⊎ ((n ≡ 1) × (0 < length text) × ((m : ℕ) → ¬ IsGap m text) × ((m : ℕ) → m ≤ length text → ¬ IsPiece (take m text)))

-- the first bytes of the text that are no token
pub record BadToken (text : List ℕ) (s : Span) : Type 0 where
  pub before : List Token
  pub rest : List ℕ
  pub cut : Cuts 0 before text s.from rest
  pub size : ℕ
  pub ends : s.to ≡ s.from + size
  pub is : IsNoToken size rest

-- tokens one after another, none of them empty, all between these bytes
abbrev pub InOrder : ℕ → List Token → ℕ → Type 0
InOrder from [] to = from ≤ to
InOrder from (t ∷ ts) to = (from ≤ t.at.from) × (t.at.from < t.at.to) × InOrder t.at.to ts to

-- P of the fault, where the error is one
abbrev pub IfRefused : (Fault → Type 0) → TextError → Type 0
IfRefused P (Refused fault) = P fault
IfRefused P (NoMemory error) = Unit {0}
