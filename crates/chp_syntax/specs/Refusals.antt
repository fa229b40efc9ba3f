-- What the parser reports if it makes no program.
use Rattle.std.specs.Prelude.{◌≡◌, ℕ, false, List, [], ◌∷◌, length, drop}
use Rattle.chp_base.specs.declared.span.Span.{Span}
use Rattle.chp_base.specs.declared.fault.FaultCode.{FaultCode}
use Rattle.chp_base.specs.declared.fault.FaultCode.TheVariants as code
use Rattle.chp_syntax.specs.declared.token.Token.{Token}
use Rattle.chp_syntax.specs.declared.parser.Unread.{Unread}
use Rattle.chp_syntax.specs.declared.parser.Unread.TheVariants.{Syntax, NoMemory}
use Rattle.chp_syntax.specs.Trees.{ProgramTree}
use Rattle.chp_syntax.specs.Tokens.{Tokens, BadToken}
use Rattle.chp_syntax.specs.Grammar.{Derives}
use Rattle.chp_syntax.specs.Reading.{IsShallow, FirstFault}
use Rattle.chp_syntax.specs.Limits.{is_probe, is_arbiter, has_kind, IsFirstToken, GoesOver}
use Rattle.chp_syntax.specs.Seventeenth.{IsSeventeenth}

-- a fact of the index of a fault
abbrev pub WhenSyntax : Unread → (ℕ → Type 0) → Type 0
WhenSyntax (Syntax n) P = P n
WhenSyntax (NoMemory e) P = Unit {0}

-- a fault, wherever it is
abbrev pub WhenUnread : Unread → Type 0 → Type 0
WhenUnread (Syntax n) P = P
WhenUnread (NoMemory e) P = Unit {0}

-- the span of the next token, and the empty one at the text's end where there is none
abbrev pub spot : List Token → ℕ → Span
spot [] end = record { from = end; to = end }
spot (t ∷ ts) end = t.at

-- none of the tokens is one that the language leaves out
pub record IsSpoken (ts : List Token) : Type 0 where
  pub probes : has_kind is_probe ts ≡ false
  pub arbiters : has_kind is_arbiter ts ≡ false

-- why tokens are refused, and where; each cause comes only where none of those above it holds
pub data RefusedTokens (ts : List Token) (end : ℕ) : FaultCode → Span → Type 0 where
  a_probe : {s : Span} → IsFirstToken is_probe ts s → RefusedTokens ts end code.Probe s
  an_arbiter : {s : Span} → has_kind is_probe ts ≡ false → IsFirstToken is_arbiter ts s →
      RefusedTokens ts end code.Arbiter s
  too_deep : {s : Span} → IsSpoken ts → GoesOver ts s → RefusedTokens ts end code.TooDeep s
  no_program : {n : ℕ} → IsSpoken ts → IsShallow ts → FirstFault ts n →
      RefusedTokens ts end code.Syntax (spot (drop n ts) end)
  too_many_arms : {s : Span} (p : ProgramTree) → IsSpoken ts → IsShallow ts → Derives ts p → IsSeventeenth ts s →
      RefusedTokens ts end code.TooManyGuards s

-- why a text is refused, and where
pub data RefusedText (text : List ℕ) : FaultCode → Span → Type 0 where
  bad_token : {s : Span} → BadToken text s → RefusedText text code.BadToken s
  bad_tokens : {k : FaultCode} {s : Span} (ts : List Token) → Tokens text ts → RefusedTokens ts (length text) k s →
      RefusedText text k s
