-- The grammar: which tokens are which tree. One constructor for each line and alternative of
--
--   program = { decl } "begin" par "end"
--   decl    = ( "in" | "out" | "chan" ) NAME ":" NUMBER ";"
--           | "var" NAME ":" NUMBER [ "=" NUMBER ] ";"
--           | "proc" NAME "=" atom ";"
--   par     = seq { "||" seq }
--   seq     = both { ";" both }
--   both    = atom { "," atom }
--   atom    = "skip" | NAME ":=" expr | NAME "!" expr | NAME "?" NAME | "call" NAME
--           | "(" par ")" | "*" "[" par "]" | "*" "[" arm { "[]" arm } "]" | "[" arm { "[]" arm } "]"
--   arm     = expr "->" par
--   expr    = e1 { "|" e1 }
--   e1      = e2 { "^" e2 }
--   e2      = e3 { "&" e3 }
--   e3      = e4 [ ( "=" | "!=" | "<" | "<=" | ">" | ">=" ) e4 ]
--   e4      = e5 { ( "+" | "-" ) e5 }
--   e5      = [ "~" ] e6
--   e6      = NUMBER | NAME | NAME "[" NUMBER "]" | NAME "[" NUMBER ":" NUMBER "]"
--           | "{" expr { "," expr } "}" | "(" expr ")"
--
-- Each relation has the tokens from a position on, those that are left, and what was read. A group of one is its only
-- member, and brackets leave no trace in the tree.
use Rattle.std.specs.Prelude.{◌≡◌, ℕ, true, false, List, [], ◌∷◌, Option, Some, None}
use Rattle.chp_base.specs.declared.span.Span.{Span}
use Rattle.chp_syntax.specs.declared.token.Token.{Token}
use Rattle.chp_syntax.specs.declared.token.TokenKind.{TokenKind}
use Rattle.chp_syntax.specs.declared.token.TokenKind.TheVariants.{Word, Ident, Number, Sign}
use Rattle.chp_syntax.specs.declared.token.Key.{Key}
use Rattle.chp_syntax.specs.declared.token.Key.TheVariants as key
use Rattle.chp_syntax.specs.declared.token.Mark.{Mark}
use Rattle.chp_syntax.specs.declared.token.Mark.TheVariants as mark
use Rattle.chp_syntax.specs.declared.tree.Ident.{Ident as Named}
use Rattle.chp_syntax.specs.declared.tree.Decl.{Decl}
use Rattle.chp_syntax.specs.declared.tree.DeclKind.{DeclKind}
use Rattle.chp_syntax.specs.declared.tree.DeclKind.TheVariants as declares
use Rattle.chp_syntax.specs.declared.tree.Op.{Op}
use Rattle.chp_syntax.specs.declared.tree.Op.TheVariants as op
use Rattle.chp_syntax.specs.Trees.{Expression, number, whole, slice, bit, join, negation, chain, Expressions, no_parts, and_part, Links, no_links, and_link, Statement, skips, assigns, sends, receives, follows, besides, selects, repeats, calls, Statements, no_members, and_member, Arms, no_arms, and_arm, Procedure, ProgramTree}

-- tokens with their spans
abbrev pub sign : Mark → Span → Token
sign m s = record { kind = Sign m; at = s }

abbrev pub word : Key → Span → Token
word k s = record { kind = Word k; at = s }

abbrev pub name : List ℕ → Span → Token
name n s = record { kind = Ident n; at = s }

abbrev pub numeral : ℕ → Span → Token
numeral n s = record { kind = Number n; at = s }

abbrev pub named : List ℕ → Span → Named
named n s = record { name = n; at = s }

-- from the beginning of one span to the end of another
abbrev pub from_to : Span → Span → Span
from_to s t = record { from = s.from; to = t.to }

-- the operators of each level
abbrev pub or_operator : TokenKind → Option Op
or_operator (Sign mark.Bar) = Some op.Or
or_operator _ = None

abbrev pub xor_of : TokenKind → Option Op
xor_of (Sign mark.Caret) = Some op.Xor
xor_of _ = None

abbrev pub and_of : TokenKind → Option Op
and_of (Sign mark.Amp) = Some op.And
and_of _ = None

abbrev pub comparison_of : TokenKind → Option Op
comparison_of (Sign mark.Equal) = Some op.Eq
comparison_of (Sign mark.NotEqual) = Some op.Ne
comparison_of (Sign mark.Less) = Some op.Lt
comparison_of (Sign mark.AtMost) = Some op.Le
comparison_of (Sign mark.Greater) = Some op.Gt
comparison_of (Sign mark.AtLeast) = Some op.Ge
comparison_of _ = None

abbrev pub sum_of : TokenKind → Option Op
sum_of (Sign mark.Plus) = Some op.Add
sum_of (Sign mark.Minus) = Some op.Sub
sum_of _ = None

-- the kinds of channels
abbrev pub kind_of_channel : TokenKind → Option DeclKind
kind_of_channel (Word key.In) = Some declares.In
kind_of_channel (Word key.Out) = Some declares.Out
kind_of_channel (Word key.Chan) = Some declares.Chan
kind_of_channel _ = None

-- an expression with the span of its tokens, including parentheses around it
pub record Covered : Type 0 where
  pub expression : Expression
  pub at : Span

abbrev pub cover : Expression → Span → Covered
cover e s = record { expression = e; at = s }

-- further members of a chain, and where the last one ends
pub record Tail : Type 0 where
  pub links : Links
  pub last : Option Span

abbrev pub no_tail : Tail
no_tail = record { links = no_links; last = None }

abbrev pub end_of : Span → Option Span → Span
end_of s None = s
end_of s (Some l) = l

abbrev pub longer : Op → Covered → Tail → Tail
longer o c us = record { links = and_link o c.expression us.links; last = Some (end_of c.at us.last) }

-- a chain of one member is that member
abbrev pub chained : Expression → Links → Span → Expression
chained e no_links s = e
chained e (and_link o f more) s = chain e (and_link o f more) s

abbrev pub chain_of : Covered → Tail → Covered
chain_of c us = let s : Span = from_to c.at (end_of c.at us.last) in cover (chained c.expression us.links s) s

-- a group of one statement is that statement
abbrev pub sequence_of : Statement → Statements → Statement
sequence_of t no_members = t
sequence_of t (and_member u us) = follows (and_member t (and_member u us))

abbrev pub parallel_of : Statement → Statements → Statement
parallel_of t no_members = t
parallel_of t (and_member u us) = besides (and_member t (and_member u us))

-- a guard with its statement
pub record Guarded : Type 0 where
  pub guard : Expression
  pub body : Statement

abbrev pub guarded : Expression → Statement → Guarded
guarded g t = record { guard = g; body = t }

mutual
  -- e6
  pub data Primary : List Token → List Token → Covered → Type 0 where
    a_number : {rest : List Token} {n : ℕ} {s : Span} → Primary (numeral n s ∷ rest) rest (cover (number n s) s)
    a_name : {rest : List Token} {n : List ℕ} {s : Span} → Primary (name n s ∷ rest) rest (cover (whole (named n s)) s)
    a_bit : {rest : List Token} {n : List ℕ} {i : ℕ} {s o p c : Span} →
        Primary (name n s ∷ sign mark.OpenSquare o ∷ numeral i p ∷ sign mark.CloseSquare c ∷ rest) rest
        (cover (bit (named n s) i (from_to s c)) (from_to s c))
    a_slice : {rest : List Token} {n : List ℕ} {h l : ℕ} {s o p d q c : Span} →
        Primary (name n s ∷ sign mark.OpenSquare o ∷ numeral h p ∷ sign mark.Colon d ∷ numeral l q
        ∷ sign mark.CloseSquare c ∷ rest) rest (cover (slice (named n s) h l (from_to s c)) (from_to s c))
    a_join : {ts rest : List Token} {es : Expressions} {o c : Span} → Parts ts (sign mark.CloseCurly c ∷ rest) es →
        Primary (sign mark.OpenCurly o ∷ ts) rest (cover (join es (from_to o c)) (from_to o c))
    in_brackets : {ts rest : List Token} {e : Expression} {s o c : Span} →
        Disjunction ts (sign mark.CloseRound c ∷ rest) (cover e s) →
        Primary (sign mark.OpenRound o ∷ ts) rest (cover e (from_to o c))

  -- expr { "," expr }
  pub data Parts : List Token → List Token → Expressions → Type 0 where
    the_parts : {ts mid rest : List Token} {e : Expression} {es : Expressions} {s : Span} →
        Disjunction ts mid (cover e s) → MoreParts mid rest es → Parts ts rest (and_part e es)

  pub data MoreParts : List Token → List Token → Expressions → Type 0 where
    no_more_parts : {rest : List Token} → MoreParts rest rest no_parts
    one_more_part : {ts mid rest : List Token} {e : Expression} {es : Expressions} {s p : Span} →
        Disjunction ts mid (cover e s) → MoreParts mid rest es → MoreParts (sign mark.Comma p ∷ ts) rest (and_part e es)

  -- e5
  pub data Negated : List Token → List Token → Covered → Type 0 where
    plain : {ts rest : List Token} {c : Covered} → Primary ts rest c → Negated ts rest c
    negated : {ts rest : List Token} {e : Expression} {s t : Span} → Primary ts rest (cover e s) →
        Negated (sign mark.Tilde t ∷ ts) rest (cover (negation e (from_to t s)) (from_to t s))

  -- e4
  pub data Sum : List Token → List Token → Covered → Type 0 where
    the_sum : {ts mid rest : List Token} {c : Covered} {us : Tail} → Negated ts mid c → MoreSum mid rest us →
        Sum ts rest (chain_of c us)

  pub data MoreSum : List Token → List Token → Tail → Type 0 where
    no_more_sum : {rest : List Token} → MoreSum rest rest no_tail
    one_more_sum : {ts mid rest : List Token} {t : Token} {o : Op} {c : Covered} {us : Tail} → sum_of t.kind ≡ Some o →
        Negated ts mid c → MoreSum mid rest us → MoreSum (t ∷ ts) rest (longer o c us)

  -- e3
  pub data Comparison : List Token → List Token → Covered → Type 0 where
    not_compared : {ts rest : List Token} {c : Covered} → Sum ts rest c → Comparison ts rest c
    compared : {ts mid rest : List Token} {t : Token} {o : Op} {c d : Covered} → Sum ts (t ∷ mid) c →
        comparison_of t.kind ≡ Some o → Sum mid rest d → Comparison ts rest (chain_of c (longer o d no_tail))

  -- e2
  pub data Conjunction : List Token → List Token → Covered → Type 0 where
    the_conjunction : {ts mid rest : List Token} {c : Covered} {us : Tail} → Comparison ts mid c →
        MoreConjunction mid rest us → Conjunction ts rest (chain_of c us)

  pub data MoreConjunction : List Token → List Token → Tail → Type 0 where
    no_more_conjunction : {rest : List Token} → MoreConjunction rest rest no_tail
    one_more_conjunction : {ts mid rest : List Token} {t : Token} {o : Op} {c : Covered} {us : Tail} →
        and_of t.kind ≡ Some o → Comparison ts mid c → MoreConjunction mid rest us →
        MoreConjunction (t ∷ ts) rest (longer o c us)

  -- e1
  pub data Exclusive : List Token → List Token → Covered → Type 0 where
    the_exclusive : {ts mid rest : List Token} {c : Covered} {us : Tail} → Conjunction ts mid c →
        MoreExclusive mid rest us → Exclusive ts rest (chain_of c us)

  pub data MoreExclusive : List Token → List Token → Tail → Type 0 where
    no_more_exclusive : {rest : List Token} → MoreExclusive rest rest no_tail
    one_more_exclusive : {ts mid rest : List Token} {t : Token} {o : Op} {c : Covered} {us : Tail} →
        xor_of t.kind ≡ Some o → Conjunction ts mid c → MoreExclusive mid rest us →
        MoreExclusive (t ∷ ts) rest (longer o c us)

  -- expr
  pub data Disjunction : List Token → List Token → Covered → Type 0 where
    the_disjunction : {ts mid rest : List Token} {c : Covered} {us : Tail} → Exclusive ts mid c →
        MoreDisjunction mid rest us → Disjunction ts rest (chain_of c us)

  pub data MoreDisjunction : List Token → List Token → Tail → Type 0 where
    no_more_disjunction : {rest : List Token} → MoreDisjunction rest rest no_tail
    one_more_disjunction : {ts mid rest : List Token} {t : Token} {o : Op} {c : Covered} {us : Tail} →
        or_operator t.kind ≡ Some o → Exclusive ts mid c → MoreDisjunction mid rest us →
        MoreDisjunction (t ∷ ts) rest (longer o c us)

mutual
  pub data Atom : List Token → List Token → Statement → Type 0 where
    a_skip : {rest : List Token} {s : Span} → Atom (word key.Skip s ∷ rest) rest (skips s)
    an_assignment : {ts rest : List Token} {n : List ℕ} {s b r : Span} {e : Expression} →
        Disjunction ts rest (cover e r) → Atom (name n s ∷ sign mark.Becomes b ∷ ts) rest (assigns (named n s) e)
    a_send : {ts rest : List Token} {n : List ℕ} {s b r : Span} {e : Expression} → Disjunction ts rest (cover e r) →
        Atom (name n s ∷ sign mark.Bang b ∷ ts) rest (sends (named n s) e)
    a_receive : {rest : List Token} {n m : List ℕ} {s b r : Span} →
        Atom (name n s ∷ sign mark.Question b ∷ name m r ∷ rest) rest (receives (named n s) (named m r))
    a_call : {rest : List Token} {n : List ℕ} {s c : Span} →
        Atom (word key.Call c ∷ name n s ∷ rest) rest (calls (named n s))
    in_round : {ts rest : List Token} {t : Statement} {o c : Span} → Par ts (sign mark.CloseRound c ∷ rest) t →
        Atom (sign mark.OpenRound o ∷ ts) rest t
    a_loop : {ts rest : List Token} {t : Statement} {s o c : Span} → Par ts (sign mark.CloseSquare c ∷ rest) t →
        Atom (sign mark.Star s ∷ sign mark.OpenSquare o ∷ ts) rest (repeats t)
    a_guarded_loop : {ts rest : List Token} {bs : Arms} {s o c : Span} →
        GuardedCommands ts (sign mark.CloseSquare c ∷ rest) bs →
        Atom (sign mark.Star s ∷ sign mark.OpenSquare o ∷ ts) rest (selects true bs)
    a_selection : {ts rest : List Token} {bs : Arms} {o c : Span} →
        GuardedCommands ts (sign mark.CloseSquare c ∷ rest) bs →
        Atom (sign mark.OpenSquare o ∷ ts) rest (selects false bs)

  -- arm
  pub data GuardedCommand : List Token → List Token → Guarded → Type 0 where
    the_branch : {ts mid rest : List Token} {e : Expression} {r p : Span} {t : Statement} →
        Disjunction ts (sign mark.Arrow p ∷ mid) (cover e r) → Par mid rest t → GuardedCommand ts rest (guarded e t)

  -- arm { "[]" arm }
  pub data GuardedCommands : List Token → List Token → Arms → Type 0 where
    the_choices : {ts mid rest : List Token} {e : Expression} {t : Statement} {bs : Arms} →
        GuardedCommand ts mid (guarded e t) → MoreChoices mid rest bs → GuardedCommands ts rest (and_arm e t bs)

  pub data MoreChoices : List Token → List Token → Arms → Type 0 where
    no_more_choices : {rest : List Token} → MoreChoices rest rest no_arms
    one_more_choice : {ts mid rest : List Token} {e : Expression} {t : Statement} {bs : Arms} {p : Span} →
        GuardedCommand ts mid (guarded e t) → MoreChoices mid rest bs →
        MoreChoices (sign mark.Choice p ∷ ts) rest (and_arm e t bs)

  -- both
  pub data Both : List Token → List Token → Statement → Type 0 where
    the_both : {ts mid rest : List Token} {t : Statement} {us : Statements} → Atom ts mid t → MoreBoth mid rest us →
        Both ts rest (parallel_of t us)

  pub data MoreBoth : List Token → List Token → Statements → Type 0 where
    no_more_both : {rest : List Token} → MoreBoth rest rest no_members
    one_more_both : {ts mid rest : List Token} {t : Statement} {us : Statements} {p : Span} → Atom ts mid t →
        MoreBoth mid rest us → MoreBoth (sign mark.Comma p ∷ ts) rest (and_member t us)

  -- seq
  pub data Seq : List Token → List Token → Statement → Type 0 where
    the_seq : {ts mid rest : List Token} {t : Statement} {us : Statements} → Both ts mid t → MoreSeq mid rest us →
        Seq ts rest (sequence_of t us)

  pub data MoreSeq : List Token → List Token → Statements → Type 0 where
    no_more_seq : {rest : List Token} → MoreSeq rest rest no_members
    one_more_seq : {ts mid rest : List Token} {t : Statement} {us : Statements} {p : Span} → Both ts mid t →
        MoreSeq mid rest us → MoreSeq (sign mark.Semicolon p ∷ ts) rest (and_member t us)

  -- par
  pub data Par : List Token → List Token → Statement → Type 0 where
    the_par : {ts mid rest : List Token} {t : Statement} {us : Statements} → Seq ts mid t → MorePar mid rest us →
        Par ts rest (parallel_of t us)

  pub data MorePar : List Token → List Token → Statements → Type 0 where
    no_more_par : {rest : List Token} → MorePar rest rest no_members
    one_more_par : {ts mid rest : List Token} {t : Statement} {us : Statements} {p : Span} → Seq ts mid t →
        MorePar mid rest us → MorePar (sign mark.BarBar p ∷ ts) rest (and_member t us)

-- what is declared: channels and variables, and procedures, each in text order
pub record Declared : Type 0 where
  pub decls : List Decl
  pub procs : List Procedure

abbrev pub no_declared : Declared
no_declared = record { decls = []; procs = [] }

abbrev pub and_decl : Decl → Declared → Declared
and_decl d more = record { decls = d ∷ more.decls; procs = more.procs }

abbrev pub and_proc : Procedure → Declared → Declared
and_proc p more = record { decls = more.decls; procs = p ∷ more.procs }

-- what one declaration says
pub data Item : Type 0 where
  valued : Decl → Item
  defined : Procedure → Item

abbrev pub and_item : Item → Declared → Declared
and_item (valued d) more = and_decl d more
and_item (defined p) more = and_proc p more

-- a channel or a variable without a first value, and a variable with one
abbrev pub unset : DeclKind → Named → ℕ → Span → Decl
unset kind i w p = record { kind = kind; name = i; width = w; width_at = p; first = 0; first_at = p }

abbrev pub set : Named → ℕ → Span → ℕ → Span → Decl
set i w p x r = record { kind = declares.Var; name = i; width = w; width_at = p; first = x; first_at = r }

-- decl
pub data Declaration : List Token → List Token → Item → Type 0 where
  a_channel : {rest : List Token} {t : Token} {kind : DeclKind} {n : List ℕ} {w : ℕ} {s c p e : Span} →
      kind_of_channel t.kind ≡ Some kind →
      Declaration (t ∷ name n s ∷ sign mark.Colon c ∷ numeral w p ∷ sign mark.Semicolon e ∷ rest) rest
      (valued (unset kind (named n s) w p))
  a_variable : {rest : List Token} {n : List ℕ} {w : ℕ} {v s c p e : Span} →
      Declaration (word key.Var v ∷ name n s ∷ sign mark.Colon c ∷ numeral w p ∷ sign mark.Semicolon e ∷ rest) rest
      (valued (unset declares.Var (named n s) w p))
  a_variable_with_first : {rest : List Token} {n : List ℕ} {w x : ℕ} {v s c p q r e : Span} →
      Declaration (word key.Var v ∷ name n s ∷ sign mark.Colon c ∷ numeral w p ∷ sign mark.Equal q ∷ numeral x r
      ∷ sign mark.Semicolon e ∷ rest) rest (valued (set (named n s) w p x r))
  a_procedure : {ts rest : List Token} {n : List ℕ} {b : Statement} {v s q e : Span} →
      Atom ts (sign mark.Semicolon e ∷ rest) b →
      Declaration (word key.Proc v ∷ name n s ∷ sign mark.Equal q ∷ ts) rest
      (defined (record { name = named n s; body = b }))

-- decl, any number of them
pub data Declarations : List Token → List Token → Declared → Type 0 where
  no_declaration : {rest : List Token} → Declarations rest rest no_declared
  one_more_declaration : {ts mid rest : List Token} {d : Item} {more : Declared} → Declaration ts mid d →
      Declarations mid rest more → Declarations ts rest (and_item d more)

-- program
pub data Programs : List Token → List Token → ProgramTree → Type 0 where
  the_program : {ts mid rest : List Token} {d : Declared} {t : Statement} {b e : Span} →
      Declarations ts (word key.Begin b ∷ mid) d → Par mid (word key.End e ∷ rest) t
      → Programs ts rest (record { decls = d.decls; procs = d.procs; body = t })

-- the tokens are the program
abbrev pub Derives : List Token → ProgramTree → Type 0
Derives ts p = Programs ts [] p
