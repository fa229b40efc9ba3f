-- What is read of a part of the grammar, and where it can't continue.
use Rattle.std.specs.Prelude.{◌≡◌, ℕ, ◌<◌, Bool, true, false, List, [], ◌∷◌, ◌++◌, Option, Some, None}
use Rattle.chp_base.specs.declared.span.Span.{Span}
use Rattle.chp_syntax.specs.declared.token.Token.{Token}
use Rattle.chp_syntax.specs.declared.token.TokenKind.{TokenKind}
use Rattle.chp_syntax.specs.declared.token.TokenKind.TheVariants.{Word, Ident, Number, Sign}
use Rattle.chp_syntax.specs.declared.token.Key.TheVariants as key
use Rattle.chp_syntax.specs.declared.token.Mark.{Mark}
use Rattle.chp_syntax.specs.declared.token.Mark.TheVariants as mark
use Rattle.chp_syntax.specs.declared.tree.Ident.{Ident as Named}
use Rattle.chp_syntax.specs.declared.parser.sight.Stop.{Stop}
use Rattle.chp_syntax.specs.declared.parser.sight.Stop.TheVariants.{Fault, NoMemory}
use Rattle.chp_syntax.specs.declared.parser.sight.Numeral.{Numeral}
use Rattle.chp_syntax.specs.declared.parser.sight.PrimaryFront.{PrimaryFront}
use Rattle.chp_syntax.specs.declared.parser.sight.PrimaryFront.TheVariants as primary
use Rattle.chp_syntax.specs.declared.parser.sight.AtomFront.{AtomFront}
use Rattle.chp_syntax.specs.declared.parser.sight.AtomFront.TheVariants as atom
use Rattle.chp_syntax.specs.declared.parser.sight.ActionFront.{ActionFront}
use Rattle.chp_syntax.specs.declared.parser.sight.ActionFront.TheVariants as action
use Rattle.chp_syntax.specs.declared.parser.sight.DeclFront.{DeclFront}
use Rattle.chp_syntax.specs.declared.parser.sight.DeclFront.TheVariants as decl
use Rattle.chp_syntax.specs.declared.parser.sight.Level.{Level}
use Rattle.chp_syntax.specs.declared.parser.sight.Level.TheVariants as level
use Rattle.chp_syntax.specs.declared.parser.sight.Group.{Group}
use Rattle.chp_syntax.specs.declared.parser.sight.Group.TheVariants as group
use Rattle.chp_syntax.specs.declared.tree.DeclKind.TheVariants as declares
use Rattle.chp_syntax.specs.declared.tree.Op.{Op}
use Rattle.chp_syntax.specs.Trees.{Expression, Statement, Statements, follows, besides, selects, repeats, Arms}
use Rattle.chp_syntax.specs.Grammar.{sign, Covered, cover, Tail, Negated, Sum, MoreSum, sum_of, Comparison, Conjunction, MoreConjunction, and_of, Exclusive, MoreExclusive, xor_of, Disjunction, MoreDisjunction, or_operator, Atom, Both, Seq, Par, GuardedCommands, name, numeral}

-- a part of the grammar: the tokens from a position on, those that are left, and what was read
abbrev pub GrammarPart : Type 0 → Type 1
GrammarPart A = List Token → List Token → A → Type 0

-- the one token of lookahead
abbrev pub sees : List Token → Option Token
sees [] = None
sees (t ∷ ts) = Some t

abbrev pub here : List Token → Span
here [] = record { from = 0; to = 0 }
here (t ∷ ts) = t.at

-- the next token is of this kind
abbrev pub IsKind : TokenKind → Option Token → Type 0
IsKind k None = ⊥
IsKind k (Some t) = t.kind ≡ k

-- what the next token says
abbrev pub kind_read : {A : Type 0} → (TokenKind → Option A) → Option Token → Option A
kind_read f None = None
kind_read f (Some t) = f t.kind

abbrev pub name_of : TokenKind → Option (List ℕ)
name_of (Ident n) = Some n
name_of _ = None

abbrev pub numeral_value : TokenKind → Option ℕ
numeral_value (Number n) = Some n
numeral_value _ = None

-- how tightly a token binds to what is before it; 0 if it never does
abbrev pub rank : TokenKind → ℕ
rank (Sign mark.Choice) = 1
rank (Sign mark.BarBar) = 2
rank (Sign mark.Semicolon) = 3
rank (Sign mark.Comma) = 4
rank (Sign mark.Bar) = 5
rank (Sign mark.Caret) = 6
rank (Sign mark.Amp) = 7
rank (Sign mark.Equal) = 8
rank (Sign mark.NotEqual) = 8
rank (Sign mark.Less) = 8
rank (Sign mark.AtMost) = 8
rank (Sign mark.Greater) = 8
rank (Sign mark.AtLeast) = 8
rank (Sign mark.Plus) = 9
rank (Sign mark.Minus) = 9
rank (Sign mark.OpenSquare) = 10
rank _ = 0

-- the next token doesn't continue what is before it at this rank or above
abbrev pub StopsAt : ℕ → Option Token → Type 0
StopsAt k None = Unit {0}
StopsAt k (Some t) = rank t.kind < k

abbrev pub Anything : Option Token → Type 0
Anything t = Unit {0}

abbrev pub Nothing : Option Token → Type 0
Nothing None = Unit {0}
Nothing (Some t) = ⊥

-- single tokens as parts
pub data Exactly (k : TokenKind) : List Token → List Token → Span → Type 0 where
  exactly : {rest : List Token} {s : Span} → Exactly k (record { kind = k; at = s } ∷ rest) rest s

pub data Operator {O : Type 0} (op : TokenKind → Option O) : List Token → List Token → O → Type 0 where
  operator : {rest : List Token} {t : Token} {o : O} → op t.kind ≡ Some o → Operator op (t ∷ rest) rest o

pub data AName : List Token → List Token → Named → Type 0 where
  the_name : {rest : List Token} {i : Named} → AName (name i.name i.at ∷ rest) rest i

pub data ANumber : List Token → List Token → Numeral → Type 0 where
  the_number : {rest : List Token} {n : Numeral} → ANumber (numeral n.value n.at ∷ rest) rest n

-- a guard, up to the arrow after it
pub data Guard : List Token → List Token → Expression → Type 0 where
  a_guard : {ts rest : List Token} {e : Expression} {r p : Span} → Disjunction ts (sign mark.Arrow p ∷ rest) (cover e r) →
      Guard ts rest e

-- what is between the brackets of a repetition
pub data Inside : List Token → List Token → Statement → Type 0 where
  a_body : {ts rest : List Token} {t : Statement} → Par ts rest t → Inside ts rest (repeats t)
  some_arms : {ts rest : List Token} {bs : Arms} → GuardedCommands ts rest bs → Inside ts rest (selects true bs)

-- the levels of operators: what each reads, its operands, the operators with the operands after them, which signs
-- these are, and how tightly they bind
abbrev pub level_part : Level → GrammarPart Covered
level_part level.Sum = Sum
level_part level.Conjunction = Conjunction
level_part level.Exclusive = Exclusive
level_part level.Disjunction = Disjunction

abbrev pub operand_part : Level → GrammarPart Covered
operand_part level.Sum = Negated
operand_part level.Conjunction = Comparison
operand_part level.Exclusive = Conjunction
operand_part level.Disjunction = Exclusive

abbrev pub links_part : Level → GrammarPart Tail
links_part level.Sum = MoreSum
links_part level.Conjunction = MoreConjunction
links_part level.Exclusive = MoreExclusive
links_part level.Disjunction = MoreDisjunction

abbrev pub level_operator : Level → TokenKind → Option Op
level_operator level.Sum = sum_of
level_operator level.Conjunction = and_of
level_operator level.Exclusive = xor_of
level_operator level.Disjunction = or_operator

abbrev pub level_rank : Level → ℕ
level_rank level.Sum = 9
level_rank level.Conjunction = 7
level_rank level.Exclusive = 6
level_rank level.Disjunction = 5

-- the levels of groups of statements: what each reads, its members, the sign between these, how tightly it binds, and
-- the statement of several members
abbrev pub group_part : Group → GrammarPart Statement
group_part group.Both = Both
group_part group.Seq = Seq
group_part group.Par = Par

abbrev pub member_part : Group → GrammarPart Statement
member_part group.Both = Atom
member_part group.Seq = Both
member_part group.Par = Seq

abbrev pub group_mark : Group → Mark
group_mark group.Both = mark.Comma
group_mark group.Seq = mark.Semicolon
group_mark group.Par = mark.BarBar

abbrev pub group_rank : Group → ℕ
group_rank group.Both = 4
group_rank group.Seq = 3
group_rank group.Par = 2

abbrev pub several_of : Group → Statements → Statement
several_of group.Both us = besides us
several_of group.Seq us = follows us
several_of group.Par us = besides us

-- R reads the tokens ts up to `left` as a, and as nothing else so long as what follows has the same first token
pub record Good {A : Type 0} (R : List Token → List Token → A → Type 0) (F : Option Token →
    Type 0) (ts left : List Token) (a : A) : Type 0 where
  pub done : List Token
  pub is : ts ≡ done ++ left
  pub derives : (l : List Token) → R (done ++ l) l a
  pub only : (l rest : List Token) (b : A) → sees l ≡ sees left → F (sees rest) → R (done ++ l) rest b →
      (rest ≡ l) × (b ≡ a)

-- the first token of what is left is the first at which R can never continue
pub record Bad {A : Type 0} (R : List Token → List Token → A → Type 0) (F : Option Token →
    Type 0) (ts left : List Token) : Type 0 where
  pub done : List Token
  pub is : ts ≡ done ++ left
  pub stuck : (l rest : List Token) (b : A) → sees l ≡ sees left → F (sees rest) → ¬ R (done ++ l) rest b
  pub viable : (l : List Token) × (b : A) × ((rest : List Token) → R (done ++ (l ++ rest)) rest b)

-- what an expression, a statement, the rest of a statement after its name, and a declaration begin with
abbrev pub primary_kind : TokenKind → PrimaryFront
primary_kind (Number n) = primary.Number
primary_kind (Ident n) = primary.Name
primary_kind (Sign mark.OpenCurly) = primary.Curly
primary_kind (Sign mark.OpenRound) = primary.Round
primary_kind _ = primary.Other

abbrev pub primary_front : Option Token → PrimaryFront
primary_front None = primary.Other
primary_front (Some t) = primary_kind t.kind

abbrev pub atom_kind : TokenKind → AtomFront
atom_kind (Word key.Skip) = atom.Skip
atom_kind (Word key.Call) = atom.Call
atom_kind (Ident n) = atom.Name
atom_kind (Sign mark.OpenRound) = atom.Round
atom_kind (Sign mark.Star) = atom.Star
atom_kind (Sign mark.OpenSquare) = atom.Square
atom_kind _ = atom.Other

abbrev pub atom_front : Option Token → AtomFront
atom_front None = atom.Other
atom_front (Some t) = atom_kind t.kind

abbrev pub action_kind : TokenKind → ActionFront
action_kind (Sign mark.Becomes) = action.Assign
action_kind (Sign mark.Bang) = action.Send
action_kind (Sign mark.Question) = action.Receive
action_kind _ = action.Other

abbrev pub action_front : Option Token → ActionFront
action_front None = action.Other
action_front (Some t) = action_kind t.kind

abbrev pub decl_kind : TokenKind → DeclFront
decl_kind (Word key.In) = decl.Channel declares.In
decl_kind (Word key.Out) = decl.Channel declares.Out
decl_kind (Word key.Chan) = decl.Channel declares.Chan
decl_kind (Word key.Var) = decl.Variable
decl_kind (Word key.Proc) = decl.Procedure
decl_kind _ = decl.Other

abbrev pub decl_front : Option Token → DeclFront
decl_front None = decl.Other
decl_front (Some t) = decl_kind t.kind

-- no declaration begins here
abbrev pub Undeclared : Option Token → Type 0
Undeclared t = decl_front t ≡ decl.Other

abbrev pub acts : ActionFront → Bool
acts action.Other = false
acts _ = true

abbrev pub begins_par_with : AtomFront → Bool → Option Token → Bool
begins_par_with atom.Round inner next = inner
begins_par_with atom.Name inner next = acts (action_front next)
begins_par_with atom.Other inner next = false
begins_par_with _ inner next = true

-- after any number of `(` comes what only a statement begins with: `skip`, `call`, `*`, `[`, or a name followed by
-- `:=`, `!` or `?`
abbrev pub begins_par : List Token → Bool
begins_par [] = false
begins_par (t ∷ ts) = begins_par_with (atom_kind t.kind) (begins_par ts) (sees ts)

-- an answer's cause, where it is a fault
abbrev pub WhenFault : Stop → Type 0 → Type 0
WhenFault Fault P = P
WhenFault (NoMemory e) P = Unit {0}
