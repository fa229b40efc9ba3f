-- For which names, kinds and widths a program is refused, and at which spans.
use Rattle.std.specs.List.{flat_map}
use Rattle.std.specs.Prelude.{◌≡◌, ◌≢◌, ℕ, ◌<◌, ◌≤◌, ◌^◌, ◌⊎◌, Bool, true, false, List, [], ◌∷◌, slice_get, Contains, Some, None}
use Rattle.chp_base.specs.declared.span.Span.{Span}
use Rattle.chp_base.specs.declared.fault.FaultCode.{FaultCode}
use Rattle.chp_base.specs.declared.fault.FaultCode.TheVariants as code
use Rattle.chp_syntax.specs.declared.tree.Decl.{Decl}
use Rattle.chp_syntax.specs.declared.tree.DeclKind.TheVariants.{In, Out}
use Rattle.chp_syntax.specs.Trees.{Expression, number, slice, bit, join, chain, Expressions, no_parts, and_part, ProgramTree}
use Rattle.width_check.specs.Order.{IsFirst}
use Rattle.width_check.specs.Places.{declaration, declared_width, is_var, Role, sent_on, received_on, Use, uses_in, compares, or_width, own_width, own_widths, first_width, span_of, Expected, leaves, expressions_in, inside, Reception, receptions_in}

-- a declaration has the name of an earlier one
pub record IsDouble (p : ProgramTree) (s : Span) : Type 0 where
  pub earlier : ℕ
  pub later : ℕ
  pub order : earlier < later
  pub first : Decl
  pub second : Decl
  pub first_is : slice_get p.decls earlier ≡ Some first
  pub second_is : slice_get p.decls later ≡ Some second
  pub same : first.name.name ≡ second.name.name
  pub at : s ≡ second.name.at

-- a declared width isn't in 1 to 64
pub record IsOutOfRange (p : ProgramTree) (s : Span) : Type 0 where
  pub decl : Decl
  pub among : Contains p.decls decl
  pub range : (decl.width < 1) ⊎ (64 < decl.width)
  pub at : s ≡ decl.width_at

-- a name in the body isn't declared
pub record IsUndeclared (p : ProgramTree) (s : Span) : Type 0 where
  pub usage : Use
  pub among : Contains (uses_in p.body) usage
  pub missing : declaration p.decls usage.name ≡ None
  pub at : s ≡ usage.at

-- before `!` and `?` a name must be a channel's, anywhere else a variable's
abbrev pub wants_var : Role → Bool
wants_var sent_on = false
wants_var received_on = false
wants_var _ = true

pub record IsOfWrongKind (p : ProgramTree) (s : Span) : Type 0 where
  pub usage : Use
  pub among : Contains (uses_in p.body) usage
  pub decl : Decl
  pub declared : declaration p.decls usage.name ≡ Some decl
  pub wrong : is_var decl.kind ≢ wants_var usage.role
  pub at : s ≡ usage.at

-- a send on an `in` channel, or a receive on an `out` channel
pub record IsMisdirected (p : ProgramTree) (s : Span) : Type 0 where
  pub usage : Use
  pub among : Contains (uses_in p.body) usage
  pub decl : Decl
  pub declared : declaration p.decls usage.name ≡ Some decl
  pub wrong : ((usage.role ≡ sent_on) × (decl.kind ≡ In)) ⊎ ((usage.role ≡ received_on) × (decl.kind ≡ Out))
  pub at : s ≡ usage.at

-- the expressions of the body with all of their subexpressions
abbrev pub all_expressions : ProgramTree → List Expression
all_expressions p = flat_map (λ (e : Expected). inside e.expression) (expressions_in p.decls p.body)

-- bits that the name doesn't have, or the higher bound below the lower
abbrev pub IsBadPart : List Decl → Expression → Type 0
IsBadPart decls (bit of place at) = declared_width decls of.name ≤ place
IsBadPart decls (slice of high low at) = (high < low) ⊎ (declared_width decls of.name ≤ high)
IsBadPart decls _ = ⊥

pub record IsBadSlice (p : ProgramTree) (s : Span) : Type 0 where
  pub expression : Expression
  pub among : Contains (all_expressions p) expression
  pub bad : IsBadPart p.decls expression
  pub at : s ≡ span_of expression

-- a part without an own width
abbrev pub HasPart : List Decl → Expressions → Span → Type 0
HasPart decls no_parts s = ⊥
HasPart decls (and_part e more) s = ((own_width decls e ≡ None) × (s ≡ span_of e)) ⊎ HasPart decls more s

-- a part of a join without an own width, at the part, or a comparison of which neither side has one
abbrev pub LacksWidth : List Decl → Expression → Span → Type 0
LacksWidth decls (join parts at) s = HasPart decls parts s
LacksWidth decls (chain e more at) s =
    (compares more ≡ true) × (or_width (own_width decls e) (first_width decls more) ≡ None) × (s ≡ at)
LacksWidth decls _ s = ⊥

pub record IsOfUnknownWidth (p : ProgramTree) (s : Span) : Type 0 where
  pub expression : Expression
  pub among : Contains (all_expressions p) expression
  pub lacks : LacksWidth p.decls expression s

-- the leaves of the body, each with its expected width
abbrev pub all_leaves : ProgramTree → List Expected
all_leaves p = flat_map (λ (e : Expected). leaves p.decls e.width e.expression) (expressions_in p.decls p.body)

abbrev pub IsWideJoin : List Decl → Expression → Type 0
IsWideJoin decls (join parts at) = 64 < own_widths decls parts
IsWideJoin decls _ = ⊥

-- an own width that isn't the expected one, or a join that is too wide
abbrev pub IsMisfit : List Decl → Expected → Type 0
IsMisfit decls leaf = ((w : ℕ) × (own_width decls leaf.expression ≡ Some w) × (w ≢ leaf.width)) ⊎ IsWideJoin decls
    leaf.expression

pub record IsMisfitLeaf (p : ProgramTree) (s : Span) : Type 0 where
  pub leaf : Expected
  pub among : Contains (all_leaves p) leaf
  pub misfit : IsMisfit p.decls leaf
  pub at : s ≡ span_of leaf.expression

-- a receive into a variable whose width isn't the channel's
pub record IsMisfitReceive (p : ProgramTree) (s : Span) : Type 0 where
  pub receive : Reception
  pub among : Contains (receptions_in p.body) receive
  pub misfit : declared_width p.decls receive.target.name ≢ declared_width p.decls receive.chan.name
  pub at : s ≡ receive.target.at

-- a number that isn't below 2 to its expected width
pub record IsWideNumber (p : ProgramTree) (s : Span) : Type 0 where
  pub width : ℕ
  pub value : ℕ
  pub among : Contains (all_leaves p) (record { expression = number value s; width = width })
  pub wide : 2 ^ width ≤ value

-- a first value that isn't below 2 to the declared width
pub record IsWideFirst (p : ProgramTree) (s : Span) : Type 0 where
  pub decl : Decl
  pub among : Contains p.decls decl
  pub wide : 2 ^ decl.width ≤ decl.first
  pub at : s ≡ decl.first_at

-- the cause holds at the span
abbrev pub FaultAt : ProgramTree → FaultCode → Span → Type 0
FaultAt p code.DoubleName s = IsDouble p s
FaultAt p code.WidthRange s = IsOutOfRange p s
FaultAt p code.Undeclared s = IsUndeclared p s
FaultAt p code.WrongKind s = IsOfWrongKind p s
FaultAt p code.Direction s = IsMisdirected p s
FaultAt p code.BadSlice s = IsBadSlice p s
FaultAt p code.UnknownWidth s = IsOfUnknownWidth p s
FaultAt p code.Width s = IsMisfitLeaf p s ⊎ IsMisfitReceive p s
FaultAt p code.ConstantTooWide s = IsWideNumber p s ⊎ IsWideFirst p s
FaultAt p _ s = ⊥

-- the causes in the order in which they are tested
abbrev pub naming_faults : List FaultCode
naming_faults = code.DoubleName ∷ code.WidthRange ∷ code.Undeclared ∷ code.WrongKind ∷ code.Direction ∷ code.BadSlice
    ∷ code.UnknownWidth ∷ code.Width ∷ code.ConstantTooWide ∷ []

-- none of these causes holds anywhere
abbrev pub HasNone : ProgramTree → List FaultCode → Type 0
HasNone p [] = Unit {0}
HasNone p (c ∷ cs) = ((s : Span) → ¬ FaultAt p c s) × HasNone p cs

-- the first of the causes that holds anywhere, at its first span
abbrev pub IsFirstFault : ProgramTree → List FaultCode → FaultCode → Span → Type 0
IsFirstFault p [] c s = ⊥
IsFirstFault p (d ∷ ds) c s = ((c ≡ d) × IsFirst (FaultAt p d) s) ⊎ (((t : Span) → ¬ FaultAt p d t)
    × IsFirstFault p ds c s)
