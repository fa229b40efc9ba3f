-- Where the names, expressions and widths of a program are.
use Rattle.std.specs.Prelude.{ℕ, ◌+◌, ◌-◌, Bool, true, false, if◌then◌else◌, List, [], ◌∷◌, ◌++◌, find, unwrap_or, option_map, Option, Some, None}
use Rattle.std.specs.Str.{bytes_eq}
use Rattle.chp_base.specs.declared.span.Span.{Span}
use Rattle.chp_syntax.specs.declared.tree.Ident.{Ident}
use Rattle.chp_syntax.specs.declared.tree.Decl.{Decl}
use Rattle.chp_syntax.specs.declared.tree.DeclKind.{DeclKind}
use Rattle.chp_syntax.specs.declared.tree.DeclKind.TheVariants.{Var}
use Rattle.chp_syntax.specs.Trees.{Expression, number, whole, slice, bit, join, negation, chain, Expressions, no_parts, and_part, Links, no_links, and_link, Statement, assigns, sends, receives, follows, besides, selects, repeats, Statements, no_members, and_member, Arms, no_arms, and_arm}
use Rattle.width_check.specs.Values.{is_comparison}

-- the first declaration of a name
abbrev pub declaration : List Decl → List ℕ → Option Decl
declaration decls name = find (λ (d : Decl). bytes_eq d.name.name name) decls

abbrev pub declared_width : List Decl → List ℕ → ℕ
declared_width decls name = unwrap_or (option_map (λ (d : Decl). d.width) (declaration decls name)) 0

abbrev pub is_var : DeclKind → Bool
is_var Var = true
is_var _ = false

-- how a name is used
pub data Role : Type 0 where
  sent_on received_on written stored read : Role

pub record Use : Type 0 where
  pub name : List ℕ
  pub at : Span
  pub role : Role

abbrev pub use_of : Ident → Role → Use
use_of i role = record { name = i.name; at = i.at; role = role }

-- the names of a program's body, with their spans and uses
abbrev mutual
  pub reads_in : Expression → List Use
  reads_in (number n at) = []
  reads_in (whole of) = use_of of read ∷ []
  reads_in (slice of high low at) = use_of of read ∷ []
  reads_in (bit of place at) = use_of of read ∷ []
  reads_in (join parts at) = reads_in_join parts
  reads_in (negation e at) = reads_in e
  reads_in (chain e more at) = reads_in e ++ reads_in_links more

  pub reads_in_join : Expressions → List Use
  reads_in_join no_parts = []
  reads_in_join (and_part e more) = reads_in e ++ reads_in_join more

  pub reads_in_links : Links → List Use
  reads_in_links no_links = []
  reads_in_links (and_link op e more) = reads_in e ++ reads_in_links more

abbrev mutual
  pub uses_in : Statement → List Use
  uses_in (assigns target e) = use_of target written ∷ reads_in e
  uses_in (sends chan e) = use_of chan sent_on ∷ reads_in e
  uses_in (receives chan target) = use_of chan received_on ∷ use_of target stored ∷ []
  uses_in (follows members) = uses_in_each members
  uses_in (besides members) = uses_in_each members
  uses_in (selects again arms) = uses_in_arms arms
  uses_in (repeats s) = uses_in s
  uses_in _ = []

  pub uses_in_each : Statements → List Use
  uses_in_each no_members = []
  uses_in_each (and_member s more) = uses_in s ++ uses_in_each more

  pub uses_in_arms : Arms → List Use
  uses_in_arms no_arms = []
  uses_in_arms (and_arm g s more) = reads_in g ++ (uses_in s ++ uses_in_arms more)

-- the chain of a comparison
abbrev pub compares : Links → Bool
compares no_links = false
compares (and_link op e more) = is_comparison op

abbrev pub or_width : Option ℕ → Option ℕ → Option ℕ
or_width None w = w
or_width (Some w) v = Some w

-- the width that an expression has by itself
abbrev mutual
  pub own_width : List Decl → Expression → Option ℕ
  own_width decls (number n at) = None
  own_width decls (whole of) = Some (declared_width decls of.name)
  own_width decls (slice of high low at) = Some (high + 1 - low)
  own_width decls (bit of place at) = Some 1
  own_width decls (join parts at) = Some (own_widths decls parts)
  own_width decls (negation e at) = own_width decls e
  own_width decls (chain e more at) =
      if compares more then Some 1 else or_width (own_width decls e) (first_width decls more)

  -- of the parts together; a part without one counts as 0
  pub own_widths : List Decl → Expressions → ℕ
  own_widths decls no_parts = 0
  own_widths decls (and_part e more) = unwrap_or (own_width decls e) 0 + own_widths decls more

  -- of the first member that has one
  pub first_width : List Decl → Links → Option ℕ
  first_width decls no_links = None
  first_width decls (and_link op e more) = or_width (own_width decls e) (first_width decls more)

abbrev pub span_of : Expression → Span
span_of (number n at) = at
span_of (whole of) = of.at
span_of (slice of high low at) = at
span_of (bit of place at) = at
span_of (join parts at) = at
span_of (negation e at) = at
span_of (chain e more at) = at

-- an expression where a width is expected
pub record Expected : Type 0 where
  pub expression : Expression
  pub width : ℕ

abbrev pub expect : Expression → ℕ → Expected
expect e w = record { expression = e; width = w }

-- The leaves of an expression of which a width is expected: numbers, names, bits, slices, joins and comparisons. What
-- is expected of `~` and of a chain is expected of each member. The sides of a comparison are to have the width of the
-- left one, or of the right one where the left has none, and a part of a join its own.
abbrev mutual
  pub leaves : List Decl → ℕ → Expression → List Expected
  leaves decls w (join parts at) = expect (join parts at) w ∷ leaves_of_parts decls parts
  leaves decls w (negation e at) = leaves decls w e
  leaves decls w (chain e more at) =
      if compares more then expect (chain e more at) w
      ∷ (leaves decls (unwrap_or (or_width (own_width decls e) (first_width decls more)) 0) e
      ++ leaves_of_links decls (unwrap_or (or_width (own_width decls e) (first_width decls more)) 0) more)
      else leaves decls w e ++ leaves_of_links decls w more
  leaves decls w e = expect e w ∷ []

  pub leaves_of_parts : List Decl → Expressions → List Expected
  leaves_of_parts decls no_parts = []
  leaves_of_parts decls (and_part e more) = leaves decls (unwrap_or (own_width decls e) 0) e
      ++ leaves_of_parts decls more

  pub leaves_of_links : List Decl → ℕ → Links → List Expected
  leaves_of_links decls w no_links = []
  leaves_of_links decls w (and_link op e more) = leaves decls w e ++ leaves_of_links decls w more

-- the expressions of a statement, each with the width that its place expects: the target's, the channel's, 1 for a
-- guard
abbrev mutual
  pub expressions_in : List Decl → Statement → List Expected
  expressions_in decls (assigns target e) = expect e (declared_width decls target.name) ∷ []
  expressions_in decls (sends chan e) = expect e (declared_width decls chan.name) ∷ []
  expressions_in decls (follows members) = expressions_in_each decls members
  expressions_in decls (besides members) = expressions_in_each decls members
  expressions_in decls (selects again arms) = expressions_in_arms decls arms
  expressions_in decls (repeats s) = expressions_in decls s
  expressions_in decls _ = []

  pub expressions_in_each : List Decl → Statements → List Expected
  expressions_in_each decls no_members = []
  expressions_in_each decls (and_member s more) = expressions_in decls s ++ expressions_in_each decls more

  pub expressions_in_arms : List Decl → Arms → List Expected
  expressions_in_arms decls no_arms = []
  expressions_in_arms decls (and_arm g s more) = expect g 1 ∷ (expressions_in decls s ++ expressions_in_arms decls more)

-- an expression with all of its subexpressions
abbrev mutual
  pub inside : Expression → List Expression
  inside (join parts at) = join parts at ∷ inside_parts parts
  inside (negation e at) = negation e at ∷ inside e
  inside (chain e more at) = chain e more at ∷ (inside e ++ inside_links more)
  inside e = e ∷ []

  pub inside_parts : Expressions → List Expression
  inside_parts no_parts = []
  inside_parts (and_part e more) = inside e ++ inside_parts more

  pub inside_links : Links → List Expression
  inside_links no_links = []
  inside_links (and_link op e more) = inside e ++ inside_links more

-- the receives of a statement
pub record Reception : Type 0 where
  pub chan : Ident
  pub target : Ident

abbrev mutual
  pub receptions_in : Statement → List Reception
  receptions_in (receives chan target) = record { chan = chan; target = target } ∷ []
  receptions_in (follows members) = receptions_in_each members
  receptions_in (besides members) = receptions_in_each members
  receptions_in (selects again arms) = receptions_in_arms arms
  receptions_in (repeats s) = receptions_in s
  receptions_in _ = []

  pub receptions_in_each : Statements → List Reception
  receptions_in_each no_members = []
  receptions_in_each (and_member s more) = receptions_in s ++ receptions_in_each more

  pub receptions_in_arms : Arms → List Reception
  receptions_in_arms no_arms = []
  receptions_in_arms (and_arm g s more) = receptions_in s ++ receptions_in_arms more
