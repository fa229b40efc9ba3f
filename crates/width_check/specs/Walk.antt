-- What a walk over a program meets, and the first spans at which something is wrong with what it has met.
use Rattle.std.specs.Prelude.{ℕ, ◌^◌, min, Bool, true, false, not, ◌&&◌, ◌||◌, ◌==◌, nat_lt, nat_le, if◌then◌else◌, List, [], ◌∷◌, ◌++◌, map, flat_map, Option, Some, None, is_none, unwrap_or}
use Rattle.std.specs.List.{list_any}
use Rattle.std.specs.Str.{bytes_eq}
use Rattle.chp_base.specs.declared.span.Span.{Span}
use Rattle.chp_syntax.specs.declared.tree.Decl.{Decl}
use Rattle.chp_syntax.specs.declared.tree.DeclKind.{DeclKind}
use Rattle.chp_syntax.specs.declared.tree.DeclKind.TheVariants.{In, Out}
use Rattle.chp_syntax.specs.declared.tree.Expr.{Expr}
use Rattle.chp_syntax.specs.declared.tree.Link.{Link}
use Rattle.chp_syntax.specs.declared.tree.Arm.{Arm}
use Rattle.chp_syntax.specs.declared.tree.Stmt.{Stmt}
use Rattle.chp_syntax.specs.Trees.{Expression, number, slice, bit, join, chain, Expressions, no_parts, and_part, Links, no_links, Statement, Statements, no_members, and_member, Arms, no_arms}
use Rattle.chp_syntax.specs.View.{expression_of, link_of, and_pair, statement_of, guarded_of, and_guarded, onto}
use Rattle.width_check.specs.declared.findings.Findings.{Findings}
use Rattle.width_check.specs.Places.{declaration, declared_width, is_var, Role, sent_on, received_on, Use, reads_in, reads_in_join, reads_in_links, uses_in, uses_in_each, uses_in_arms, compares, or_width, own_width, first_width, span_of, Expected, expect, leaves, leaves_of_parts, leaves_of_links, expressions_in, expressions_in_each, expressions_in_arms, inside, inside_parts, inside_links, Reception, receptions_in, receptions_in_each, receptions_in_arms}
use Rattle.width_check.specs.Faults.{wants_var}

-- the plain trees of members in a row
abbrev pub join_parts : List Expr → Expressions
join_parts es = onto and_part (map expression_of es) no_parts

abbrev pub links_in : List Link → Links
links_in ls = onto and_pair (map link_of ls) no_links

abbrev pub statements_in : List Stmt → Statements
statements_in ss = onto and_member (map statement_of ss) no_members

abbrev pub arms_in : List Arm → Arms
arms_in xs = onto and_guarded (map guarded_of xs) no_arms

-- the order of spans as a test
abbrev pub is_earlier : Span → Span → Bool
is_earlier s t = nat_lt s.from t.from || (s.from == t.from && nat_lt t.to s.to)

-- the earlier of two spans, of which the first may be missing
abbrev pub earlier : Option Span → Span → Option Span
earlier None s = Some s
earlier (Some t) s = if is_earlier s t then Some s else Some t

abbrev pub earlier_of : Option Span → Option Span → Option Span
earlier_of o None = o
earlier_of o (Some s) = earlier o s

-- the first of a span and those of the items that pass a test
abbrev pub first_of : {X : Type 0} → (X → Bool) → (X → Span) → Option Span → List X → Option Span
first_of test at o [] = o
first_of test at o (x ∷ xs) = first_of test at (if test x then earlier o (at x) else o) xs

-- what a walk meets
pub record Met : Type 0 where
  pub uses : List Use
  pub expressions : List Expression
  pub leaves : List Expected
  pub receptions : List Reception

abbrev pub met_both : Met → Met → Met
met_both m n = record {
  uses = m.uses ++ n.uses;
  expressions = m.expressions ++ n.expressions;
  leaves =
      m.leaves ++ n.leaves;
  receptions = m.receptions ++ n.receptions;
}

abbrev pub met_use : Use → Met
met_use u = record { uses = u ∷ []; expressions = []; leaves = []; receptions = [] }

abbrev pub met_in : List Decl → ℕ → Expression → Met
met_in decls w e = record { uses = reads_in e; expressions = inside e; leaves = leaves decls w e; receptions = [] }

-- a join and a chain alone, without their members
abbrev pub met_join : ℕ → Expressions → Span → Met
met_join w parts at = record {
  uses = [];
  expressions = join parts at ∷ [];
  leaves = expect (join parts at) w ∷ [];
  receptions = [];
}

abbrev pub met_chain : ℕ → Expression → Links → Span → Met
met_chain w e more at = record {
  uses = [];
  expressions = chain e more at ∷ [];
  leaves =
      if compares more then expect (chain e more at) w ∷ [] else [];
  receptions = [];
}

abbrev pub met_in_parts : List Decl → Expressions → Met
met_in_parts decls parts = record {
  uses = reads_in_join parts;
  expressions = inside_parts parts;
  leaves =
      leaves_of_parts decls parts;
  receptions = [];
}

abbrev pub met_in_links : List Decl → ℕ → Links → Met
met_in_links decls w links = record {
  uses = reads_in_links links;
  expressions = inside_links links;
  leaves =
      leaves_of_links decls w links;
  receptions = [];
}

abbrev pub all_inside : List Expected → List Expression
all_inside es = flat_map (λ (e : Expected). inside e.expression) es

abbrev pub leaves_of_all : List Decl → List Expected → List Expected
leaves_of_all decls es = flat_map (λ (e : Expected). leaves decls e.width e.expression) es

abbrev pub met_of : List Decl → Statement → Met
met_of decls s = record {
  uses = uses_in s;
  expressions = all_inside (expressions_in decls s);
  leaves =
      leaves_of_all decls (expressions_in decls s);
  receptions = receptions_in s;
}

abbrev pub met_of_each : List Decl → Statements → Met
met_of_each decls members = record {
  uses = uses_in_each members;
  expressions =
      all_inside (expressions_in_each decls members);
  leaves = leaves_of_all decls (expressions_in_each decls members);
  receptions = receptions_in_each members;
}

abbrev pub met_of_arms : List Decl → Arms → Met
met_of_arms decls arms = record {
  uses = uses_in_arms arms;
  expressions = all_inside (expressions_in_arms decls arms);
  leaves = leaves_of_all decls (expressions_in_arms decls arms);
  receptions = receptions_in_arms arms;
}

-- what is wrong, as tests

abbrev pub is_undeclared : List Decl → Use → Bool
is_undeclared decls u = is_none (declaration decls u.name)

abbrev pub differ : Bool → Bool → Bool
differ true b = not b
differ false b = b

abbrev pub differs_in_kind : Option Decl → Role → Bool
differs_in_kind None role = false
differs_in_kind (Some d) role = differ (is_var d.kind) (wants_var role)

abbrev pub has_wrong_kind : List Decl → Use → Bool
has_wrong_kind decls u = differs_in_kind (declaration decls u.name) u.role

abbrev pub is_against : Role → DeclKind → Bool
is_against sent_on In = true
is_against received_on Out = true
is_against _ _ = false

abbrev pub goes_against : Option Decl → Role → Bool
goes_against None role = false
goes_against (Some d) role = is_against role d.kind

abbrev pub is_misdirected : List Decl → Use → Bool
is_misdirected decls u = goes_against (declaration decls u.name) u.role

abbrev pub is_bad_part : List Decl → Expression → Bool
is_bad_part decls (bit of place at) = nat_le (declared_width decls of.name) place
is_bad_part decls (slice of high low at) = nat_lt high low || nat_le (declared_width decls of.name) high
is_bad_part decls _ = false

-- the parts without a width
abbrev pub lacking_parts : List Decl → Expressions → List Span
lacking_parts decls no_parts = []
lacking_parts decls (and_part e more) = if is_none (own_width decls e) then span_of e
    ∷ lacking_parts decls more else lacking_parts decls more

-- the width of both sides of a comparison
abbrev pub side_width : List Decl → Expression → Links → Option ℕ
side_width decls e more = or_width (own_width decls e) (first_width decls more)

-- the expected width, if there is one, and else the expression's own; 0 if it has none
abbrev pub own_or : List Decl → Option ℕ → Expression → ℕ
own_or decls None e = unwrap_or (own_width decls e) 0
own_or decls (Some w) e = w

abbrev pub lacks_width : List Decl → Expression → Links → Bool
lacks_width decls e more = compares more && is_none (side_width decls e more)

abbrev pub lacking : List Decl → Expression → List Span
lacking decls (join parts at) = lacking_parts decls parts
lacking decls (chain e more at) = if lacks_width decls e more then at ∷ [] else []
lacking decls _ = []

-- a width of more than 64 bits counts as 65 of them
abbrev pub capped_width : ℕ → ℕ
capped_width w = min w 65

abbrev pub is_unfit : Option ℕ → ℕ → Bool
is_unfit None w = false
is_unfit (Some v) w = nat_lt 64 v || not (v == w)

abbrev pub is_misfit : List Decl → Expected → Bool
is_misfit decls leaf = is_unfit (own_width decls leaf.expression) leaf.width

abbrev pub exceeds : Expression → ℕ → Bool
exceeds (number n at) w = nat_le (2 ^ capped_width w) n
exceeds _ w = false

abbrev pub is_wide_number : Expected → Bool
is_wide_number leaf = exceeds leaf.expression leaf.width

abbrev pub is_misfit_target : List Decl → Reception → Bool
is_misfit_target decls r = not (declared_width decls r.target.name == declared_width decls r.chan.name)

-- findings, and what was met after them
abbrev pub noted : List Decl → Findings → Met → Findings
noted decls f m = record {
  undeclared = first_of (is_undeclared decls) (λ (u : Use). u.at) f.undeclared m.uses;
  wrong_kind = first_of (has_wrong_kind decls) (λ (u : Use). u.at) f.wrong_kind m.uses;
  direction = first_of (is_misdirected decls) (λ (u : Use). u.at) f.direction m.uses;
  slice = first_of (is_bad_part decls) span_of f.slice m.expressions;
  widthless = first_of (λ (s : Span). true) (λ (s : Span). s) f.widthless (flat_map (lacking decls) m.expressions);
  leaf = first_of (is_misfit decls) (λ (l : Expected). span_of l.expression) f.leaf m.leaves;
  target = first_of (is_misfit_target decls) (λ (r : Reception). r.target.at) f.target m.receptions;
  number = first_of is_wide_number (λ (l : Expected). span_of l.expression) f.number m.leaves;
}

-- findings after an expression and its subexpressions, with this expected width, or else its own one
abbrev pub surveyed : List Decl → Findings → Option ℕ → Expression → Findings
surveyed decls f wanted e = noted decls f (met_in decls (own_or decls wanted e) e)

-- findings, and a part or a comparison that may lack a width, or a leaf whose width may not be the expected one
abbrev pub with_part : Findings → Bool → Span → Findings
with_part f lacks s = record f { widthless = (if lacks then earlier f.widthless s else f.widthless) }

abbrev pub with_leaf : Findings → (own wanted : ℕ) → Span → Findings
with_leaf f own wanted s = record f {
  leaf =
      (if nat_lt 64 own || not (own == wanted) then earlier f.leaf s else f.leaf);
}

abbrev pub no_findings : Findings
no_findings = record {
  undeclared = None;
  wrong_kind = None;
  direction = None;
  slice = None;
  widthless = None;
  leaf =
      None;
  target = None;
  number = None;
}

-- declarations

abbrev pub is_out_of_range : Decl → Bool
is_out_of_range d = nat_lt d.width 1 || nat_lt 64 d.width

abbrev pub is_wide_first : Decl → Bool
is_wide_first d = nat_le (2 ^ capped_width d.width) d.first

-- the first of a span and those at which one of some names, or one declared before, is declared again
abbrev pub first_double : List (List ℕ) → Option Span → List Decl → Option Span
first_double names o [] = o
first_double names o (d ∷ ds) =
    if list_any (bytes_eq d.name.name) names then first_double names (earlier o d.name.at) ds else first_double (names
    ++ (d.name.name ∷ [])) o ds
