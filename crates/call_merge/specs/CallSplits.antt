-- Procedures in which each assignment that reads its own target goes by a variable of its own.
use Rattle.std.specs.Prelude.{◌≡◌, ℕ, ◌+◌, ◌<◌, ◌&&◌, Bool, false, if◌then◌else◌, List, [], ◌∷◌, ◌++◌, map, length, Contains, slice_get, Option, Some, None, option_map, unwrap_or, codes, decimal}
use Rattle.std.specs.List.{flat_map, list_any}
use Rattle.std.specs.Str.{bytes_eq}
use Rattle.chp_base.specs.declared.span.Span.{Span}
use Rattle.chp_syntax.specs.declared.tree.Ident.{Ident}
use Rattle.chp_syntax.specs.declared.tree.Decl.{Decl}
use Rattle.chp_syntax.specs.declared.tree.DeclKind.TheVariants.{Var}
use Rattle.chp_syntax.specs.Trees.{Expression, whole, Statement, assigns, follows, besides, selects, repeats, Statements, no_members, and_member, Arms, no_arms, and_arm, Procedure, ProgramTree}
use Rattle.width_check.specs.Places.{declaration, declared_width, is_var, Use, reads_in, uses_in}
use Rattle.call_merge.specs.CallSites.{all_calls, no_place}

-- the names that an expression reads
abbrev pub names_read : Expression → List (List ℕ)
names_read e = map (λ (u : Use). u.name) (reads_in e)

-- the first declaration of the name is a variable's
abbrev pub is_var_name : List Decl → List ℕ → Bool
is_var_name decls name = unwrap_or (option_map (λ (d : Decl). is_var d.kind) (declaration decls name)) false

-- an assignment to a variable that stands in its own value
abbrev pub reads_itself : List Decl → Ident → Expression → Bool
reads_itself decls target e = is_var_name decls target.name && list_any (bytes_eq target.name) (names_read e)

-- the targets of such assignments
abbrev mutual
  pub own_readers : List Decl → Statement → List Ident
  own_readers decls (assigns target e) = if reads_itself decls target e then target ∷ [] else []
  own_readers decls (follows members) = own_readers_each decls members
  own_readers decls (besides members) = own_readers_each decls members
  own_readers decls (selects again arms) = own_readers_arms decls arms
  own_readers decls (repeats s) = own_readers decls s
  own_readers decls _ = []

  pub own_readers_each : List Decl → Statements → List Ident
  own_readers_each decls no_members = []
  own_readers_each decls (and_member s more) = own_readers decls s ++ own_readers_each decls more

  pub own_readers_arms : List Decl → Arms → List Ident
  own_readers_arms decls no_arms = []
  own_readers_arms decls (and_arm g s more) = own_readers decls s ++ own_readers_arms decls more

-- `h := e; x := h`, both names where x stands
abbrev pub through_own : List ℕ → Ident → Expression → Statement
through_own h target e = follows (and_member (assigns (record { name = h; at = target.at }) e)
    (and_member (assigns target (whole (record { name = h; at = target.at }))) no_members))

abbrev pub assigns_by : Option (List ℕ) → Ident → Expression → Statement
assigns_by None target e = assigns target e
assigns_by (Some h) target e = through_own h target e

-- each such assignment by its own one of some names, of which as many were taken before as n says
abbrev mutual
  pub split_statement : List Decl → List (List ℕ) → ℕ → Statement → Statement
  split_statement decls names n (assigns target e) =
      if reads_itself decls target e then assigns_by (slice_get names n) target e else assigns target e
  split_statement decls names n (follows members) = follows (split_members decls names n members)
  split_statement decls names n (besides members) = besides (split_members decls names n members)
  split_statement decls names n (selects again arms) = selects again (split_arms decls names n arms)
  split_statement decls names n (repeats s) = repeats (split_statement decls names n s)
  split_statement decls names n s = s

  pub split_members : List Decl → List (List ℕ) → ℕ → Statements → Statements
  split_members decls names n no_members = no_members
  split_members decls names n (and_member s more) =
      and_member (split_statement decls names n s) (split_members decls names (n + length (own_readers decls s)) more)

  pub split_arms : List Decl → List (List ℕ) → ℕ → Arms → Arms
  split_arms decls names n no_arms = no_arms
  split_arms decls names n (and_arm g s more) =
      and_arm g (split_statement decls names n s) (split_arms decls names (n + length (own_readers decls s)) more)

abbrev pub split_procedures : List Decl → List (List ℕ) → ℕ → List Procedure → List Procedure
split_procedures decls names n [] = []
split_procedures decls names n (q ∷ qs) =
    (record { name = q.name; body = split_statement decls names n q.body })
    ∷ split_procedures decls names (n + length (own_readers decls q.body)) qs

-- the targets of all procedures
abbrev pub all_own_readers : ProgramTree → List Ident
all_own_readers p = flat_map (λ (q : Procedure). own_readers p.decls q.body) p.procs

-- the uses of variables and channels in a program
abbrev pub all_uses : ProgramTree → List Use
all_uses p = flat_map (λ (q : Procedure). uses_in q.body) p.procs ++ uses_in p.body

abbrev pub program_names : ProgramTree → List (List ℕ)
program_names p = map (λ (d : Decl). d.name.name) p.decls ++ map (λ (q : Procedure). q.name.name) p.procs

-- every name of the text
abbrev pub all_names : ProgramTree → List (List ℕ)
all_names p = program_names p ++ map (λ (u : Use). u.name) (all_uses p) ++ map (λ (i : Ident). i.name) (all_calls p)

abbrev pub own_name : ℕ → List ℕ
own_name k = codes "h" ++ decimal k

-- the first of these names that isn't taken
pub record IsLeastFree (taken : List (List ℕ)) (name : List ℕ) : Type 0 where
  pub number : ℕ
  pub is : name ≡ own_name number
  pub free : ¬ Contains taken name
  pub least : (j : ℕ) → j < number → Contains taken (own_name j)

-- where the width that is declared first for a name stands
abbrev pub width_place : List Decl → List ℕ → Span
width_place decls name = unwrap_or (option_map (λ (d : Decl). d.width_at) (declaration decls name)) no_place

-- the variable of this name for a target: of the target's width, with 0 as its first value
abbrev pub own_var : List Decl → List ℕ → Ident → Decl
own_var decls h target = record {
  kind = Var;
  name = record { name = h; at = target.at };
  width = declared_width decls target.name;
  width_at = width_place decls target.name;
  first = 0;
  first_at = width_place decls target.name;
}

-- for each of the targets its variable, with a name that neither the text nor a variable before it has
abbrev pub AreOwnVars : List Decl → List (List ℕ) → List Ident → List Decl → Type 0
AreOwnVars decls taken [] [] = Unit {0}
AreOwnVars decls taken (x ∷ xs) (v ∷ vs) =
    IsLeastFree taken v.name.name × (v ≡ own_var decls v.name.name x)
    × AreOwnVars decls (taken ++ v.name.name ∷ []) xs vs
AreOwnVars decls taken _ _ = ⊥

-- the names of declarations
abbrev pub own_names : List Decl → List (List ℕ)
own_names vars = map (λ (d : Decl). d.name.name) vars
