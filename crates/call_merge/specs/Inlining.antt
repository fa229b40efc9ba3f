-- The program in which each call is its procedure's body.
use Rattle.std.specs.Prelude.{◌≡◌, ◌<◌, ℕ, List, [], ◌++◌, find, Option, Some, None}
use Rattle.std.specs.Str.{bytes_eq}
use Rattle.chp_syntax.specs.declared.tree.Ident.{Ident}
use Rattle.chp_syntax.specs.declared.tree.Decl.{Decl}
use Rattle.chp_syntax.specs.Trees.{Statement, follows, besides, selects, repeats, calls, Statements, no_members, and_member, Arms, no_arms, and_arm, Procedure, ProgramTree}
use Rattle.call_merge.specs.CallForms.{statement_forms, capped_forms, most_forms}
use Rattle.call_merge.specs.CallSplits.{split_procedures, all_own_readers, all_names, own_names, AreOwnVars}

abbrev pub procedure_named : List Procedure → List ℕ → Option Procedure
procedure_named procs name = find (λ (q : Procedure). bytes_eq q.name.name name) procs

-- the procedure's body; the call, where there is none
abbrev pub body_or_call : Option Procedure → Ident → Statement
body_or_call None of = calls of
body_or_call (Some q) of = q.body

abbrev mutual
  pub inlined_statement : List Procedure → Statement → Statement
  inlined_statement procs (follows members) = follows (inlined_members procs members)
  inlined_statement procs (besides members) = besides (inlined_members procs members)
  inlined_statement procs (selects again arms) = selects again (inlined_arms procs arms)
  inlined_statement procs (repeats s) = repeats (inlined_statement procs s)
  inlined_statement procs (calls of) = body_or_call (procedure_named procs of.name) of
  inlined_statement procs s = s

  pub inlined_members : List Procedure → Statements → Statements
  inlined_members procs no_members = no_members
  inlined_members procs (and_member s more) = and_member (inlined_statement procs s) (inlined_members procs more)

  pub inlined_arms : List Procedure → Arms → Arms
  inlined_arms procs no_arms = no_arms
  inlined_arms procs (and_arm g s more) = and_arm g (inlined_statement procs s) (inlined_arms procs more)

-- with these variables of the assignments in procedures that read their own target
abbrev pub inlined_with : ProgramTree → List Decl → ProgramTree
inlined_with p vars = record {
  decls = p.decls ++ vars;
  procs = [];
  body = inlined_statement (split_procedures p.decls (own_names vars) 0 p.procs) p.body;
}

-- the second program is the first one with each call replaced
pub record IsInlined (p r : ProgramTree) : Type 0 where
  pub vars : List Decl
  pub own : AreOwnVars p.decls (all_names p) (all_own_readers p) vars
  pub tree : r ≡ inlined_with p vars

-- that program has more forms than are allowed, and their number is this
pub record HasTooManyForms (p : ProgramTree) (n : ℕ) : Type 0 where
  pub program : ProgramTree
  pub is : IsInlined p program
  pub more : most_forms < statement_forms program.body
  pub number : n ≡ capped_forms (statement_forms program.body)
