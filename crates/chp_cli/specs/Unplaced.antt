-- Programs that differ in places alone: in where their things stand in a text, as another layout or other comments
-- leave them.
use Rattle.std.specs.Prelude.{◌≡◌, map}
use Rattle.chp_syntax.specs.declared.tree.Ident.{Ident}
use Rattle.chp_syntax.specs.declared.tree.Decl.{Decl}
use Rattle.chp_syntax.specs.Trees.{Expression, number, whole, slice, bit, join, negation, chain, Expressions, no_parts, and_part, Links, no_links, and_link, Statement, skips, assigns, sends, receives, follows, besides, selects, repeats, calls, Statements, no_members, and_member, Arms, no_arms, and_arm, Procedure, ProgramTree}
use Rattle.call_merge.specs.CallSites.{no_place}

-- what stands in no text: a tree with no_place for each of its places

abbrev pub unplaced_name : Ident → Ident
unplaced_name i = record { name = i.name; at = no_place }

abbrev mutual
  pub unplaced_expression : Expression → Expression
  unplaced_expression (number n at) = number n no_place
  unplaced_expression (whole of) = whole (unplaced_name of)
  unplaced_expression (slice of high low at) = slice (unplaced_name of) high low no_place
  unplaced_expression (bit of place at) = bit (unplaced_name of) place no_place
  unplaced_expression (join parts at) = join (unplaced_parts parts) no_place
  unplaced_expression (negation e at) = negation (unplaced_expression e) no_place
  unplaced_expression (chain e more at) = chain (unplaced_expression e) (unplaced_links more) no_place

  pub unplaced_parts : Expressions → Expressions
  unplaced_parts no_parts = no_parts
  unplaced_parts (and_part e more) = and_part (unplaced_expression e) (unplaced_parts more)

  pub unplaced_links : Links → Links
  unplaced_links no_links = no_links
  unplaced_links (and_link op e more) = and_link op (unplaced_expression e) (unplaced_links more)

abbrev mutual
  pub unplaced_statement : Statement → Statement
  unplaced_statement (skips at) = skips no_place
  unplaced_statement (assigns target e) = assigns (unplaced_name target) (unplaced_expression e)
  unplaced_statement (sends chan e) = sends (unplaced_name chan) (unplaced_expression e)
  unplaced_statement (receives chan target) = receives (unplaced_name chan) (unplaced_name target)
  unplaced_statement (follows members) = follows (unplaced_members members)
  unplaced_statement (besides members) = besides (unplaced_members members)
  unplaced_statement (selects again arms) = selects again (unplaced_arms arms)
  unplaced_statement (repeats s) = repeats (unplaced_statement s)
  unplaced_statement (calls of) = calls (unplaced_name of)

  pub unplaced_members : Statements → Statements
  unplaced_members no_members = no_members
  unplaced_members (and_member s more) = and_member (unplaced_statement s) (unplaced_members more)

  pub unplaced_arms : Arms → Arms
  unplaced_arms no_arms = no_arms
  unplaced_arms (and_arm g s more) = and_arm (unplaced_expression g) (unplaced_statement s) (unplaced_arms more)

abbrev pub unplaced_decl : Decl → Decl
unplaced_decl d = record {
  kind = d.kind;
  name = unplaced_name d.name;
  width = d.width;
  width_at = no_place;
  first = d.first;
  first_at = no_place;
}

abbrev pub unplaced_procedure : Procedure → Procedure
unplaced_procedure q = record { name = unplaced_name q.name; body = unplaced_statement q.body }

abbrev pub unplaced : ProgramTree → ProgramTree
unplaced p = record {
  decls = map unplaced_decl p.decls;
  procs = map unplaced_procedure p.procs;
  body = unplaced_statement p.body;
}

-- the two programs are the same but for places
abbrev pub AreLaidOutAlike : ProgramTree → ProgramTree → Type 0
AreLaidOutAlike p q = unplaced p ≡ unplaced q
