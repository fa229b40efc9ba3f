-- The calls of a program, and the program of its calls alone.
use Rattle.std.specs.Prelude.{List, [], ◌∷◌, ◌++◌, map}
use Rattle.std.specs.List.{flat_map}
use Rattle.chp_base.specs.declared.span.Span.{Span}
use Rattle.chp_syntax.specs.declared.tree.Ident.{Ident}
use Rattle.chp_syntax.specs.declared.tree.Decl.{Decl}
use Rattle.chp_syntax.specs.declared.tree.DeclKind.TheVariants.{Chan}
use Rattle.chp_syntax.specs.Trees.{Expression, number, Statement, skips, sends, follows, besides, selects, repeats, calls, Statements, no_members, and_member, Arms, no_arms, and_arm, Procedure, ProgramTree}
use Rattle.width_check.specs.Form.{typed_form}
use Rattle.width_check.specs.Processes.{Process}

-- the names that a statement calls, where they stand
abbrev mutual
  pub calls_in : Statement → List Ident
  calls_in (follows members) = calls_in_each members
  calls_in (besides members) = calls_in_each members
  calls_in (selects again arms) = calls_in_arms arms
  calls_in (repeats s) = calls_in s
  calls_in (calls of) = of ∷ []
  calls_in _ = []

  pub calls_in_each : Statements → List Ident
  calls_in_each no_members = []
  calls_in_each (and_member s more) = calls_in s ++ calls_in_each more

  pub calls_in_arms : Arms → List Ident
  calls_in_arms no_arms = []
  calls_in_arms (and_arm g s more) = calls_in s ++ calls_in_arms more

-- those in the bodies of procedures, and all of a program
abbrev pub nested_calls : List Procedure → List Ident
nested_calls procs = flat_map (λ (q : Procedure). calls_in q.body) procs

abbrev pub all_calls : ProgramTree → List Ident
all_calls p = nested_calls p.procs ++ calls_in p.body

-- what stands in no text
abbrev pub no_place : Span
no_place = record { from = 0; to = 0 }

abbrev pub zero_expression : Expression
zero_expression = number 0 no_place

-- The program in which each procedure is a channel, each call a send of 0 on it, each guard is 0, and all else is
-- skipped. So two calls of one procedure are parallel where two sends on one channel are.
abbrev mutual
  pub call_sends : Statement → Statement
  call_sends (follows members) = follows (call_sends_each members)
  call_sends (besides members) = besides (call_sends_each members)
  call_sends (selects again arms) = selects again (call_sends_arms arms)
  call_sends (repeats s) = repeats (call_sends s)
  call_sends (calls of) = sends of zero_expression
  call_sends _ = skips no_place

  pub call_sends_each : Statements → Statements
  call_sends_each no_members = no_members
  call_sends_each (and_member s more) = and_member (call_sends s) (call_sends_each more)

  pub call_sends_arms : Arms → Arms
  call_sends_arms no_arms = no_arms
  call_sends_arms (and_arm g s more) = and_arm zero_expression (call_sends s) (call_sends_arms more)

abbrev pub call_channel : Procedure → Decl
call_channel q = record {
  kind = Chan;
  name = q.name;
  width = 1;
  width_at = no_place;
  first = 0;
  first_at = no_place;
}

abbrev pub calls_program : ProgramTree → ProgramTree
calls_program p = record { decls = map call_channel p.procs; procs = []; body = call_sends p.body }

abbrev pub calls_process : ProgramTree → Process
calls_process p = (typed_form (calls_program p)).body
