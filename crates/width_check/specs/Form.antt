-- The typed form of a program: numbers in order of declaration for names, and the expected width on each number.
use Rattle.std.specs.Prelude.{ℕ, ◌-◌, if◌then◌else◌, List, [], ◌∷◌, unwrap_or}
use Rattle.std.specs.List.{position_or_len}
use Rattle.std.specs.Str.{bytes_eq}
use Rattle.chp_base.specs.declared.channel.Channel.{Channel}
use Rattle.chp_base.specs.declared.channel.Kind.{Kind}
use Rattle.chp_base.specs.declared.channel.Kind.TheVariants as kind
use Rattle.chp_syntax.specs.declared.tree.Decl.{Decl}
use Rattle.chp_syntax.specs.declared.tree.DeclKind.{DeclKind}
use Rattle.chp_syntax.specs.declared.tree.DeclKind.TheVariants as declares
use Rattle.chp_syntax.specs.Trees as plain
use Rattle.chp_syntax.specs.Trees.{Expression, number, whole, slice, bit, join, negation, chain, Expressions, Links, no_links, and_link, Statement, skips, assigns, sends, receives, follows, besides, selects, repeats, calls, Statements, Arms, no_arms, and_arm, ProgramTree}
use Rattle.width_check.specs.declared.typed.Var.{Var}
use Rattle.width_check.specs.Places.{declared_width, compares, or_width, own_width, first_width}
use Rattle.width_check.specs.Processes.{Formula, constant, reading, joined, inverted, chained, compared, Formulas, no_parts, and_part, Operations, no_operations, and_operation, Process, skipping, assigning, sending, receiving, in_turn, side_by_side, choosing, repeating, Processes, no_members, and_member, Choices, no_choices, and_choice, TypedProgram}

abbrev pub channel_of : Decl → Kind → Channel
channel_of d k = record { name = d.name.name; kind = k; width = d.width }

abbrev pub with_channel : Decl → DeclKind → List Channel → List Channel
with_channel d declares.In cs = channel_of d kind.In ∷ cs
with_channel d declares.Out cs = channel_of d kind.Out ∷ cs
with_channel d declares.Chan cs = channel_of d kind.Chan ∷ cs
with_channel d declares.Var cs = cs

abbrev pub channels_of : List Decl → List Channel
channels_of [] = []
channels_of (d ∷ ds) = with_channel d d.kind (channels_of ds)

abbrev pub with_var : Decl → DeclKind → List Var → List Var
with_var d declares.Var vs = record { name = d.name.name; width = d.width; first = d.first } ∷ vs
with_var d _ vs = vs

abbrev pub vars_of : List Decl → List Var
vars_of [] = []
vars_of (d ∷ ds) = with_var d d.kind (vars_of ds)

-- the number of a name
abbrev pub channel_number : List Decl → List ℕ → ℕ
channel_number decls name = position_or_len (λ (c : Channel). bytes_eq c.name name) (channels_of decls)

abbrev pub var_number : List Decl → List ℕ → ℕ
var_number decls name = position_or_len (λ (v : Var). bytes_eq v.name name) (vars_of decls)

-- the first of some operations as a comparison
abbrev pub compared_with : Formula → Operations → Formula
compared_with e no_operations = e
compared_with e (and_operation op f more) = compared op e f

-- an expression with this expected width
abbrev mutual
  pub formula_form : List Decl → ℕ → Expression → Formula
  formula_form decls w (number n at) = constant w n
  formula_form decls w (whole of) = reading (var_number decls of.name) (declared_width decls of.name - 1) 0 of.at
  formula_form decls w (slice of high low at) = reading (var_number decls of.name) high low of.at
  formula_form decls w (bit of place at) = reading (var_number decls of.name) place place of.at
  formula_form decls w (join parts at) = joined (parts_form decls parts)
  formula_form decls w (negation e at) = inverted (formula_form decls w e)
  formula_form decls w (chain e more at) =
      if compares more then compared_with
      (formula_form decls (unwrap_or (or_width (own_width decls e) (first_width decls more)) 0) e)
      (operations_form decls (unwrap_or (or_width (own_width decls e) (first_width decls more)) 0) more)
      else chained (formula_form decls w e) (operations_form decls w more)

  pub parts_form : List Decl → Expressions → Formulas
  parts_form decls plain.no_parts = no_parts
  parts_form decls (plain.and_part e more) =
      and_part (formula_form decls (unwrap_or (own_width decls e) 0) e) (parts_form decls more)

  pub operations_form : List Decl → ℕ → Links → Operations
  operations_form decls w no_links = no_operations
  operations_form decls w (and_link op e more) =
      and_operation op (formula_form decls w e) (operations_form decls w more)

abbrev mutual
  pub process_form : List Decl → Statement → Process
  process_form decls (skips at) = skipping
  process_form decls (assigns target e) =
      assigning (var_number decls target.name) target.at (formula_form decls (declared_width decls target.name) e)
  process_form decls (sends chan e) =
      sending (channel_number decls chan.name) chan.at (formula_form decls (declared_width decls chan.name) e)
  process_form decls (receives chan target) =
      receiving (channel_number decls chan.name) chan.at (var_number decls target.name) target.at
  process_form decls (follows members) = in_turn (processes_form decls members)
  process_form decls (besides members) = side_by_side (processes_form decls members)
  process_form decls (selects again arms) = choosing again (choices_form decls arms)
  process_form decls (repeats s) = repeating (process_form decls s)
  process_form decls (calls of) = skipping

  pub processes_form : List Decl → Statements → Processes
  processes_form decls plain.no_members = no_members
  processes_form decls (plain.and_member s more) = and_member (process_form decls s) (processes_form decls more)

  pub choices_form : List Decl → Arms → Choices
  choices_form decls no_arms = no_choices
  choices_form decls (and_arm g s more) =
      and_choice (formula_form decls 1 g) (process_form decls s) (choices_form decls more)

-- the typed form of a program that is accepted, without procedures and calls
abbrev pub typed_form : ProgramTree → TypedProgram
typed_form p = record { channels = channels_of p.decls; vars = vars_of p.decls; body = process_form p.decls p.body }
