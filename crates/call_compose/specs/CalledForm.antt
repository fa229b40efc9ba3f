-- The typed form of a program with procedures: their bodies, and a body that calls them by their numbers.
use Rattle.std.specs.Prelude.{◌≡◌, ℕ, List, ◌++◌, map}
use Rattle.std.specs.List.{position_or_len}
use Rattle.std.specs.Str.{bytes_eq}
use Rattle.chp_syntax.specs.declared.tree.Decl.{Decl}
use Rattle.chp_syntax.specs.Trees as plain
use Rattle.chp_syntax.specs.Trees.{Statement, follows, besides, selects, repeats, calls, Statements, Arms, no_arms, and_arm, Procedure, ProgramTree}
use Rattle.width_check.specs.Form.{formula_form, process_form, channels_of, vars_of, typed_form}
use Rattle.width_check.specs.Processes.{Process}
use Rattle.call_map.specs.Calling.{Called, calling, atom, turned, abreast, chosen, looped, Calleds, no_calleds, and_called, CalledChoices, no_called, or_called}
use Rattle.call_map.specs.CallNet.{CallProgram, inlined_program}
use Rattle.call_merge.specs.CallSplits.{split_procedures, own_names}
use Rattle.call_merge.specs.Inlining.{inlined_with}

abbrev pub procedure_names : List Procedure → List (List ℕ)
procedure_names procs = map (λ (q : Procedure). q.name.name) procs

-- the number of a procedure, in order of declaration
abbrev pub procedure_number : List (List ℕ) → List ℕ → ℕ
procedure_number names name = position_or_len (λ (n : List ℕ). bytes_eq n name) names

-- a statement with numbers for all names; a statement that contains no other and is no call is an atom
abbrev mutual
  pub called_form : List Decl → List (List ℕ) → Statement → Called
  called_form decls names (follows members) = turned (called_forms decls names members)
  called_form decls names (besides members) = abreast (called_forms decls names members)
  called_form decls names (selects again arms) = chosen again (called_arms decls names arms)
  called_form decls names (repeats s) = looped (called_form decls names s)
  called_form decls names (calls of) = calling (procedure_number names of.name)
  called_form decls names s = atom (process_form decls s)

  pub called_forms : List Decl → List (List ℕ) → Statements → Calleds
  called_forms decls names plain.no_members = no_calleds
  called_forms decls names (plain.and_member s more) =
      and_called (called_form decls names s) (called_forms decls names more)

  pub called_arms : List Decl → List (List ℕ) → Arms → CalledChoices
  called_arms decls names no_arms = no_called
  called_arms decls names (and_arm g s more) =
      or_called (formula_form decls 1 g) (called_form decls names s) (called_arms decls names more)

abbrev pub body_forms : List Decl → List Procedure → List Process
body_forms decls procs = map (λ (q : Procedure). process_form decls q.body) procs

-- with these variables of the assignments in procedures that read their own target
abbrev pub call_program : ProgramTree → List Decl → CallProgram
call_program p vars = record {
  channels = channels_of (p.decls ++ vars);
  vars = vars_of (p.decls ++ vars);
  procs = body_forms (p.decls ++ vars) (split_procedures p.decls (own_names vars) 0 p.procs);
  body = called_form (p.decls ++ vars) (procedure_names p.procs) p.body;
}

-- With a copy of its body in place of each call it is the typed form of the program without its procedures.
abbrev pub CallsTyped : Type 0
CallsTyped = (p : ProgramTree) (vars : List Decl)
    → inlined_program (call_program p vars) ≡ typed_form (inlined_with p vars)
