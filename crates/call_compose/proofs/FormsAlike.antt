-- Typing and putting bodies in can be done in either order.
use Rattle.std.proofs.Common.{◌≡◌, ℕ, suc, ◌+◌, Bool, true, false, List, [], ◌∷◌, ◌++◌, Option, Some, cond, refl, sym, ap, ◌∙◌, arith}
use Rattle.std.specs.Prelude.{slice_index_or, not}
use Rattle.std.specs.Str.{bytes_eq}
use Rattle.chp_syntax.specs.declared.tree.Decl.{Decl}
use Rattle.chp_syntax.specs.declared.tree.Ident.{Ident}
use Rattle.chp_syntax.specs.Trees as plain
use Rattle.chp_syntax.specs.Trees.{Statement, skips, assigns, sends, receives, follows, besides, selects, repeats, calls, Statements, Arms, no_arms, and_arm, Procedure, ProgramTree}
use Rattle.width_check.specs.Form.{formula_form, process_form, processes_form, choices_form, channels_of, vars_of}
use Rattle.width_check.specs.Processes.{Process, skipping, in_turn, side_by_side, choosing, repeating, Processes, and_member, Choices, and_choice, TypedProgram}
use Rattle.call_map.specs.Calling.{inlined, inlined_each, inlined_choices}
use Rattle.call_merge.specs.CallSplits.{split_procedures, own_names}
use Rattle.call_merge.specs.Inlining.{procedure_named, body_or_call, inlined_statement, inlined_members, inlined_arms}
use Rattle.call_merge.proofs.SplitSteps.{names_kept}
use Rattle.call_compose.specs.CalledForm.{procedure_names, procedure_number, called_form, called_forms, called_arms, body_forms, CallsTyped}

one_more : (k : ℕ) → 1 + k ≡ suc k
one_more k = omega arith

body_step : (ds : List Decl) (of : Ident) (q : Procedure) (bs : List Process) (k : ℕ) (o : Option Procedure) (b : Bool)
    → slice_index_or bs k skipping ≡ process_form ds (body_or_call o of)
    → slice_index_or (process_form ds q.body ∷ bs) (cond (not b) (1 + k) 0) skipping ≡ process_form ds (body_or_call (cond b (Some q) o) of)
body_step ds of q bs k o true h = refl
body_step ds of q bs k o false h = ap (λ i. slice_index_or (process_form ds q.body ∷ bs) i skipping) (one_more k) ∙ h

body_alike : (ds : List Decl) (of : Ident) (qs : List Procedure) →
    slice_index_or (body_forms ds qs) (procedure_number (procedure_names qs) of.name) skipping
    ≡ process_form ds (body_or_call (procedure_named qs of.name) of)
body_alike ds of [] = refl
body_alike ds of (q ∷ qs) = body_step ds of q (body_forms ds qs) (procedure_number (procedure_names qs) of.name) (procedure_named qs of.name)
    (bytes_eq q.name.name of.name) (body_alike ds of qs)

mutual
  form_alike : (ds : List Decl) (qs : List Procedure) (s : Statement) →
      inlined (body_forms ds qs) (called_form ds (procedure_names qs) s) ≡ process_form ds (inlined_statement qs s)
  form_alike ds qs (skips at) = refl
  form_alike ds qs (assigns target e) = refl
  form_alike ds qs (sends chan e) = refl
  form_alike ds qs (receives chan target) = refl
  form_alike ds qs (follows us) = ap in_turn (forms_alike ds qs us)
  form_alike ds qs (besides us) = ap side_by_side (forms_alike ds qs us)
  form_alike ds qs (selects again xs) = ap (choosing again) (arms_alike ds qs xs)
  form_alike ds qs (repeats s) = ap repeating (form_alike ds qs s)
  form_alike ds qs (calls of) = body_alike ds of qs

  forms_alike : (ds : List Decl) (qs : List Procedure) (us : Statements) →
      inlined_each (body_forms ds qs) (called_forms ds (procedure_names qs) us) ≡ processes_form ds (inlined_members qs us)
  forms_alike ds qs plain.no_members = refl
  forms_alike ds qs (plain.and_member s more) =
      ap (λ (x : Process). and_member x (inlined_each (body_forms ds qs) (called_forms ds (procedure_names qs) more))) (form_alike ds qs s)
      ∙ ap (λ (xs : Processes). and_member (process_form ds (inlined_statement qs s)) xs) (forms_alike ds qs more)

  arms_alike : (ds : List Decl) (qs : List Procedure) (xs : Arms) →
      inlined_choices (body_forms ds qs) (called_arms ds (procedure_names qs) xs) ≡ choices_form ds (inlined_arms qs xs)
  arms_alike ds qs no_arms = refl
  arms_alike ds qs (and_arm g s more) =
      ap (λ (x : Process). and_choice (formula_form ds 1 g) x (inlined_choices (body_forms ds qs) (called_arms ds (procedure_names qs) more)))
      (form_alike ds qs s)
      ∙ ap (λ (xs : Choices). and_choice (formula_form ds 1 g) (process_form ds (inlined_statement qs s)) xs) (arms_alike ds qs more)

pub calls_alike : CallsTyped
calls_alike p vars =
    let ds = p.decls ++ vars in
    let qs = split_procedures p.decls (own_names vars) 0 p.procs in
    let make : Process → TypedProgram = λ b. record { channels = channels_of ds; vars = vars_of ds; body = b } in
    ap make (ap (λ (ns : List (List ℕ)). inlined (body_forms ds qs) (called_form ds ns p.body)) (sym (names_kept p.decls (own_names vars) 0 p.procs))
    ∙ form_alike ds qs p.body)
