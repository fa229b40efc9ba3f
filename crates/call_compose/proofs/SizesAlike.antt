-- A call has as many nodes as a skip.
use Rattle.std.proofs.Common.{◌≡◌, ℕ, suc, ◌+◌, true, false, List, ◌++◌, refl, ap, arith}
use Rattle.chp_syntax.specs.declared.tree.Decl.{Decl}
use Rattle.chp_syntax.specs.Trees as plain
use Rattle.chp_syntax.specs.Trees.{Statement, skips, assigns, sends, receives, follows, besides, selects, repeats, calls, Statements, Arms, no_arms, and_arm, Procedure, ProgramTree}
use Rattle.width_check.specs.Form.{formula_form, process_form, processes_form, choices_form}
use Rattle.width_check.specs.Processes.{Process, member_count, choice_count, TypedProgram}
use Rattle.handshake_expand.specs.Layout.{formula_size, size_of, turn_size, branches_size, bodies_size, guards_size}
use Rattle.call_map.specs.Calling.{inlined_each, inlined_choices, called_size, called_turn_size, called_branches_size, called_bodies_size}
use Rattle.call_map.specs.CallNet.{inlined_program, call_root}
use Rattle.call_compose.specs.CalledForm.{procedure_names, called_form, called_forms, called_arms, call_program}
use Rattle.call_compose.specs.CallsCounted.{CallsCounted}

module _ (ps : List Process) (p : TypedProgram) (ds : List Decl) (ns : List (List ℕ)) where
  members_alike : (us : Statements) → member_count (inlined_each ps (called_forms ds ns us)) ≡ member_count (processes_form ds us)
  members_alike plain.no_members = refl
  members_alike (plain.and_member s more) = ap suc (members_alike more)

  choices_alike : (xs : Arms) → choice_count (inlined_choices ps (called_arms ds ns xs)) ≡ choice_count (choices_form ds xs)
  choices_alike no_arms = refl
  choices_alike (and_arm g s more) = ap suc (choices_alike more)

  guards_alike : (xs : Arms) → guards_size (inlined_choices ps (called_arms ds ns xs)) ≡ guards_size (choices_form ds xs)
  guards_alike no_arms = refl
  guards_alike (and_arm g s more) = ap (λ k. formula_size (formula_form ds 1 g) + k) (guards_alike more)

  mutual
    pub size_alike : (s : Statement) → called_size ps p (called_form ds ns s) ≡ size_of p (process_form ds s)
    size_alike (skips at) = refl
    size_alike (assigns target e) = refl
    size_alike (sends chan e) = refl
    size_alike (receives chan target) = refl
    size_alike (follows us) = turn_alike us
    size_alike (besides us) =
        let parts = branches_alike us in
        let count = members_alike us in
        rw (parts, count) refl
    size_alike (selects false xs) =
        let count = choices_alike xs in
        let guards = guards_alike xs in
        let parts = bodies_alike xs in
        rw (count, guards, parts) refl
    size_alike (selects true xs) =
        let count = choices_alike xs in
        let guards = guards_alike xs in
        let parts = bodies_alike xs in
        rw (count, guards, parts) refl
    size_alike (repeats s) = ap (λ k. 2 + k) (size_alike s)
    size_alike (calls of) = refl

    turn_alike : (us : Statements) → called_turn_size ps p (called_forms ds ns us) ≡ turn_size p (processes_form ds us)
    turn_alike plain.no_members = refl
    turn_alike (plain.and_member s plain.no_members) = size_alike s
    turn_alike (plain.and_member s (plain.and_member t more)) =
        let here = size_alike s in
        let rest = turn_alike (plain.and_member t more) in
        omega (arith, here, rest)

    branches_alike : (us : Statements) → called_branches_size ps p (called_forms ds ns us) ≡ branches_size p (processes_form ds us)
    branches_alike plain.no_members = refl
    branches_alike (plain.and_member s more) =
        let here = size_alike s in
        let rest = branches_alike more in
        omega (arith, here, rest)

    bodies_alike : (xs : Arms) → called_bodies_size ps p (called_arms ds ns xs) ≡ bodies_size p (choices_form ds xs)
    bodies_alike no_arms = refl
    bodies_alike (and_arm g s more) =
        let here = size_alike s in
        let rest = bodies_alike more in
        omega (arith, here, rest)

pub calls_counted : CallsCounted
calls_counted p vars =
    let ds = p.decls ++ vars in
    let C = call_program p vars in
    ap (λ k. call_root C + 2 + k) (size_alike C.procs (inlined_program C) ds (procedure_names p.procs) p.body)
