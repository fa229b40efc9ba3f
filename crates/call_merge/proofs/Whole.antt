-- The inlined program as it is made.
use Rattle.std.proofs.Common.{◌≡◌, ℕ, zero, suc, ◌<◌, ◌≤◌, List, [], ◌∷◌, ◌++◌, length, map, Some, refl, sym, ap, ◌∙◌, subst, arith, append-nil}
use Rattle.std.specs.Prelude.{slice_get}
use Rattle.chp_base.specs.declared.span.Span.{Span}
use Rattle.chp_syntax.specs.declared.tree.Decl.{Decl}
use Rattle.chp_syntax.specs.declared.tree.Ident.{Ident}
use Rattle.chp_syntax.specs.declared.tree.Proc.{Proc}
use Rattle.chp_syntax.specs.declared.tree.Program.{Program}
use Rattle.chp_syntax.specs.Trees.{Statement, skips, assigns, sends, receives, follows, besides, selects, repeats, calls, Statements, no_members, and_member, Arms, no_arms, and_arm, Procedure, ProgramTree}
use Rattle.chp_syntax.specs.View.{procedure_of, program_tree}
use Rattle.width_check.specs.Calls.{IsCallFree}
use Rattle.call_merge.specs.declared.bodies.Body.{Body}
use Rattle.call_merge.specs.Bodies.{procedures_of}
use Rattle.call_merge.specs.CallFaults.{IsDoubleProcedure}
use Rattle.call_merge.specs.CallForms.{capped_forms, statement_forms, most_forms}
use Rattle.call_merge.specs.CallSplits.{all_own_readers, all_names, own_names, split_procedures, AreOwnVars}
use Rattle.call_merge.specs.Inlining.{inlined_statement, inlined_members, inlined_arms, inlined_with, IsInlined, HasTooManyForms}
use Rattle.call_merge.proofs.SplitSteps.{names_kept}

-- names of procedures

abbrev pub names_of : List Proc → List (List ℕ)
names_of qs = map (λ (q : Proc). q.name.name) qs

got_named : (qs : List Proc) (k : ℕ) (name : List ℕ) → slice_get (names_of qs) k ≡ Some name →
    (q : Proc) × (slice_get (map procedure_of qs) k ≡ Some (procedure_of q)) × (q.name.name ≡ name)
got_named [] k name is = absurd (cc is)
got_named (q ∷ qs) zero name is = (q, refl, let same : q.name.name ≡ name = cc is in same)
got_named (q ∷ qs) (suc k) name is = got_named qs k name is

pub names_apart : (program : Program) (qs : List Proc) → qs ≡ program.procs.items → ((s : Span) → ¬ IsDoubleProcedure (program_tree program) s)
    → (k j : ℕ) (name : List ℕ) → k < j → slice_get (names_of qs) k ≡ Some name → ¬ (slice_get (names_of qs) j ≡ Some name)
names_apart program qs items none k j name less first second =
    let a = got_named qs k name first in
    let b = got_named qs j name second in
    let at : (i : ℕ) (q : Procedure) → slice_get (map procedure_of qs) i ≡ Some q → slice_get (map procedure_of program.procs.items) i ≡ Some q =
    λ i q is. subst (λ (xs : List Proc). slice_get (map procedure_of xs) i ≡ Some q) items is in
    none b.0.name.at (record {
      earlier = k;
      later = j;
      order = less;
      first = procedure_of a.0;
      second = procedure_of b.0;
      first_is = at k (procedure_of a.0) a.1;
      second_is = at j (procedure_of b.0) b.1;
      same = a.2 ∙ sym b.2;
      at = refl;
    })

names_mapped : (qs : List Proc) → map (λ (q : Procedure). q.name.name) (map procedure_of qs) ≡ names_of qs
names_mapped [] = refl
names_mapped (q ∷ qs) = ap (λ z. q.name.name ∷ z) (names_mapped qs)

bodies_mapped : (bs : List Body) → map (λ (q : Procedure). q.name.name) (procedures_of bs) ≡ map (λ (b : Body). b.procedure.name.name) bs
bodies_mapped [] = refl
bodies_mapped (b ∷ bs) = ap (λ z. b.procedure.name.name ∷ z) (bodies_mapped bs)

pub in_order : (ds : List Decl) (ns : List (List ℕ)) (qs rs : List Proc) (bs : List Body) (names : List (List ℕ)) → qs ≡ rs → names ≡ names_of qs
    → procedures_of bs ≡ split_procedures ds ns 0 (map procedure_of rs) → names ≡ map (λ (b : Body). b.procedure.name.name) bs
in_order ds ns qs rs bs names items named split =
    named ∙ (ap names_of items ∙ (sym (names_mapped rs) ∙ (sym (names_kept ds ns 0 (map procedure_of rs))
    ∙ (ap (map (λ (q : Procedure). q.name.name)) (sym split) ∙ bodies_mapped bs))))

-- one variable for each target

pub own_counted : (ds : List Decl) (names : List (List ℕ)) (xs : List Ident) (vs : List Decl) → AreOwnVars ds names xs vs → length xs ≡ length vs
own_counted ds names [] [] own = refl
own_counted ds names [] (v ∷ vs) own = absurd own
own_counted ds names (x ∷ xs) [] own = absurd own
own_counted ds names (x ∷ xs) (v ∷ vs) own = ap suc (own_counted ds (names ++ v.name.name ∷ []) xs vs own.2)

-- the program

pub whole_tree : (p : ProgramTree) (vars decls : List Decl) (procs : List Procedure) (body : Statement) (bodies : List Procedure)
    → bodies ≡ split_procedures p.decls (own_names vars) 0 p.procs → decls ≡ p.decls ++ vars → procs ≡ [] → body ≡ inlined_statement bodies p.body
    → (record { decls = decls; procs = procs; body = body }) ≡ inlined_with p vars
whole_tree p vars decls procs body bodies split declared none made =
    let make : List Decl → List Procedure → Statement → ProgramTree = λ x y z. record { decls = x; procs = y; body = z } in
    ap (λ x. make x procs body) declared
    ∙ (ap (λ x. make (p.decls ++ vars) x body) none ∙ ap (λ x. make (p.decls ++ vars) [] x) (made ∙ ap (λ x. inlined_statement x p.body) split))

pub too_many : (p : ProgramTree) (vars : List Decl) (bodies : List Procedure) (n : ℕ) → AreOwnVars p.decls (all_names p) (all_own_readers p) vars
    → bodies ≡ split_procedures p.decls (own_names vars) 0 p.procs → n ≡ capped_forms (statement_forms (inlined_statement bodies p.body)) → most_forms < n
    → HasTooManyForms p n
too_many p vars bodies n own split number more =
    let here : n ≡ capped_forms (statement_forms (inlined_with p vars).body) = number
    ∙ ap (λ x. capped_forms (statement_forms (inlined_statement x p.body))) split in
    record {
      program = inlined_with p vars;
      is = record { vars = vars; own = own; tree = refl };
      more = (let forms = statement_forms (inlined_with p vars).body in omega (arith, here, more));
      number = here;
    }

pub few_forms : (n forms : ℕ) → n ≡ capped_forms forms → n ≤ most_forms → forms ≤ most_forms
few_forms n forms is few = omega (arith, is, few)

-- with neither procedures nor calls

mutual
  pub inlined_none : (s : Statement) → inlined_statement [] s ≡ s
  inlined_none (skips at) = refl
  inlined_none (assigns target e) = refl
  inlined_none (sends chan e) = refl
  inlined_none (receives chan target) = refl
  inlined_none (follows members) = ap follows (members_none members)
  inlined_none (besides members) = ap besides (members_none members)
  inlined_none (selects again arms) = ap (λ xs. selects again xs) (arms_none arms)
  inlined_none (repeats s) = ap repeats (inlined_none s)
  inlined_none (calls of) = refl

  members_none : (us : Statements) → inlined_members [] us ≡ us
  members_none no_members = refl
  members_none (and_member s more) =
      ap (λ z. and_member z (inlined_members [] more)) (inlined_none s) ∙ ap (λ us. and_member s us) (members_none more)

  arms_none : (xs : Arms) → inlined_arms [] xs ≡ xs
  arms_none no_arms = refl
  arms_none (and_arm g s more) =
      ap (λ z. and_arm g z (inlined_arms [] more)) (inlined_none s) ∙ ap (λ us. and_arm g s us) (arms_none more)

no_vars : (ds : List Decl) (names : List (List ℕ)) (vs : List Decl) → AreOwnVars ds names [] vs → vs ≡ []
no_vars ds names [] own = refl
no_vars ds names (v ∷ vs) own = absurd own

pub same_program : (p r : ProgramTree) → IsInlined p r → IsCallFree p → r ≡ p
same_program p r h free =
    let make : List Decl → List Procedure → Statement → ProgramTree = λ x y z. record { decls = x; procs = y; body = z } in
    let none : all_own_readers p ≡ [] = ap (λ qs. all_own_readers (record p { procs = qs })) free.procs in
    let vars : h.vars ≡ [] = no_vars p.decls (all_names p) h.vars (subst (λ xs. AreOwnVars p.decls (all_names p) xs h.vars) none h.own) in
    h.tree ∙ (ap (λ vs. inlined_with p vs) vars
    ∙ (ap (λ ds. make ds [] (inlined_statement (split_procedures p.decls [] 0 p.procs) p.body)) (append-nil p.decls)
    ∙ (ap (λ qs. make p.decls [] (inlined_statement (split_procedures p.decls [] 0 qs) p.body)) free.procs
    ∙ (ap (λ z. make p.decls [] z) (inlined_none p.body) ∙ ap (λ qs. make p.decls qs p.body) (sym free.procs)))))
