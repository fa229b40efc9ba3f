-- The inlined program has the shape of the grammar.
use Rattle.std.proofs.Common.{◌≡◌, ℕ, suc, ◌+◌, ◌≤◌, Bool, true, false, List, [], ◌∷◌, ◌++◌, length, Option, Some, None, cond, refl, sym, ap, subst, arith}
use Rattle.std.specs.Prelude.{All, slice_get}
use Rattle.std.specs.List.{AllByRecursion}
use Rattle.std.specs.Str.{bytes_eq}
use Rattle.std.proofs.lemmas.List.Elements.{recursion_from_All, All-from_recursion, All-append, All-nil}
use Rattle.chp_base.specs.Names.{IsName}
use Rattle.chp_syntax.specs.declared.tree.Ident.{Ident}
use Rattle.chp_syntax.specs.declared.tree.Decl.{Decl}
use Rattle.chp_syntax.specs.Reading.{arm_count}
use Rattle.chp_syntax.specs.Shape.{statement_count, IsShapedExpression, IsShapedStatement, AreShapedMembers, AreShapedArms, IsShapedDecl, IsShapedProcedure, IsShaped}
use Rattle.chp_syntax.specs.Trees.{Expression, Statement, skips, assigns, sends, receives, follows, besides, selects, repeats, calls, Statements, no_members, and_member, Arms, no_arms, and_arm, Procedure, ProgramTree}
use Rattle.call_merge.specs.CallSplits.{reads_itself, own_readers, assigns_by, split_statement, split_members, split_arms, split_procedures, own_names, AreOwnVars, all_names, all_own_readers}
use Rattle.call_merge.specs.Inlining.{procedure_named, body_or_call, inlined_statement, inlined_members, inlined_arms, inlined_with}

-- what holds of the body of each procedure holds of what a call is replaced by

here_or_there : (P : Statement → Type 0) (q : Procedure) (o : Option Procedure) (of : Ident) (b : Bool) → P q.body
    → ((o ≡ None → P (calls of)) → P (body_or_call o of)) → (cond b (Some q) o ≡ None → P (calls of)) → P (body_or_call (cond b (Some q) o) of)
here_or_there P q o of true here there none = here
here_or_there P q o of false here there none = there none

pub named_holds : (P : Statement → Type 0) (qs : List Procedure) (name : List ℕ) (of : Ident) → AllByRecursion (λ (q : Procedure). P q.body) qs
    → (procedure_named qs name ≡ None → P (calls of)) → P (body_or_call (procedure_named qs name) of)
named_holds P [] name of all none = none refl
named_holds P (q ∷ qs) name of all none =
    here_or_there P q (procedure_named qs name) of (bytes_eq q.name.name name) all.0 (named_holds P qs name of all.1) none

-- splitting keeps the shape

by_shaped : (o : Option (List ℕ)) (target : Ident) (e : Expression) → IsShapedExpression e → IsShapedStatement (assigns_by o target e)
by_shaped None target e h = h
by_shaped (Some name) target e h = (omega arith, (h, (tt, tt)))

chosen_shaped : (b : Bool) (s t : Statement) → IsShapedStatement s → IsShapedStatement t → IsShapedStatement (cond b s t)
chosen_shaped true s t p q = p
chosen_shaped false s t p q = q

members_counted : (ds : List Decl) (ns : List (List ℕ)) (n : ℕ) (us : Statements) → statement_count (split_members ds ns n us) ≡ statement_count us
members_counted ds ns n no_members = refl
members_counted ds ns n (and_member s more) = ap suc (members_counted ds ns (n + length (own_readers ds s)) more)

arms_counted : (ds : List Decl) (ns : List (List ℕ)) (n : ℕ) (xs : Arms) → arm_count (split_arms ds ns n xs) ≡ arm_count xs
arms_counted ds ns n no_arms = refl
arms_counted ds ns n (and_arm g s more) = ap suc (arms_counted ds ns (n + length (own_readers ds s)) more)

mutual
  split_shaped : (ds : List Decl) (ns : List (List ℕ)) (n : ℕ) (s : Statement) → IsShapedStatement s → IsShapedStatement (split_statement ds ns n s)
  split_shaped ds ns n (skips at) h = h
  split_shaped ds ns n (assigns target e) h =
      chosen_shaped (reads_itself ds target e) (assigns_by (slice_get ns n) target e) (assigns target e) (by_shaped (slice_get ns n) target e h) h
  split_shaped ds ns n (sends chan e) h = h
  split_shaped ds ns n (receives chan target) h = h
  split_shaped ds ns n (follows us) h = (subst (λ k. 2 ≤ k) (sym (members_counted ds ns n us)) h.0, members_shaped ds ns n us h.1)
  split_shaped ds ns n (besides us) h = (subst (λ k. 2 ≤ k) (sym (members_counted ds ns n us)) h.0, members_shaped ds ns n us h.1)
  split_shaped ds ns n (selects again xs) h = (
    subst (λ k. 1 ≤ k) (sym (arms_counted ds ns n xs)) h.0,
    subst (λ k. k ≤ 16) (sym (arms_counted ds ns n xs)) h.1,
    arms_shaped ds ns n xs h.2,
  )
  split_shaped ds ns n (repeats s) h = split_shaped ds ns n s h
  split_shaped ds ns n (calls of) h = h

  members_shaped : (ds : List Decl) (ns : List (List ℕ)) (n : ℕ) (us : Statements) → AreShapedMembers us → AreShapedMembers (split_members ds ns n us)
  members_shaped ds ns n no_members h = h
  members_shaped ds ns n (and_member s more) h =
      (split_shaped ds ns n s h.0, members_shaped ds ns (n + length (own_readers ds s)) more h.1)

  arms_shaped : (ds : List Decl) (ns : List (List ℕ)) (n : ℕ) (xs : Arms) → AreShapedArms xs → AreShapedArms (split_arms ds ns n xs)
  arms_shaped ds ns n no_arms h = h
  arms_shaped ds ns n (and_arm g s more) h =
      (h.0, split_shaped ds ns n s h.1, arms_shaped ds ns (n + length (own_readers ds s)) more h.2)

procedures_shaped : (ds : List Decl) (ns : List (List ℕ)) (n : ℕ) (qs : List Procedure) → AllByRecursion IsShapedProcedure qs
    → AllByRecursion (λ (q : Procedure). IsShapedStatement q.body) (split_procedures ds ns n qs)
procedures_shaped ds ns n [] all = tt
procedures_shaped ds ns n (q ∷ qs) all =
    (split_shaped ds ns n q.body all.0.body, procedures_shaped ds ns (n + length (own_readers ds q.body)) qs all.1)

-- and so does putting bodies in

inlined_counted : (qs : List Procedure) (us : Statements) → statement_count (inlined_members qs us) ≡ statement_count us
inlined_counted qs no_members = refl
inlined_counted qs (and_member s more) = ap suc (inlined_counted qs more)

inlined_arms_counted : (qs : List Procedure) (xs : Arms) → arm_count (inlined_arms qs xs) ≡ arm_count xs
inlined_arms_counted qs no_arms = refl
inlined_arms_counted qs (and_arm g s more) = ap suc (inlined_arms_counted qs more)

abbrev AreShapedBodies : List Procedure → Type 0
AreShapedBodies qs = AllByRecursion (λ (q : Procedure). IsShapedStatement q.body) qs

mutual
  inlined_shaped : (qs : List Procedure) → AreShapedBodies qs → (s : Statement) → IsShapedStatement s → IsShapedStatement (inlined_statement qs s)
  inlined_shaped qs all (skips at) h = h
  inlined_shaped qs all (assigns target e) h = h
  inlined_shaped qs all (sends chan e) h = h
  inlined_shaped qs all (receives chan target) h = h
  inlined_shaped qs all (follows us) h = (subst (λ k. 2 ≤ k) (sym (inlined_counted qs us)) h.0, inlined_members_shaped qs all us h.1)
  inlined_shaped qs all (besides us) h = (subst (λ k. 2 ≤ k) (sym (inlined_counted qs us)) h.0, inlined_members_shaped qs all us h.1)
  inlined_shaped qs all (selects again xs) h = (
    subst (λ k. 1 ≤ k) (sym (inlined_arms_counted qs xs)) h.0,
    subst (λ k. k ≤ 16) (sym (inlined_arms_counted qs xs)) h.1,
    inlined_arms_shaped qs all xs h.2,
  )
  inlined_shaped qs all (repeats s) h = inlined_shaped qs all s h
  inlined_shaped qs all (calls of) h = named_holds IsShapedStatement qs of.name of all (λ none. tt)

  inlined_members_shaped : (qs : List Procedure) → AreShapedBodies qs → (us : Statements) → AreShapedMembers us → AreShapedMembers (inlined_members qs us)
  inlined_members_shaped qs all no_members h = h
  inlined_members_shaped qs all (and_member s more) h = (inlined_shaped qs all s h.0, inlined_members_shaped qs all more h.1)

  inlined_arms_shaped : (qs : List Procedure) → AreShapedBodies qs → (xs : Arms) → AreShapedArms xs → AreShapedArms (inlined_arms qs xs)
  inlined_arms_shaped qs all no_arms h = h
  inlined_arms_shaped qs all (and_arm g s more) h = (h.0, inlined_shaped qs all s h.1, inlined_arms_shaped qs all more h.2)

-- the variables that are declared

vars_shaped : (ds : List Decl) (names : List (List ℕ)) (xs : List Ident) (vs : List Decl) → AreOwnVars ds names xs vs
    → AllByRecursion (λ (d : Decl). IsName d.name.name) vs → AllByRecursion IsShapedDecl vs
vars_shaped ds names [] [] own named = tt
vars_shaped ds names [] (v ∷ vs) own named = absurd own
vars_shaped ds names (x ∷ xs) [] own named = absurd own
vars_shaped ds names (x ∷ xs) (v ∷ vs) own named = (
  record {
    name = named.0;
    first = λ no. absurd (no (ap (λ (d : Decl). d.kind) own.1));
    first_at = λ no. absurd (no (ap (λ (d : Decl). d.kind) own.1));
  },
  vars_shaped ds (names ++ v.name.name ∷ []) xs vs own.2 named.1,
)

pub program_shaped : (p r : ProgramTree) (vars : List Decl) → AreOwnVars p.decls (all_names p) (all_own_readers p) vars → r ≡ inlined_with p vars
    → IsShaped p → All (λ (d : Decl). IsName d.name.name) vars → IsShaped r
program_shaped p r vars own is shaped named =
    subst (λ (t : ProgramTree). IsShaped t) (sym is) (record {
      decls = All-append IsShapedDecl p.decls vars shaped.decls (All-from_recursion IsShapedDecl vars
          (vars_shaped p.decls (all_names p) (all_own_readers p) vars own (recursion_from_All (λ (d : Decl). IsName d.name.name) vars named)));
      procs = All-nil IsShapedProcedure;
      body = inlined_shaped (split_procedures p.decls (own_names vars) 0 p.procs)
          (procedures_shaped p.decls (own_names vars) 0 p.procs (recursion_from_All IsShapedProcedure p.procs shaped.procs)) p.body shaped.body;
    })
