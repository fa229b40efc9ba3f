-- No call is left in the inlined program.
use Rattle.std.proofs.Common.{◌≡◌, ◌≢◌, ℕ, ◌+◌, Bool, true, false, List, [], ◌∷◌, ◌++◌, length, Option, Some, None, cond, refl, sym, ap, ◌∙◌, subst, ⊎_elim, arith}
use Rattle.std.specs.Prelude.{◌||◌, Contains, slice_get}
use Rattle.std.specs.List.{AllByRecursion}
use Rattle.std.specs.Str.{bytes_eq}
use Rattle.std.proofs.lemmas.List.Elements.{Contains-append_right}
use Rattle.std.proofs.lemmas.Slice.Eq.{bytes_eq-Decides}
use Rattle.chp_base.specs.declared.span.Span.{Span}
use Rattle.chp_syntax.specs.declared.tree.Ident.{Ident}
use Rattle.chp_syntax.specs.declared.tree.Decl.{Decl}
use Rattle.chp_syntax.specs.Trees.{Expression, Statement, skips, assigns, sends, receives, follows, besides, selects, repeats, calls, Statements, no_members, and_member, Arms, no_arms, and_arm, Procedure, ProgramTree}
use Rattle.width_check.specs.Calls.{has_call, some_has_call, arm_has_call, IsCallFree}
use Rattle.width_check.proofs.Least.{in_rest, front_or_rest, no_item}
use Rattle.call_merge.specs.CallFaults.{IsNestedCall, IsUnknownCall, MeetsCalling}
use Rattle.call_merge.specs.CallSites.{calls_in, calls_in_each, calls_in_arms, nested_calls}
use Rattle.call_merge.specs.CallSplits.{reads_itself, own_readers, assigns_by, split_statement, split_members, split_arms, split_procedures, own_names}
use Rattle.call_merge.specs.Inlining.{procedure_named, inlined_statement, inlined_members, inlined_arms, IsInlined}
use Rattle.call_merge.proofs.Shapes.{named_holds}

-- statements that call nothing

left_none : {A : Type 0} (xs ys : List A) → xs ++ ys ≡ [] → xs ≡ []
left_none [] ys h = refl
left_none (x ∷ xs) ys h = absurd (cc h)

right_none : {A : Type 0} (xs ys : List A) → xs ++ ys ≡ [] → ys ≡ []
right_none [] ys h = h
right_none (x ∷ xs) ys h = absurd (cc h)

neither : (a b : Bool) → a ≡ false → b ≡ false → (a || b) ≡ false
neither true b p q = p
neither false b p q = q

mutual
  none_called : (s : Statement) → calls_in s ≡ [] → has_call s ≡ false
  none_called (skips at) h = refl
  none_called (assigns target e) h = refl
  none_called (sends chan e) h = refl
  none_called (receives chan target) h = refl
  none_called (follows us) h = none_called_each us h
  none_called (besides us) h = none_called_each us h
  none_called (selects again xs) h = none_called_arms xs h
  none_called (repeats s) h = none_called s h
  none_called (calls of) h = absurd (cc h)

  none_called_each : (us : Statements) → calls_in_each us ≡ [] → some_has_call us ≡ false
  none_called_each no_members h = refl
  none_called_each (and_member s more) h = neither (has_call s) (some_has_call more) (none_called s (left_none (calls_in s) (calls_in_each more) h))
      (none_called_each more (right_none (calls_in s) (calls_in_each more) h))

  none_called_arms : (xs : Arms) → calls_in_arms xs ≡ [] → arm_has_call xs ≡ false
  none_called_arms no_arms h = refl
  none_called_arms (and_arm g s more) h = neither (has_call s) (arm_has_call more) (none_called s (left_none (calls_in s) (calls_in_arms more) h))
      (none_called_arms more (right_none (calls_in s) (calls_in_arms more) h))

-- splitting makes no calls

by_calls_none : (b : Bool) (o : Option (List ℕ)) (target : Ident) (e : Expression) → has_call (cond b (assigns_by o target e) (assigns target e)) ≡ false
by_calls_none true None target e = refl
by_calls_none true (Some name) target e = refl
by_calls_none false o target e = refl

mutual
  split_calls : (ds : List Decl) (ns : List (List ℕ)) (n : ℕ) (s : Statement) → has_call (split_statement ds ns n s) ≡ has_call s
  split_calls ds ns n (skips at) = refl
  split_calls ds ns n (assigns target e) = by_calls_none (reads_itself ds target e) (slice_get ns n) target e
  split_calls ds ns n (sends chan e) = refl
  split_calls ds ns n (receives chan target) = refl
  split_calls ds ns n (follows us) = split_calls_each ds ns n us
  split_calls ds ns n (besides us) = split_calls_each ds ns n us
  split_calls ds ns n (selects again xs) = split_calls_arms ds ns n xs
  split_calls ds ns n (repeats s) = split_calls ds ns n s
  split_calls ds ns n (calls of) = refl

  split_calls_each : (ds : List Decl) (ns : List (List ℕ)) (n : ℕ) (us : Statements) → some_has_call (split_members ds ns n us) ≡ some_has_call us
  split_calls_each ds ns n no_members = refl
  split_calls_each ds ns n (and_member s more) =
      ap (λ b. b || some_has_call (split_members ds ns (n + length (own_readers ds s)) more)) (split_calls ds ns n s)
      ∙ ap (λ b. has_call s || b) (split_calls_each ds ns (n + length (own_readers ds s)) more)

  split_calls_arms : (ds : List Decl) (ns : List (List ℕ)) (n : ℕ) (xs : Arms) → arm_has_call (split_arms ds ns n xs) ≡ arm_has_call xs
  split_calls_arms ds ns n no_arms = refl
  split_calls_arms ds ns n (and_arm g s more) =
      ap (λ b. b || arm_has_call (split_arms ds ns (n + length (own_readers ds s)) more)) (split_calls ds ns n s)
      ∙ ap (λ b. has_call s || b) (split_calls_arms ds ns (n + length (own_readers ds s)) more)

-- the bodies of procedures call nothing

abbrev AreCallless : List Procedure → Type 0
AreCallless qs = AllByRecursion (λ (q : Procedure). has_call q.body ≡ false) qs

bodies_callless : (ds : List Decl) (ns : List (List ℕ)) (n : ℕ) (qs : List Procedure) → nested_calls qs ≡ [] → AreCallless (split_procedures ds ns n qs)
bodies_callless ds ns n [] h = tt
bodies_callless ds ns n (q ∷ qs) h = (
  split_calls ds ns n q.body ∙ none_called q.body (left_none (calls_in q.body) (nested_calls qs) h),
  bodies_callless ds ns (n + length (own_readers ds q.body)) qs (right_none (calls_in q.body) (nested_calls qs) h),
)

nothing_there : {A : Type 0} (xs : List A) → ((x : A) → ¬ Contains xs x) → xs ≡ []
nothing_there [] none = refl
nothing_there (x ∷ xs) none = absurd (none x (0, omega arith, refl))

pub none_nested : (p : ProgramTree) → ((s : Span) → ¬ IsNestedCall p s) → nested_calls p.procs ≡ []
none_nested p flat = nothing_there (nested_calls p.procs) (λ of c. flat of.at (record { call = of; among = c; at = refl }))

-- each call is of a procedure

abbrev pub AreNamed : List Procedure → List Ident → Type 0
AreNamed qs of = AllByRecursion (λ (i : Ident). procedure_named qs i.name ≢ None) of

all_left : {A : Type 0} (P : A → Type 0) (xs ys : List A) → AllByRecursion P (xs ++ ys) → AllByRecursion P xs
all_left P [] ys all = tt
all_left P (x ∷ xs) ys all = (all.0, all_left P xs ys all.1)

all_right : {A : Type 0} (P : A → Type 0) (xs ys : List A) → AllByRecursion P (xs ++ ys) → AllByRecursion P ys
all_right P [] ys all = all
all_right P (x ∷ xs) ys all = all_right P xs ys all.1

all_among : {A : Type 0} (P : A → Type 0) (xs : List A) → ((x : A) → Contains xs x → P x) → AllByRecursion P xs
all_among P [] each = tt
all_among P (x ∷ xs) each = (each x (0, omega arith, refl), all_among P xs (λ y c. each y (in_rest x y xs c)))

none_kept : (b : Bool) (x y : Procedure) (o u : Option Procedure) → (o ≡ None → u ≡ None) → cond b (Some x) o ≡ None → cond b (Some y) u ≡ None
none_kept true x y o u rest h = absurd (cc h)
none_kept false x y o u rest h = rest h

named_before : (ds : List Decl) (ns : List (List ℕ)) (n : ℕ) (qs : List Procedure) (name : List ℕ)
    → procedure_named (split_procedures ds ns n qs) name ≡ None → procedure_named qs name ≡ None
named_before ds ns n [] name h = refl
named_before ds ns n (q ∷ qs) name h =
    none_kept (bytes_eq q.name.name name) (record { name = q.name; body = split_statement ds ns n q.body }) q
    (procedure_named (split_procedures ds ns (n + length (own_readers ds q.body)) qs) name) (procedure_named qs name)
    (named_before ds ns (n + length (own_readers ds q.body)) qs name) h

none_named : (qs : List Procedure) (name : List ℕ) → procedure_named qs name ≡ None → (q : Procedure) → Contains qs q → q.name.name ≢ name
none_named [] name none q c = absurd (no_item q c)
none_named (r ∷ qs) name none q c = by_test (bytes_eq r.name.name name) refl (λ h k. none_named qs name h q k)
  where
    by_test : (b : Bool) → bytes_eq r.name.name name ≡ b → (procedure_named qs name ≡ None → Contains qs q → q.name.name ≢ name) → q.name.name ≢ name
    by_test true so rest same = absurd (let h = rw so at none in cc h)
    by_test false so rest same =
        ⊎_elim
        (λ (e : r ≡ q). let t : true ≡ false = sym ((bytes_eq-Decides r.name.name name).1 (ap (λ (x : Procedure). x.name.name) e ∙ same)) ∙ so in cc t)
        (λ k. rest (rw so at none) k same) (front_or_rest r q qs c)

pub calls_named : (p : ProgramTree) (ns : List (List ℕ)) → ((s : Span) → ¬ IsUnknownCall p s)
    → AreNamed (split_procedures p.decls ns 0 p.procs) (calls_in p.body)
calls_named p ns known = all_among (λ (i : Ident). procedure_named (split_procedures p.decls ns 0 p.procs) i.name ≢ None) (calls_in p.body)
    (λ of c none. known of.at (record {
      call = of;
      among = Contains-append_right (nested_calls p.procs) (calls_in p.body) of c;
      unknown = λ q k. none_named p.procs of.name (named_before p.decls ns 0 p.procs of.name none) q k;
      at = refl;
    }))

-- so each call is gone

mutual
  calls_gone : (qs : List Procedure) → AreCallless qs → (s : Statement) → AreNamed qs (calls_in s) → has_call (inlined_statement qs s) ≡ false
  calls_gone qs all (skips at) named = refl
  calls_gone qs all (assigns target e) named = refl
  calls_gone qs all (sends chan e) named = refl
  calls_gone qs all (receives chan target) named = refl
  calls_gone qs all (follows us) named = calls_gone_each qs all us named
  calls_gone qs all (besides us) named = calls_gone_each qs all us named
  calls_gone qs all (selects again xs) named = calls_gone_arms qs all xs named
  calls_gone qs all (repeats s) named = calls_gone qs all s named
  calls_gone qs all (calls of) named = named_holds (λ s. has_call s ≡ false) qs of.name of all (λ none. absurd (named.0 none))

  calls_gone_each : (qs : List Procedure) → AreCallless qs → (us : Statements) → AreNamed qs (calls_in_each us)
      → some_has_call (inlined_members qs us) ≡ false
  calls_gone_each qs all no_members named = refl
  calls_gone_each qs all (and_member s more) named =
      neither (has_call (inlined_statement qs s)) (some_has_call (inlined_members qs more))
      (calls_gone qs all s (all_left (λ (i : Ident). procedure_named qs i.name ≢ None) (calls_in s) (calls_in_each more) named))
      (calls_gone_each qs all more (all_right (λ (i : Ident). procedure_named qs i.name ≢ None) (calls_in s) (calls_in_each more) named))

  calls_gone_arms : (qs : List Procedure) → AreCallless qs → (xs : Arms) → AreNamed qs (calls_in_arms xs)
      → arm_has_call (inlined_arms qs xs) ≡ false
  calls_gone_arms qs all no_arms named = refl
  calls_gone_arms qs all (and_arm g s more) named =
      neither (has_call (inlined_statement qs s)) (arm_has_call (inlined_arms qs more))
      (calls_gone qs all s (all_left (λ (i : Ident). procedure_named qs i.name ≢ None) (calls_in s) (calls_in_arms more) named))
      (calls_gone_arms qs all more (all_right (λ (i : Ident). procedure_named qs i.name ≢ None) (calls_in s) (calls_in_arms more) named))

pub program_call_free : (p r : ProgramTree) → IsInlined p r → MeetsCalling p → IsCallFree r
program_call_free p r h meets =
    subst (λ (t : ProgramTree). IsCallFree t) (sym h.tree) (record {
      procs = refl;
      body = calls_gone (split_procedures p.decls (own_names h.vars) 0 p.procs)
          (bodies_callless p.decls (own_names h.vars) 0 p.procs (none_nested p meets.named.1.0)) p.body (calls_named p (own_names h.vars) meets.named.1.1.0);
    })
