-- How many variables are declared: five forms of the inlined program at least come with each.
use Rattle.std.proofs.Common.{◌≡◌, ℕ, zero, suc, ◌+◌, ◌*◌, ◌<◌, ◌≤◌, Bool, true, false, List, [], ◌∷◌, ◌++◌, length, map, Option, Some, None, cond, refl, sym, ap, ◌∙◌, subst, arith, length-append}
use Rattle.std.specs.Prelude.{◌||◌, Contains, slice_get}
use Rattle.std.specs.List.{list_any, AllByRecursion, IsDistinct}
use Rattle.std.specs.Str.{bytes_eq}
use Rattle.std.proofs.lemmas.List.{length-map}
use Rattle.std.proofs.lemmas.Slice.Eq.{bytes_eq-Decides}
use Rattle.chp_base.specs.declared.span.Span.{Span}
use Rattle.chp_syntax.specs.declared.tree.Ident.{Ident}
use Rattle.chp_syntax.specs.declared.tree.Decl.{Decl}
use Rattle.chp_syntax.specs.Trees.{Expression, number, whole, slice, bit, join, negation, chain, Statement, skips, assigns, sends, receives, follows, besides, selects, repeats, calls, Statements, no_members, and_member, Arms, no_arms, and_arm, Procedure, ProgramTree}
use Rattle.width_check.proofs.Doubles.{any_there}
use Rattle.width_check.proofs.Least.{in_rest}
use Rattle.call_merge.specs.CallFaults.{IsDoubleProcedure, IsUnusedProcedure, MeetsCalling}
use Rattle.call_merge.specs.CallForms.{expression_forms, statement_forms, forms_of_members, forms_of_arms, most_forms, most_own_vars}
use Rattle.call_merge.specs.CallSites.{calls_in, calls_in_each, calls_in_arms, nested_calls}
use Rattle.call_merge.specs.CallSplits.{reads_itself, own_readers, own_readers_each, own_readers_arms, all_own_readers, assigns_by, split_statement, split_members, split_arms, split_procedures, own_names, all_names}
use Rattle.call_merge.specs.Inlining.{procedure_named, body_or_call, inlined_statement, inlined_members, inlined_arms, IsInlined}
use Rattle.call_merge.proofs.CallsAlone.{in_map}
use Rattle.call_merge.proofs.CallsGone.{none_nested}
use Rattle.call_merge.proofs.SplitSteps.{readers_of, names_kept}
use Rattle.call_merge.proofs.Whole.{own_counted}

-- a statement that is split has five forms for each variable

some_form : (e : Expression) → 1 ≤ expression_forms e
some_form (number n at) = omega arith
some_form (whole of) = omega arith
some_form (slice of high low at) = omega arith
some_form (bit of place at) = omega arith
some_form (join parts at) = omega arith
some_form (negation e at) = omega arith
some_form (chain e more at) = omega arith

some_name : (names : List (List ℕ)) (n : ℕ) → n < length names → (name : List ℕ) × (slice_get names n ≡ Some name)
some_name [] n less = absurd (omega (arith, less))
some_name (x ∷ xs) zero less = (x, refl)
some_name (x ∷ xs) (suc n) less = some_name xs n (omega (arith, less))

assign_counted : (ns : List (List ℕ)) (n : ℕ) (target : Ident) (e : Expression) (b : Bool) → n + length (cond b (target ∷ []) []) ≤ length ns
    → 5 * length (cond b (target ∷ []) []) ≤ statement_forms (cond b (assigns_by (slice_get ns n) target e) (assigns target e))
assign_counted ns n target e true room =
    let name = some_name ns n (omega (arith, room)) in
    let some = some_form e in
    rw name.1 (omega (arith, some))
assign_counted ns n target e false room = omega arith

joined : (a b x y f g : ℕ) → 5 * x ≤ f → 5 * y ≤ g → a ≡ x + y → b ≡ f + g → 5 * a ≤ b
joined a b x y f g p q r s = omega (arith, p, q, r, s)

mutual
  split_counted : (ds : List Decl) (ns : List (List ℕ)) (n : ℕ) (s : Statement) → n + length (own_readers ds s) ≤ length ns
      → 5 * length (own_readers ds s) ≤ statement_forms (split_statement ds ns n s)
  split_counted ds ns n (skips at) room = omega arith
  split_counted ds ns n (assigns target e) room = assign_counted ns n target e (reads_itself ds target e) room
  split_counted ds ns n (sends chan e) room = omega arith
  split_counted ds ns n (receives chan target) room = omega arith
  split_counted ds ns n (follows us) room = let h = members_counted ds ns n us room in omega (arith, h)
  split_counted ds ns n (besides us) room = let h = members_counted ds ns n us room in omega (arith, h)
  split_counted ds ns n (selects again xs) room = let h = arms_counted ds ns n xs room in omega (arith, h)
  split_counted ds ns n (repeats s) room = let h = split_counted ds ns n s room in omega (arith, h)
  split_counted ds ns n (calls of) room = omega arith

  members_counted : (ds : List Decl) (ns : List (List ℕ)) (n : ℕ) (us : Statements) → n + length (own_readers_each ds us) ≤ length ns
      → 5 * length (own_readers_each ds us) ≤ forms_of_members (split_members ds ns n us)
  members_counted ds ns n no_members room = omega arith
  members_counted ds ns n (and_member s more) room =
      let xs = own_readers ds s in
      let ys = own_readers_each ds more in
      let both : length (xs ++ ys) ≡ length xs + length ys = length-append xs ys in
      let here = split_counted ds ns n s (omega (arith, room, both)) in
      let rest = members_counted ds ns (n + length xs) more (omega (arith, room, both)) in
      joined (length (xs ++ ys)) _ (length xs) (length ys) _ _ here rest both refl

  arms_counted : (ds : List Decl) (ns : List (List ℕ)) (n : ℕ) (us : Arms) → n + length (own_readers_arms ds us) ≤ length ns
      → 5 * length (own_readers_arms ds us) ≤ forms_of_arms (split_arms ds ns n us)
  arms_counted ds ns n no_arms room = omega arith
  arms_counted ds ns n (and_arm g s more) room =
      let xs = own_readers ds s in
      let ys = own_readers_arms ds more in
      let both : length (xs ++ ys) ≡ length xs + length ys = length-append xs ys in
      let here = split_counted ds ns n s (omega (arith, room, both)) in
      let rest = arms_counted ds ns (n + length xs) more (omega (arith, room, both)) in
      omega (arith, here, rest, both)

-- the forms of all bodies

abbrev body_forms : List Procedure → ℕ
body_forms [] = 0
body_forms (q ∷ qs) = statement_forms q.body + body_forms qs

abbrev readers_in : List Decl → List Procedure → ℕ
readers_in ds [] = 0
readers_in ds (q ∷ qs) = length (own_readers ds q.body) + readers_in ds qs

bodies_counted : (ds : List Decl) (ns : List (List ℕ)) (n : ℕ) (qs : List Procedure) → n + readers_in ds qs ≤ length ns
    → 5 * readers_in ds qs ≤ body_forms (split_procedures ds ns n qs)
bodies_counted ds ns n [] room = omega arith
bodies_counted ds ns n (q ∷ qs) room =
    let k = length (own_readers ds q.body) in
    let here = split_counted ds ns n q.body (omega (arith, room)) in
    let rest = bodies_counted ds ns (n + k) qs (omega (arith, room)) in
    omega (arith, here, rest)

-- the forms of what calls of these names are replaced by are among those of the inlined statement

abbrev forms_for : List Procedure → List ℕ → ℕ
forms_for qs name = statement_forms (body_or_call (procedure_named qs name) (record { name = name; at = record { from = 0; to = 0 } }))

abbrev forms_of_calls : List Procedure → List Ident → ℕ
forms_of_calls qs [] = 0
forms_of_calls qs (of ∷ more) = forms_for qs of.name + forms_of_calls qs more

one_form : (o : Option Procedure) (of to : Ident) → statement_forms (body_or_call o of) ≡ statement_forms (body_or_call o to)
one_form None of to = refl
one_form (Some q) of to = refl

forms_append : (qs : List Procedure) (xs ys : List Ident) → forms_of_calls qs (xs ++ ys) ≡ forms_of_calls qs xs + forms_of_calls qs ys
forms_append qs [] ys = omega arith
forms_append qs (x ∷ xs) ys = let h = forms_append qs xs ys in omega (arith, h)

mutual
  calls_counted : (qs : List Procedure) (s : Statement) → forms_of_calls qs (calls_in s) ≤ statement_forms (inlined_statement qs s)
  calls_counted qs (skips at) = omega arith
  calls_counted qs (assigns target e) = omega arith
  calls_counted qs (sends chan e) = omega arith
  calls_counted qs (receives chan target) = omega arith
  calls_counted qs (follows us) = let h = calls_counted_each qs us in omega (arith, h)
  calls_counted qs (besides us) = let h = calls_counted_each qs us in omega (arith, h)
  calls_counted qs (selects again xs) = let h = calls_counted_arms qs xs in omega (arith, h)
  calls_counted qs (repeats s) = let h = calls_counted qs s in omega (arith, h)
  calls_counted qs (calls of) =
      let same = one_form (procedure_named qs of.name) of (record { name = of.name; at = record { from = 0; to = 0 } }) in omega (arith, same)

  calls_counted_each : (qs : List Procedure) (us : Statements) → forms_of_calls qs (calls_in_each us) ≤ forms_of_members (inlined_members qs us)
  calls_counted_each qs no_members = omega arith
  calls_counted_each qs (and_member s more) =
      let here = calls_counted qs s in
      let rest = calls_counted_each qs more in
      let both = forms_append qs (calls_in s) (calls_in_each more) in
      omega (arith, here, rest, both)

  calls_counted_arms : (qs : List Procedure) (us : Arms) → forms_of_calls qs (calls_in_arms us) ≤ forms_of_arms (inlined_arms qs us)
  calls_counted_arms qs no_arms = omega arith
  calls_counted_arms qs (and_arm g s more) =
      let here = calls_counted qs s in
      let rest = calls_counted_arms qs more in
      let both = forms_append qs (calls_in s) (calls_in_arms more) in
      omega (arith, here, rest, both)

-- distinct names that are all among others: what they weigh the others weigh too

abbrev weight : (List ℕ → ℕ) → List (List ℕ) → ℕ
weight w [] = 0
weight w (n ∷ ns) = w n + weight w ns

abbrev without : List ℕ → List (List ℕ) → List (List ℕ)
without n [] = []
without n (m ∷ ms) = cond (bytes_eq n m) (without n ms) (m ∷ without n ms)

no_heavier : (w : List ℕ → ℕ) (n : List ℕ) (ms : List (List ℕ)) → weight w (without n ms) ≤ weight w ms
no_heavier w n [] = omega arith
no_heavier w n (m ∷ ms) = by_test (bytes_eq n m) (no_heavier w n ms)
  where
    by_test : (b : Bool) → weight w (without n ms) ≤ weight w ms → weight w (cond b (without n ms) (m ∷ without n ms)) ≤ w m + weight w ms
    by_test true h = omega (arith, h)
    by_test false h = omega (arith, h)

one_lighter : (w : List ℕ → ℕ) (n : List ℕ) (ms : List (List ℕ)) → list_any (bytes_eq n) ms ≡ true → w n + weight w (without n ms) ≤ weight w ms
one_lighter w n [] there = absurd (cc there)
one_lighter w n (m ∷ ms) there = by_test (bytes_eq n m) refl there (λ h. one_lighter w n ms h)
  where
    by_test : (b : Bool) → bytes_eq n m ≡ b → (b || list_any (bytes_eq n) ms) ≡ true
        → (list_any (bytes_eq n) ms ≡ true → w n + weight w (without n ms) ≤ weight w ms)
        → w n + weight w (cond b (without n ms) (m ∷ without n ms)) ≤ w m + weight w ms
    by_test true so h rest =
        let same : w n ≡ w m = ap w ((bytes_eq-Decides n m).0 so) in
        let less = no_heavier w n ms in
        omega (arith, same, less)
    by_test false so h rest = let less = rest h in omega (arith, less)

still_there : (k n : List ℕ) (ms : List (List ℕ)) → bytes_eq n k ≡ false → list_any (bytes_eq k) ms ≡ true → list_any (bytes_eq k) (without n ms) ≡ true
still_there k n [] apart there = there
still_there k n (m ∷ ms) apart there =
    by_tests (bytes_eq n m) (bytes_eq k m) refl refl there (λ h. still_there k n ms apart h)
  where
    by_tests : (b c : Bool) → bytes_eq n m ≡ b → bytes_eq k m ≡ c → (c || list_any (bytes_eq k) ms) ≡ true
        → (list_any (bytes_eq k) ms ≡ true → list_any (bytes_eq k) (without n ms) ≡ true)
        → list_any (bytes_eq k) (cond b (without n ms) (m ∷ without n ms)) ≡ true
    by_tests true true p q h rest =
        let same : n ≡ k = (bytes_eq-Decides n m).0 p ∙ sym ((bytes_eq-Decides k m).0 q) in
        let t : true ≡ false = sym ((bytes_eq-Decides n k).1 same) ∙ apart in
        absurd (cc t)
    by_tests true false p q h rest = rest h
    by_tests false true p q h rest = rw q refl
    by_tests false false p q h rest = rw q (rest h)

abbrev pub AreThere : List (List ℕ) → List (List ℕ) → Type 0
AreThere ms ns = AllByRecursion (λ n. list_any (bytes_eq n) ms ≡ true) ns

all_still_there : (n : List ℕ) (ms ns : List (List ℕ)) → AllByRecursion (λ k. bytes_eq n k ≡ false) ns → AreThere ms ns → AreThere (without n ms) ns
all_still_there n ms [] apart there = tt
all_still_there n ms (k ∷ ks) apart there = (still_there k n ms apart.0 there.0, all_still_there n ms ks apart.1 there.1)

weighed : (w : List ℕ → ℕ) (ns ms : List (List ℕ)) → IsDistinct bytes_eq ns → AreThere ms ns → weight w ns ≤ weight w ms
unfolding IsDistinct
weighed w [] ms distinct there = omega arith
weighed w (n ∷ ns) ms distinct there =
    let one = one_lighter w n ms there.0 in
    let rest = weighed w ns (without n ms) distinct.1 (all_still_there n ms ns distinct.0 there.1) in
    omega (arith, one, rest)

-- procedures, none of a name twice, each of which is called

abbrev pub names_in : List Procedure → List (List ℕ)
names_in qs = map (λ (q : Procedure). q.name.name) qs

abbrev pub called : List Ident → List (List ℕ)
called of = map (λ (i : Ident). i.name) of

calls_weighed : (qs : List Procedure) (of : List Ident) → forms_of_calls qs of ≡ weight (forms_for qs) (called of)
calls_weighed qs [] = refl
calls_weighed qs (x ∷ xs) = ap (λ k. forms_for qs x.name + k) (calls_weighed qs xs)

abbrev AreFound : List Procedure → List Procedure → Type 0
AreFound qs us = AllByRecursion (λ (q : Procedure). procedure_named qs q.name.name ≡ Some q) us

found_behind : (q : Procedure) (qs us : List Procedure) → AllByRecursion (λ n. bytes_eq q.name.name n ≡ false) (names_in us) → AreFound qs us
    → AreFound (q ∷ qs) us
found_behind q qs [] apart found = tt
found_behind q qs (u ∷ us) apart found = (rw apart.0 found.0, found_behind q qs us apart.1 found.1)

all_found : (qs : List Procedure) → IsDistinct bytes_eq (names_in qs) → AreFound qs qs
unfolding IsDistinct
all_found [] distinct = tt
all_found (q ∷ qs) distinct = (
  (let same = (bytes_eq-Decides q.name.name q.name.name).1 refl in rw same refl),
  found_behind q qs qs distinct.0 (all_found qs distinct.1),
)

bodies_weighed : (qs us : List Procedure) → AreFound qs us → body_forms us ≡ weight (forms_for qs) (names_in us)
bodies_weighed qs [] found = refl
bodies_weighed qs (u ∷ us) found = ap (λ k. statement_forms u.body + k) (bodies_weighed qs us found.1) ∙ rw found.0 refl

bodies_among : (qs : List Procedure) (s : Statement) → IsDistinct bytes_eq (names_in qs) → AreThere (called (calls_in s)) (names_in qs)
    → body_forms qs ≤ statement_forms (inlined_statement qs s)
bodies_among qs s distinct there =
    let here = bodies_weighed qs qs (all_found qs distinct) in
    let others = calls_weighed qs (calls_in s) in
    let least = weighed (forms_for qs) (names_in qs) (called (calls_in s)) distinct there in
    let most = calls_counted qs s in
    omega (arith, here, others, least, most)

abbrev pub AreApart : List (List ℕ) → Type 0
AreApart ns = (k j : ℕ) (name : List ℕ) → k < j → slice_get ns k ≡ Some name → ¬ (slice_get ns j ≡ Some name)

apart_here : (n : List ℕ) (ns : List (List ℕ)) → ((j : ℕ) → ¬ (slice_get ns j ≡ Some n)) → AllByRecursion (λ k. bytes_eq n k ≡ false) ns
apart_here n [] none = tt
apart_here n (k ∷ ks) none = (by_test (bytes_eq n k) refl, apart_here n ks (λ j. none (suc j)))
  where
    by_test : (b : Bool) → bytes_eq n k ≡ b → bytes_eq n k ≡ false
    by_test false so = so
    by_test true so = absurd (none 0 (ap (λ (m : List ℕ). Some m) (sym ((bytes_eq-Decides n k).0 so))))

pub distinct_names : (ns : List (List ℕ)) → AreApart ns → IsDistinct bytes_eq ns
unfolding IsDistinct
distinct_names [] apart = tt
distinct_names (n ∷ ns) apart = (
  apart_here n ns (λ j is. apart 0 (suc j) n (omega arith) refl is),
  distinct_names ns (λ k j name less a b. apart (suc k) (suc j) name (omega (arith, less)) a b),
)

got_procedure : (qs : List Procedure) (k : ℕ) (name : List ℕ) → slice_get (names_in qs) k ≡ Some name →
    (q : Procedure) × (slice_get qs k ≡ Some q) × (q.name.name ≡ name)
got_procedure [] k name is = absurd (cc is)
got_procedure (q ∷ qs) zero name is = (q, refl, let same : q.name.name ≡ name = cc is in same)
got_procedure (q ∷ qs) (suc k) name is = got_procedure qs k name is

pub procedures_distinct : (p : ProgramTree) → ((s : Span) → ¬ IsDoubleProcedure p s) → IsDistinct bytes_eq (names_in p.procs)
procedures_distinct p none = distinct_names (names_in p.procs) (λ k j name less first second.
    let a = got_procedure p.procs k name first in
    let b = got_procedure p.procs j name second in
    none b.0.name.at (record {
      earlier = k;
      later = j;
      order = less;
      first = a.0;
      second = b.0;
      first_is = a.1;
      second_is = b.1;
      same = a.2 ∙ sym b.2;
      at = refl;
    }))

each_there : (ms : List (List ℕ)) (us : List Procedure) → ((q : Procedure) → Contains us q → list_any (bytes_eq q.name.name) ms ≡ true)
    → AreThere ms (names_in us)
each_there ms [] each = tt
each_there ms (u ∷ us) each = (each u (0, omega arith, refl), each_there ms us (λ q c. each q (in_rest u q us c)))

call_there : (xs : List Ident) (of : Ident) → Contains xs of → list_any (bytes_eq of.name) (called xs) ≡ true
call_there xs of c = any_there of.name (called xs) (in_map (λ (i : Ident). i.name) xs of c)

pub all_called : (p : ProgramTree) → nested_calls p.procs ≡ [] → ((s : Span) → ¬ IsUnusedProcedure p s) → AreThere (called (calls_in p.body)) (names_in p.procs)
all_called p flat used = each_there (called (calls_in p.body)) p.procs (λ q c. by_test q c (list_any (bytes_eq q.name.name) (called (calls_in p.body))) refl)
  where
    by_test : (q : Procedure) → Contains p.procs q → (b : Bool) → list_any (bytes_eq q.name.name) (called (calls_in p.body)) ≡ b
        → list_any (bytes_eq q.name.name) (called (calls_in p.body)) ≡ true
    by_test q c true so = so
    by_test q c false so = absurd (used q.name.at (record {
      procedure = q;
      among = c;
      unused = λ call k same.
          let here : Contains (calls_in p.body) call = subst (λ (xs : List Ident). Contains (xs ++ calls_in p.body) call) flat k in
          let yes : list_any (bytes_eq q.name.name) (called (calls_in p.body)) ≡ true =
          subst (λ (n : List ℕ). list_any (bytes_eq n) (called (calls_in p.body)) ≡ true) same (call_there (calls_in p.body) call here) in
          let clash : true ≡ false = sym yes ∙ so in
          cc clash;
      at = refl;
    }))

-- the variables of a program

readers_counted : (ds : List Decl) (qs : List Procedure) → length (readers_of ds qs) ≡ readers_in ds qs
readers_counted ds [] = refl
readers_counted ds (q ∷ qs) = length-append (own_readers ds q.body) (readers_of ds qs) ∙ ap (λ k. length (own_readers ds q.body) + k) (readers_counted ds qs)

pub few_vars : (p r : ProgramTree) (h : IsInlined p r) → MeetsCalling p → 5 * length h.vars ≤ statement_forms r.body
few_vars p r h meets =
    let bodies = split_procedures p.decls (own_names h.vars) 0 p.procs in
    let names : map (λ (q : Procedure). q.name.name) bodies ≡ names_in p.procs = names_kept p.decls (own_names h.vars) 0 p.procs in
    let vars = own_counted p.decls (all_names p) (all_own_readers p) h.vars h.own in
    let readers = readers_counted p.decls p.procs in
    let named : length (own_names h.vars) ≡ length h.vars = length-map h.vars (λ (d : Decl). d.name.name) in
    let split = bodies_counted p.decls (own_names h.vars) 0 p.procs (omega (arith, vars, readers, named)) in
    let among = bodies_among bodies p.body
    (subst (λ (ns : List (List ℕ)). IsDistinct bytes_eq ns) (sym names) (procedures_distinct p meets.named.0))
    (subst (λ (ns : List (List ℕ)). AreThere (called (calls_in p.body)) ns) (sym names)
    (all_called p (none_nested p meets.named.1.0) meets.named.1.1.1.0)) in
    let whole : statement_forms (inlined_statement bodies p.body) ≡ statement_forms r.body = ap (λ (t : ProgramTree). statement_forms t.body) (sym h.tree) in
    omega (arith, vars, readers, split, among, whole)

pub few_decls : (p r : ProgramTree) → IsInlined p r → MeetsCalling p → statement_forms r.body ≤ most_forms → length r.decls ≤ length p.decls + most_own_vars
few_decls p r h meets few =
    let vars = few_vars p r h meets in
    let decls : length r.decls ≡ length p.decls + length h.vars = ap (λ (t : ProgramTree). length t.decls) h.tree ∙ length-append p.decls h.vars in
    omega (arith, few, vars, decls)
