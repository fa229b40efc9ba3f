-- Programs with procedures that are the same but for places mean programs that are.
--
-- ds: declarations; names: those of the own variables; n: how many of these were taken before.
use Rattle.std.proofs.Common.{◌≡◌, ℕ, suc, ◌+◌, Bool, true, false, List, [], ◌∷◌, ◌++◌, map, length, refl, sym, ap, ◌∙◌, subst}
use Rattle.std.specs.Prelude.{if◌then◌else◌, ◌&&◌, slice_get, unwrap_or, option_map, Option, Some, None}
use Rattle.std.specs.List.{flat_map, list_any}
use Rattle.std.specs.Str.{bytes_eq}
use Rattle.std.proofs.lemmas.List.{map-append}
use Rattle.chp_syntax.specs.declared.tree.Ident.{Ident}
use Rattle.chp_syntax.specs.declared.tree.Decl.{Decl}
use Rattle.chp_syntax.specs.Trees as plain
use Rattle.chp_syntax.specs.Trees.{Expression, number, whole, slice, bit, join, negation, chain, Expressions, Links, no_links, and_link, Statement, skips, assigns, sends, receives, follows, besides, selects, repeats, calls, Statements, Arms, no_arms, and_arm, Procedure, ProgramTree}
use Rattle.width_check.specs.Places.{declaration, declared_width, is_var, Use, reads_in, uses_in}
use Rattle.call_merge.specs.CallSites.{calls_in, calls_in_each, calls_in_arms, nested_calls, all_calls}
use Rattle.call_merge.specs.CallForms.{expression_forms, forms_of_parts, forms_of_links, statement_forms, forms_of_members, forms_of_arms}
use Rattle.call_merge.specs.CallSplits.{names_read, is_var_name, reads_itself, own_readers, own_readers_each, own_readers_arms, assigns_by, split_statement, split_members, split_arms, split_procedures, all_own_readers, all_uses, all_names, own_var, AreOwnVars, own_names}
use Rattle.call_merge.specs.Inlining.{procedure_named, body_or_call, inlined_statement, inlined_members, inlined_arms, inlined_with, IsInlined}
use Rattle.chp_cli.specs.Unplaced.{unplaced_name, unplaced_expression, unplaced_parts, unplaced_links, unplaced_statement, unplaced_members, unplaced_arms, unplaced_decl, unplaced_procedure, unplaced, AreLaidOutAlike}
use Rattle.chp_cli.proofs.SameForms.{declaration_same, declared_same}
use Rattle.chp_cli.proofs.SameLists.{unplaced_use, both_same, reads_same, uses_same}

-- how large

mutual
  forms_same : (e : Expression) → expression_forms (unplaced_expression e) ≡ expression_forms e
  forms_same (number n at) = refl
  forms_same (whole of) = refl
  forms_same (slice of high low at) = refl
  forms_same (bit of place at) = refl
  forms_same (join parts at) = let rest = parts_forms_same parts in rw rest refl
  forms_same (negation e at) = let inner = forms_same e in rw inner refl
  forms_same (chain e more at) =
      let first = forms_same e in
      let rest = links_forms_same more in
      rw (first, rest) refl

  parts_forms_same : (parts : Expressions) → forms_of_parts (unplaced_parts parts) ≡ forms_of_parts parts
  parts_forms_same plain.no_parts = refl
  parts_forms_same (plain.and_part e more) =
      let first = forms_same e in
      let rest = parts_forms_same more in
      rw (first, rest) refl

  links_forms_same : (more : Links) → forms_of_links (unplaced_links more) ≡ forms_of_links more
  links_forms_same no_links = refl
  links_forms_same (and_link op e more) =
      let first = forms_same e in
      let rest = links_forms_same more in
      rw (first, rest) refl

mutual
  pub statement_forms_same : (s : Statement) → statement_forms (unplaced_statement s) ≡ statement_forms s
  statement_forms_same (skips at) = refl
  statement_forms_same (assigns target e) = let inner = forms_same e in rw inner refl
  statement_forms_same (sends chan e) = let inner = forms_same e in rw inner refl
  statement_forms_same (receives chan target) = refl
  statement_forms_same (follows members) = let inner = members_forms_same members in rw inner refl
  statement_forms_same (besides members) = let inner = members_forms_same members in rw inner refl
  statement_forms_same (selects again arms) = let inner = arms_forms_same arms in rw inner refl
  statement_forms_same (repeats s) = let inner = statement_forms_same s in rw inner refl
  statement_forms_same (calls of) = refl

  members_forms_same : (members : Statements) → forms_of_members (unplaced_members members) ≡ forms_of_members members
  members_forms_same plain.no_members = refl
  members_forms_same (plain.and_member s more) =
      let first = statement_forms_same s in
      let rest = members_forms_same more in
      rw (first, rest) refl

  arms_forms_same : (arms : Arms) → forms_of_arms (unplaced_arms arms) ≡ forms_of_arms arms
  arms_forms_same no_arms = refl
  arms_forms_same (and_arm g s more) =
      let guard = forms_same g in
      let first = statement_forms_same s in
      let rest = arms_forms_same more in
      rw (guard, first, rest) refl

-- what is called

both_names : (xs ys ls rs : List Ident) → ls ≡ map unplaced_name xs → rs ≡ map unplaced_name ys → ls ++ rs ≡ map unplaced_name (xs ++ ys)
both_names xs ys ls rs left right = both_same unplaced_name xs ys ls rs left right

mutual
  pub calls_same : (s : Statement) → calls_in (unplaced_statement s) ≡ map unplaced_name (calls_in s)
  calls_same (skips at) = refl
  calls_same (assigns target e) = refl
  calls_same (sends chan e) = refl
  calls_same (receives chan target) = refl
  calls_same (follows members) = each_calls_same members
  calls_same (besides members) = each_calls_same members
  calls_same (selects again arms) = arms_calls_same arms
  calls_same (repeats s) = calls_same s
  calls_same (calls of) = refl

  each_calls_same : (members : Statements) → calls_in_each (unplaced_members members) ≡ map unplaced_name (calls_in_each members)
  each_calls_same plain.no_members = refl
  each_calls_same (plain.and_member s more) = both_names (calls_in s) (calls_in_each more) _ _ (calls_same s) (each_calls_same more)

  arms_calls_same : (arms : Arms) → calls_in_arms (unplaced_arms arms) ≡ map unplaced_name (calls_in_arms arms)
  arms_calls_same no_arms = refl
  arms_calls_same (and_arm g s more) = both_names (calls_in s) (calls_in_arms more) _ _ (calls_same s) (arms_calls_same more)

pub nested_same : (qs : List Procedure) → nested_calls (map unplaced_procedure qs) ≡ map unplaced_name (nested_calls qs)
nested_same [] = refl
nested_same (q ∷ qs) = both_names (calls_in q.body) (nested_calls qs) _ _ (calls_same q.body) (nested_same qs)

pub all_calls_same : (p : ProgramTree) → all_calls (unplaced p) ≡ map unplaced_name (all_calls p)
all_calls_same p = both_names (nested_calls p.procs) (calls_in p.body) _ _ (nested_same p.procs) (calls_same p.body)

-- all names

pub decl_names_same : (ds : List Decl) → map (λ (d : Decl). d.name.name) (map unplaced_decl ds) ≡ map (λ (d : Decl). d.name.name) ds
decl_names_same [] = refl
decl_names_same (d ∷ ds) = ap (λ l. d.name.name ∷ l) (decl_names_same ds)

pub proc_names_same : (qs : List Procedure) → map (λ (q : Procedure). q.name.name) (map unplaced_procedure qs) ≡ map (λ (q : Procedure). q.name.name) qs
proc_names_same [] = refl
proc_names_same (q ∷ qs) = ap (λ l. q.name.name ∷ l) (proc_names_same qs)

use_names_same : (us : List Use) → map (λ (u : Use). u.name) (map unplaced_use us) ≡ map (λ (u : Use). u.name) us
use_names_same [] = refl
use_names_same (u ∷ us) = ap (λ l. u.name ∷ l) (use_names_same us)

ident_names_same : (xs : List Ident) → map (λ (i : Ident). i.name) (map unplaced_name xs) ≡ map (λ (i : Ident). i.name) xs
ident_names_same [] = refl
ident_names_same (x ∷ xs) = ap (λ l. x.name ∷ l) (ident_names_same xs)

proc_uses_same : (qs : List Procedure) → flat_map (λ (q : Procedure). uses_in q.body) (map unplaced_procedure qs)
    ≡ map unplaced_use (flat_map (λ (q : Procedure). uses_in q.body) qs)
proc_uses_same [] = refl
proc_uses_same (q ∷ qs) = both_same unplaced_use (uses_in q.body) _ _ _ (uses_same q.body) (proc_uses_same qs)

all_uses_same : (p : ProgramTree) → all_uses (unplaced p) ≡ map unplaced_use (all_uses p)
all_uses_same p =
    both_same unplaced_use (flat_map (λ (q : Procedure). uses_in q.body) p.procs) (uses_in p.body) _ _ (proc_uses_same p.procs) (uses_same p.body)

all_names_same : (p : ProgramTree) → all_names (unplaced p) ≡ all_names p
all_names_same p =
    let decls = decl_names_same p.decls in
    let procs = proc_names_same p.procs in
    let used = ap (map (λ (u : Use). u.name)) (all_uses_same p) ∙ use_names_same (all_uses p) in
    let called = ap (map (λ (i : Ident). i.name)) (all_calls_same p) ∙ ident_names_same (all_calls p) in
    rw (decls, procs, used, called) refl

-- assignments that read their own target

var_name_same : (ds : List Decl) (name : List ℕ) → is_var_name (map unplaced_decl ds) name ≡ is_var_name ds name
var_name_same ds name =
    ap (λ (b : Option Bool). unwrap_or b false) (ap (option_map (λ (d : Decl). is_var d.kind)) (declaration_same ds name) ∙ by (declaration ds name))
  where
    by : (o : Option Decl) → option_map (λ (d : Decl). is_var d.kind) (option_map unplaced_decl o) ≡ option_map (λ (d : Decl). is_var d.kind) o
    by None = refl
    by (Some d) = refl

names_read_same : (e : Expression) → names_read (unplaced_expression e) ≡ names_read e
names_read_same e = ap (map (λ (u : Use). u.name)) (reads_same e) ∙ use_names_same (reads_in e)

itself_same : (ds : List Decl) (target : Ident) (e : Expression)
    → reads_itself (map unplaced_decl ds) (unplaced_name target) (unplaced_expression e) ≡ reads_itself ds target e
itself_same ds target e =
    ap (λ b. b && list_any (bytes_eq target.name) (names_read (unplaced_expression e))) (var_name_same ds target.name)
    ∙ ap (λ l. is_var_name ds target.name && list_any (bytes_eq target.name) l) (names_read_same e)

module _ (ds : List Decl) where
  abbrev us : List Decl
  us = map unplaced_decl ds

  mutual
    own_readers_same : (s : Statement) → own_readers us (unplaced_statement s) ≡ map unplaced_name (own_readers ds s)
    own_readers_same (skips at) = refl
    own_readers_same (assigns target e) =
        ap (λ b. if b then unplaced_name target ∷ [] else []) (itself_same ds target e) ∙ by (reads_itself ds target e)
      where
        by : (b : Bool) → (if b then unplaced_name target ∷ [] else []) ≡ map unplaced_name (if b then target ∷ [] else [])
        by true = refl
        by false = refl
    own_readers_same (sends chan e) = refl
    own_readers_same (receives chan target) = refl
    own_readers_same (follows members) = readers_each_same members
    own_readers_same (besides members) = readers_each_same members
    own_readers_same (selects again arms) = readers_arms_same arms
    own_readers_same (repeats s) = own_readers_same s
    own_readers_same (calls of) = refl

    readers_each_same : (members : Statements) → own_readers_each us (unplaced_members members) ≡ map unplaced_name (own_readers_each ds members)
    readers_each_same plain.no_members = refl
    readers_each_same (plain.and_member s more) =
        both_names (own_readers ds s) (own_readers_each ds more) _ _ (own_readers_same s) (readers_each_same more)

    readers_arms_same : (arms : Arms) → own_readers_arms us (unplaced_arms arms) ≡ map unplaced_name (own_readers_arms ds arms)
    readers_arms_same no_arms = refl
    readers_arms_same (and_arm g s more) =
        both_names (own_readers ds s) (own_readers_arms ds more) _ _ (own_readers_same s) (readers_arms_same more)

  proc_readers_same : (qs : List Procedure) → flat_map (λ (q : Procedure). own_readers us q.body) (map unplaced_procedure qs)
      ≡ map unplaced_name (flat_map (λ (q : Procedure). own_readers ds q.body) qs)
  proc_readers_same [] = refl
  proc_readers_same (q ∷ qs) = both_names (own_readers ds q.body) _ _ _ (own_readers_same q.body) (proc_readers_same qs)

  length_same : (xs : List Ident) → length (map unplaced_name xs) ≡ length xs
  length_same [] = refl
  length_same (x ∷ xs) = ap suc (length_same xs)

  readers_count_same : (s : Statement) → length (own_readers us (unplaced_statement s)) ≡ length (own_readers ds s)
  readers_count_same s = ap length (own_readers_same s) ∙ length_same (own_readers ds s)

  -- statements in which these go by own variables

  by_same : (o : Option (List ℕ)) (target : Ident) (e : Expression)
      → assigns_by o (unplaced_name target) (unplaced_expression e) ≡ unplaced_statement (assigns_by o target e)
  by_same None target e = refl
  by_same (Some h) target e = refl

  split_assign_same : (b : Bool) (names : List (List ℕ)) (n : ℕ) (target : Ident) (e : Expression)
      → (if b then assigns_by (slice_get names n) (unplaced_name target) (unplaced_expression e) else assigns (unplaced_name target) (unplaced_expression e))
      ≡ unplaced_statement (if b then assigns_by (slice_get names n) target e else assigns target e)
  split_assign_same true names n target e = by_same (slice_get names n) target e
  split_assign_same false names n target e = refl

  mutual
    split_same : (names : List (List ℕ)) (n : ℕ) (s : Statement)
        → split_statement us names n (unplaced_statement s) ≡ unplaced_statement (split_statement ds names n s)
    split_same names n (skips at) = refl
    split_same names n (assigns target e) =
        ap (λ b. if b then assigns_by (slice_get names n) (unplaced_name target) (unplaced_expression e)
        else assigns (unplaced_name target) (unplaced_expression e)) (itself_same ds target e)
        ∙ split_assign_same (reads_itself ds target e) names n target e
    split_same names n (sends chan e) = refl
    split_same names n (receives chan target) = refl
    split_same names n (follows members) = ap follows (split_members_same names n members)
    split_same names n (besides members) = ap besides (split_members_same names n members)
    split_same names n (selects again arms) = ap (selects again) (split_arms_same names n arms)
    split_same names n (repeats s) = ap repeats (split_same names n s)
    split_same names n (calls of) = refl

    split_members_same : (names : List (List ℕ)) (n : ℕ) (members : Statements)
        → split_members us names n (unplaced_members members) ≡ unplaced_members (split_members ds names n members)
    split_members_same names n plain.no_members = refl
    split_members_same names n (plain.and_member s more) =
        let count = readers_count_same s in
        let first = split_same names n s in
        let rest = split_members_same names (n + length (own_readers ds s)) more in
        rw (count, first, rest) refl

    split_arms_same : (names : List (List ℕ)) (n : ℕ) (arms : Arms) → split_arms us names n (unplaced_arms arms) ≡ unplaced_arms (split_arms ds names n arms)
    split_arms_same names n no_arms = refl
    split_arms_same names n (and_arm g s more) =
        let count = readers_count_same s in
        let first = split_same names n s in
        let rest = split_arms_same names (n + length (own_readers ds s)) more in
        rw (count, first, rest) refl

  pub split_procedures_same : (names : List (List ℕ)) (n : ℕ) (qs : List Procedure)
      → split_procedures us names n (map unplaced_procedure qs) ≡ map unplaced_procedure (split_procedures ds names n qs)
  split_procedures_same names n [] = refl
  split_procedures_same names n (q ∷ qs) =
      let count = readers_count_same q.body in
      let first = split_same names n q.body in
      let rest = split_procedures_same names (n + length (own_readers ds q.body)) qs in
      rw (count, first, rest) refl

readers_same : (p : ProgramTree) → all_own_readers (unplaced p) ≡ map unplaced_name (all_own_readers p)
readers_same p = proc_readers_same p.decls p.procs

-- calls replaced by bodies

named_same : (qs : List Procedure) (name : List ℕ) → procedure_named (map unplaced_procedure qs) name ≡ option_map unplaced_procedure (procedure_named qs name)
named_same [] name = refl
named_same (q ∷ qs) name = by (bytes_eq q.name.name name) refl (named_same qs name)
  where
    by : (b : Bool) → bytes_eq q.name.name name ≡ b → procedure_named (map unplaced_procedure qs) name ≡ option_map unplaced_procedure (procedure_named qs name)
        → procedure_named (map unplaced_procedure (q ∷ qs)) name ≡ option_map unplaced_procedure (procedure_named (q ∷ qs) name)
    by true e rest = rw e refl
    by false e rest = rw e rest

body_same : (o : Option Procedure) (of : Ident) → body_or_call (option_map unplaced_procedure o) (unplaced_name of) ≡ unplaced_statement (body_or_call o of)
body_same None of = refl
body_same (Some q) of = refl

mutual
  inlined_same : (qs : List Procedure) (s : Statement)
      → inlined_statement (map unplaced_procedure qs) (unplaced_statement s) ≡ unplaced_statement (inlined_statement qs s)
  inlined_same qs (skips at) = refl
  inlined_same qs (assigns target e) = refl
  inlined_same qs (sends chan e) = refl
  inlined_same qs (receives chan target) = refl
  inlined_same qs (follows members) = ap follows (inlined_members_same qs members)
  inlined_same qs (besides members) = ap besides (inlined_members_same qs members)
  inlined_same qs (selects again arms) = ap (selects again) (inlined_arms_same qs arms)
  inlined_same qs (repeats s) = ap repeats (inlined_same qs s)
  inlined_same qs (calls of) = ap (λ o. body_or_call o (unplaced_name of)) (named_same qs of.name) ∙ body_same (procedure_named qs of.name) of

  inlined_members_same : (qs : List Procedure) (members : Statements)
      → inlined_members (map unplaced_procedure qs) (unplaced_members members) ≡ unplaced_members (inlined_members qs members)
  inlined_members_same qs plain.no_members = refl
  inlined_members_same qs (plain.and_member s more) =
      let first = inlined_same qs s in
      let rest = inlined_members_same qs more in
      rw (first, rest) refl

  inlined_arms_same : (qs : List Procedure) (arms : Arms) → inlined_arms (map unplaced_procedure qs) (unplaced_arms arms) ≡ unplaced_arms (inlined_arms qs arms)
  inlined_arms_same qs no_arms = refl
  inlined_arms_same qs (and_arm g s more) =
      let first = inlined_same qs s in
      let rest = inlined_arms_same qs more in
      rw (first, rest) refl

inlined_with_same : (p : ProgramTree) (vars : List Decl) → inlined_with (unplaced p) (map unplaced_decl vars) ≡ unplaced (inlined_with p vars)
inlined_with_same p vars =
    let decls = map-append unplaced_decl p.decls vars in
    let names = decl_names_same vars in
    let procs = split_procedures_same p.decls (own_names vars) 0 p.procs in
    let body = inlined_same (split_procedures p.decls (own_names vars) 0 p.procs) p.body in
    rw (decls, names, procs, body) refl

-- own variables of both

pub record OwnVars (decls : List Decl) (taken : List (List ℕ)) (xs : List Ident) (vars : List Decl) : Type 0 where
  pub these : List Decl
  pub own : AreOwnVars decls taken xs these
  pub same : map unplaced_decl vars ≡ map unplaced_decl these

own_vars_alike : (ds fs : List Decl) → map unplaced_decl ds ≡ map unplaced_decl fs → (taken : List (List ℕ)) (xs ys : List Ident)
    → map unplaced_name xs ≡ map unplaced_name ys → (vars : List Decl) → AreOwnVars ds taken xs vars → OwnVars fs taken ys vars
own_vars_alike ds fs alike taken [] [] same [] own = record { these = []; own = tt; same = refl }
own_vars_alike ds fs alike taken [] [] same (v ∷ vars) own = absurd own
own_vars_alike ds fs alike taken [] (y ∷ ys) same vars own = absurd (cc same)
own_vars_alike ds fs alike taken (x ∷ xs) [] same vars own = absurd (cc same)
own_vars_alike ds fs alike taken (x ∷ xs) (y ∷ ys) same [] own = absurd own
own_vars_alike ds fs alike taken (x ∷ xs) (y ∷ ys) same (v ∷ vars) own =
    let first : unplaced_name x ≡ unplaced_name y = cc same in
    let rest : map unplaced_name xs ≡ map unplaced_name ys = cc same in
    let h = v.name.name in
    let name : x.name ≡ y.name = ap (λ (i : Ident). i.name) first in
    let width : declared_width ds x.name ≡ declared_width fs y.name =
    sym (declared_same ds x.name) ∙ (ap (λ l. declared_width l x.name) alike ∙ (declared_same fs x.name ∙ ap (declared_width fs) name)) in
    let more = own_vars_alike ds fs alike (taken ++ h ∷ []) xs ys rest vars own.2 in
    record {
      these = own_var fs h y ∷ more.these;
      own = (own.0, refl, more.own);
      same = ap (λ l. unplaced_decl v ∷ l) more.same
          ∙ ap (λ (d : Decl). d ∷ map unplaced_decl more.these)
          (ap unplaced_decl own.1 ∙ ap (λ (w : ℕ). unplaced_decl (record (own_var fs h y) { width = w })) width);
    }

pub record InlinedAlike (q r : ProgramTree) (vars : List Decl) : Type 0 where
  pub tree : ProgramTree
  pub inlined : IsInlined q tree
  pub alike : AreLaidOutAlike r tree
  pub same : map unplaced_decl vars ≡ map unplaced_decl inlined.vars

pub inlined_alike : (p q : ProgramTree) → AreLaidOutAlike p q → (r : ProgramTree) → (is : IsInlined p r) → InlinedAlike q r is.vars
inlined_alike p q alike r is =
    let decls : map unplaced_decl p.decls ≡ map unplaced_decl q.decls = ap (λ (t : ProgramTree). t.decls) alike in
    let readers : map unplaced_name (all_own_readers p) ≡ map unplaced_name (all_own_readers q) =
    sym (readers_same p) ∙ (ap all_own_readers alike ∙ readers_same q) in
    let names : all_names p ≡ all_names q = sym (all_names_same p) ∙ (ap all_names alike ∙ all_names_same q) in
    let vars = own_vars_alike p.decls q.decls decls (all_names q) (all_own_readers p) (all_own_readers q) readers is.vars
    (subst (λ l. AreOwnVars p.decls l (all_own_readers p) is.vars) names is.own) in
    record {
      tree = inlined_with q vars.these;
      inlined = record { vars = vars.these; own = vars.own; tree = refl };
      alike = ap unplaced is.tree ∙ (sym (inlined_with_same p is.vars)
          ∙ (ap (λ (t : ProgramTree). inlined_with t (map unplaced_decl is.vars)) alike
          ∙ (ap (inlined_with (unplaced q)) vars.same ∙ inlined_with_same q vars.these)));
      same = vars.same;
    }
