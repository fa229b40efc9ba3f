-- What a text within its limit means has the grammar's shape: the variables that are declared for it have names, since
-- no more names are taken than the text has bytes.
use Rattle.std.proofs.Common.{ℕ, suc, ◌+◌, ◌<◌, ◌≤◌, ◌^◌, Bool, true, false, List, [], ◌∷◌, ◌++◌, length, cond, sym, subst, ⊎_elim, arith, length-append}
use Rattle.std.specs.List.{flat_map, AllByRecursion}
use Rattle.std.proofs.lemmas.Bool.{cases_lt}
use Rattle.std.proofs.lemmas.List.Elements.{All-from_recursion}
use Rattle.chp_base.specs.Names.{IsName}
use Rattle.chp_syntax.specs.declared.tree.Decl.{Decl}
use Rattle.chp_syntax.specs.declared.tree.Ident.{Ident}
use Rattle.chp_syntax.specs.Reading.{Reads}
use Rattle.chp_syntax.specs.Shape.{IsShaped}
use Rattle.chp_syntax.specs.Trees.{Expression, Statement, skips, assigns, sends, receives, follows, besides, selects, repeats, calls, Statements, no_members, and_member, Arms, no_arms, and_arm, Procedure, ProgramTree}
use Rattle.chp_syntax.proofs.Shapes.{read_shaped}
use Rattle.width_check.specs.Places.{reads_in, uses_in, uses_in_each, uses_in_arms}
use Rattle.width_check.proofs.Doubles.{any_there}
use Rattle.call_merge.specs.CallSplits.{reads_itself, own_readers, own_readers_each, own_readers_arms, all_own_readers, all_names, own_name, IsLeastFree, AreOwnVars}
use Rattle.call_merge.specs.Inlining.{IsInlined}
use Rattle.call_merge.proofs.OwnNames.{own_name_is_name, few_taken}
use Rattle.call_merge.proofs.Shapes.{program_shaped}
use Rattle.command_steps.specs.Inlined.{Means, as_it_is, with_calls}
use Rattle.command_steps.specs.Steps.{most_of_text}
use Rattle.command_steps.proofs.TextNames.{named_in_procs, few_names, procs_few}

-- ---- no more variables are declared than names are used

target_counted : (b : Bool) (target : Ident) (e : Expression) → length (cond b (target ∷ []) []) ≤ suc (length (reads_in e))
target_counted true target e = omega arith
target_counted false target e = omega arith

mutual
  own_counted : (ds : List Decl) (s : Statement) → length (own_readers ds s) ≤ length (uses_in s)
  own_counted ds (skips at) = omega arith
  own_counted ds (assigns target e) = target_counted (reads_itself ds target e) target e
  own_counted ds (sends chan e) = omega arith
  own_counted ds (receives chan target) = omega arith
  own_counted ds (follows us) = own_counted_each ds us
  own_counted ds (besides us) = own_counted_each ds us
  own_counted ds (selects again xs) = own_counted_arms ds xs
  own_counted ds (repeats s) = own_counted ds s
  own_counted ds (calls of) = omega arith

  own_counted_each : (ds : List Decl) (us : Statements) → length (own_readers_each ds us) ≤ length (uses_in_each us)
  own_counted_each ds no_members = omega arith
  own_counted_each ds (and_member s more) = omega (
    arith,
    own_counted ds s,
    own_counted_each ds more,
    length-append (own_readers ds s) (own_readers_each ds more),
    length-append (uses_in s) (uses_in_each more),
  )

  own_counted_arms : (ds : List Decl) (xs : Arms) → length (own_readers_arms ds xs) ≤ length (uses_in_arms xs)
  own_counted_arms ds no_arms = omega arith
  own_counted_arms ds (and_arm g s more) = omega (
    arith,
    own_counted ds s,
    own_counted_arms ds more,
    length-append (own_readers ds s) (own_readers_arms ds more),
    length-append (reads_in g) (uses_in s ++ uses_in_arms more),
    length-append (uses_in s) (uses_in_arms more),
  )

readers_few : (ds : List Decl) (qs : List Procedure) → length (flat_map (λ (q : Procedure). own_readers ds q.body) qs) ≤ named_in_procs qs
readers_few ds [] = omega arith
readers_few ds (q ∷ qs) = omega (
  arith,
  readers_few ds qs,
  own_counted ds q.body,
  length-append (own_readers ds q.body) (flat_map (λ (p : Procedure). own_readers ds p.body) qs),
)

-- ---- so their names are names

free_is_name : (taken : List (List ℕ)) (name : List ℕ) → IsLeastFree taken name → length taken < 2 ^ 64 → IsName name
free_is_name taken name free few = subst (λ n. IsName n) (sym free.is) (own_name_is_name free.number (⊎_elim (λ (small : free.number < 2 ^ 64). small)
    (λ (large : 2 ^ 64 ≤ free.number).
    let most = few_taken (2 ^ 64) taken (omega arith) (λ j less. any_there (own_name j) taken (free.least j (omega (arith, less, large)))) in
    absurd (omega (arith, most, few))) (cases_lt free.number (2 ^ 64))))

abbrev AreNames : List Decl → Type 0
AreNames ds = AllByRecursion (λ (d : Decl). IsName d.name.name) ds

vars_named : (ds : List Decl) (taken : List (List ℕ)) (xs : List Ident) (vs : List Decl) → AreOwnVars ds taken xs vs → length taken + length xs < 2 ^ 64
    → AreNames vs
vars_named ds taken [] [] own few = tt
vars_named ds taken [] (v ∷ vs) own few = absurd own
vars_named ds taken (x ∷ xs) [] own few = absurd own
vars_named ds taken (x ∷ xs) (v ∷ vs) own few = (
  free_is_name taken v.name.name own.0 (omega (arith, few)),
  vars_named ds (taken ++ v.name.name ∷ []) xs vs own.2 (omega (arith, few, length-append taken (v.name.name ∷ []))),
)

inlined_shaped : (text : List ℕ) (p r : ProgramTree) → Reads text p → length text ≤ most_of_text → IsInlined p r → IsShaped r
inlined_shaped text p r reads short is =
    let few : length (all_names p) + length (all_own_readers p) < 2 ^ 64 =
    omega (arith, short, few_names text p reads, procs_few text p reads, readers_few p.decls p.procs) in
    program_shaped p r is.vars is.own is.tree (read_shaped text p reads) (All-from_recursion (λ (d : Decl). IsName d.name.name) is.vars
    (vars_named p.decls (all_names p) (all_own_readers p) is.vars is.own few))

pub meant_shaped : (text : List ℕ) (program plain : ProgramTree) → Reads text program → length text ≤ most_of_text → Means program plain → IsShaped plain
meant_shaped text program plain reads short (as_it_is free) = read_shaped text program reads
meant_shaped text program plain reads short (with_calls not meets is few) = inlined_shaped text program plain reads short is
