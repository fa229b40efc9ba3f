-- A program has at most one fault of its calls, and means at most one program.
use Rattle.std.proofs.Common.{◌≡◌, ◌∙◌, ℕ, ◌<◌, ◌≤◌, List, [], ◌∷◌, ◌++◌, ◌⊎◌, inl, inr, refl, sym, ap, subst, arith}
use Rattle.std.specs.Prelude.{Contains}
use Rattle.std.proofs.lemmas.Bool.{cases_order}
use Rattle.chp_base.specs.declared.fault.Fault.{Fault}
use Rattle.chp_base.specs.declared.fault.FaultCode.{FaultCode}
use Rattle.chp_base.specs.declared.fault.FaultCode.TheVariants as code
use Rattle.chp_base.specs.declared.span.Span.{Span}
use Rattle.chp_syntax.specs.Trees.{ProgramTree}
use Rattle.chp_syntax.specs.declared.tree.Decl.{Decl}
use Rattle.chp_syntax.specs.declared.tree.Ident.{Ident}
use Rattle.width_check.specs.Calls.{IsCallFree}
use Rattle.width_check.specs.Order.{IsFirst}
use Rattle.width_check.specs.Processes.{Process}
use Rattle.width_check.specs.Sharing.{IsFirstShared, IsUnshared, SharedAt}
use Rattle.width_check.proofs.OneCause.{one_place}
use Rattle.call_merge.specs.CallFaults.{CallFaultAt, IsFirstCallFault, LacksCallFaults, MeetsCalling, call_faults}
use Rattle.call_merge.specs.CallForms.{capped_forms, most_forms, statement_forms}
use Rattle.call_merge.specs.CallSites.{calls_process}
use Rattle.call_merge.specs.CallSplits.{AreOwnVars, IsLeastFree, all_names, all_own_readers, own_name, own_var}
use Rattle.call_merge.specs.Inlining.{HasTooManyForms, IsInlined, inlined_with}
use Rattle.command_steps.specs.Inlined.{Means, as_it_is, with_calls}
use Rattle.command_steps.specs.Steps.{HasCallFault}

-- ---- the variables of assignments in procedures

least_once : (taken : List (List ℕ)) (a b : List ℕ) → IsLeastFree taken a → IsLeastFree taken b → a ≡ b
least_once taken a b f g = go (cases_order f.number g.number)
  where
    go : (f.number ≡ g.number) ⊎ ((f.number < g.number) ⊎ (g.number < f.number)) → a ≡ b
    go (inl same) = f.is ∙ (ap own_name same ∙ sym g.is)
    go (inr (inl less)) = absurd (f.free (subst (λ (n : List ℕ). Contains taken n) (sym f.is) (g.least f.number less)))
    go (inr (inr more)) = absurd (g.free (subst (λ (n : List ℕ). Contains taken n) (sym g.is) (f.least g.number more)))

both : {v w : Decl} {vs ws : List Decl} → v ≡ w → vs ≡ ws → v ∷ vs ≡ w ∷ ws
both {v} {w} {vs} {ws} front rest = ap (λ (d : Decl). d ∷ vs) front ∙ ap (λ (ds : List Decl). w ∷ ds) rest

own_vars_once : (decls : List Decl) (xs : List Ident) (taken : List (List ℕ)) (vs ws : List Decl) → AreOwnVars decls taken xs vs
    → AreOwnVars decls taken xs ws →
    vs ≡ ws
own_vars_once decls [] taken [] [] f g = refl
own_vars_once decls [] taken [] (w ∷ ws) f g = absurd g
own_vars_once decls [] taken (v ∷ vs) ws f g = absurd f
own_vars_once decls (x ∷ xs) taken [] ws f g = absurd f
own_vars_once decls (x ∷ xs) taken (v ∷ vs) [] f g = absurd g
own_vars_once decls (x ∷ xs) taken (v ∷ vs) (w ∷ ws) f g =
    let name : v.name.name ≡ w.name.name = least_once taken v.name.name w.name.name f.0 g.0 in
    let front : v ≡ w = f.1 ∙ (ap (λ (n : List ℕ). own_var decls n x) name ∙ sym g.1) in
    both front (own_vars_once decls xs (taken ++ v.name.name ∷ []) vs ws f.2
    (subst (λ (n : List ℕ). AreOwnVars decls (taken ++ n ∷ []) xs ws) (sym name) g.2))

-- ---- the program with the calls replaced

pub inlined_once : (p r s : ProgramTree) → IsInlined p r → IsInlined p s → r ≡ s
inlined_once p r s f g =
    f.tree ∙ (ap (inlined_with p) (own_vars_once p.decls (all_own_readers p) (all_names p) f.vars g.vars f.own g.own) ∙ sym g.tree)

pub means_once : {p r s : ProgramTree} → Means p r → Means p s → r ≡ s
means_once (as_it_is free) (as_it_is also) = refl
means_once (as_it_is free) (with_calls calls meets is few) = absurd (calls free)
means_once (with_calls calls meets is few) (as_it_is free) = absurd (calls free)
means_once {p} (with_calls {plain = r} calls meets is few) (with_calls {plain = s} also met are small) = inlined_once p r s is are

-- one without procedures and calls means itself
pub means_itself : {p r : ProgramTree} → IsCallFree p → Means p r → p ≡ r
means_itself free means = means_once (as_it_is free) means

pub large_once : (p : ProgramTree) (n m : ℕ) → HasTooManyForms p n → HasTooManyForms p m → n ≡ m
large_once p n m f g =
    f.number ∙ (ap (λ (t : ProgramTree). capped_forms (statement_forms t.body)) (inlined_once p f.program g.program f.is g.is) ∙ sym g.number)

pub large_or_meant : {X : Type 0} {p r : ProgramTree} {n : ℕ} → ¬ IsCallFree p → HasTooManyForms p n → Means p r → X
large_or_meant calls large (as_it_is free) = absurd (calls free)
large_or_meant {p = p} calls large (with_calls {plain = r} also meets is few) =
    let small : statement_forms large.program.body ≤ most_forms =
    subst (λ (t : ProgramTree). statement_forms t.body ≤ most_forms) (inlined_once p r large.program is large.is) few in
    absurd (omega (arith, small, large.more))

-- ---- the fault of procedures and calls

first_once : (P : Span → Type 0) (s t : Span) → IsFirst P s → IsFirst P t → s ≡ t
first_once P s t f g = one_place s t (f.first t g.there) (g.first s f.there)

one_pair : (body : Process) (c : FaultCode) (s t u v : Span) → IsFirstShared body c s t → IsFirstShared body c u v → (s ≡ u) × (t ≡ v)
one_pair body c s t u v h k =
    let second : t ≡ v = one_place t v (h.least_second u v k.shared) (k.least_second s t h.shared) in
    let first : s ≡ u = one_place s u (h.least_first u (subst (λ (w : Span). SharedAt body c u w) (sym second) k.shared))
    (k.least_first s (subst (λ (w : Span). SharedAt body c s w) second h.shared)) in
    (first, second)

pub call_fault_once : (p : ProgramTree) (ds : List FaultCode) (c d : FaultCode) (s t u v : Span) → IsFirstCallFault p ds c s t → IsFirstCallFault p ds d u v →
    (c ≡ d) × (s ≡ u) × (t ≡ v)
call_fault_once p [] c d s t u v f g = let pair = one_pair (calls_process p) code.SharedSend s t u v f.1 g.1 in (f.0 ∙ sym g.0, pair.0, pair.1)
call_fault_once p (e ∷ ds) c d s t u v (inl f) (inl g) = let at = first_once (CallFaultAt p e) s u f.1 g.1 in (f.0 ∙ sym g.0, at, f.2 ∙ (at ∙ sym g.2))
call_fault_once p (e ∷ ds) c d s t u v (inl f) (inr g) = absurd (g.0 s f.1.there)
call_fault_once p (e ∷ ds) c d s t u v (inr f) (inl g) = absurd (f.0 u g.1.there)
call_fault_once p (e ∷ ds) c d s t u v (inr f) (inr g) = call_fault_once p ds c d s t u v f.1 g.1

no_call_fault : (p : ProgramTree) (ds : List FaultCode) (c : FaultCode) (s t : Span) → LacksCallFaults p ds → IsUnshared (calls_process p) code.SharedSend →
    ¬ IsFirstCallFault p ds c s t
no_call_fault p [] c s t lacks apart f = apart f.1.shared.a f.1.shared.b f.1.shared.parallel f.1.shared.clash
no_call_fault p (e ∷ ds) c s t lacks apart (inl f) = lacks.0 s f.1.there
no_call_fault p (e ∷ ds) c s t lacks apart (inr f) = no_call_fault p ds c s t lacks.1 apart f.1

pub bad_or_meets : {X : Type 0} (p : ProgramTree) (f : Fault) → HasCallFault p f → MeetsCalling p → X
bad_or_meets p f fault meets = absurd (no_call_fault p call_faults f.code f.at f.other meets.named meets.apart fault)

pub bad_or_meant : {X : Type 0} {p r : ProgramTree} (f : Fault) → ¬ IsCallFree p → HasCallFault p f → Means p r → X
bad_or_meant f calls fault (as_it_is free) = absurd (calls free)
bad_or_meant {p = p} f calls fault (with_calls also meets is few) = bad_or_meets p f fault meets
