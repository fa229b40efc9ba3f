-- A program whose calls aren't refused, as the laws of shared bodies want it.
use Rattle.std.proofs.Common.{◌≡◌, ℕ, zero, suc, ◌<◌, true, List, [], ◌∷◌, ◌++◌, length, map, Some, refl, sym, ap, ◌∙◌, subst, arith}
use Rattle.std.specs.Prelude.{slice_get}
use Rattle.std.specs.List.{list_any}
use Rattle.std.specs.Str.{bytes_eq}
use Rattle.std.proofs.lemmas.List.{length-map}
use Rattle.chp_syntax.specs.declared.tree.Decl.{Decl}
use Rattle.chp_syntax.specs.declared.tree.Ident.{Ident}
use Rattle.chp_syntax.specs.Trees.{Procedure, ProgramTree}
use Rattle.width_check.specs.Form.{process_form}
use Rattle.width_check.proofs.Doubles.{there_any}
use Rattle.call_map.specs.CallsApart.{Calls}
use Rattle.call_merge.specs.CallFaults.{MeetsCalling}
use Rattle.call_merge.specs.CallSites.{calls_in, call_channel}
use Rattle.call_merge.specs.CallSplits.{split_procedures, own_names}
use Rattle.call_merge.proofs.CallsAlone.{of_map}
use Rattle.call_merge.proofs.CallsGone.{AreNamed, none_nested, calls_named}
use Rattle.call_merge.proofs.OwnCounts.{AreThere, called, procedures_distinct, all_called}
use Rattle.call_merge.proofs.SplitSteps.{names_kept}
use Rattle.call_compose.specs.CalledForm.{procedure_names, procedure_number, called_form, call_program}
use Rattle.call_compose.specs.CallsMeant.{CallsMeant}
use Rattle.call_compose.proofs.CallsMet.{of_atoms, number_below, HaveNumbers, calls_below, calls_there, number_is, channel_alike, calls_apart}

some_name : (names : List (List ℕ)) (n : ℕ) → n < length names → (name : List ℕ) × (slice_get names n ≡ Some name)
some_name [] n less = absurd (omega (arith, less))
some_name (x ∷ xs) zero less = (x, refl)
some_name (x ∷ xs) (suc n) less = some_name xs n (omega (arith, less))

all_numbers : (qs : List Procedure) (ns : List (List ℕ)) (is : List Ident) → procedure_names qs ≡ ns → AreNamed qs is → HaveNumbers ns is
all_numbers qs ns [] same named = tt
all_numbers qs ns (i ∷ is) same named = (
  subst (λ (ms : List (List ℕ)). procedure_number ms i.name < length ms) same (number_below qs i.name named.0),
  all_numbers qs ns is same named.1,
)

there_at : (ms ns : List (List ℕ)) (k : ℕ) (name : List ℕ) → AreThere ms ns → slice_get ns k ≡ Some name → list_any (bytes_eq name) ms ≡ true
there_at ms [] k name all is = absurd (cc is)
there_at ms (n ∷ ns) zero name all is = let same : n ≡ name = cc is in subst (λ (m : List ℕ). list_any (bytes_eq m) ms ≡ true) same all.0
there_at ms (n ∷ ns) (suc k) name all is = there_at ms ns k name all.1 is

pub bodies_counted : (p : ProgramTree) (vars : List Decl) → length (call_program p vars).procs ≡ length (procedure_names p.procs)
bodies_counted p vars =
    let qs = split_procedures p.decls (own_names vars) 0 p.procs in
    length-map qs (λ (q : Procedure). process_form (p.decls ++ vars) q.body)
    ∙ (sym (length-map qs (λ (q : Procedure). q.name.name)) ∙ ap length (names_kept p.decls (own_names vars) 0 p.procs))

each_called : (p : ProgramTree) (vars : List Decl) → MeetsCalling p → (q : ℕ) → q < length (procedure_names p.procs) → Calls (call_program p vars).body q
each_called p vars meets q less =
    let ns = procedure_names p.procs in
    let body = called_form (p.decls ++ vars) ns p.body in
    let at = some_name ns q less in
    let there = there_at (called (calls_in p.body)) ns q at.0 (all_called p (none_nested p meets.named.1.0) meets.named.1.1.1.0) at.1 in
    let call = of_map (λ (i : Ident). i.name) (calls_in p.body) at.0 (there_any at.0 (called (calls_in p.body)) there) in
    let number : procedure_number ns call.0.name ≡ q =
    ap (procedure_number ns) call.2 ∙ number_is ns q at.0 (procedures_distinct p meets.named.0) at.1 in
    subst (λ k. Calls body k) number (calls_there (p.decls ++ vars) ns p.body call.0 call.1)

pub calls_meant : CallsMeant
calls_meant p vars meets = record {
  atoms = of_atoms (p.decls ++ vars) (procedure_names p.procs) p.body;
  declared = λ q h. subst (λ n. q < n) (sym (bodies_counted p vars))
      (calls_below (p.decls ++ vars) (procedure_names p.procs) p.body q
      (all_numbers (split_procedures p.decls (own_names vars) 0 p.procs) (procedure_names p.procs) (calls_in p.body)
      (names_kept p.decls (own_names vars) 0 p.procs) (calls_named p (own_names vars) meets.named.1.1.0)) h);
  called = λ q less. each_called p vars meets q (subst (λ n. q < n) (bodies_counted p vars) less);
  apart = calls_apart (map call_channel p.procs) (p.decls ++ vars) (procedure_names p.procs) (channel_alike p.procs) p.body meets.apart;
}
