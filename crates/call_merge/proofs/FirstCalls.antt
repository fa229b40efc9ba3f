-- The first place of a call in a procedure and of a procedure that no call names, as it is found.
use Rattle.std.proofs.Common.{◌≡◌, ℕ, Bool, true, false, List, map, Option, Some, None, refl, sym, ap, ◌∙◌, subst}
use Rattle.std.specs.Prelude.{Contains, not}
use Rattle.std.specs.List.{list_any}
use Rattle.std.specs.Str.{bytes_eq}
use Rattle.chp_base.specs.declared.span.Span.{Span}
use Rattle.chp_base.specs.declared.fault.FaultCode.{FaultCode}
use Rattle.chp_syntax.specs.declared.tree.Ident.{Ident}
use Rattle.chp_syntax.specs.declared.tree.Proc.{Proc}
use Rattle.chp_syntax.specs.declared.tree.Program.{Program}
use Rattle.chp_syntax.specs.Trees.{Procedure, ProgramTree}
use Rattle.chp_syntax.specs.View.{procedure_of, program_tree}
use Rattle.width_check.specs.Order.{IsFirst}
use Rattle.width_check.specs.Walk.{first_of}
use Rattle.width_check.proofs.Doubles.{any_there, there_any}
use Rattle.width_check.proofs.Least.{IsLeast, Passes, least_same, least_in}
use Rattle.call_merge.specs.declared.error.CallError.{CallError}
use Rattle.call_merge.specs.declared.error.CallError.TheVariants.{Refused}
use Rattle.call_merge.specs.CallSites.{nested_calls, all_calls}
use Rattle.call_merge.specs.CallFaults.{IsNestedCall, IsUnusedProcedure, CallFaultAt}
use Rattle.call_merge.specs.CallEnds.{IfRefusedCall, IsRefusedFor, IsNoCount}
use Rattle.call_merge.proofs.CallsAlone.{of_map, in_map}

pub nested_least : (p : ProgramTree) (calls : List Ident) (o : Option Span) → calls ≡ nested_calls p.procs
    → o ≡ first_of (λ (i : Ident). true) (λ (i : Ident). i.at) None calls → IsLeast (λ s. IsNestedCall p s) o
nested_least p calls o is found =
    subst (λ (q : Option Span). IsLeast (λ s. IsNestedCall p s) q) (sym found)
    (least_same (λ s. Passes (λ (i : Ident). true) (λ (i : Ident). i.at) calls s) (λ s. IsNestedCall p s) _
    (λ s h. record { call = h.item; among = subst (λ (is : List Ident). Contains is h.item) is h.among; at = h.place })
    (λ s h. record { item = h.call; among = subst (λ (is : List Ident). Contains is h.call) (sym is) h.among; passed = refl; place = h.at })
    (least_in (λ (i : Ident). true) (λ (i : Ident). i.at) calls))

abbrev pub is_uncalled : (List ℕ → Bool) → Proc → Bool
is_uncalled test q = not (test q.name.name)

false_of : (b : Bool) → not b ≡ true → b ≡ false
false_of true h = absurd (cc h)
false_of false h = refl

not_false : (b : Bool) → ¬ (b ≡ true) → not b ≡ true
not_false true h = absurd (h refl)
not_false false h = refl

abbrev names_in : List Ident → List (List ℕ)
names_in is = map (λ (i : Ident). i.name) is

abbrev pub IsCalledTest : (List ℕ → Bool) → ProgramTree → Type 0
IsCalledTest test p = (name : List ℕ) → test name ≡ list_any (bytes_eq name) (map (λ (i : Ident). i.name) (all_calls p))

pub unused_least : (program : Program) (procs : List Proc) (test : List ℕ → Bool) (o : Option Span) → procs ≡ program.procs.items
    → IsCalledTest test (program_tree program)
    → o ≡ first_of (λ (q : Proc). not (test q.name.name)) (λ (q : Proc). q.name.at) None procs
    → IsLeast (λ s. IsUnusedProcedure (program_tree program) s) o
unused_least program procs test o is called found =
    subst (λ (q : Option Span). IsLeast (λ s. IsUnusedProcedure p s) q) (sym found)
    (least_same (λ s. Passes (is_uncalled test) (λ (q : Proc). q.name.at) procs s) (λ s. IsUnusedProcedure p s) _ to from
    (least_in (is_uncalled test) (λ (q : Proc). q.name.at) procs))
  where
    p : ProgramTree
    p = program_tree program

    to : (s : Span) → Passes (is_uncalled test) (λ (q : Proc). q.name.at) procs s → IsUnusedProcedure p s
    to s h = record {
      procedure = procedure_of h.item;
      among = in_map procedure_of program.procs.items h.item (subst (λ (qs : List Proc). Contains qs h.item) is h.among);
      unused = λ call c same.
          let there : Contains (names_in (all_calls p)) call.name = in_map (λ (i : Ident). i.name) (all_calls p) call c in
          let yes : test h.item.name.name ≡ true = subst (λ (n : List ℕ). test n ≡ true) same
          (called call.name ∙ any_there call.name (names_in (all_calls p)) there) in
          let no : test h.item.name.name ≡ false = false_of (test h.item.name.name) h.passed in
          let clash : true ≡ false = sym yes ∙ no in
          cc clash;
      at = h.place;
    }

    from : (s : Span) → IsUnusedProcedure p s → Passes (is_uncalled test) (λ (q : Proc). q.name.at) procs s
    from s h =
        let q = of_map procedure_of program.procs.items h.procedure h.among in
        let name : q.0.name.name ≡ h.procedure.name.name = ap (λ (x : Procedure). x.name.name) q.2 in
        record {
          item = q.0;
          among = subst (λ (qs : List Proc). Contains qs q.0) (sym is) q.1;
          passed = not_false (test q.0.name.name) (λ yes.
              let c = of_map (λ (i : Ident). i.name) (all_calls p) q.0.name.name
              (there_any q.0.name.name (names_in (all_calls p)) (sym (called q.0.name.name) ∙ yes)) in
              h.unused c.0 c.1 (c.2 ∙ name));
          place = h.at ∙ sym (ap (λ (x : Procedure). x.name.at) q.2);
        }

pub nowhere : (P : Span → Type 0) (o : Option Span) → IsLeast P o → o ≡ None → (s : Span) → ¬ P s
nowhere P o least none = subst (λ (q : Option Span). IsLeast P q) none least

pub first_here : {P : Span → Type 0} (o : Option Span) (s : Span) → IsLeast P o → o ≡ Some s → IsFirst P s
first_here {P} o s least some = subst (λ (q : Option Span). IsLeast P q) some least

abbrev pub IsRefusedAt : FaultCode → Option Span → CallError → Type 0
IsRefusedAt c place e = (at : Span) × (place ≡ Some at) × (e ≡ Refused (record { code = c; at = at; other = at }))

pub refused_for : (p : ProgramTree) (c : FaultCode) (o : Option Span) (e : CallError) → IsLeast (CallFaultAt p c) o → IsRefusedAt c o e
    → IfRefusedCall (IsRefusedFor p c) e
refused_for p c o e least h =
    subst (λ (x : CallError). IfRefusedCall (IsRefusedFor p c) x) (sym h.2) (record { cause = refl; first = first_here o h.0 least h.1; other = refl })

pub refused_alone : (c : FaultCode) (o : Option Span) (e : CallError) → IsRefusedAt c o e → IsNoCount e
refused_alone c o e h = subst (λ (x : CallError). IsNoCount x) (sym h.2) tt
