-- Of two programs that are the same but for places both meet the rules of procedures and calls, or neither, and they mean
-- accepted programs that are the same but for places.
--
-- p, q: the two programs; s, t: places of a fault in the two.
use Rattle.std.proofs.Common.{◌≡◌, ◌≤◌, ℕ, List, [], ◌∷◌, map, refl, sym, ap, ◌∙◌, subst}
use Rattle.chp_base.specs.declared.span.Span.{Span}
use Rattle.chp_base.specs.declared.fault.FaultCode.{FaultCode}
use Rattle.chp_base.specs.declared.fault.FaultCode.TheVariants as code
use Rattle.chp_syntax.specs.declared.tree.Ident.{Ident}
use Rattle.chp_syntax.specs.Trees as plain
use Rattle.chp_syntax.specs.Trees.{Statement, skips, assigns, sends, receives, follows, besides, selects, repeats, calls, Statements, Arms, no_arms, and_arm, Procedure, ProgramTree}
use Rattle.width_check.specs.Accepted.{IsAccepted}
use Rattle.width_check.specs.Calls.{has_call, some_has_call, arm_has_call, IsCallFree}
use Rattle.width_check.specs.Faults.{naming_faults}
use Rattle.width_check.specs.Form.{typed_form}
use Rattle.width_check.specs.Processes.{TypedProgram}
use Rattle.call_merge.specs.CallSites.{nested_calls, all_calls, call_sends, call_sends_each, call_sends_arms, call_channel, calls_program, calls_process}
use Rattle.call_merge.specs.CallFaults.{IsDoubleProcedure, IsNestedCall, IsUnknownCall, IsUnusedProcedure, CallFaultAt, call_faults, LacksCallFaults, MeetsCalling}
use Rattle.call_merge.specs.CallForms.{statement_forms, most_forms}
use Rattle.chp_cli.specs.Unplaced.{unplaced_name, unplaced_statement, unplaced_members, unplaced_arms, unplaced_decl, unplaced_procedure, unplaced, AreLaidOutAlike}
use Rattle.chp_cli.proofs.SameForms.{formed_alike}
use Rattle.chp_cli.proofs.SameFaults.{like, like_at, none_alike}
use Rattle.chp_cli.proofs.SameSharing.{unshared_alike, sharing_alike}
use Rattle.chp_cli.proofs.SameInlined.{nested_same, all_calls_same, statement_forms_same}

-- calls

mutual
  has_same : (s : Statement) → has_call (unplaced_statement s) ≡ has_call s
  has_same (skips at) = refl
  has_same (assigns target e) = refl
  has_same (sends chan e) = refl
  has_same (receives chan target) = refl
  has_same (follows members) = some_has_same members
  has_same (besides members) = some_has_same members
  has_same (selects again arms) = arm_has_same arms
  has_same (repeats s) = has_same s
  has_same (calls of) = refl

  some_has_same : (members : Statements) → some_has_call (unplaced_members members) ≡ some_has_call members
  some_has_same plain.no_members = refl
  some_has_same (plain.and_member s more) =
      let first = has_same s in
      let rest = some_has_same more in
      rw (first, rest) refl

  arm_has_same : (arms : Arms) → arm_has_call (unplaced_arms arms) ≡ arm_has_call arms
  arm_has_same no_arms = refl
  arm_has_same (and_arm g s more) =
      let first = has_same s in
      let rest = arm_has_same more in
      rw (first, rest) refl

no_procs : (qs : List Procedure) → map unplaced_procedure qs ≡ [] → qs ≡ []
no_procs [] none = refl
no_procs (q ∷ qs) none = absurd (cc none)

pub call_free_alike : (p q : ProgramTree) → AreLaidOutAlike p q → IsCallFree p → IsCallFree q
call_free_alike p q alike free = record {
  procs = no_procs q.procs (sym (ap (λ (t : ProgramTree). t.procs) alike) ∙ ap (map unplaced_procedure) free.procs);
  body = sym (has_same q.body) ∙ (sym (ap (λ (t : ProgramTree). has_call t.body) alike) ∙ (has_same p.body ∙ free.body));
}

pub accepted_alike : (p q : ProgramTree) → AreLaidOutAlike p q → IsAccepted p → IsAccepted q
accepted_alike p q alike is = record {
  call_free = call_free_alike p q alike is.call_free;
  named = none_alike p q alike naming_faults is.named;
  sharing = sharing_alike (typed_form p).body (typed_form q).body (ap (λ (t : TypedProgram). t.body) (formed_alike p q alike)) is.sharing;
}

-- the program of the calls

mutual
  sends_same : (s : Statement) → call_sends (unplaced_statement s) ≡ unplaced_statement (call_sends s)
  sends_same (skips at) = refl
  sends_same (assigns target e) = refl
  sends_same (sends chan e) = refl
  sends_same (receives chan target) = refl
  sends_same (follows members) = ap follows (sends_each_same members)
  sends_same (besides members) = ap besides (sends_each_same members)
  sends_same (selects again arms) = ap (selects again) (sends_arms_same arms)
  sends_same (repeats s) = ap repeats (sends_same s)
  sends_same (calls of) = refl

  sends_each_same : (members : Statements) → call_sends_each (unplaced_members members) ≡ unplaced_members (call_sends_each members)
  sends_each_same plain.no_members = refl
  sends_each_same (plain.and_member s more) =
      let first = sends_same s in
      let rest = sends_each_same more in
      rw (first, rest) refl

  sends_arms_same : (arms : Arms) → call_sends_arms (unplaced_arms arms) ≡ unplaced_arms (call_sends_arms arms)
  sends_arms_same no_arms = refl
  sends_arms_same (and_arm g s more) =
      let first = sends_same s in
      let rest = sends_arms_same more in
      rw (first, rest) refl

call_channels_same : (qs : List Procedure) → map call_channel (map unplaced_procedure qs) ≡ map unplaced_decl (map call_channel qs)
call_channels_same [] = refl
call_channels_same (q ∷ qs) = ap (λ l. unplaced_decl (call_channel q) ∷ l) (call_channels_same qs)

calls_program_same : (p : ProgramTree) → calls_program (unplaced p) ≡ unplaced (calls_program p)
calls_program_same p =
    let channels = call_channels_same p.procs in
    let body = sends_same p.body in
    rw (channels, body) refl

calls_alike : (p q : ProgramTree) → AreLaidOutAlike p q → AreLaidOutAlike (calls_program p) (calls_program q)
calls_alike p q alike = sym (calls_program_same p) ∙ (ap calls_program alike ∙ calls_program_same q)

-- faults of procedures and calls

module _ (p q : ProgramTree) (alike : AreLaidOutAlike p q) where
  procs_alike : map unplaced_procedure p.procs ≡ map unplaced_procedure q.procs
  procs_alike = ap (λ (t : ProgramTree). t.procs) alike

  nested_alike : map unplaced_name (nested_calls p.procs) ≡ map unplaced_name (nested_calls q.procs)
  nested_alike = sym (nested_same p.procs) ∙ (ap nested_calls procs_alike ∙ nested_same q.procs)

  all_calls_alike : map unplaced_name (all_calls p) ≡ map unplaced_name (all_calls q)
  all_calls_alike = sym (all_calls_same p) ∙ (ap all_calls alike ∙ all_calls_same q)

  procs_back : map unplaced_procedure q.procs ≡ map unplaced_procedure p.procs
  procs_back = sym procs_alike

  double_call_alike : (s : Span) → IsDoubleProcedure q s → (t : Span) × IsDoubleProcedure p t
  double_call_alike s f =
      let a = like_at unplaced_procedure p.procs q.procs procs_alike f.earlier f.first f.first_is in
      let b = like_at unplaced_procedure p.procs q.procs procs_alike f.later f.second f.second_is in (
        b.0.name.at,
        record {
          earlier = f.earlier;
          later = f.later;
          order = f.order;
          first = a.0;
          second = b.0;
          first_is = a.1;
          second_is = b.1;
          same = ap (λ (r : Procedure). r.name.name) a.2 ∙ (f.same ∙ sym (ap (λ (r : Procedure). r.name.name) b.2));
          at = refl;
        },
      )

  nested_call_alike : (s : Span) → IsNestedCall q s → (t : Span) × IsNestedCall p t
  nested_call_alike s f =
      let i = like unplaced_name (nested_calls p.procs) (nested_calls q.procs) nested_alike f.call f.among in
      (i.0.at, record { call = i.0; among = i.1; at = refl })

  unknown_call_alike : (s : Span) → IsUnknownCall q s → (t : Span) × IsUnknownCall p t
  unknown_call_alike s f =
      let i = like unplaced_name (all_calls p) (all_calls q) all_calls_alike f.call f.among in (
        i.0.at,
        record {
          call = i.0;
          among = i.1;
          unknown = λ r c same.
              let there = like unplaced_procedure q.procs p.procs procs_back r c in
              f.unknown there.0 there.1 (ap (λ (x : Procedure). x.name.name) there.2 ∙ (same ∙ ap (λ (x : Ident). x.name) i.2));
          at = refl;
        },
      )

  unused_alike : (s : Span) → IsUnusedProcedure q s → (t : Span) × IsUnusedProcedure p t
  unused_alike s f =
      let r = like unplaced_procedure p.procs q.procs procs_alike f.procedure f.among in (
        r.0.name.at,
        record {
          procedure = r.0;
          among = r.1;
          unused = λ call c same.
              let there = like unplaced_name (all_calls q) (all_calls p) (sym all_calls_alike) call c in
              f.unused there.0 there.1 (ap (λ (x : Ident). x.name) there.2 ∙ (same ∙ ap (λ (x : Procedure). x.name.name) r.2));
          at = refl;
        },
      )

  call_fault_alike : (c : FaultCode) (s : Span) → CallFaultAt q c s → (t : Span) × CallFaultAt p c t
  call_fault_alike code.DoubleProcedure s f = double_call_alike s f
  call_fault_alike code.NestedCall s f = nested_call_alike s f
  call_fault_alike code.UnknownProcedure s f = unknown_call_alike s f
  call_fault_alike code.UnusedProcedure s f = unused_alike s f
  call_fault_alike _ s f = absurd f

  lacks_alike : (cs : List FaultCode) → LacksCallFaults p cs → LacksCallFaults q cs
  lacks_alike [] none = tt
  lacks_alike (c ∷ cs) none = ((λ s f. let r = call_fault_alike c s f in none.0 r.0 r.1), lacks_alike cs none.1)

  pub calling_alike : MeetsCalling p → MeetsCalling q
  calling_alike meets = record {
    named = lacks_alike call_faults meets.named;
    apart = unshared_alike (calls_process p) (calls_process q)
        (ap (λ (t : TypedProgram). t.body) (formed_alike (calls_program p) (calls_program q) (calls_alike p q alike))) code.SharedSend meets.apart;
  }

  pub few_forms_alike : statement_forms p.body ≤ most_forms → statement_forms q.body ≤ most_forms
  few_forms_alike few =
      subst (λ (n : ℕ). n ≤ most_forms)
      (sym (statement_forms_same p.body) ∙ (ap (λ (t : ProgramTree). statement_forms t.body) alike ∙ statement_forms_same q.body)) few
