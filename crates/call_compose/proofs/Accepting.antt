-- From the checks of the program without procedures to what the laws of shared bodies ask.
use Rattle.std.proofs.Common.{◌≡◌, ◌≢◌, ℕ, zero, suc, ◌+◌, ◌<◌, ◌≤◌, Bool, List, [], ◌∷◌, ◌++◌, length, map, Some, refl, sym, ap, ◌∙◌, subst, inl, inr, arith, length-append}
use Rattle.std.specs.Prelude.{slice_get, slice_index_or, Contains}
use Rattle.std.specs.List.{AllByRecursion, IsDistinct, flat_map}
use Rattle.std.specs.Str.{bytes_eq}
use Rattle.std.proofs.lemmas.List.{length-map}
use Rattle.std.proofs.lemmas.List.Elements.{Contains-append_left, Contains-append_right}
use Rattle.chp_base.specs.declared.channel.Channel.{Channel}
use Rattle.chp_base.specs.declared.span.Span.{Span}
use Rattle.chp_syntax.specs.declared.tree.Decl.{Decl}
use Rattle.chp_syntax.specs.declared.tree.Ident.{Ident}
use Rattle.chp_syntax.specs.Shape.{IsShaped}
use Rattle.chp_syntax.specs.Trees.{Procedure, ProgramTree}
use Rattle.width_check.specs.declared.typed.Var.{Var}
use Rattle.width_check.specs.Accepted.{IsAccepted}
use Rattle.width_check.specs.Faults.{IsDouble, HasNone, naming_faults}
use Rattle.width_check.specs.Form.{process_form, channels_of, vars_of, typed_form}
use Rattle.width_check.specs.Places.{Use, uses_in}
use Rattle.width_check.specs.Processes.{Process, skipping, TypedProgram}
use Rattle.width_check.specs.Typing.{IsTyped, IsProcess, AreProcesses, AreChoices}
use Rattle.width_check.proofs.Least.{in_rest}
use Rattle.chp_meaning.specs.Halves.{ReadsNoTarget}
use Rattle.reset_net.specs.Resets.{reset_of}
use Rattle.env_script.specs.Runs.{IsPowered}
use Rattle.net_compose.specs.Carries.{Carries, CarriesReset}
use Rattle.net_compose.specs.Points.{IsTranslated}
use Rattle.net_compose.specs.Progress.{ProgressesFrom}
use Rattle.call_map.specs.Calling.{Called, calling, atom, turned, abreast, chosen, looped, Calleds, no_calleds, and_called, CalledChoices, no_called, or_called, inlined, inlined_each, inlined_choices}
use Rattle.call_map.specs.CallNet.{SharedBodiesCarry, SharedBodiesHold, SharedBodiesCarryReset, inlined_program, call_count, call_net, call_names}
use Rattle.call_map.specs.CallPace.{IsMost, SharedBodiesProgress, SharedBodiesProgressReset, call_most_moves}
use Rattle.call_map.specs.CallsApart.{Calls, OneCalls, ChoiceCalls}
use Rattle.call_merge.specs.CallSplits.{own_readers, split_procedures, own_names, all_own_readers, all_uses, all_names, program_names, AreOwnVars}
use Rattle.call_merge.specs.CallSites.{all_calls}
use Rattle.call_merge.specs.Inlining.{IsInlined}
use Rattle.call_merge.proofs.CallsAlone.{in_map}
use Rattle.call_merge.proofs.OwnCounts.{distinct_names}
use Rattle.call_merge.proofs.SplitSteps.{readers_of}
use Rattle.call_merge.proofs.Whole.{own_counted}
use Rattle.call_compose.specs.CalledForm.{body_forms, call_program}
use Rattle.call_compose.specs.CallsCarried.{CallsAsked, CallsCarried, CallsHold, CallsCarriedReset, CallsProgress, CallsProgressReset}
use Rattle.call_compose.proofs.CallPrograms.{calls_meant}
use Rattle.call_compose.proofs.CallsMet.{front_all, rest_all}
use Rattle.call_compose.proofs.FormsAlike.{calls_alike}
use Rattle.call_compose.proofs.Unread.{AreNotOwn, unread}

-- the bodies of called procedures are typed, where the program with copies is

mutual
  pub called_typed : (chs : List Channel) (vs : List Var) (ps : List Process) (c : Called) (q : ℕ) → IsProcess chs vs (inlined ps c) → Calls c q
      → IsProcess chs vs (slice_index_or ps q skipping)
  called_typed chs vs ps (calling k) q typed h = subst (λ i. IsProcess chs vs (slice_index_or ps i skipping)) h typed
  called_typed chs vs ps (atom s) q typed h = absurd h
  called_typed chs vs ps (turned members) q typed h = one_typed chs vs ps members q typed.1 h
  called_typed chs vs ps (abreast members) q typed h = one_typed chs vs ps members q typed.1 h
  called_typed chs vs ps (chosen again choices) q typed h = choice_typed chs vs ps choices q typed.2 h
  called_typed chs vs ps (looped s) q typed h = called_typed chs vs ps s q typed h

  one_typed : (chs : List Channel) (vs : List Var) (ps : List Process) (cs : Calleds) (q : ℕ) → AreProcesses chs vs (inlined_each ps cs) → OneCalls cs q
      → IsProcess chs vs (slice_index_or ps q skipping)
  one_typed chs vs ps no_calleds q typed h = absurd h
  one_typed chs vs ps (and_called s more) q typed (inl h) = called_typed chs vs ps s q typed.0 h
  one_typed chs vs ps (and_called s more) q typed (inr h) = one_typed chs vs ps more q typed.1 h

  choice_typed : (chs : List Channel) (vs : List Var) (ps : List Process) (cs : CalledChoices) (q : ℕ) → AreChoices chs vs (inlined_choices ps cs)
      → ChoiceCalls cs q → IsProcess chs vs (slice_index_or ps q skipping)
  choice_typed chs vs ps no_called q typed h = absurd h
  choice_typed chs vs ps (or_called g s more) q typed (inl h) = called_typed chs vs ps s q typed.1 h
  choice_typed chs vs ps (or_called g s more) q typed (inr h) = choice_typed chs vs ps more q typed.2 h

-- in none of them an assignment reads its own target

abbrev procedure_uses : List Procedure → List Use
procedure_uses qs = flat_map (λ (q : Procedure). uses_in q.body) qs

bodies_unread : (decls vars : List Decl) (chs : List Channel) → IsDistinct bytes_eq (own_names (decls ++ vars)) → (qs : List Procedure) (n : ℕ)
    → n + length (readers_of decls qs) ≤ length (own_names vars) → AreNotOwn (own_names vars) (procedure_uses qs)
    → ((k : ℕ) → k < length (body_forms (decls ++ vars) (split_procedures decls (own_names vars) n qs))
    → IsProcess chs (vars_of (decls ++ vars)) (slice_index_or (body_forms (decls ++ vars) (split_procedures decls (own_names vars) n qs)) k skipping))
    → (k : ℕ) → k < length (body_forms (decls ++ vars) (split_procedures decls (own_names vars) n qs))
    → ReadsNoTarget (slice_index_or (body_forms (decls ++ vars) (split_procedures decls (own_names vars) n qs)) k skipping)
bodies_unread decls vars chs distinct [] n room uses typed k less = absurd (omega (arith, less))
bodies_unread decls vars chs distinct (q ∷ qs) n room uses typed zero less =
    let both = length-append (own_readers decls q.body) (readers_of decls qs) in
    unread decls vars chs distinct n q.body (omega (arith, room, both))
    (front_all (λ (u : Use). AllByRecursion (λ h. h ≢ u.name) (own_names vars)) (uses_in q.body) (procedure_uses qs) uses) (typed 0 less)
bodies_unread decls vars chs distinct (q ∷ qs) n room uses typed (suc k) less =
    let both = length-append (own_readers decls q.body) (readers_of decls qs) in
    bodies_unread decls vars chs distinct qs (n + length (own_readers decls q.body)) (omega (arith, room, both))
    (rest_all (λ (u : Use). AllByRecursion (λ h. h ≢ u.name) (own_names vars)) (uses_in q.body) (procedure_uses qs) uses)
    (λ j l. typed (suc j) (omega (arith, l))) k (omega (arith, less))

-- no name of the text is one of the variables'

own_free : (ds : List Decl) (names : List (List ℕ)) (xs : List Ident) (vs : List Decl) (name : List ℕ) → AreOwnVars ds names xs vs → Contains names name
    → AllByRecursion (λ h. h ≢ name) (own_names vs)
own_free ds names [] [] name own c = tt
own_free ds names [] (v ∷ vs) name own c = absurd own
own_free ds names (x ∷ xs) [] name own c = absurd own
own_free ds names (x ∷ xs) (v ∷ vs) name own c = (
  λ same. own.0.free (subst (λ (n : List ℕ). Contains names n) (sym same) c),
  own_free ds (names ++ v.name.name ∷ []) xs vs name own.2 (Contains-append_left names (v.name.name ∷ []) name c),
)

each_free : (ns : List (List ℕ)) (us : List Use) → ((u : Use) → Contains us u → AllByRecursion (λ h. h ≢ u.name) ns) → AreNotOwn ns us
each_free ns [] each = tt
each_free ns (u ∷ us) each = (each u (0, omega arith, refl), each_free ns us (λ v c. each v (in_rest u v us c)))

uses_free : (p : ProgramTree) (vars : List Decl) → AreOwnVars p.decls (all_names p) (all_own_readers p) vars
    → AreNotOwn (own_names vars) (procedure_uses p.procs)
uses_free p vars own = each_free (own_names vars) (procedure_uses p.procs) (λ u c.
    let used = in_map (λ (x : Use). x.name) (all_uses p) u (Contains-append_left (procedure_uses p.procs) (uses_in p.body) u c) in
    own_free p.decls (all_names p) (all_own_readers p) vars u.name own
    (Contains-append_left (program_names p ++ map (λ (x : Use). x.name) (all_uses p)) (map (λ (i : Ident). i.name) (all_calls p)) u.name
    (Contains-append_right (program_names p) (map (λ (x : Use). x.name) (all_uses p)) u.name used)))

-- no name is declared twice

got_decl : (ds : List Decl) (k : ℕ) (name : List ℕ) → slice_get (own_names ds) k ≡ Some name → (d : Decl) × (slice_get ds k ≡ Some d) × (d.name.name ≡ name)
got_decl [] k name is = absurd (cc is)
got_decl (d ∷ ds) zero name is = (d, refl, let same : d.name.name ≡ name = cc is in same)
got_decl (d ∷ ds) (suc k) name is = got_decl ds k name is

decls_distinct : (r : ProgramTree) → ((s : Span) → ¬ IsDouble r s) → IsDistinct bytes_eq (own_names r.decls)
decls_distinct r none = distinct_names (own_names r.decls) (λ k j name less first second.
    let a = got_decl r.decls k name first in
    let b = got_decl r.decls j name second in
    none b.0.name.at (record {
      earlier = k;
      later = j;
      order = less;
      first = a.0;
      second = b.0;
      first_is = a.1;
      second_is = b.1;
      same = a.2 ∙ sym b.2;
      at = refl;
    }))

-- all together

abbrev pub FormIsTyped : Type 0
FormIsTyped = (p : ProgramTree) → IsShaped p → HasNone p naming_faults → IsTyped (channels_of p.decls) (vars_of p.decls) (process_form p.decls p.body)

copies_typed : FormIsTyped → (p r : ProgramTree) (h : IsInlined p r) → IsShaped r → IsAccepted r → IsTranslated (inlined_program (call_program p h.vars))
copies_typed form p r h shaped accepted =
    let typed : IsTranslated (typed_form r) = record { typed = form r shaped accepted.named; sharing = accepted.sharing } in
    subst (λ (t : TypedProgram). IsTranslated t) (ap typed_form h.tree ∙ sym (calls_alike p h.vars)) typed

pub calls_asked : FormIsTyped → CallsAsked
calls_asked form p r h meets shaped accepted =
    let meant = calls_meant p h.vars meets in
    let typed = copies_typed form p r h shaped accepted in
    let chs = channels_of (p.decls ++ h.vars) in
    let distinct : IsDistinct bytes_eq (own_names (p.decls ++ h.vars)) =
    subst (λ (t : ProgramTree). IsDistinct bytes_eq (own_names t.decls)) h.tree (decls_distinct r accepted.named.0) in
    let vars = own_counted p.decls (all_names p) (all_own_readers p) h.vars h.own in
    let named : length (own_names h.vars) ≡ length h.vars = length-map h.vars (λ (d : Decl). d.name.name) in
    record {
      atoms = meant.atoms;
      declared = meant.declared;
      called = meant.called;
      apart = meant.apart;
      unread = bodies_unread p.decls h.vars chs distinct p.procs 0 (omega (arith, vars, named)) (uses_free p h.vars h.own)
          (λ k less. called_typed chs (vars_of (p.decls ++ h.vars)) (call_program p h.vars).procs (call_program p h.vars).body k typed.typed.body_is
          (meant.called k less));
    }

pub calls_carried : FormIsTyped → SharedBodiesCarry → CallsCarried
calls_carried form carry p r h meets shaped accepted names =
    subst (λ (t : TypedProgram). Carries (call_net (call_program p h.vars) names) t) (calls_alike p h.vars ∙ sym (ap typed_form h.tree))
    (carry (call_program p h.vars) (calls_asked form p r h meets shaped accepted) (copies_typed form p r h shaped accepted) names)

pub calls_hold : FormIsTyped → SharedBodiesHold → CallsHold
calls_hold form hold p r h meets shaped accepted few =
    hold (call_program p h.vars) (calls_asked form p r h meets shaped accepted) (copies_typed form p r h shaped accepted) few

pub calls_carried_reset : FormIsTyped → SharedBodiesCarryReset → CallsCarriedReset
calls_carried_reset form carry p r h meets shaped accepted few =
    subst (λ (t : TypedProgram). CarriesReset (reset_of (call_net (call_program p h.vars) (call_names (call_program p h.vars)))) t)
    (calls_alike p h.vars ∙ sym (ap typed_form h.tree))
    (carry (call_program p h.vars) (calls_asked form p r h meets shaped accepted) (copies_typed form p r h shaped accepted) few)

pub calls_progress : FormIsTyped → SharedBodiesProgress → CallsProgress
calls_progress form progress p r h meets shaped accepted =
    let C = call_program p h.vars in
    subst
    (λ (t : TypedProgram). (most : ℕ → ℕ) → IsMost t most → (names : List (List ℕ))
    → ProgressesFrom (call_net C names) t (call_most_moves most) (call_net C names).first)
    (calls_alike p h.vars ∙ sym (ap typed_form h.tree))
    (progress C (calls_asked form p r h meets shaped accepted) (copies_typed form p r h shaped accepted))

pub calls_progress_reset : FormIsTyped → SharedBodiesProgressReset → CallsProgressReset
calls_progress_reset form progress p r h meets shaped accepted =
    let C = call_program p h.vars in
    let net = reset_of (call_net C (call_names C)) in
    subst
    (λ (t : TypedProgram). (most : ℕ → ℕ) → IsMost t most → call_count C ≤ 65536 → (values : List Bool) → IsPowered net values
    → ProgressesFrom net t (call_most_moves most) values)
    (calls_alike p h.vars ∙ sym (ap typed_form h.tree))
    (progress C (calls_asked form p r h meets shaped accepted) (copies_typed form p r h shaped accepted))
