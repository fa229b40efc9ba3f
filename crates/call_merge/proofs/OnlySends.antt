-- The program of calls alone does nothing but send.
use Rattle.std.proofs.Common.{◌≡◌, List, [], ◌∷◌, ◌++◌, inl, inr, ⊎_elim, subst, ap, ◌∙◌}
use Rattle.std.specs.Prelude.{Contains}
use Rattle.std.proofs.lemmas.List.Elements.{Contains-append_cases}
use Rattle.chp_base.specs.declared.fault.FaultCode.TheVariants as code
use Rattle.chp_syntax.specs.declared.tree.Decl.{Decl}
use Rattle.chp_syntax.specs.Trees.{Statement, skips, assigns, sends, receives, follows, besides, selects, repeats, calls, Statements, no_members, and_member, Arms, no_arms, and_arm, ProgramTree}
use Rattle.width_check.specs.Form.{process_form, processes_form, choices_form, typed_form}
use Rattle.width_check.specs.Processes.{TypedProgram}
use Rattle.width_check.specs.Sharing.{Deed, reads_var, writes_var, sends_on, receives_on, Occurrence, occurrences, occurrences_of_each, occurrences_of_choices, IsAcross, Parallel, ParallelInside, ParallelInChoices, ParallelAcross, Clashes, IsUnshared}
use Rattle.width_check.specs.Typed.{TypedValue, program_of}
use Rattle.width_check.specs.View.{process_of}
use Rattle.width_check.proofs.Least.{front_or_rest, no_item}
use Rattle.call_merge.specs.CallSites.{call_sends, call_sends_each, call_sends_arms, calls_program, calls_process}

abbrev pub IsSending : Deed → Type 0
IsSending (sends_on k) = Unit {0}
IsSending _ = ⊥

abbrev OnlySends : List Occurrence → Type 0
OnlySends os = (o : Occurrence) → Contains os o → IsSending o.deed

none_sends : OnlySends []
none_sends o c = absurd (no_item o c)

both_send : (xs ys : List Occurrence) → OnlySends xs → OnlySends ys → OnlySends (xs ++ ys)
both_send xs ys f g o c = ⊎_elim (λ h. f o h) (λ h. g o h) (Contains-append_cases xs ys o c)

one_sends : (x : Occurrence) → IsSending x.deed → OnlySends (x ∷ [])
one_sends x f o c = ⊎_elim (λ (same : x ≡ o). subst (λ (y : Occurrence). IsSending y.deed) same f) (λ h. absurd (no_item o h)) (front_or_rest x o [] c)

mutual
  sends_only : (ds : List Decl) (s : Statement) → OnlySends (occurrences (process_form ds (call_sends s)))
  sends_only ds (skips at) = none_sends
  sends_only ds (assigns target e) = none_sends
  sends_only ds (sends chan e) = none_sends
  sends_only ds (receives chan target) = none_sends
  sends_only ds (follows members) = members_send ds members
  sends_only ds (besides members) = members_send ds members
  sends_only ds (selects again arms) = arms_send ds arms
  sends_only ds (repeats s) = sends_only ds s
  sends_only ds (calls of) = one_sends _ tt

  members_send : (ds : List Decl) (us : Statements) → OnlySends (occurrences_of_each (processes_form ds (call_sends_each us)))
  members_send ds no_members = none_sends
  members_send ds (and_member s more) = both_send _ _ (sends_only ds s) (members_send ds more)

  arms_send : (ds : List Decl) (xs : Arms) → OnlySends (occurrences_of_choices (choices_form ds (call_sends_arms xs)))
  arms_send ds no_arms = none_sends
  arms_send ds (and_arm g s more) = both_send _ _ (sends_only ds s) (arms_send ds more)

across_sends : (xs ys : List Occurrence) (a b : Occurrence) → OnlySends xs → OnlySends ys → IsAcross xs ys a b → IsSending a.deed
across_sends xs ys a b f g (inl h) = f a h.0
across_sends xs ys a b f g (inr h) = g a h.0

mutual
  parallel_sends : (ds : List Decl) (s : Statement) (a b : Occurrence) → Parallel (process_form ds (call_sends s)) a b → IsSending a.deed
  parallel_sends ds (skips at) a b h = absurd h
  parallel_sends ds (assigns target e) a b h = absurd h
  parallel_sends ds (sends chan e) a b h = absurd h
  parallel_sends ds (receives chan target) a b h = absurd h
  parallel_sends ds (follows members) a b h = inside_sends ds members a b h
  parallel_sends ds (besides members) a b (inl h) = inside_sends ds members a b h
  parallel_sends ds (besides members) a b (inr h) = between_sends ds members a b h
  parallel_sends ds (selects again arms) a b h = chosen_sends ds arms a b h
  parallel_sends ds (repeats s) a b h = parallel_sends ds s a b h
  parallel_sends ds (calls of) a b h = absurd h

  inside_sends : (ds : List Decl) (us : Statements) (a b : Occurrence) → ParallelInside (processes_form ds (call_sends_each us)) a b → IsSending a.deed
  inside_sends ds no_members a b h = absurd h
  inside_sends ds (and_member s more) a b (inl h) = parallel_sends ds s a b h
  inside_sends ds (and_member s more) a b (inr h) = inside_sends ds more a b h

  chosen_sends : (ds : List Decl) (xs : Arms) (a b : Occurrence) → ParallelInChoices (choices_form ds (call_sends_arms xs)) a b → IsSending a.deed
  chosen_sends ds no_arms a b h = absurd h
  chosen_sends ds (and_arm g s more) a b (inl h) = parallel_sends ds s a b h
  chosen_sends ds (and_arm g s more) a b (inr h) = chosen_sends ds more a b h

  between_sends : (ds : List Decl) (us : Statements) (a b : Occurrence) → ParallelAcross (processes_form ds (call_sends_each us)) a b → IsSending a.deed
  between_sends ds no_members a b h = absurd h
  between_sends ds (and_member s more) a b (inl h) = across_sends _ _ a b (sends_only ds s) (members_send ds more) h
  between_sends ds (and_member s more) a b (inr h) = between_sends ds more a b h

no_variable : (d e : Deed) → IsSending d → ¬ Clashes code.SharedVariable d e
no_variable (sends_on k) e f h = absurd h
no_variable (reads_var x) e f h = absurd f
no_variable (writes_var x) e f h = absurd f
no_variable (receives_on x) e f h = absurd f

no_receive : (d e : Deed) → IsSending d → ¬ Clashes code.SharedReceive d e
no_receive (sends_on k) e f h = absurd h
no_receive (reads_var x) e f h = absurd f
no_receive (writes_var x) e f h = absurd f
no_receive (receives_on x) e f h = absurd f

pub variables_unshared : (p : ProgramTree) → IsUnshared (calls_process p) code.SharedVariable
variables_unshared p a b h = no_variable a.deed b.deed (parallel_sends _ p.body a b h)

pub receives_unshared : (p : ProgramTree) → IsUnshared (calls_process p) code.SharedReceive
receives_unshared p a b h = no_receive a.deed b.deed (parallel_sends _ p.body a b h)

-- the typed program of calls alone

pub typed_calls : (p : ProgramTree) (tree : ProgramTree) (typed : TypedValue) → tree ≡ calls_program p → program_of typed ≡ typed_form tree →
    process_of typed.body ≡ calls_process p
typed_calls p tree typed is form = ap (λ (t : TypedProgram). t.body) form ∙ ap (λ (q : ProgramTree). (typed_form q).body) is
