-- What is known of the typed form of a program with procedures, beside that of the program without them.
use Rattle.std.proofs.Common.{◌≡◌, ◌∙◌, ℕ, suc, ◌+◌, ◌<◌, ◌≤◌, List, [], ◌∷◌, ◌++◌, length, map, All, refl, sym, ap, subst, arith}
use Rattle.std.proofs.lemmas.List.{length-map}
use Rattle.std.proofs.lemmas.List.Elements.{All-from_get_or}
use Rattle.chp_syntax.specs.declared.tree.Decl.{Decl}
use Rattle.chp_syntax.specs.Trees.{Procedure, ProgramTree}
use Rattle.width_check.specs.Form.{process_form, typed_form}
use Rattle.width_check.specs.Processes.{Process, skipping, TypedProgram}
use Rattle.width_check.specs.Typing.{IsProcess}
use Rattle.handshake_expand.specs.Layout.{size_of, root_request, nodes_of}
use Rattle.call_map.specs.Calling.{inlined, called_size}
use Rattle.call_map.specs.CallNet.{IsCallProgram, inlined_program, procs_size, call_count}
use Rattle.call_merge.specs.CallSplits.{split_procedures, own_names, own_readers}
use Rattle.call_compose.specs.CalledForm.{called_form, procedure_names}
use Rattle.call_compose.specs.CallsCarried.{CallsAsked}
use Rattle.call_compose.specs.Inlined.{AreInlined}
use Rattle.call_compose.specs.Placing.{shared_of}
use Rattle.call_compose.specs.Walking.{Copied, HasRoom}
use Rattle.call_compose.proofs.Accepting.{called_typed}
use Rattle.call_compose.proofs.FormsAlike.{calls_alike}

module _ (P : ProgramTree) (p : TypedProgram) (h : AreInlined P p) where
  pub same_program : p ≡ inlined_program (shared_of h)
  same_program = h.typed ∙ (ap typed_form h.inlined.tree ∙ sym (calls_alike P h.inlined.vars))

  pub meant : CallsAsked → IsCallProgram (shared_of h)
  meant asked = asked P h.tree h.inlined h.meets h.shaped h.accepted

  -- the bodies are typed
  pub bodies_typed : CallsAsked → IsProcess p.channels p.vars p.body → All (IsProcess p.channels p.vars) (shared_of h).procs
  bodies_typed asked typed =
      let C = shared_of h in
      let here : IsProcess C.channels C.vars (inlined C.procs C.body) = subst (λ (q : TypedProgram). IsProcess q.channels q.vars q.body) same_program typed in
      subst (λ (q : TypedProgram). All (IsProcess q.channels q.vars) C.procs) (sym same_program) (All-from_get_or (IsProcess C.channels C.vars) C.procs skipping
      (λ q within. called_typed C.channels C.vars C.procs C.body q here ((meant asked).called q within)))

  -- how many nodes there are
  pub count_is : call_count (shared_of h)
      ≡ root_request p + procs_size p (shared_of h).procs + 2 + called_size (shared_of h).procs p (shared_of h).body
  count_is =
      let C = shared_of h in
      ap (λ (q : TypedProgram). root_request q + procs_size q C.procs + 2 + called_size C.procs q C.body) (sym same_program)

  module _ (names : List (List ℕ)) (named : names ≡ procedure_names P.procs) (s : Process) (is : s ≡ p.body) where
    abbrev pub copied : Copied names s P.body
    copied = record {
      bodies = (shared_of h).procs;
      decls = P.decls ++ h.inlined.vars;
      same = is ∙ (ap (λ (q : TypedProgram). q.body) same_program
          ∙ ap (λ ns. inlined (shared_of h).procs (called_form (P.decls ++ h.inlined.vars) ns P.body)) (sym named));
    }

    pub room : (root count : ℕ) → root ≡ root_request p + procs_size p (shared_of h).procs → call_count (shared_of h) ≡ count → count ≤ 65536
        → nodes_of p ≤ 65536 → HasRoom names p s P.body (root + 2) count
    room root count at whole few copies =
        let C = shared_of h in
        let size : called_size C.procs p (called_form (P.decls ++ h.inlined.vars) names P.body) ≡ called_size C.procs p C.body =
        ap (λ ns. called_size C.procs p (called_form (P.decls ++ h.inlined.vars) ns P.body)) named in
        let all = count_is in
        let long : size_of p s ≡ size_of p p.body = ap (size_of p) is in
        record {
          copied = copied;
          own = omega (arith, size, all, at, whole);
          few = few;
          copies = omega (arith, long, all, at, whole, few, copies);
          root = omega (arith, at);
        }

-- each procedure has a body

split_count : (decls : List Decl) (names : List (List ℕ)) (n : ℕ) (qs : List Procedure) → length (split_procedures decls names n qs) ≡ length qs
split_count decls names n [] = refl
split_count decls names n (q ∷ qs) = ap suc (split_count decls names (n + length (own_readers decls q.body)) qs)

pub each_counted : (p : TypedProgram) (bs : List Process) → length bs ≤ procs_size p bs
each_counted p [] = omega arith
each_counted p (b ∷ bs) = let rest = each_counted p bs in omega (arith, rest)

pub procs_count : (P : ProgramTree) (p : TypedProgram) (h : AreInlined P p) → length (shared_of h).procs ≡ length P.procs
procs_count P p h =
    length-map (split_procedures P.decls (own_names h.inlined.vars) 0 P.procs) (λ (q : Procedure). process_form (P.decls ++ h.inlined.vars) q.body)
    ∙ split_count P.decls (own_names h.inlined.vars) 0 P.procs

-- the same of a program that is the same
abbrev pub moved : (P : ProgramTree) (p q : TypedProgram) → p ≡ q → AreInlined P q → AreInlined P p
moved P p q same h = record {
  tree = h.tree;
  inlined = h.inlined;
  meets = h.meets;
  shaped = h.shaped;
  accepted = h.accepted;
  typed = same ∙ h.typed;
}
