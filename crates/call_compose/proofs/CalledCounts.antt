-- Counting the nodes of a statement whose calls have one node each, part by part.
use Rattle.std.proofs.Common.{◌≡◌, ℕ, zero, suc, ◌+◌, ◌-◌, ◌*◌, ◌<◌, Bool, true, false, List, [], ◌∷◌, length, get_or, map, ◌++◌, inl, inr, refl, sym, ap, ◌∙◌, subst, arith, Bor}
use Rattle.std.specs.Prelude.{if◌then◌else◌, slice_index_or}
use Rattle.std.specs.List.{All}
use Rattle.std.specs.declared.alloc.Global.{Global}
use Rattle.std.specs.declared.vec.Vec.{Vec}
use Rattle.chp_base.specs.declared.channel.Channel.{Channel}
use Rattle.chp_syntax.specs.declared.tree.Decl.{Decl}
use Rattle.chp_syntax.specs.declared.tree.Stmt.{Stmt, Then, Beside, Select}
use Rattle.chp_syntax.specs.declared.tree.Arm.{Arm}
use Rattle.chp_syntax.specs.Trees.{ProgramTree}
use Rattle.chp_syntax.specs.View.{statement_of}
use Rattle.width_check.specs.declared.typed.Var.{Var}
use Rattle.width_check.specs.declared.typed.TStmt.{TStmt}
use Rattle.width_check.specs.declared.typed.TArm.{TArm}
use Rattle.width_check.specs.Processes.{Process, skipping, Processes, member_count, Choices, TypedProgram, in_turn, side_by_side, choosing}
use Rattle.width_check.specs.Typing.{IsProcess, AreProcesses, AreChoices}
use Rattle.width_check.specs.Form.{typed_form}
use Rattle.width_check.specs.Walk.{statements_in, arms_in}
use Rattle.width_check.specs.View.{process_of, members_in, choices_in}
use Rattle.width_check.proofs.Lists.{then_is, beside_is, select_is}
use Rattle.handshake_expand.specs.Answers.{select_own, again_own}
use Rattle.handshake_expand.specs.Layout.{capped, root_request}
use Rattle.call_map.specs.Calling.{Called, calling, atom, turned, abreast, chosen, looped, Calleds, no_calleds, and_called, CalledChoices, no_called, or_called, inlined, inlined_each, inlined_choices, called_size, called_turn_size, called_branches_size}
use Rattle.call_map.specs.CallNet.{inlined_program, procs_size, call_count}
use Rattle.call_map.specs.CallsApart.{Calls, OneCalls, ChoiceCalls}
use Rattle.call_compose.specs.CalledForm.{procedure_names, called_form, called_forms, called_arms, call_program, CallsTyped}
use Rattle.call_compose.specs.CallsMeant.{CallsMeant}
use Rattle.call_compose.specs.Inlined.{AreInlined}
use Rattle.call_compose.specs.CalledNodes.{called_members_size, called_arms_size}

-- members of which these are left, and as many nodes are counted
pub record MembersLeft (p : TypedProgram) (bs : List Process) (decls : List Decl) (names : List (List ℕ)) (all left : List Stmt) (left_typed : List TStmt)
    (count : ℕ) : Type 0 where
  pub behind : members_in left_typed ≡ inlined_each bs (called_forms decls names (statements_in left))
  pub counted : capped (count + called_members_size bs p (called_forms decls names (statements_in left)))
      ≡ capped (called_members_size bs p (called_forms decls names (statements_in all)))

abbrev pub MembersCounted : (p : TypedProgram) (all : List Stmt) (typed : List TStmt) (left : List Stmt) (left_typed : List TStmt) (count : ℕ) → Type 0
MembersCounted p all typed left left_typed count = (bs : List Process) (decls : List Decl) (names : List (List ℕ))
    → members_in typed ≡ inlined_each bs (called_forms decls names (statements_in all)) → MembersLeft p bs decls names all left left_typed count

-- arms, likewise
pub record ArmsLeft (p : TypedProgram) (bs : List Process) (decls : List Decl) (names : List (List ℕ)) (all left : List Arm) (left_typed : List TArm)
    (count : ℕ) : Type 0 where
  pub behind : choices_in left_typed ≡ inlined_choices bs (called_arms decls names (arms_in left))
  pub counted : capped (count + called_arms_size bs p (called_arms decls names (arms_in left)))
      ≡ capped (called_arms_size bs p (called_arms decls names (arms_in all)))

abbrev pub ArmsCounted : (p : TypedProgram) (all : List Arm) (typed : List TArm) (left : List Arm) (left_typed : List TArm) (count : ℕ) → Type 0
ArmsCounted p all typed left left_typed count = (bs : List Process) (decls : List Decl) (names : List (List ℕ))
    → choices_in typed ≡ inlined_choices bs (called_arms decls names (arms_in all)) → ArmsLeft p bs decls names all left left_typed count

-- groups with their own nodes
module _ (p : TypedProgram) (bs : List Process) (decls : List Decl) (names : List (List ℕ)) where
  pub turn_is : (ss : List Stmt) → called_turn_size bs p (called_forms decls names (statements_in ss))
      ≡ 3 * (length ss - 1) + called_members_size bs p (called_forms decls names (statements_in ss))
  turn_is [] = refl
  turn_is (s ∷ []) = omega arith
  turn_is (s ∷ t ∷ ss) =
      let e : called_turn_size bs p (called_forms decls names (statements_in (t ∷ ss)))
      ≡ 3 * (length (t ∷ ss) - 1) + called_members_size bs p (called_forms decls names (statements_in (t ∷ ss))) = turn_is (t ∷ ss) in
      omega arith

  pub branches_are : (ss : List Stmt) → called_branches_size bs p (called_forms decls names (statements_in ss))
      ≡ 3 * length ss + called_members_size bs p (called_forms decls names (statements_in ss))
  branches_are [] = refl
  branches_are (s ∷ ss) =
      let e : called_branches_size bs p (called_forms decls names (statements_in ss))
      ≡ 3 * length ss + called_members_size bs p (called_forms decls names (statements_in ss)) = branches_are ss in
      omega arith

  pub members_counted : (ss : List Stmt) → member_count (inlined_each bs (called_forms decls names (statements_in ss))) ≡ length ss
  members_counted [] = refl
  members_counted (s ∷ ss) = ap suc (members_counted ss)

  chosen_size : (again : Bool) (arms : List Arm) → called_size bs p (chosen again (called_arms decls names (arms_in arms)))
      ≡ (if again then again_own else select_own) + called_arms_size bs p (called_arms decls names (arms_in arms))
  chosen_size true arms = omega arith
  chosen_size false arms = omega arith

-- how many nodes a statement has, whatever the bodies of procedures are
abbrev pub IsCounted : TypedProgram → Stmt → TStmt → ℕ → Type 0
IsCounted p plain s count = (bs : List Process) (decls : List Decl) (names : List (List ℕ))
    → process_of s ≡ inlined bs (called_form decls names (statement_of plain))
    → count ≡ capped (called_size bs p (called_form decls names (statement_of plain)))

abbrev AreCounted : TypedProgram → List Stmt → List TStmt → ℕ → Type 0
AreCounted p ss typed count = (bs : List Process) (decls : List Decl) (names : List (List ℕ))
    → members_in typed ≡ inlined_each bs (called_forms decls names (statements_in ss))
    → count ≡ capped (called_members_size bs p (called_forms decls names (statements_in ss)))

abbrev AreArmsCounted : TypedProgram → List Arm → List TArm → ℕ → Type 0
AreArmsCounted p arms typed count = (bs : List Process) (decls : List Decl) (names : List (List ℕ))
    → choices_in typed ≡ inlined_choices bs (called_arms decls names (arms_in arms))
    → count ≡ capped (called_arms_size bs p (called_arms decls names (arms_in arms)))

pub then_counted : (p : TypedProgram) (plain : Stmt) (v : Vec Stmt Global) (s : TStmt) (ss : List Stmt) (typed : List TStmt) (own inner count : ℕ)
    → plain ≡ Then v → ss ≡ v.items → ((inside : Processes) → process_of s ≡ in_turn inside → members_in typed ≡ inside) → AreCounted p ss typed inner
    → own ≡ capped (3 * (length ss - 1)) → count ≡ capped (own + inner) → IsCounted p plain s count
then_counted p plain v s ss typed own inner count is same inside counted of_own total = λ bs decls names copies.
    let e : called_form decls names (statement_of plain) ≡ turned (called_forms decls names (statements_in ss)) =
    ap (called_form decls names) (then_is plain v is) ∙ ap (λ (us : List Stmt). turned (called_forms decls names (statements_in us))) (sym same) in
    let members = counted bs decls names (inside (inlined_each bs (called_forms decls names (statements_in ss))) (copies ∙ ap (inlined bs) e)) in
    let size = turn_is p bs decls names ss in
    subst (λ C. count ≡ capped (called_size bs p C)) (sym e) (omega (arith, members, size, of_own, total))

pub beside_counted : (p : TypedProgram) (plain : Stmt) (v : Vec Stmt Global) (s : TStmt) (ss : List Stmt) (typed : List TStmt) (own inner count : ℕ)
    → plain ≡ Beside v → ss ≡ v.items → ((inside : Processes) → process_of s ≡ side_by_side inside → members_in typed ≡ inside)
    → AreCounted p ss typed inner → own ≡ capped (3 * length ss + (length ss - 1)) → count ≡ capped (own + inner) → IsCounted p plain s count
beside_counted p plain v s ss typed own inner count is same inside counted of_own total = λ bs decls names copies.
    let e : called_form decls names (statement_of plain) ≡ abreast (called_forms decls names (statements_in ss)) =
    ap (called_form decls names) (beside_is plain v is) ∙ ap (λ (us : List Stmt). abreast (called_forms decls names (statements_in us))) (sym same) in
    let members = counted bs decls names (inside (inlined_each bs (called_forms decls names (statements_in ss))) (copies ∙ ap (inlined bs) e)) in
    let size = branches_are p bs decls names ss in
    let many = members_counted p bs decls names ss in
    subst (λ C. count ≡ capped (called_size bs p C)) (sym e) (omega (arith, members, size, many, of_own, total))

pub select_counted : (p : TypedProgram) (plain : Stmt) (again : Bool) (v : Vec Arm Global) (s : TStmt) (arms : List Arm) (typed : List TArm)
    (own inner count : ℕ) → plain ≡ Select again v → arms ≡ v.items
    → ((more : Bool) (inside : Choices) → process_of s ≡ choosing more inside → choices_in typed ≡ inside) → AreArmsCounted p arms typed inner
    → own ≡ (if again then again_own else select_own) → count ≡ capped (inner + own) → IsCounted p plain s count
select_counted p plain again v s arms typed own inner count is same inside counted of_own total = λ bs decls names copies.
    let e : called_form decls names (statement_of plain) ≡ chosen again (called_arms decls names (arms_in arms)) =
    ap (called_form decls names) (select_is plain again v is) ∙ ap (λ (us : List Arm). chosen again (called_arms decls names (arms_in us))) (sym same) in
    let members = counted bs decls names (inside again (inlined_choices bs (called_arms decls names (arms_in arms))) (copies ∙ ap (inlined bs) e)) in
    let size = chosen_size p bs decls names again arms in
    subst (λ C. count ≡ capped (called_size bs p C)) (sym e) (omega (arith, members, size, of_own, total))

-- a body that is called is a statement of the program without procedures
module _ (bs : List Process) (channels : List Channel) (vars : List Var) (q : ℕ) where
  mutual
    called_typed : (C : Called) → IsProcess channels vars (inlined bs C) → Calls C q → IsProcess channels vars (slice_index_or bs q skipping)
    called_typed (calling k) typed h = subst (λ j. IsProcess channels vars (slice_index_or bs j skipping)) h typed
    called_typed (atom s) typed h = absurd h
    called_typed (turned members) typed h = member_typed members typed.1 h
    called_typed (abreast members) typed h = member_typed members typed.1 h
    called_typed (chosen again choices) typed h = choice_typed choices typed.2 h
    called_typed (looped s) typed h = called_typed s typed h

    member_typed : (members : Calleds) → AreProcesses channels vars (inlined_each bs members) → OneCalls members q
        → IsProcess channels vars (slice_index_or bs q skipping)
    member_typed no_calleds typed h = absurd h
    member_typed (and_called s more) typed (inl h) = called_typed s typed.0 h
    member_typed (and_called s more) typed (inr h) = member_typed more typed.1 h

    choice_typed : (choices : CalledChoices) → AreChoices channels vars (inlined_choices bs choices) → ChoiceCalls choices q
        → IsProcess channels vars (slice_index_or bs q skipping)
    choice_typed no_called typed h = absurd h
    choice_typed (or_called g s more) typed (inl h) = called_typed s typed.1 h
    choice_typed (or_called g s more) typed (inr h) = choice_typed more typed.2 h

-- the program without procedures
pub program_is : (P : ProgramTree) (p : TypedProgram) (h : AreInlined P p) → CallsTyped → p ≡ inlined_program (call_program P h.inlined.vars)
program_is P p h typed =
    let whole : p ≡ typed_form h.tree = h.typed in
    whole ∙ (ap typed_form h.inlined.tree ∙ sym (typed P h.inlined.vars))

body_seen : (found : List (Bor TStmt)) (k : ℕ) (d : Bor TStmt) → k < length found
    → process_of (get_or found k d).now ≡ slice_index_or (map (λ (b : Bor TStmt). process_of b.now) found) k skipping
body_seen [] k d less = absurd (omega (arith, less))
body_seen (b ∷ found) zero d less = refl
body_seen (b ∷ found) (suc k) d less = body_seen found k d (omega (arith, less))

long_as : (found : List (Bor TStmt)) → length (map (λ (b : Bor TStmt). process_of b.now) found) ≡ length found
long_as [] = refl
long_as (b ∷ found) = ap suc (long_as found)

pub bodies_typed : (P : ProgramTree) (p : TypedProgram) (h : AreInlined P p) → CallsTyped → CallsMeant → IsProcess p.channels p.vars p.body
    → (found : List (Bor TStmt)) → map (λ (b : Bor TStmt). process_of b.now) found ≡ (call_program P h.inlined.vars).procs
    → All (λ (b : Bor TStmt). IsProcess p.channels p.vars (process_of b.now)) found
bodies_typed P p h typed meant formed found same = λ k d less.
    let C = call_program P h.inlined.vars in
    let body = subst (λ (s : Process). IsProcess p.channels p.vars s) (ap (λ (t : TypedProgram). t.body) (program_is P p h typed)) formed in
    let within : k < length C.procs = omega (arith, less, long_as found, ap length same) in
    let at : process_of (get_or found k d).now ≡ slice_index_or C.procs k skipping =
    body_seen found k d less ∙ ap (λ (ps : List Process). slice_index_or ps k skipping) same in
    subst (λ (s : Process). IsProcess p.channels p.vars s) (sym at)
    (called_typed C.procs p.channels p.vars k C.body body ((meant P h.inlined.vars h.meets).called k within))

pub shared_counted : (P : ProgramTree) (p : TypedProgram) (h : AreInlined P p) (s : Process) (own shared calls front count : ℕ) (found : List (Bor TStmt))
    → CallsTyped → s ≡ p.body → map (λ (b : Bor TStmt). process_of b.now) found ≡ (call_program P h.inlined.vars).procs
    → own ≡ capped (capped (root_request p) + 2) → shared ≡ capped (procs_size p (map (λ (b : Bor TStmt). process_of b.now) found))
    → ((bs : List Process) (decls : List Decl) (names : List (List ℕ)) → s ≡ inlined bs (called_form decls names P.body)
    → calls ≡ capped (called_size bs p (called_form decls names P.body)))
    → front ≡ capped (own + shared) → count ≡ capped (front + calls) → count ≡ capped (call_count (call_program P h.inlined.vars))
shared_counted P p h s own shared calls front count found typed same bodies of_own of_shared of_calls of_front of_count =
    let C = call_program P h.inlined.vars in
    let whole = program_is P p h typed in
    let copies : s ≡ inlined C.procs C.body = same ∙ ap (λ (t : TypedProgram). t.body) whole in
    let here = of_calls C.procs (P.decls ++ h.inlined.vars) (procedure_names P.procs) copies in
    let there = of_shared ∙ ap (λ (ps : List Process). capped (procs_size p ps)) bodies in
    let sum : count ≡ capped (root_request p + procs_size p C.procs + 2 + called_size C.procs p C.body) =
    omega (arith, of_own, there, here, of_front, of_count) in
    subst (λ (t : TypedProgram). count ≡ capped (root_request t + procs_size t C.procs + 2 + called_size C.procs t C.body)) whole sum
