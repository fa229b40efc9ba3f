-- A program with a buffer, as a whole: its shape, that it is accepted, and what it keeps.
use Rattle.std.proofs.Common.{◌≡◌, ℕ, suc, ◌<◌, ◌≤◌, ◌^◌, false, List, [], ◌∷◌, ◌++◌, refl, sym, ap, ◌∙◌, subst, arith}
use Rattle.std.specs.Prelude.{◌||◌}
use Rattle.std.specs.List.{AllByRecursion}
use Rattle.std.proofs.lemmas.List.Elements.{All-append, All-cons, All-nil, recursion_from_All, All-from_recursion}
use Rattle.chp_base.specs.declared.channel.Kind.TheVariants as kind
use Rattle.chp_syntax.specs.declared.tree.Decl.{Decl}
use Rattle.chp_syntax.specs.declared.tree.DeclKind.TheVariants as declares
use Rattle.chp_syntax.specs.Trees.{Statement, skips, assigns, sends, receives, follows, besides, selects, repeats, calls, Statements, no_members, and_member, Arms, no_arms, and_arm, ProgramTree}
use Rattle.chp_syntax.specs.Reading.{arm_count}
use Rattle.chp_syntax.specs.Shape.{statement_count, IsShapedStatement, AreShapedMembers, AreShapedArms, IsShapedDecl, IsShaped}
use Rattle.width_check.specs.Accepted.{IsAccepted}
use Rattle.width_check.specs.Calls.{has_call}
use Rattle.width_check.specs.Form.{channels_of, channel_number, typed_form}
use Rattle.width_check.specs.Places.{declared_width}
use Rattle.width_check.specs.Sharing.{MeetsSharing}
use Rattle.width_check.specs.Sound.{kind_of}
use Rattle.width_check.specs.Typing.{kind_at, channel_width}
use Rattle.width_check.specs.Processes.{TypedProgram}
use Rattle.width_check.proofs.TypedForm.{program_typed}
use Rattle.slack_buffer.specs.Buffers.{copy_name, slot_name, BufferKeeps}
use Rattle.slack_buffer.specs.BufferedTrees.{IsInnerChannel, made_decl, rerouted_statement, rerouted_statements, rerouted_arms, buffer_statement, buffered_tree, HasBuffer, IsRightBuffer}
use Rattle.slack_buffer.proofs.FreeNames.{numbered_is_name}
use Rattle.slack_buffer.proofs.Declaring.{calls_kept}
use Rattle.slack_buffer.proofs.Forms.{channel_at}
use Rattle.slack_buffer.proofs.Sharing.{buffered_meets}
use Rattle.slack_buffer.proofs.Passing.{keeps_passing}
use Rattle.slack_buffer.proofs.LagSteps.{lags_by_one}
use Rattle.slack_buffer.proofs.Typing.{Buffering, new_decls, chan_is, buffered_form}
use Rattle.slack_buffer.proofs.Accepting.{none_at_fault}

-- the grammar's shape

members_same : (chan copy : List ℕ) (members : Statements) → statement_count (rerouted_statements chan copy members) ≡ statement_count members
members_same chan copy no_members = refl
members_same chan copy (and_member s more) = ap suc (members_same chan copy more)

arms_same : (chan copy : List ℕ) (arms : Arms) → arm_count (rerouted_arms chan copy arms) ≡ arm_count arms
arms_same chan copy no_arms = refl
arms_same chan copy (and_arm g s more) = ap suc (arms_same chan copy more)

mutual
  shape_kept : (chan copy : List ℕ) (s : Statement) → IsShapedStatement s → IsShapedStatement (rerouted_statement chan copy s)
  shape_kept chan copy (skips at) h = h
  shape_kept chan copy (assigns target e) h = h
  shape_kept chan copy (sends on e) h = h
  shape_kept chan copy (receives on target) h = h
  shape_kept chan copy (follows members) h =
      (subst (λ n. 2 ≤ n) (sym (members_same chan copy members)) h.0, each_shape_kept chan copy members h.1)
  shape_kept chan copy (besides members) h =
      (subst (λ n. 2 ≤ n) (sym (members_same chan copy members)) h.0, each_shape_kept chan copy members h.1)
  shape_kept chan copy (selects again arms) h =
      (subst (λ n. 1 ≤ n) (sym (arms_same chan copy arms)) h.0, subst (λ n. n ≤ 16) (sym (arms_same chan copy arms)) h.1, arm_shape_kept chan copy arms h.2)
  shape_kept chan copy (repeats s) h = shape_kept chan copy s h
  shape_kept chan copy (calls of) h = h

  each_shape_kept : (chan copy : List ℕ) (members : Statements) → AreShapedMembers members → AreShapedMembers (rerouted_statements chan copy members)
  each_shape_kept chan copy no_members h = tt
  each_shape_kept chan copy (and_member s more) h = (shape_kept chan copy s h.0, each_shape_kept chan copy more h.1)

  arm_shape_kept : (chan copy : List ℕ) (arms : Arms) → AreShapedArms arms → AreShapedArms (rerouted_arms chan copy arms)
  arm_shape_kept chan copy no_arms h = tt
  arm_shape_kept chan copy (and_arm g s more) h = (h.0, shape_kept chan copy s h.1, arm_shape_kept chan copy more h.2)

mutual
  shape_before : (chan copy : List ℕ) (s : Statement) → IsShapedStatement (rerouted_statement chan copy s) → IsShapedStatement s
  shape_before chan copy (skips at) h = h
  shape_before chan copy (assigns target e) h = h
  shape_before chan copy (sends on e) h = h
  shape_before chan copy (receives on target) h = h
  shape_before chan copy (follows members) h = (subst (λ n. 2 ≤ n) (members_same chan copy members) h.0, each_shape_before chan copy members h.1)
  shape_before chan copy (besides members) h = (subst (λ n. 2 ≤ n) (members_same chan copy members) h.0, each_shape_before chan copy members h.1)
  shape_before chan copy (selects again arms) h =
      (subst (λ n. 1 ≤ n) (arms_same chan copy arms) h.0, subst (λ n. n ≤ 16) (arms_same chan copy arms) h.1, arm_shape_before chan copy arms h.2)
  shape_before chan copy (repeats s) h = shape_before chan copy s h
  shape_before chan copy (calls of) h = h

  each_shape_before : (chan copy : List ℕ) (members : Statements) → AreShapedMembers (rerouted_statements chan copy members) → AreShapedMembers members
  each_shape_before chan copy no_members h = tt
  each_shape_before chan copy (and_member s more) h = (shape_before chan copy s h.0, each_shape_before chan copy more h.1)

  arm_shape_before : (chan copy : List ℕ) (arms : Arms) → AreShapedArms (rerouted_arms chan copy arms) → AreShapedArms arms
  arm_shape_before chan copy no_arms h = tt
  arm_shape_before chan copy (and_arm g s more) h = (h.0, shape_before chan copy s h.1, arm_shape_before chan copy more h.2)

pub shaped_again : (p : ProgramTree) (chan : List ℕ) (k : ℕ) → k < 2 ^ 64 → IsShaped p → IsShaped (buffered_tree p chan k)
shaped_again p chan k small h = record {
  decls = All-append IsShapedDecl p.decls (new_decls p.decls chan k) h.decls
      (All-cons IsShapedDecl (made_decl declares.Chan (copy_name k) (declared_width p.decls chan))
      (made_decl declares.Var (slot_name k) (declared_width p.decls chan) ∷ [])
      (record { name = numbered_is_name 66 k refl small; first = λ other. refl; first_at = λ other. refl })
      (All-cons IsShapedDecl (made_decl declares.Var (slot_name k) (declared_width p.decls chan)) []
      (record { name = numbered_is_name 98 k refl small; first = λ other. refl; first_at = λ other. refl }) (All-nil IsShapedDecl)));
  procs = h.procs;
  body = (omega arith, (shape_kept chan (copy_name k) p.body h.body, ((omega arith, (tt, (tt, tt))), tt)));
}

-- accepted again

meets_again : (p : ProgramTree) (chan : List ℕ) (k : ℕ) → IsShaped p → IsAccepted p → Buffering p chan k →
    MeetsSharing (typed_form (buffered_tree p chan k)).body
meets_again p chan k shaped accepted b =
    subst (λ (q : TypedProgram). MeetsSharing q.body) (sym (buffered_form p chan k b))
    (buffered_meets (typed_form p).channels (typed_form p).vars (channel_number p.decls chan)
    (channel_width (channels_of p.decls) (channel_number p.decls chan)) (typed_form p).body (program_typed p shaped accepted.named).body_is
    accepted.sharing (channel_at p.decls chan (chan_is p chan k b)).within)

pub accepted_again : (p : ProgramTree) (chan : List ℕ) (k : ℕ) → IsShaped p → IsAccepted p → Buffering p chan k → IsAccepted (buffered_tree p chan k)
accepted_again p chan k shaped accepted b = record {
  call_free = record {
    procs = accepted.call_free.procs;
    body = ap (λ c. c || (has_call (buffer_statement chan (copy_name k) (slot_name k)) || false)) (calls_kept chan (copy_name k) p.body
        ∙ accepted.call_free.body);
  };
  named = none_at_fault p chan k b;
  sharing = meets_again p chan k shaped accepted b;
}

-- what a buffer is to the program

pub keeps_of : (p : ProgramTree) (chan : List ℕ) (k : ℕ) → IsShaped p → IsAccepted p → Buffering p chan k →
    BufferKeeps (typed_form p) (channel_number p.decls chan) k
keeps_of p chan k shaped accepted b =
    let at = channel_at p.decls chan (chan_is p chan k b) in
    let typed = (program_typed p shaped accepted.named).body_is in
    let inner : kind_at (channels_of p.decls) (channel_number p.decls chan) ≡ kind.Chan = at.kind_is b.inner.0 b.inner.1 ∙ ap kind_of b.inner.2 in record {
      passing = keeps_passing (typed_form p) (channel_number p.decls chan) k typed accepted.sharing at.within inner;
      lagging = lags_by_one (typed_form p) (channel_number p.decls chan) k typed at.within inner;
    }

-- the program that is made

pub right_buffer : (p q : ProgramTree) (chan : List ℕ) (has : HasBuffer p chan q) → IsShaped p → IsAccepted p → IsInnerChannel p.decls chan →
    IsRightBuffer p chan q has.number
right_buffer p q chan has shaped accepted inner =
    let b : Buffering p chan has.number = record { named = accepted.named; inner = inner; free = has.free } in record {
      typed = ap typed_form has.tree ∙ buffered_form p chan has.number b;
      keeps = keeps_of p chan has.number shaped accepted b;
      accepted = subst (λ z. IsAccepted z) (sym has.tree) (accepted_again p chan has.number shaped accepted b);
    }

pub is_shaped : (p q : ProgramTree) (chan : List ℕ) (k : ℕ) → k < 2 ^ 64 → IsShaped p → q ≡ buffered_tree p chan k → IsShaped q
is_shaped p q chan k small shaped same = subst (λ z. IsShaped z) (sym same) (shaped_again p chan k small shaped)

front_all : (P : Decl → Type 0) (xs ys : List Decl) → AllByRecursion P (xs ++ ys) → AllByRecursion P xs
front_all P [] ys h = tt
front_all P (x ∷ xs) ys h = (h.0, front_all P xs ys h.1)

pub was_shaped : (p q : ProgramTree) (chan : List ℕ) → HasBuffer p chan q → IsShaped q → IsShaped p
was_shaped p q chan has shaped =
    let made : IsShaped (buffered_tree p chan has.number) = subst (λ z. IsShaped z) has.tree shaped in record {
      decls = All-from_recursion IsShapedDecl p.decls (front_all IsShapedDecl p.decls (new_decls p.decls chan has.number)
          (recursion_from_All IsShapedDecl (p.decls ++ new_decls p.decls chan has.number) made.decls));
      procs = made.procs;
      body = shape_before chan (copy_name has.number) p.body made.body.1.0;
    }
