-- How many nodes are told of an accepted program, and that it is one number.
use Rattle.std.proofs.Common.{◌≡◌, ◌∙◌, ℕ, List, refl, sym, ap, subst}
use Rattle.std.proofs.lemmas.List.{append_cancel_left}
use Rattle.chp_syntax.specs.Shape.{IsShaped}
use Rattle.chp_syntax.specs.Trees.{ProgramTree}
use Rattle.chp_syntax.specs.declared.tree.Decl.{Decl}
use Rattle.handshake_expand.specs.Layout.{capped, node_count}
use Rattle.width_check.specs.Accepted.{IsAccepted}
use Rattle.width_check.specs.Calls.{IsCallFree}
use Rattle.width_check.specs.Form.{typed_form}
use Rattle.width_check.specs.Processes.{TypedProgram}
use Rattle.call_map.specs.CallNet.{call_count}
use Rattle.call_compose.specs.CalledForm.{call_program}
use Rattle.call_compose.specs.Inlined.{AreInlined}
use Rattle.command_answers.specs.declared.answer.Ending.TheVariants.{Done}
use Rattle.command_answers.specs.Answers.{OneAnswer, writes}
use Rattle.command_steps.specs.Inlined.{AreShaped, IsFormOf, Means, with_calls}
use Rattle.command_steps.specs.Inlined as meant
use Rattle.program_commands.specs.Checking.{AcceptedReport, IsNodeCount, accepted_text, as_it_is, shared}

-- ---- what is counted

-- of a program with calls, what is asked where the nodes of the net with shared bodies are counted
module _ {program : ProgramTree} {p : TypedProgram} (calls : ¬ IsCallFree program) where
  inlined_form : {plain : ProgramTree} → IsShaped plain → IsAccepted plain → p ≡ typed_form plain → Means program plain → AreInlined program p
  inlined_form shaped accepted form (meant.as_it_is free) = absurd (calls free)
  inlined_form {plain = r} shaped accepted form (with_calls also meets is few) =
      record { tree = r; inlined = is; meets = meets; shaped = shaped; accepted = accepted; typed = form }

  pub are_inlined : AreShaped (Means program) → IsFormOf program p → AreInlined program p
  are_inlined shaped h = inlined_form (shaped h.plain h.means) h.accepted h.form h.means

  counted_form : {plain : ProgramTree} {n : ℕ} → IsShaped plain → IsAccepted plain → p ≡ typed_form plain → Means program plain →
      ((h : AreInlined program p) → n ≡ capped (call_count (call_program program h.inlined.vars))) → IsNodeCount program plain n
  counted_form shaped accepted form (meant.as_it_is free) counted = absurd (calls free)
  counted_form {plain = r} shaped accepted form (with_calls also meets is few) counted =
      subst (λ n. IsNodeCount program r n)
      (sym (counted (record { tree = r; inlined = is; meets = meets; shaped = shaped; accepted = accepted; typed = form }))) (shared calls is)

  pub shared_counted : AreShaped (Means program) → (n : ℕ) → ((h : AreInlined program p) → n ≡ capped (call_count (call_program program h.inlined.vars))) →
      (h : IsFormOf program p) → IsNodeCount program h.plain n
  shared_counted shaped n counted h = counted_form (shaped h.plain h.means) h.accepted h.form h.means counted

pub plain_counted : {program : ProgramTree} {p : TypedProgram} {n : ℕ} → IsCallFree program → n ≡ node_count p →
    (h : IsFormOf program p) → IsNodeCount program h.plain n
plain_counted {program} free counted h = subst (λ n. IsNodeCount program h.plain n) (sym (counted ∙ ap node_count h.form)) (as_it_is free)

-- ---- the number is one

pub count_once : (program plain : ProgramTree) (n m : ℕ) → IsNodeCount program plain n → IsNodeCount program plain m → n ≡ m
count_once program plain n m (as_it_is free) (as_it_is also) = refl
count_once program plain n m (as_it_is free) (shared calls h) = absurd (calls free)
count_once program plain n m (shared calls h) (as_it_is free) = absurd (calls free)
count_once program plain n m (shared calls h) (shared also k) =
    let same : h.vars ≡ k.vars = append_cancel_left program.decls h.vars k.vars (ap (λ (t : ProgramTree). t.decls) (sym h.tree ∙ k.tree)) in
    ap (λ (vars : List Decl). capped (call_count (call_program program vars))) same

pub report_once : (program plain : ProgramTree) → OneAnswer (AcceptedReport program plain)
report_once program plain a b r s =
    r.told ∙ (ap (λ n. writes Done (accepted_text n)) (count_once program plain r.nodes s.nodes r.counted s.counted) ∙ sym s.told)
