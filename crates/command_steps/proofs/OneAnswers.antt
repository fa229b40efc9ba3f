-- Each step has at most one answer.
use Rattle.std.proofs.Common.{◌≡◌, ◌∙◌, ℕ, ◌<◌, ◌≤◌, List, length, true, Option, Some, None, ◌⊎◌, inl, inr, refl, sym, ap, subst, arith}
use Rattle.std.proofs.lemmas.Bool.{cases_order}
use Rattle.chp_base.specs.declared.span.Span.{Span}
use Rattle.chp_base.specs.declared.fault.Fault.{Fault}
use Rattle.chp_base.specs.declared.fault.FaultCode.{FaultCode}
use Rattle.chp_syntax.specs.Trees.{ProgramTree}
use Rattle.chp_syntax.specs.declared.tree.Decl.{Decl}
use Rattle.prs_core.specs.Nets.{NetValue}
use Rattle.slack_buffer.specs.BufferedTrees.{IsFreeNumber, IsInnerChannel, buffered_tree}
use Rattle.width_check.specs.Accepted.{IsAccepted}
use Rattle.width_check.specs.Faults.{naming_faults, HasNone, IsFirstFault}
use Rattle.width_check.specs.Form.{typed_form}
use Rattle.width_check.specs.Processes.{Process, TypedProgram}
use Rattle.width_check.specs.Sharing.{MeetsSharing, IsFirstSharedFault, sharing_faults}
use Rattle.call_merge.specs.CallFaults.{call_faults}
use Rattle.command_answers.specs.declared.status.Status.TheVariants.{RefusedText, TooLarge, BadFile, NoChannel}
use Rattle.command_answers.specs.Answers.{Given, Answer, refuses, OneAnswer}
use Rattle.command_steps.specs.BufferSteps.{FromBuffer, no_channel, has_channel, FromProgramFile, IsBuffered, PutsBuffer}
use Rattle.command_answers.specs.Lines.{forms_line, refused_line, bad_net_line, no_channel_line}
use Rattle.command_steps.specs.Steps.{FromFile, no_file, long_file, a_file, FromProgram, no_program, a_program, IsFaulty, of_names, of_sharing, FromChecks, HasCallFault, bad_calls, too_many_forms, faulty, accepted, FromNodes, too_many, few_enough, FromNet, no_net, a_net}
use Rattle.command_steps.proofs.OneMeaning.{bad_or_meant, bad_or_meets, call_fault_once, large_once, large_or_meant, means_once}

pub same_text : {held : Option (List ℕ)} {a b : List ℕ} → held ≡ Some a → held ≡ Some b → a ≡ b
same_text e f = cc (e, f)

pub too_long : {held : Option (List ℕ)} {a b : List ℕ} {most : ℕ} {X : Type 0} → held ≡ Some a → held ≡ Some b → most < length a → length b ≤ most → X
too_long {held} {a} {b} e f long short = let same : length a ≡ length b = ap length (same_text e f) in absurd (omega arith)

pub not_there : {held : Option (List ℕ)} {a : List ℕ} {X : Type 0} → held ≡ None → held ≡ Some a → X
not_there e f = absurd (cc (e, f))

module _ (given : Given) (name : List ℕ) (most : ℕ) (Next : List ℕ → Answer → Type 0) (told : given.tells ≡ true) (next : (text : List ℕ) →
    OneAnswer (Next text)) where
  pub file_once : (a b : Answer) → FromFile given name most Next a → FromFile given name most Next b → a ≡ b
  file_once a b (no_file l) (no_file m) = refl
  file_once a b (no_file l) (long_file o) = not_there l.none (o told).1
  file_once a b (no_file l) (a_file g s n) = not_there l.none (g told)
  file_once a b (long_file o) (no_file m) = not_there m.none (o told).1
  file_once a b (long_file o) (long_file u) = refl
  file_once a b (long_file o) (a_file g s n) = too_long (o told).1 (g told) (o told).2 s
  file_once a b (a_file g s n) (no_file m) = not_there m.none (g told)
  file_once a b (a_file g s n) (long_file o) = too_long (o told).1 (g told) (o told).2 s
  file_once a b (a_file {text = x} g s n) (a_file {text = y} h t m) = next x a b n (subst (λ z. Next z b) (same_text (h told) (g told)) m)

same_fault : (f g : Fault) → f.code ≡ g.code → f.at ≡ g.at → f.other ≡ g.other → f ≡ g
same_fault f g code at other =
    let made : FaultCode → Span → Span → Fault = λ c s t. record { code = c; at = s; other = t } in
    ap (λ c. made c f.at f.other) code ∙ (ap (λ s. made g.code s f.other) at ∙ ap (λ t. made g.code g.at t) other)

module _ (text : List ℕ) (Next : ProgramTree → Answer → Type 0) (next : (program : ProgramTree) → OneAnswer (Next program)) where
  pub program_once : (a b : Answer) → FromProgram text Next a → FromProgram text Next b → a ≡ b
  program_once a b (no_program {fault = f} n) (no_program {fault = g} m) =
      let same = m.only f.code f.at n.cause in
      ap (λ h. refuses RefusedText (refused_line h)) (same_fault f g same.0 same.1 (n.other ∙ (same.1 ∙ sym m.other)))
  program_once a b (no_program n) (a_program {program = p} is m) = absurd (n.never p is.reads)
  program_once a b (a_program {program = p} is n) (no_program m) = absurd (m.never p is.reads)
  program_once a b (a_program {program = p} is n) (a_program {program = q} are m) = next p a b n (subst (λ r. Next r b) (is.only q are.reads) m)

module _ (text : List ℕ) (Next : NetValue → Answer → Type 0) (next : (net : NetValue) → OneAnswer (Next net)) where
  pub net_once : (a b : Answer) → FromNet text Next a → FromNet text Next b → a ≡ b
  net_once a b (no_net {fault = f} {line = l} n) (no_net {fault = g} {line = k} m) =
      let same = m.only f l n.cause in
      ap (λ h. refuses BadFile (bad_net_line h l)) same.0 ∙ ap (λ i. refuses BadFile (bad_net_line g i)) same.1
  net_once a b (no_net n) (a_net {net = p} is m) = absurd (n.never p is.kept is.spelled)
  net_once a b (a_net {net = p} is n) (no_net m) = absurd (m.never p is.kept is.spelled)
  net_once a b (a_net {net = p} is n) (a_net {net = q} are m) = next p a b n (subst (λ r. Next r b) (is.only q are.kept are.spelled) m)

module _ (p : TypedProgram) (Next : TypedProgram → Answer → Type 0) (next : OneAnswer (Next p)) where
  pub nodes_once : (a b : Answer) → FromNodes p Next a → FromNodes p Next b → a ≡ b
  nodes_once a b (too_many m) (too_many n) = refl
  nodes_once a b (too_many m) (few_enough f n) = absurd (omega arith)
  nodes_once a b (few_enough f n) (too_many m) = absurd (omega arith)
  nodes_once a b (few_enough f n) (few_enough g m) = next a b n m

same_call_fault : (p : ProgramTree) (f g : Fault) → HasCallFault p f → HasCallFault p g → f ≡ g
same_call_fault p f g n m =
    let once = call_fault_once p call_faults f.code g.code f.at f.other g.at g.other n m in
    same_fault f g once.0 once.1 once.2

-- a program has at most one fault, and none where it is accepted
module _ (named : (p : ProgramTree) (c d : FaultCode) (s t : Span) → IsFirstFault p naming_faults c s → IsFirstFault p naming_faults d t → c ≡ d)
    (placed : (p : ProgramTree) (c d : FaultCode) (s t : Span) → IsFirstFault p naming_faults c s → IsFirstFault p naming_faults d t → s ≡ t)
    (no_name : (p : ProgramTree) (c : FaultCode) (s : Span) → HasNone p naming_faults → ¬ IsFirstFault p naming_faults c s)
    (shared : (body : Process) (c d : FaultCode) (s t u v : Span) → IsFirstSharedFault body sharing_faults c s t → IsFirstSharedFault body sharing_faults d u v
    → c ≡ d)
    (first : (body : Process) (c d : FaultCode) (s t u v : Span) → IsFirstSharedFault body sharing_faults c s t → IsFirstSharedFault body sharing_faults d u v →
    s ≡ u)
    (second : (body : Process) (c d : FaultCode) (s t u v : Span) → IsFirstSharedFault body sharing_faults c s t → IsFirstSharedFault body sharing_faults d u v
    → t ≡ v)
    (unshared : (body : Process) (c : FaultCode) (s t : Span) → MeetsSharing body → ¬ IsFirstSharedFault body sharing_faults c s t) where
  fault_once : (program : ProgramTree) (f g : Fault) → IsFaulty program f → IsFaulty program g → f ≡ g
  fault_once p f g (of_names {c = c} {at = s} n) (of_names {c = d} {at = t} m) = let at = placed p c d s t n m in same_fault f g (named p c d s t n m) at at
  fault_once p f g (of_names {c = c} {at = s} n) (of_sharing none m) = absurd (no_name p c s none n)
  fault_once p f g (of_sharing none n) (of_names {c = c} {at = s} m) = absurd (no_name p c s none m)
  fault_once p f g (of_sharing {c = c} {at = s} {other = t} none n) (of_sharing {c = d} {at = u} {other = v} also m) =
      let body = (typed_form p).body in
      same_fault f g (shared body c d s t u v n m) (first body c d s t u v n m) (second body c d s t u v n m)

  pub no_fault : (program : ProgramTree) (f : Fault) → IsAccepted program → ¬ IsFaulty program f
  no_fault p f is (of_names {c = c} {at = s} n) = no_name p c s is.named n
  no_fault p f is (of_sharing {c = c} {at = s} {other = t} none n) = unshared (typed_form p).body c s t is.sharing n

  pub checks_once : (program : ProgramTree) (Next : ProgramTree → Answer → Type 0) → ((plain : ProgramTree) → OneAnswer (Next plain)) → (a b : Answer) →
      FromChecks program Next a → FromChecks program Next b → a ≡ b
  checks_once p Next next a b (bad_calls {fault = f} calls n) (bad_calls {fault = g} also m) =
      ap (λ h. refuses RefusedText (refused_line h)) (same_call_fault p f g n m)
  checks_once p Next next a b (bad_calls {fault = f} calls n) (too_many_forms also meets large) = bad_or_meets p f n meets
  checks_once p Next next a b (bad_calls {fault = f} calls n) (faulty means m) = bad_or_meant f calls n means
  checks_once p Next next a b (bad_calls {fault = f} calls n) (accepted means is m) = bad_or_meant f calls n means
  checks_once p Next next a b (too_many_forms calls meets large) (bad_calls {fault = f} also m) = bad_or_meets p f m meets
  checks_once p Next next a b (too_many_forms {count = n} calls meets large) (too_many_forms {count = m} also met big) =
      ap (λ (k : ℕ). refuses TooLarge (forms_line k)) (large_once p n m large big)
  checks_once p Next next a b (too_many_forms calls meets large) (faulty means m) = large_or_meant calls large means
  checks_once p Next next a b (too_many_forms calls meets large) (accepted means is m) = large_or_meant calls large means
  checks_once p Next next a b (faulty means n) (bad_calls {fault = f} calls m) = bad_or_meant f calls m means
  checks_once p Next next a b (faulty means n) (too_many_forms calls meets large) = large_or_meant calls large means
  checks_once p Next next a b (faulty {plain = r} {fault = f} means n) (faulty {plain = s} {fault = g} also m) =
      ap (λ h. refuses RefusedText (refused_line h)) (fault_once r f g n (subst (λ (t : ProgramTree). IsFaulty t g) (means_once also means) m))
  checks_once p Next next a b (faulty {plain = r} {fault = f} means n) (accepted also is m) =
      absurd (no_fault r f (subst IsAccepted (means_once also means) is) n)
  checks_once p Next next a b (accepted means is n) (bad_calls {fault = f} calls m) = bad_or_meant f calls m means
  checks_once p Next next a b (accepted means is n) (too_many_forms calls meets large) = large_or_meant calls large means
  checks_once p Next next a b (accepted {plain = r} means is n) (faulty {fault = f} also m) =
      absurd (no_fault r f is (subst (λ (t : ProgramTree). IsFaulty t f) (means_once also means) m))
  checks_once p Next next a b (accepted {plain = r} means is n) (accepted also are m) =
      next r a b n (subst (λ (t : ProgramTree). Next t b) (means_once also means) m)

-- ---- a program with its buffer

one_number : (ds : List Decl) (j k : ℕ) → IsFreeNumber ds j → IsFreeNumber ds k → j ≡ k
one_number ds j k f g = go (cases_order j k)
  where
    go : (j ≡ k) ⊎ ((j < k) ⊎ (k < j)) → j ≡ k
    go (inl same) = same
    go (inr (inl less)) = absurd (f.free (g.least j less))
    go (inr (inr more)) = absurd (g.free (f.least k more))

pub one_buffered : (program : ProgramTree) (chan : Option (List ℕ)) (made other : ProgramTree) → IsBuffered program chan made → IsBuffered program chan other →
    made ≡ other
one_buffered program None made other is are = is ∙ sym are
one_buffered program (Some chan) made other is are =
    is.buffer.tree ∙ (ap (λ (k : ℕ). buffered_tree program chan k)
    (one_number program.decls is.buffer.number are.buffer.number is.buffer.free are.buffer.free) ∙ sym are.buffer.tree)

pub needs_channel : {X : Type 0} (program : ProgramTree) (chan : Option (List ℕ)) (name : List ℕ) (made : ProgramTree) → chan ≡ Some name →
    ¬ IsInnerChannel program.decls name → IsBuffered program chan made → X
needs_channel program chan name made named not is =
    let puts : PutsBuffer program name made = subst (λ (o : Option (List ℕ)). IsBuffered program o made) named is in
    absurd (not puts.inner)

same_name : {chan : Option (List ℕ)} {a b : List ℕ} → chan ≡ Some a → chan ≡ Some b → a ≡ b
same_name e f = cc (e, f)

module _ (program : ProgramTree) (chan : Option (List ℕ)) (Next : TypedProgram → Answer → Type 0) (next : (p : TypedProgram) → OneAnswer (Next p)) where
  pub buffer_once : (a b : Answer) → FromBuffer program chan Next a → FromBuffer program chan Next b → a ≡ b
  buffer_once a b (no_channel {name = x} is n) (no_channel {name = y} are m) =
      ap (λ (name : List ℕ). refuses NoChannel (no_channel_line name)) (same_name is are)
  buffer_once a b (no_channel {name = x} is n) (has_channel p has keeps m) = needs_channel program chan x p is n has
  buffer_once a b (has_channel p has keeps n) (no_channel {name = x} is m) = needs_channel program chan x p is m has
  buffer_once a b (has_channel p is kept n) (has_channel q are keeps m) =
      next (typed_form p) a b n (subst (λ (r : ProgramTree). Next (typed_form r) b) (one_buffered program chan q p are is) m)

module _ (checked : (program : ProgramTree) (Next : ProgramTree → Answer → Type 0) → ((plain : ProgramTree) → OneAnswer (Next plain)) →
    OneAnswer (FromChecks program Next)) where
  pub program_file_once : (given : Given) (file : List ℕ) (chan : Option (List ℕ)) (Next : TypedProgram → Answer → Type 0) → given.tells ≡ true →
      ((p : TypedProgram) → OneAnswer (Next p)) → OneAnswer (FromProgramFile given file chan Next)
  program_file_once given file chan Next told next = file_once given file _ _ told
      (λ text. program_once text (λ program. FromChecks program (λ plain. FromBuffer plain chan Next))
      (λ program. checked program (λ plain. FromBuffer plain chan Next) (λ plain. buffer_once plain chan Next next)))
