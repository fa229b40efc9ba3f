-- Steps by themselves, and within the commands that are made of them.
use Rattle.std.proofs.Common.{◌≡◌, ◌∙◌, ℕ, ◌+◌, ◌<◌, ◌≤◌, List, [], ◌∷◌, ◌++◌, length, ◌⊎◌, inl, inr, true, Result, Ok, Err, refl, sym, subst, arith, length-append}
use Rattle.std.specs.Prelude.{Contains, IfOk, IfErr, IsErrAnd}
use Rattle.std.proofs.lemmas.Result.{err_from_is_err_and}
use Rattle.chp_edge.specs.Faults.{Rose, IsReadFault}
use Rattle.chp_edge.specs.Reading.{IsLeft}
use Rattle.chp_syntax.specs.Trees.{ProgramTree}
use Rattle.prs_core.specs.Nets.{NetValue}
use Rattle.width_check.specs.Form.{typed_form}
use Rattle.width_check.specs.Processes.{TypedProgram}
use Rattle.command_answers.specs.declared.status.Status.TheVariants.{TooLarge}
use Rattle.command_answers.specs.declared.answer.Output.{Output}
use Rattle.command_answers.specs.declared.answer.Stop.{Stop}
use Rattle.command_answers.specs.declared.answer.Stop.TheVariants.{Refused, Unread, NoMemory}
use Rattle.command_answers.specs.Answers.{Given, Gives, Answer, misses, refuses}
use Rattle.command_answers.specs.Lines.{too_long_line}
use Rattle.command_answers.specs.Replies.{Halts, IsUnread, Stops, told_answer}
use Rattle.command_steps.specs.Inlined.{IsFormOf}
use Rattle.command_steps.specs.Steps.{FromFile, no_file, long_file, a_file, FromProgram, no_program, a_program, FromChecks, bad_calls, too_many_forms, faulty, accepted, FromNodes, too_many, few_enough, FromNet, no_net, a_net, IsTextOf, IsFileOf, Never}
use Rattle.command_words.proofs.Results.{ok_in}

-- ---- a step by itself is the same step of a command

pub file_goes : {given : Given} {name : List ℕ} {most : ℕ} {Next : List ℕ → Answer → Type 0} {a : Answer} → FromFile given name most Never a →
    FromFile given name most Next a
file_goes (no_file lacks) = no_file lacks
file_goes (long_file long) = long_file long
file_goes (a_file gives short never) = absurd never

pub program_goes : {text : List ℕ} {Next : ProgramTree → Answer → Type 0} {a : Answer} → FromProgram text Never a → FromProgram text Next a
program_goes (no_program none) = no_program none
program_goes (a_program is never) = absurd never

pub net_goes : {text : List ℕ} {Next : NetValue → Answer → Type 0} {a : Answer} → FromNet text Never a → FromNet text Next a
net_goes (no_net none) = no_net none
net_goes (a_net is never) = absurd never

pub nodes_go : {p : TypedProgram} {Next : TypedProgram → Answer → Type 0} {a : Answer} → FromNodes p Never a → FromNodes p Next a
nodes_go (too_many many) = too_many many
nodes_go (few_enough few never) = absurd never

pub checks_go : {program : ProgramTree} {Next : ProgramTree → Answer → Type 0} {a : Answer} → FromChecks program Never a → FromChecks program Next a
checks_go (bad_calls calls fault) = bad_calls calls fault
checks_go (too_many_forms calls meets large) = too_many_forms calls meets large
checks_go (faulty means fault) = faulty means fault
checks_go (accepted means is never) = absurd never

-- ---- where one of them stops, the command does

pub itself : (name : List ℕ) → Contains (name ∷ []) name
itself name = (0, omega arith, refl)

rose_since : {first before after : ℕ} → first ≤ before → Rose before after → Rose first after
rose_since early (inl rose) = inl (omega arith)
rose_since early (inr last) = inr last

-- with answers that are answers of the command too, at a file that is one of the command's, in a call that began earlier
module _ (I J : Answer → Type 0) (is : (a : Answer) → I a → J a) where
  pub halts_in : (stop : Stop) → Halts I stop → Halts J stop
  halts_in (Refused refusal) halts = is _ halts
  halts_in (Unread name) halts = absurd halts
  halts_in NoMemory halts = tt

  pub stops_where : (files : List (List ℕ)) (given : Given) (before after : ℕ) (stop : Stop) → Halts I stop → Stops J files given before after stop
  stops_where files given before after (Refused refusal) halts = is _ halts
  stops_where files given before after (Unread name) halts = absurd halts
  stops_where files given before after NoMemory halts = tt

  pub stops_in : (files more : List (List ℕ)) (given : Given) (first before after : ℕ) → ((name : List ℕ) → Contains files name → Contains more name) →
      first ≤ before
      → (stop : Stop) → Stops I files given before after stop → Stops J more given first after stop
  stops_in files more given first before after own early (Refused refusal) stops = is _ stops
  stops_in files more given first before after own early (Unread name) stops =
      record { own = own name.now stops.own; fault = since stops.fault; missed = missed stops.missed }
    where
      since : IsReadFault before after given.tells (given.files name.now) → IsReadFault first after given.tells (given.files name.now)
      since (inl rose) = inl (rose_since early rose)
      since (inr lacks) = inr lacks

      missed : Rose before after ⊎ I (misses name.now) → Rose first after ⊎ J (misses name.now)
      missed (inl rose) = inl (rose_since early rose)
      missed (inr answer) = inr (is _ answer)
  stops_in files more given first before after own early NoMemory stops = tt

-- ---- what goes on behind a step answers and stops for the command

pub ok_both : {T E : Type 0} (r : Result T E) (P Q R : T → Type 0) → ((value : T) → P value → Q value → R value) → IfOk r P → IfOk r Q → IfOk r R
ok_both (Ok value) P Q R is p q = is value p q
ok_both (Err e) P Q R is p q = tt

pub err_in : {T E : Type 0} (r : Result T E) (P Q : E → Type 0) → ((e : E) → P e → Q e) → IfErr r P → IfErr r Q
err_in (Ok value) P Q is p = tt
err_in (Err e) P Q is p = is e p

-- what a `?` passes on
pub passed_on : {T E : Type 0} (r : Result T E) (e : E) (P : E → Type 0) → IsErrAnd r (λ x. x ≡ e) → P e → IfErr r P
passed_on {T} {E} r e P passes p =
    let is = err_from_is_err_and r passes in
    subst (λ (s : Result T E). IfErr s P) (sym is.1) (subst P (sym is.2) p)

module _ (text : List ℕ) (program : ProgramTree) (Next : ProgramTree → Answer → Type 0) (read : IsTextOf text program) (r : Result Output Stop) where
  pub program_answers : IfOk r (λ output. Next program (told_answer output)) → IfOk r (λ output. FromProgram text Next (told_answer output))
  program_answers = ok_in r (λ output. Next program (told_answer output)) (λ output. FromProgram text Next (told_answer output))
      (λ output is. a_program read is)

  pub program_stops : IfErr r (Halts (Next program)) → IfErr r (Halts (FromProgram text Next))
  program_stops = err_in r (Halts (Next program)) (Halts (FromProgram text Next))
      (halts_in (Next program) (FromProgram text Next) (λ answer is. a_program read is))

-- the checks, of whose program this is the typed form
module _ (program : ProgramTree) (typed form : TypedProgram) (Next : TypedProgram → Answer → Type 0) (same : typed ≡ form) (checked : IsFormOf program form)
    (r : Result Output Stop) where
  goes_on : (a : Answer) → Next typed a → FromChecks program (λ plain. Next (typed_form plain)) a
  goes_on a is = accepted checked.means checked.accepted (subst (λ p. Next p a) (same ∙ checked.form) is)

  pub form_answers : IfOk r (λ output. Next typed (told_answer output)) →
      IfOk r (λ output. FromChecks program (λ plain. Next (typed_form plain)) (told_answer output))
  form_answers = ok_in r (λ output. Next typed (told_answer output)) (λ output. FromChecks program (λ plain. Next (typed_form plain)) (told_answer output))
      (λ output is. goes_on (told_answer output) is)

  pub form_stops : IfErr r (Halts (Next typed)) → IfErr r (Halts (FromChecks program (λ plain. Next (typed_form plain))))
  form_stops = err_in r (Halts (Next typed)) (Halts (FromChecks program (λ plain. Next (typed_form plain))))
      (halts_in (Next typed) (FromChecks program (λ plain. Next (typed_form plain))) goes_on)

module _ (text : List ℕ) (net : NetValue) (Next : NetValue → Answer → Type 0) (read : IsFileOf text net) (r : Result Output Stop) where
  pub net_answers : IfOk r (λ output. Next net (told_answer output)) → IfOk r (λ output. FromNet text Next (told_answer output))
  net_answers = ok_in r (λ output. Next net (told_answer output)) (λ output. FromNet text Next (told_answer output)) (λ output is. a_net read is)

  pub net_stops : IfErr r (Halts (Next net)) → IfErr r (Halts (FromNet text Next))
  net_stops = err_in r (Halts (Next net)) (Halts (FromNet text Next)) (halts_in (Next net) (FromNet text Next) (λ answer is. a_net read is))

module _ (given : Given) (name : List ℕ) (most : ℕ) (text : List ℕ) (Next : List ℕ → Answer →
    Type 0) (gives : Gives given name text) (short : length text ≤ most) (r : Result Output Stop) where
  pub file_answers : IfOk r (λ output. Next text (told_answer output)) → IfOk r (λ output. FromFile given name most Next (told_answer output))
  file_answers = ok_in r (λ output. Next text (told_answer output)) (λ output. FromFile given name most Next (told_answer output))
      (λ output is. a_file gives short is)

  pub file_stops : (files : List (List ℕ)) (before after : ℕ) → IfErr r (Halts (Next text)) →
      IfErr r (Stops (FromFile given name most Next) files given before after)
  file_stops files before after = err_in r (Halts (Next text)) (Stops (FromFile given name most Next) files given before after)
      (stops_where (Next text) (FromFile given name most Next) (λ answer is. a_file gives short is) files given before after)

-- what a `?` passes on where a file isn't read
pub file_passed : {T : Type 0} (given : Given) (name : List ℕ) (most : ℕ) (Next : List ℕ → Answer → Type 0) (before after : ℕ) (r : Result T Stop) (e : Stop)
    → IsErrAnd r (λ x. x ≡ e) → Stops (FromFile given name most Never) (name ∷ []) given before after e
    → IfErr r (Stops (FromFile given name most Next) (name ∷ []) given before after)
file_passed given name most Next before after r e passes stops =
    passed_on r e (Stops (FromFile given name most Next) (name ∷ []) given before after) passes
    (stops_in (FromFile given name most Never) (FromFile given name most Next) (λ answer is. file_goes is) (name ∷ []) (name ∷ []) given before before after
    (λ other own. own) (omega arith) e stops)

-- a file of this name can't be read
pub unread_file : (given : Given) (name : List ℕ) (most before after : ℕ) → IsReadFault before after given.tells (given.files name)
    → IsUnread (FromFile given name most Never) (name ∷ []) given before after name
unread_file given name most before after fault = record { own = itself name; fault = fault; missed = missed fault }
  where
    missed : IsReadFault before after given.tells (given.files name) → Rose before after ⊎ FromFile given name most Never (misses name)
    missed (inl rose) = inl rose
    missed (inr lacks) = inr (no_file (record { told = lacks.0; none = lacks.1 }))

-- one more byte than that was read
pub longer_file : (given : Given) (name : List ℕ) (most : ℕ) {rest : List ℕ} →
    (given.tells ≡ true → (taken : List ℕ) × IsLeft (given.files name) rest taken × (length taken ≡ most + 1))
    → FromFile given name most Never (refuses TooLarge (too_long_line name most))
longer_file given name most {rest} left = long_file (λ told. let l = left told in (l.0 ++ rest, l.1, longer l.0 l.2))
  where
    longer : (taken : List ℕ) → length taken ≡ most + 1 → most < length (taken ++ rest)
    longer taken is = omega (arith, length-append taken rest)
