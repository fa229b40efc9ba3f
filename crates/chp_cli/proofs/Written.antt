-- Where nothing speaks against it, a command writes.
use Rattle.std.proofs.Common.{◌≡◌, ◌∙◌, ℕ, ◌≤◌, Bool, List, true, refl, ap, subst, arith}
use Rattle.chp_base.specs.declared.fault.Fault.{Fault}
use Rattle.chp_syntax.specs.Trees.{ProgramTree}
use Rattle.width_check.specs.Accepted.{IsAccepted}
use Rattle.width_check.specs.Processes.{TypedProgram}
use Rattle.prs_core.specs.Nets.{NetValue}
use Rattle.prs_file.specs.Spelling.{NetText}
use Rattle.command_answers.specs.declared.status.Status.TheVariants.{Done}
use Rattle.command_answers.specs.declared.answer.Ending.{Ending}
use Rattle.command_answers.specs.Answers.{Given, Answer, writes, status_of}
use Rattle.command_steps.specs.BufferSteps.{FromBuffer, has_channel}
use Rattle.program_commands.specs.Bodies.{Bodies, HasBodies, counted_with, net_for}
use Rattle.program_commands.specs.Compiling.{Compiles, CompilesForm, CompilesNet, IsFileCompiled, IsToCompile, compiled, too_large}
use Rattle.command_words.specs.CompileWords.{AskedCompilation}
use Rattle.program_commands.specs.Migrating.{Migrates, IsToMigrate, named_reset, taken, migrated}
use Rattle.command_steps.specs.Steps.{IsFaulty, accepted, no_file, long_file, a_file, a_program, no_net, a_net, most_of_nodes}
use Rattle.command_steps.proofs.OneAnswers.{same_text, too_long, not_there}
use Rattle.program_commands.proofs.OneWritten.{bodies_once}
use Rattle.command_steps.proofs.StepsPassed.{buffer_passed, text_passed}

abbrev IsDone : Answer → Type 0
IsDone a = status_of a ≡ Done

net_written : (reset : Bool) {p : TypedProgram} (bodies : Bodies p) → counted_with bodies ≤ most_of_nodes → (a : Answer) → CompilesNet reset bodies a → IsDone a
net_written reset bodies few a (too_large many) = absurd (omega (arith, few, many))
net_written reset bodies few a (compiled small spells) = refl

net_spelled : (reset : Bool) {p : TypedProgram} (bodies : Bodies p) (end : Ending) (text : List ℕ) → CompilesNet reset bodies (writes end text)
    → (counted_with bodies ≤ most_of_nodes) × NetText text (net_for reset bodies)
net_spelled reset bodies end text (compiled few spells) = (few, spells)

-- to a program which means an accepted one that can have its buffer, and whose net isn't too large then
module _ (c : AskedCompilation) (no_fault : (program : ProgramTree) (f : Fault) → IsAccepted program → ¬ IsFaulty program f) where
  form_written : (program : ProgramTree) {p : TypedProgram} (bodies : Bodies p) → HasBodies program c.buffer bodies → counted_with bodies ≤ most_of_nodes
      → (a : Answer) → CompilesForm c program p a → IsDone a
  form_written program bodies has few a form =
      net_written c.reset form.bodies (subst (λ n. n ≤ most_of_nodes) (bodies_once program c.buffer bodies form.bodies has form.has).counted few) a form.net

  pub compile_writes : (given : Given) → given.tells ≡ true → IsToCompile c given → (a : Answer) → Compiles c given a → status_of a ≡ Done
  compile_writes given told t =
      text_passed IsDone no_fault given told c.file t.text t.program t.plain (record { held = t.held; short = t.short }) t.reads t.means t.accepted
      (λ program plain. FromBuffer plain c.buffer (CompilesForm c program))
      (buffer_passed IsDone t.plain t.made c.buffer t.buffered (CompilesForm c t.program) (form_written t.program t.bodies t.has t.few))

-- what is written is the text of the program's net
module _ (c : AskedCompilation) (given : Given) where
  pub written_right : (end : Ending) (text : List ℕ) → Compiles c given (writes end text) → IsFileCompiled c given text
  written_right end text (a_file {text = x} gives short (a_program {program = p} is (accepted {plain = r} means are (has_channel q buffered keeps form)))) =
      let spelled = net_spelled c.reset form.bodies end text form.net in record {
        text = x;
        program = p;
        plain = r;
        made = q;
        gives = gives;
        short = short;
        reads = is;
        means = means;
        bodies = form.bodies;
        accepted = are;
        buffered = buffered;
        has = form.has;
        few = spelled.0;
        spells = spelled.1;
      }

module _ (given : Given) (file : List ℕ) (told : given.tells ≡ true) where
  pub migrate_writes : IsToMigrate given file → (a : Answer) → Migrates given file a → status_of a ≡ Done
  migrate_writes t a (no_file lacks) = not_there lacks.none t.held
  migrate_writes t a (long_file long) = too_long (long told).1 t.held (long told).2 t.short
  migrate_writes t a (a_file gives short (no_net none)) =
      absurd (none.never t.net t.kept (subst (λ x. NetText x t.net) (same_text t.held (gives told)) t.spelled))
  migrate_writes t a (a_file gives short (a_net {net = n} is (taken plain named))) =
      let same : t.net ≡ n = is.only t.net t.kept (subst (λ x. NetText x t.net) (same_text t.held (gives told)) t.spelled) in
      let free = t.free (ap (λ (m : NetValue). m.reset) same ∙ plain) in
      absurd (cc (free, ap (λ (m : NetValue). named_reset m.names) same ∙ named))
  migrate_writes t a (a_file gives short (a_net is (migrated free spells))) = refl
