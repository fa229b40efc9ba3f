-- The steps from a file to the program that goes on, by themselves and within a command.
use Rattle.std.proofs.Common.{ℕ, List, [], ◌∷◌, Option, subst, arith}
use Rattle.std.specs.Prelude.{Contains}
use Rattle.chp_syntax.specs.Trees.{ProgramTree}
use Rattle.width_check.specs.Calls.{IsCallFree}
use Rattle.width_check.specs.Processes.{TypedProgram}
use Rattle.command_answers.specs.declared.answer.Stop.{Stop}
use Rattle.command_answers.specs.Answers.{Given, Answer}
use Rattle.command_steps.specs.BufferSteps.{FromBuffer, no_channel, has_channel, FromProgramFile}
use Rattle.command_steps.specs.HeldBuffered.{HoldsBuffered}
use Rattle.command_answers.specs.Replies.{Halts, Stops}
use Rattle.command_steps.specs.Inlined.{Means}
use Rattle.command_steps.specs.Steps.{a_file, FromProgram, no_program, a_program, FromChecks, bad_calls, too_many_forms, faulty, accepted, Never}
use Rattle.command_steps.proofs.OneMeaning.{means_itself}
use Rattle.command_steps.proofs.RunStopping.{file_as}
use Rattle.command_steps.proofs.Stopping.{halts_in, stops_in}

-- ---- a step goes on as what comes behind it does

pub program_as : {text : List ℕ} {One Next : ProgramTree → Answer → Type 0} {a : Answer} → ((tree : ProgramTree) → One tree a → Next tree a) →
    FromProgram text One a → FromProgram text Next a
program_as goes (no_program none) = no_program none
program_as goes (a_program {program = tree} read is) = a_program read (goes tree is)

pub checks_as : {tree : ProgramTree} {One Next : ProgramTree → Answer → Type 0} {a : Answer} → ((plain : ProgramTree) → One plain a → Next plain a) →
    FromChecks tree One a → FromChecks tree Next a
checks_as goes (bad_calls calls fault) = bad_calls calls fault
checks_as goes (too_many_forms calls meets large) = too_many_forms calls meets large
checks_as goes (faulty means fault) = faulty means fault
checks_as goes (accepted {plain = plain} means are is) = accepted means are (goes plain is)

-- what is answered for the program that another one means is answered for that one
pub meant_checks : {tree plain : ProgramTree} {Next : ProgramTree → Answer → Type 0} {a : Answer} → Means tree plain → IsCallFree plain →
    FromChecks plain Next a → FromChecks tree Next a
meant_checks means free (bad_calls calls fault) = absurd (calls free)
meant_checks means free (too_many_forms calls meets large) = absurd (calls free)
meant_checks {tree} means free (faulty itself fault) = faulty (subst (λ (t : ProgramTree). Means tree t) (means_itself free itself) means) fault
meant_checks {tree} means free (accepted itself are is) = accepted (subst (λ (t : ProgramTree). Means tree t) (means_itself free itself) means) are is

pub buffer_goes : {tree : ProgramTree} {chan : Option (List ℕ)} {Next : TypedProgram → Answer → Type 0} {a : Answer} → FromBuffer tree chan Never a →
    FromBuffer tree chan Next a
buffer_goes (no_channel named not) = no_channel named not
buffer_goes (has_channel made is keeps never) = absurd never

-- ---- from a text on

abbrev pub OnlyBuffer : (chan : Option (List ℕ)) → ProgramTree → Answer → Type 0
OnlyBuffer chan tree = FromChecks tree (λ plain. FromBuffer plain chan Never)

pub program_halts : (text : List ℕ) (chan : Option (List ℕ)) (stop : Stop) → Halts (FromProgram text Never) stop →
    Halts (FromProgram text (OnlyBuffer chan)) stop
program_halts text chan stop halts =
    halts_in (FromProgram text Never) (FromProgram text (OnlyBuffer chan)) (λ answer is. program_as (λ tree never. absurd never) is) stop halts

-- ---- within a command

module _ (given : Given) (file : List ℕ) (chan : Option (List ℕ)) (Next : TypedProgram → Answer → Type 0) where
  file_goes_on : (a : Answer) → FromProgramFile given file chan Never a → FromProgramFile given file chan Next a
  file_goes_on a is = file_as (λ text there. program_as (λ tree so. checks_as (λ plain also. buffer_goes also) so) there) is

  pub buffered_stopped : (more : List (List ℕ)) → ((name : List ℕ) → Contains (file ∷ []) name → Contains more name) → (before after : ℕ) (stop : Stop) →
      Stops (FromProgramFile given file chan Never) (file ∷ []) given before after stop
      → Stops (FromProgramFile given file chan Next) more given before after stop
  buffered_stopped more own before after stop stops =
      stops_in (FromProgramFile given file chan Never) (FromProgramFile given file chan Next) file_goes_on (file ∷ []) more given before before after own
      (omega arith) stop stops

  module _ (program : TypedProgram) (holds : HoldsBuffered given file chan program) where
    pub buffered_on : (a : Answer) → Next program a → FromProgramFile given file chan Next a
    buffered_on a is =
        let from = holds.is.from in
        a_file holds.gives holds.short (a_program holds.is.read (accepted from.means from.accepted (has_channel from.is.made from.is.buffered from.is.keeps
        (subst (λ (p : TypedProgram). Next p a) from.is.form is))))

-- a program by itself, accepted or not
abbrev pub OnlyChecks : ProgramTree → Answer → Type 0
OnlyChecks tree = FromChecks tree Never
