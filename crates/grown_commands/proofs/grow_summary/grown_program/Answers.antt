use Rattle.std.proofs.Common.{◌≡◌, ◌∙◌}
use Rattle.program_maker.specs.Generated.{generated_text}
use Rattle.width_check.specs.Typed.{program_of as typed_of}
use Rattle.command_steps.proofs.OneAnswers.{no_fault}
use Rattle.command_steps.proofs.Stopping.{err_in}
use Rattle.command_words.proofs.Results.{ok_in}
use Rattle.grown_commands.proofs.Summed.{only_memory, served_few, served_wired}
use Rattle.grown_commands.proofs.grow_summary.grown_program.Goals as goal

pub accepted_program-requires : goal.accepted_program-requires
accepted_program-requires c =
    let growth = c.args.growth.now in
    let served = c.grown_served.ensures growth.seed growth.stages c.requires.some c.requires.most in
    rw (c.deref.ensures.value, c.in-Ok.ensures) served.short

pub returns-in-Ok : goal.returns-in-Ok
returns-in-Ok c =
    let growth = c.args.growth.now in
    let served = c.grown_served.ensures growth.seed growth.stages c.requires.some c.requires.most in
    let is : c.deref.result.now ≡ generated_text growth.seed growth.stages = c.deref.ensures.value ∙ c.in-Ok.ensures in
    let read = rw is at c.accepted_program.ensures.read in
    let names = c.one_fault.ensures in
    let sharing = c.one_shared_fault.ensures in
    record {
      read = read;
      few = ok_in c.accepted_program.result _ _ (λ program here. served_few _ _ _ served (typed_of program) here) read;
      wired = ok_in c.accepted_program.result _ _ (λ program here. served_wired _ _ _ served (typed_of program) here) read;
      stopped = err_in c.accepted_program.result _ _
          (λ stop halts. only_memory _ _ _ served (no_fault names.cause names.place names.none sharing.cause sharing.first sharing.second sharing.none) stop
          halts) (rw is at c.accepted_program.ensures.stopped);
    }
