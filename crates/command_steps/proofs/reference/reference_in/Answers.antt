use Rattle.std.proofs.Common.{ap}
use Rattle.width_check.specs.Typed.{program_of as typed_of}
use Rattle.command_words.specs.SimulateWords.{text_given}
use Rattle.command_steps.proofs.Referring.{no_reference, reference_fails, reference_is}
use Rattle.command_steps.proofs.Stopping.{passed_on}
use Rattle.command_steps.proofs.reference.reference_in.Goals as goal

pub returns-in-None-clause-read : goal.returns-in-None-clause-read
returns-in-None-clause-read g c = no_reference _ _ (ap text_given c.in-None.is)

pub returns-in_ok-program_in-in-Some-clause-read : goal.returns-in_ok-program_in-in-Some-clause-read
returns-in_ok-program_in-in-Some-clause-read g c =
    reference_is _ _ c.in-Some.file.now (typed_of c.in_ok-program_in-in-Some.field-0) (ap text_given c.in-Some.is) c.in_ok-program_in-in-Some.ensures.read

pub returns-in_err-program_in-in-Some-clause-stopped : goal.returns-in_err-program_in-in-Some-clause-stopped
returns-in_err-program_in-in-Some-clause-stopped g c =
    passed_on c.from_residual.result _ _ c.from_residual.ensures.1
    (reference_fails _ _ c.in-Some.file.now (ap text_given c.in-Some.is) _ _ c.in_err-program_in-in-Some.field-0.0 c.in_err-program_in-in-Some.ensures.stopped)
