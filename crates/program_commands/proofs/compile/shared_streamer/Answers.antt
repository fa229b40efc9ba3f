use Rattle.command_steps.proofs.Stopping.{passed_on}
use Rattle.program_commands.proofs.Promised.{shared_over, shared_text}
use Rattle.program_commands.proofs.compile.shared_streamer.Goals as goal

pub returns-in_err-circuit-clause-too_many : goal.returns-in_err-circuit-clause-too_many
returns-in_err-circuit-clause-too_many c =
    passed_on c.from_residual.result _ _ c.from_residual.ensures.1
    (shared_over c.requires.inlined c.in_err-circuit.field-0.0 c.in_err-circuit.ensures.count c.in_err-circuit.ensures.too_many)

pub returns-in-Ok-clause-made : goal.returns-in-Ok-clause-made
returns-in-Ok-clause-made c =
    let h = c.requires.inlined in
    shared_text h c.shared_nets_are_faithful.ensures c.args.reset c.in_ok-circuit.circuit c.in-Ok.streamer (c.in_ok-circuit.ensures.net h)
    (c.in_ok-circuit.ensures.fits h) c.in_ok-circuit.ensures.copies c.in-Ok.ensures
