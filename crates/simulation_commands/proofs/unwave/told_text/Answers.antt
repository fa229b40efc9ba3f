use Rattle.std.proofs.Common.{ap}
use Rattle.command_answers.specs.declared.answer.Ending.TheVariants.{Done}
use Rattle.command_answers.specs.Answers.{writes}
use Rattle.simulation_commands.specs.Unwaving.{a_wave, no_wave}
use Rattle.simulation_commands.proofs.unwave.told_text.Goals as goal

pub returns-in-Ok-clause-answered : goal.returns-in-Ok-clause-answered
returns-in-Ok-clause-answered c =
    let s = c.in-Ok.ensures.read in
    a_wave (record { told = s.1; only = λ other is. c.one_wave.ensures c.args.text.now other s.0 is s.1 }) (ap (λ text. writes Done text) s.2)

pub returns-in-Err-Refused-clause-stopped : goal.returns-in-Err-Refused-clause-stopped
returns-in-Err-Refused-clause-stopped c =
    let cause = rw c.in-Err-Refused.field-0-is at c.in-Err-Refused.ensures.refused in
    let law = c.one_wave_refusal.ensures in
    rw c.bad_wave.ensures (no_wave {fault = c.in-Err-Refused.fault} {line = c.in-Err-Refused.line}
    (rw (c.in-Err-Refused.fault-is, c.in-Err-Refused.line-is) (record {
      never = λ wave is. law.never c.args.text.now wave _ _ is cause;
      cause = cause;
      only = λ other at is. law.once c.args.text.now other _ at _ is cause;
    })))
