use Rattle.std.proofs.Common.{◌∙◌, sym, arith}
use Rattle.command_words.specs.CommandWords.{timing_asked}
use Rattle.command_steps.specs.RunSteps.{no_reset}
use Rattle.simulation_commands.proofs.TimingStopping.{delays_stopped, net_stopped, reference_stopped, report_timed, script_stopped, timed_answers}
use Rattle.command_steps.proofs.Stopping.{passed_on}
use Rattle.simulation_commands.proofs.timing.time.Goals as goal

pub returns-in_err-net-clause-stopped : goal.returns-in_err-net-clause-stopped
returns-in_err-net-clause-stopped g c =
    passed_on c.from_residual.result _ _ c.from_residual.ensures.1
    (net_stopped (timing_asked c.args.timing.now) _ _ _ c.in_err-net.field-0.0 c.in_err-net.ensures.stopped)

pub returns-then-is_powerless-clause-stopped : goal.returns-then-is_powerless-clause-stopped
returns-then-is_powerless-clause-stopped g c =
    timed_answers (timing_asked c.args.timing.now) _ c.in_ok-net.net c.in_ok-net.ensures.read _ (no_reset (sym c.is_powerless.ensures ∙ c.if-is_powerless.true))

pub returns-in_err-script-clause-stopped : goal.returns-in_err-script-clause-stopped
returns-in_err-script-clause-stopped g c =
    passed_on c.from_residual-in_err-script.result _ _ c.from_residual-in_err-script.ensures.1
    (script_stopped (timing_asked c.args.timing.now) _ c.in_ok-net.net c.in_ok-net.ensures.read (sym c.is_powerless.ensures ∙ c.if-is_powerless.false) _ _ _
    c.net_in.ensures.faults c.in_err-script.field-0.0 (rw (c.net_in.ensures.same, c.net_in.ensures.kept) at c.in_err-script.ensures.stopped))

pub returns-in_err-delays-clause-stopped : goal.returns-in_err-delays-clause-stopped
returns-in_err-delays-clause-stopped g c =
    passed_on c.from_residual-in_err-delays.result _ _ c.from_residual-in_err-delays.ensures.1
    (delays_stopped (timing_asked c.args.timing.now) _ c.in_ok-net.net c.in_ok-net.ensures.read (sym c.is_powerless.ensures ∙ c.if-is_powerless.false)
    c.in_ok-script.script (rw (c.net_in.ensures.same, c.net_in.ensures.kept) at c.in_ok-script.ensures.read) _ _ _
    (omega (arith, c.net_in.ensures.faults, c.net_script_in.ensures.faults)) c.in_err-delays.field-0.0
    (rw (c.net_script_in.ensures.same, c.net_script_in.ensures.kept, c.net_in.ensures.same, c.net_in.ensures.kept) at c.in_err-delays.ensures.stopped))

pub returns-in_err-program-clause-stopped : goal.returns-in_err-program-clause-stopped
returns-in_err-program-clause-stopped g c =
    passed_on c.from_residual-in_err-program.result _ _ c.from_residual-in_err-program.ensures.1
    (reference_stopped (timing_asked c.args.timing.now) _ c.in_ok-net.net c.in_ok-net.ensures.read (sym c.is_powerless.ensures ∙ c.if-is_powerless.false)
    c.in_ok-script.script (rw (c.net_in.ensures.same, c.net_in.ensures.kept) at c.in_ok-script.ensures.read) c.in_ok-delays.delays
    (rw (c.net_script_in.ensures.same, c.net_script_in.ensures.kept, c.net_in.ensures.same, c.net_in.ensures.kept) at c.in_ok-delays.ensures.read) _ _ _
    (omega (arith, c.net_in.ensures.faults, c.net_script_in.ensures.faults, c.delays_in.ensures.faults)) c.in_err-program.field-0.0
    (rw (
      c.delays_in.ensures.same,
      c.delays_in.ensures.kept,
      c.net_script_in.ensures.same,
      c.net_script_in.ensures.kept,
      c.net_in.ensures.same,
      c.net_in.ensures.kept,
    )
    at c.in_err-program.ensures.stopped))

pub returns-in-Ok-clause-answered : goal.returns-in-Ok-clause-answered
returns-in-Ok-clause-answered g c =
    report_timed (timing_asked c.args.timing.now) _ c.in_ok-net.net c.in_ok-net.ensures.read (sym c.is_powerless.ensures ∙ c.if-is_powerless.false)
    c.in_ok-script.script (rw (c.net_in.ensures.same, c.net_in.ensures.kept) at c.in_ok-script.ensures.read) c.in_ok-delays.delays
    (rw (c.net_script_in.ensures.same, c.net_script_in.ensures.kept, c.net_in.ensures.same, c.net_in.ensures.kept) at c.in_ok-delays.ensures.read) _
    (rw (
      c.delays_in.ensures.same,
      c.delays_in.ensures.kept,
      c.net_script_in.ensures.same,
      c.net_script_in.ensures.kept,
      c.net_in.ensures.same,
      c.net_in.ensures.kept,
    )
    at c.in_ok-program.ensures.read) _ c.in-Ok.ensures
