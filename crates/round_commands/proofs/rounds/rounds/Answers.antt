use Rattle.std.proofs.Common.{◌≡◌, ◌≢◌, ◌≤◌, ◌∙◌, List, ap, sym, subst}
use Rattle.std.specs.Prelude.{All, AllPairs}
use Rattle.chp_base.specs.declared.channel.Channel.{Channel}
use Rattle.width_check.specs.Typed.{TypedValue, program_of as typed_of}
use Rattle.width_check.specs.View.{process_of}
use Rattle.command_words.specs.CommandWords.{rounds_asked}
use Rattle.round_commands.proofs.ProgramChannels.{typed_distinct, typed_wide}
use Rattle.round_commands.proofs.RoundsStopping.{program_stopped, script_stopped, reports, report_stopped}
use Rattle.command_steps.proofs.Stopping.{err_in, passed_on}
use Rattle.command_words.proofs.Results.{ok_in}
use Rattle.round_commands.proofs.rounds.rounds.Goals as goal

pub returns-in_err-program-clause-stopped : goal.returns-in_err-program-clause-stopped
returns-in_err-program-clause-stopped g c =
    passed_on c.from_residual.result _ _ c.from_residual.ensures.1
    (program_stopped (rounds_asked c.args.asked.now) _ _ _ c.in_err-program.field-0.0 c.in_err-program.ensures.stopped)

-- the channels that are handed on are the program's
handed : {channels : List Channel} {t p : TypedValue} → channels ≡ t.channels → t ≡ p → channels ≡ p.channels
handed declared same = declared ∙ ap (λ (v : TypedValue). v.channels) same

pub script_in-requires-clause-distinct : goal.script_in-requires-clause-distinct
script_in-requires-clause-distinct g c =
    let p = c.in_ok-program.program in
    subst (λ (cs : List Channel). AllPairs (λ (a b : Channel). a.name ≢ b.name) cs) (sym (handed c.channels.ensures c.typed-program.ensures.program))
    (typed_distinct p.channels p.vars (process_of p.body) (rw c.typed-program.ensures.program at c.body-kept.ensures.typed))

pub script_in-requires-clause-widths : goal.script_in-requires-clause-widths
script_in-requires-clause-widths g c =
    let p = c.in_ok-program.program in
    subst (λ (cs : List Channel). All (λ (channel : Channel). (1 ≤ channel.width) × (channel.width ≤ 64)) cs)
    (sym (handed c.channels.ensures c.typed-program.ensures.program)) (typed_wide p.channels p.vars (process_of p.body)
    (rw c.typed-program.ensures.program at c.body-kept.ensures.typed))

pub returns-in_err-script-clause-stopped : goal.returns-in_err-script-clause-stopped
returns-in_err-script-clause-stopped g c =
    passed_on c.from_residual-in_err-script.result _ _ c.from_residual-in_err-script.ensures.1
    (script_stopped (rounds_asked c.args.asked.now) _ (typed_of c.in_ok-program.program) c.in_ok-program.ensures.read _ _ _ c.buffered_program_in.ensures.faults
    c.in_err-script.field-0.0
    (rw (handed c.channels.ensures c.typed-program.ensures.program, c.buffered_program_in.ensures.same, c.buffered_program_in.ensures.kept)
    at c.in_err-script.ensures.stopped))

pub returns-clause-answered : goal.returns-clause-answered
returns-clause-answered g c =
    let told = rw (handed c.channels.ensures c.typed-program.ensures.program, c.buffered_program_in.ensures.same, c.buffered_program_in.ensures.kept)
    at c.in_ok-script.ensures.read in
    ok_in c.report_rounds.result _ _
    (λ output is. reports (rounds_asked c.args.asked.now) _ (typed_of c.in_ok-program.program) c.in_ok-program.ensures.read c.in_ok-script.script told _ is)
    (rw c.typed-program.ensures.program at c.report_rounds.ensures.answered)

pub returns-clause-stopped : goal.returns-clause-stopped
returns-clause-stopped g c =
    let told = rw (handed c.channels.ensures c.typed-program.ensures.program, c.buffered_program_in.ensures.same, c.buffered_program_in.ensures.kept)
    at c.in_ok-script.ensures.read in
    err_in c.report_rounds.result _ _
    (λ stop is. report_stopped (rounds_asked c.args.asked.now) _ (typed_of c.in_ok-program.program) c.in_ok-program.ensures.read c.in_ok-script.script told _ _
    stop is)
    (rw c.typed-program.ensures.program at c.report_rounds.ensures.stopped)
