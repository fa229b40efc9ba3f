use Rattle.width_check.specs.View.{process_of}
use Rattle.chp_syntax.specs.View.{program_tree}
use Rattle.width_check.specs.Typed.{program_of as typed_of}
use Rattle.command_answers.specs.Answers.{given_by}
use Rattle.command_steps.proofs.Stopping.{passed_on}
use Rattle.pace_command.proofs.Pausing.{script_stopped, under_script}
use Rattle.round_commands.proofs.ProgramChannels.{typed_distinct}
use Rattle.pace_command.proofs.pace.pace_under.Goals as goal

pub script_in-requires-clause-distinct : goal.script_in-requires-clause-distinct
script_in-requires-clause-distinct g c =
    let p = c.args.plain.now in
    rw c.channels.ensures (typed_distinct p.channels p.vars (process_of p.body) c.body-kept.ensures.typed)

pub returns-in_err-script-clause-stopped : goal.returns-in_err-script-clause-stopped
returns-in_err-script-clause-stopped g c =
    let S = g.S.Shelf in
    let given = given_by (S.tells c.args.shelf.now) (S.holds c.args.shelf.now) in
    passed_on c.from_residual.result _ _ c.from_residual.ensures.1
    (script_stopped given c.args.script.now (program_tree c.args.program.now) (typed_of c.args.plain.now) (S.faults c.args.shelf.now)
    (S.faults c.script_in.new.shelf) c.in_err-script.field-0.0 (rw c.channels.ensures at c.in_err-script.ensures.stopped))

pub returns-in-Ok-clause-answered : goal.returns-in-Ok-clause-answered
returns-in-Ok-clause-answered g c =
    let S = g.S.Shelf in
    let given = given_by (S.tells c.args.shelf.now) (S.holds c.args.shelf.now) in
    under_script given c.args.script.now (program_tree c.args.program.now) (typed_of c.args.plain.now) _
    (rw c.channels.ensures at c.in_ok-script.ensures.read) _ c.in-Ok.ensures
