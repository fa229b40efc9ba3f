use Rattle.std.proofs.Common.{ap}
use Rattle.chp_syntax.specs.View.{program_tree}
use Rattle.width_check.specs.Typed.{program_of as typed_of}
use Rattle.program_commands.specs.Expanding.{TreeReport, ExpandsProgram}
use Rattle.command_steps.specs.Steps.{FromChecks, FromNodes, Never}
use Rattle.command_steps.proofs.Stopping.{checks_go, form_answers, form_stops, halts_in, passed_on}
use Rattle.program_commands.proofs.expand.expand_program.Goals as goal

pub returns-clause-answered : goal.returns-clause-answered
returns-clause-answered c =
    let program = program_tree c.args.program.now in
    form_answers program (typed_of c.typed.result.now) (typed_of c.in_ok-disjoint.disjoint) (λ p. FromNodes p TreeReport) (ap typed_of c.typed.ensures.program)
    c.in_ok-disjoint.ensures.checked c.expand_accepted.result c.expand_accepted.ensures.answered

pub returns-clause-stopped : goal.returns-clause-stopped
returns-clause-stopped c =
    let program = program_tree c.args.program.now in
    form_stops program (typed_of c.typed.result.now) (typed_of c.in_ok-disjoint.disjoint) (λ p. FromNodes p TreeReport) (ap typed_of c.typed.ensures.program)
    c.in_ok-disjoint.ensures.checked c.expand_accepted.result c.expand_accepted.ensures.stopped

pub returns-in_err-disjoint-clause-stopped : goal.returns-in_err-disjoint-clause-stopped
returns-in_err-disjoint-clause-stopped c =
    let program = program_tree c.args.program.now in
    passed_on c.from_residual.result _ _ c.from_residual.ensures.1
    (halts_in (FromChecks program Never) (ExpandsProgram program) (λ answer is. checks_go is) c.in_err-disjoint.field-0.0
    c.in_err-disjoint.ensures.stopped)
