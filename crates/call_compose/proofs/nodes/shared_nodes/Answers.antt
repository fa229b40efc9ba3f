use Rattle.std.proofs.Common.{ap, arith}
use Rattle.chp_syntax.specs.View.{program_tree}
use Rattle.width_check.specs.Typed.{program_of}
use Rattle.width_check.specs.View.{process_of}
use Rattle.call_compose.proofs.CalledCounts.{bodies_typed, shared_counted}
use Rattle.call_compose.proofs.nodes.shared_nodes.Goals as goal

pub bodies_nodes-shared-requires : goal.bodies_nodes-shared-requires
bodies_nodes-shared-requires c =
    bodies_typed (program_tree c.args.program.now) (program_of c.args.inlined.now) c.requires.inlined c.calls_typed.ensures c.calls_meant.ensures
    c.body-body.ensures.typed.body_is c.args.bodies.now (c.requires.bodies c.requires.inlined)

pub returns : goal.returns
returns c = λ h.
    shared_counted (program_tree c.args.program.now) (program_of c.args.inlined.now) h (process_of c.body-body.result.now) c.saturating_add-own.result
    c.bodies_nodes-shared.result c.called_nodes-calling.result c.saturating_add.result c.saturating_add-2.result c.args.bodies.now c.calls_typed.ensures
    (ap process_of c.body-body.ensures.body) (c.requires.bodies h) (omega (arith, c.declared_nodes.ensures, c.saturating_add-own.ensures))
    c.bodies_nodes-shared.ensures c.called_nodes-calling.ensures (omega (arith, c.saturating_add.ensures)) (omega (arith, c.saturating_add-2.ensures))
