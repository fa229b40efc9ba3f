use Rattle.program_commands.specs.Migrating.{MigratesNet}
use Rattle.command_steps.specs.Steps.{FromNet, Never}
use Rattle.command_steps.proofs.Stopping.{halts_in, net_answers, net_goes, net_stops, passed_on}
use Rattle.program_commands.proofs.migrate.migrate_text.Goals as goal

pub returns-clause-answered : goal.returns-clause-answered
returns-clause-answered c =
    net_answers c.args.text.items c.in_ok-net.net MigratesNet (rw c.deref.ensures.value at c.in_ok-net.ensures.read) c.migrate_net.result
    c.migrate_net.ensures.answered

pub returns-clause-stopped : goal.returns-clause-stopped
returns-clause-stopped c =
    net_stops c.args.text.items c.in_ok-net.net MigratesNet (rw c.deref.ensures.value at c.in_ok-net.ensures.read) c.migrate_net.result
    c.migrate_net.ensures.stopped

pub returns-in_err-net-clause-stopped : goal.returns-in_err-net-clause-stopped
returns-in_err-net-clause-stopped c =
    passed_on c.from_residual.result _ _ c.from_residual.ensures.1
    (halts_in (FromNet c.args.text.items Never) (FromNet c.args.text.items MigratesNet) (λ answer is. net_goes is) c.in_err-net.field-0.0
    (rw c.deref.ensures.value at c.in_err-net.ensures.stopped))
