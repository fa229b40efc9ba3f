use Rattle.std.proofs.Common.{ap, length, arith}
use Rattle.width_check.specs.Typed.{program_of}
use Rattle.net_compose.specs.SortedContacts.{listed_at}
use Rattle.net_compose.proofs.DeclaredDriven.{vars_on, vars_driven}
use Rattle.net_compose.proofs.declared.vars.Goals as goal

pub loop-number-preserved : goal.loop-number-preserved
loop-number-preserved c = vars_on (program_of c.args.program.now) (λ x. listed_at c.args.sorted.now.written.items x) c.args.program.now.vars
    c.loop-number.number c.loop-number.drivers.items _ _
    (omega (arith, c.loop-number-test.true, ap length c.vars-number-end.ensures)) c.in_ok-var.ensures c.loop-number.invariant

pub returns : goal.returns
returns c = vars_driven (program_of c.args.program.now) (λ x. listed_at c.args.sorted.now.written.items x) c.args.program.now.vars
    c.loop-number.number c.loop-number.drivers.items _
    (omega (arith, c.loop-number-test.false, ap length c.vars-number-end.ensures)) c.loop-number.invariant
