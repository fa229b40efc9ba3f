use Rattle.std.proofs.Common.{sym, ◌∙◌}
use Rattle.call_compose.proofs.CallsMet.{number_is, number_past}
use Rattle.call_compose.proofs.walk.number_of.Goals as goal

pub returns-in-Some : goal.returns-in-Some
returns-in-Some c = sym (number_is c.args.procs.now c.in-Some.proc c.args.name.now c.find.ensures.distinct (rw c.in-Some.is at c.find.ensures.some))

pub returns-in-None : goal.returns-in-None
returns-in-None c = c.requires.count ∙ sym (number_past c.args.procs.now c.args.name.now (rw c.in-None.is at c.find.ensures.none))
