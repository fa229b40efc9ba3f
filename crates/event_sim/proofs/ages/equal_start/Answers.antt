use Rattle.std.proofs.Common.{arith}
use Rattle.std.proofs.lemmas.Slice.Eq.{slice_eq-Decides}
use Rattle.event_sim.proofs.Present.{start_same, number_decides, none_same}
use Rattle.event_sim.proofs.ages.equal_start.Goals as goal

pub returns-then-eq : goal.returns-then-eq
returns-then-eq c =
    start_same c.args.was.now c.args.list.now c.args.guess c.if-guess-was.false c.if-guess-list.false
    ((slice_eq-Decides number_decides _ _ c.eq.result c.eq.ensures).0 c.if-eq.true)

pub returns : goal.returns
returns c = none_same c.args.was.now c.args.list.now 0 0 (omega arith) (omega arith)
