use Rattle.std.proofs.lemmas.Slice.Eq.{slice_eq-Decides}
use Rattle.event_sim.proofs.Present.{rest_same, number_decides}
use Rattle.event_sim.proofs.ages.equal_run.Goals as goal

pub returns-then-eq-clause-run : goal.returns-then-eq-clause-run
returns-then-eq-clause-run c =
    rest_same c.args.was.now c.args.list.now c.args.left c.args.done c.requires.left c.requires.done
    ((slice_eq-Decides number_decides _ _ c.eq.result c.eq.ensures).0 c.if-eq.true)
