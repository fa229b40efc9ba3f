use Rattle.event_sim.proofs.Tested.{reader_within}
use Rattle.event_sim.proofs.hazards.pulled_among.Goals as goal

pub says-up-requires-clause-node : goal.says-up-requires-clause-node
says-up-requires-clause-node c = reader_within _ c.args.edges.now c.loop-reader.reader-index c.requires.readers c.loop-reader-test.true
