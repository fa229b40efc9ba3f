use Rattle.std.proofs.Common.{length, refl}
use Rattle.delay_script.proofs.OnTheWay.{moves_within}
use Rattle.delay_script.proofs.noted.Course.begin.Goals as goal

pub fill-requires-clause-nodes : goal.fill-requires-clause-nodes
fill-requires-clause-nodes c = moves_within c.args.stage c.moves.result.now (length c.args.stage.net.first) c.moves.ensures refl
