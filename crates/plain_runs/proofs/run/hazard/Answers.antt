use Rattle.std.proofs.Common.{arith}
use Rattle.plain_runs.proofs.Least.{few_of_net}
use Rattle.plain_runs.proofs.run.hazard.Goals as goal

pub first_lost-requires-clause-few : goal.first_lost-requires-clause-few
first_lost-requires-clause-few c =
    let few = few_of_net c.args.net.now c.first-nodes.ensures.net in
    omega (arith, c.requires.before)
