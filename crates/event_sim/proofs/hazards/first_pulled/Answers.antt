use Rattle.std.proofs.Common.{length, sym}
use Rattle.prs_core.specs.Moves.{high, both_ways}
use Rattle.event_sim.proofs.Lists.{least_some, least_none}
use Rattle.event_sim.proofs.hazards.first_pulled.Goals as goal

pub returns-in-None : goal.returns-in-None
returns-in-None c = sym (least_none (length c.args.net.now.first) (both_ways c.args.net.now (high c.args.state.now)) c.in-None.ensures.none)

pub returns-in-Some : goal.returns-in-Some
returns-in-Some c =
    sym (least_some (length c.args.net.now.first) c.in-Some.node (both_ways c.args.net.now (high c.args.state.now)) c.in-Some.ensures.within
    c.in-Some.ensures.some c.in-Some.ensures.least)
