use Rattle.std.proofs.Common.{◌∙◌}
use Rattle.event_sim.proofs.Staged.{listed_same}
use Rattle.event_sim.proofs.stage.Stage.moves.Goals as goal

pub returns : goal.returns
returns c =
    let s = c.self.inside in
    rw (← c.self.view_is) (c.nodes.ensures ∙ listed_same s.indexed.net s.indexed.script _ s.moves c.self.invariant.moves_are)
