use Rattle.std.proofs.Common.{◌<◌, ◌∙◌, length, ap, arith}
use Rattle.event_sim.specs.Stages.{StageValue}
use Rattle.event_sim.proofs.stage.Stage.is_enabled.Goals as goal

pub contains-requires : goal.contains-requires
contains-requires c =
    omega (arith, c.requires, c.self.invariant.moves_are.count_is, ap (λ (v : StageValue). length v.net.first) c.self.view_is)

pub returns : goal.returns
returns c =
    let within : c.args.node < length c.self.inside.indexed.net.first =
    omega (arith, c.requires, ap (λ (v : StageValue). length v.net.first) c.self.view_is) in
    rw (← c.self.view_is) (c.contains.ensures ∙ c.self.invariant.moves_are.each c.args.node within)
