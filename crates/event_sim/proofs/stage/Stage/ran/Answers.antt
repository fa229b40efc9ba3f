use Rattle.std.proofs.Common.{◌≡◌, ◌<◌, ◌∙◌, ℕ, All, length, sym, ap, subst}
use Rattle.prs_core.specs.Nets.{NetValue}
use Rattle.event_sim.specs.Simulating.{IsEndIn}
use Rattle.event_sim.specs.Stages.{StageValue}
use Rattle.event_sim.proofs.stage.Stage.ran.Goals as goal

pub new-requires : goal.new-requires
new-requires c =
    let same : c.into_net.result ≡ c.args.self.net = c.into_net.ensures ∙ ap (λ (v : StageValue). v.net) c.self.view_is in
    record {
      end = subst (λ (net : NetValue). IsEndIn net c.args.end) (sym same) c.requires;
      passed = subst (λ (net : NetValue). All (λ (p : ℕ × ℕ). p.0 < length net.channels) c.self.inside.passed.items) (sym c.into_net.ensures)
          c.self.invariant.passed;
    }
