use Rattle.std.proofs.Common.{◌∙◌, sym, ap, length, Bool, List}
use Rattle.std.specs.List.{find}
use Rattle.prs_core.specs.Moves.{high, both_ways}
use Rattle.prs_core.specs.Fans.{readers_below}
use Rattle.env_script.specs.Hazards.{least_below}
use Rattle.event_sim.proofs.Staged.{pulled_is}
use Rattle.event_sim.proofs.hazards.pulled_behind.Goals as goal

pub returns-in-None : goal.returns-in-None
returns-in-None c = λ before node is was found_is.
    let net = c.args.net.now in
    let count = length net.first in
    found_is ∙ ap (λ (vs : List Bool). find (both_ways net (high vs)) (readers_below net count node)) is
    ∙ pulled_is net before node (sym c.in-None.is ∙ was)
    ∙ sym (ap (λ (vs : List Bool). least_below count (both_ways net (high vs))) is)
