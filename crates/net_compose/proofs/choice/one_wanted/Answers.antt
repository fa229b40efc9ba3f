use Rattle.std.proofs.Common.{◌∙◌, ap}
use Rattle.std.specs.Prelude.{slice_set}
use Rattle.net_compose.specs.Wanted.{all_unwanted}
use Rattle.net_compose.proofs.Latched.{one_set}
use Rattle.net_compose.proofs.choice.one_wanted.Goals as goal

pub returns : goal.returns
returns c =
    let hs = c.args.guards.now in
    ap (λ l. slice_set l c.args.place c.rail.result) c.in_ok-rails.ensures
    ∙ (ap (λ n. slice_set (all_unwanted hs) c.args.place n) c.rail.ensures
    ∙ one_set hs c.args.place c.index-guards-place.result c.requires c.index-guards-place.is)
