use Rattle.std.proofs.Common.{◌∙◌, [], ◌∷◌, ◌++◌, List, map, ap}
use Rattle.prs_core.specs.Pairs.{Pair, pair_of, or_of, merged_true, merged_false}
use Rattle.net_compose.proofs.BodyDriven.{two_on}
use Rattle.net_compose.proofs.block.merges.Goals as goal

pub returns : goal.returns
returns c =
    let old = c.args.drivers.now.items in
    let sites = c.args.sites.now in
    two_on old c.push.new.self.items c.push-2.new.self.items (merged_true sites c.args.bit ∷ []) (merged_false sites c.args.bit ∷ [])
    (c.in_ok-push.ensures.items ∙ ap (λ d. old ++ d ∷ []) (c.any.ensures ∙ ap or_of (c.in_ok-trues.ensures
    ∙ ap (λ k. map (λ (site : List Pair). (pair_of site k).t) sites) c.from.ensures)))
    (c.in_ok-push-2.ensures.items ∙ ap (λ d. c.push.new.self.items ++ d ∷ []) (c.any-2.ensures ∙ ap or_of (c.in_ok-falses.ensures
    ∙ ap (λ k. map (λ (site : List Pair). (pair_of site k).f) sites) c.from-2.ensures)))
