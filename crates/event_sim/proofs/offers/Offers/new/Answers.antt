use Rattle.std.proofs.Common.{◌∙◌, sym, ap, map, List}
use Rattle.std.specs.Prelude.{None}
use Rattle.env_script.specs.declared.script.Offer.{Offer}
use Rattle.env_script.specs.Offers.{offered}
use Rattle.event_sim.specs.Standings.{StandingValue, standing_of, one_like, are_alike, script_with}
use Rattle.event_sim.proofs.Asked.{with_none, none_alike}
use Rattle.event_sim.proofs.offers.Offers.new.Goals as goal

pub invariant_of-result : goal.invariant_of-result
invariant_of-result c =
    let xs = c.offers.result.now in
    ap (λ (ss : List StandingValue). are_alike ss c.args.script) c.in_ok-standing.ensures
    ∙ ap (are_alike (map (λ (o : Offer). standing_of (one_like (offered o)) None) xs)) (sym c.offers.ensures) ∙ none_alike xs

pub returns : goal.returns
returns c =
    let xs = c.offers.result.now in
    ap (λ (ss : List StandingValue). script_with ss c.args.script) c.in_ok-standing.ensures
    ∙ ap (script_with (map (λ (o : Offer). standing_of (one_like (offered o)) None) xs)) (sym c.offers.ensures) ∙ with_none xs ∙ c.offers.ensures
