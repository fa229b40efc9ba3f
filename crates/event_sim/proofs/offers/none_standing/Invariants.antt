use Rattle.std.proofs.Common.{◌≡◌, take, map}
use Rattle.std.specs.Prelude.{None}
use Rattle.env_script.specs.declared.script.Offer.{Offer}
use Rattle.env_script.specs.Offers.{offered}
use Rattle.event_sim.specs.Standings.{standing_of, one_like}
use Rattle.event_sim.proofs.offers.none_standing.Given as goal

abbrev pub invariant-loop-offer : goal.invariant-loop-offer
invariant-loop-offer l = l.standing.items ≡ map (λ (o : Offer). standing_of (one_like (offered o)) None) (take l.offer-index l.offers)
