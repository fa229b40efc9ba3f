use Rattle.std.proofs.Common.{◌≡◌, map, take}
use Rattle.env_script.specs.Offers.{offered}
use Rattle.chp_meaning.specs.Standing.{offer_of_rest}
use Rattle.chp_meaning.proofs.config.whole_script.Given as goal

abbrev pub invariant-loop-offer : goal.invariant-loop-offer
invariant-loop-offer l = map offer_of_rest l.rests.items ≡ map offered (take l.offer-index l.offer-items)
