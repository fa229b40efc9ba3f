-- An offer, without the position of its values in memory.
use Rattle.env_script.specs.declared.script.Offer.{Offer}
use Rattle.env_script.specs.declared.script.Offer.TheVariants.{Values, Accept, Nothing}
use Rattle.env_script.specs.Scripts.{OfferValue, gives, takes, nothing}

abbrev pub offered : Offer → OfferValue
offered (Values v) = gives v.items
offered (Accept count) = takes count
offered Nothing = nothing
