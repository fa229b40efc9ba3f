-- What the environment does on the channels.
use Rattle.std.specs.Prelude.{ℕ, ◌<◌, ◌^◌, Bool, true, nat_lt, List, [], ◌∷◌, All, slice_index_or}
use Rattle.chp_base.specs.declared.channel.Channel.{Channel}
use Rattle.chp_base.specs.declared.channel.Kind.{Kind}
use Rattle.chp_base.specs.declared.channel.Kind.TheVariants.{In, Out, Chan}
use Rattle.env_script.specs.declared.script.Count.{Count}
use Rattle.env_script.specs.declared.script.Count.TheVariants.{Times}

-- it sends these values, or receives so many, or has no part in a channel that is inside of the program
pub data OfferValue : Type 0 where
  gives : (values : List ℕ) → OfferValue
  takes : (count : Count) → OfferValue
  nothing : OfferValue

abbrev pub offer_at : List OfferValue → ℕ → OfferValue
offer_at script channel = slice_index_or script channel nothing

-- more than this number of values is received
abbrev pub is_over : Count → ℕ → Bool
is_over Count.All n = true
is_over (Times count) n = nat_lt n count

-- the offer is one for a channel of this kind and width
abbrev pub Suits : Kind → ℕ → OfferValue → Type 0
Suits In width (gives values) = All (λ v. v < 2 ^ width) values
Suits Out width (takes count) = Unit {0}
Suits Chan width nothing = Unit {0}
Suits _ width _ = ⊥

-- one offer for each of the channels
abbrev pub IsScript : List Channel → List OfferValue → Type 0
IsScript [] [] = Unit {0}
IsScript (c ∷ cs) (o ∷ os) = Suits c.kind c.width o × IsScript cs os
IsScript _ _ = ⊥
