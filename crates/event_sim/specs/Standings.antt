-- What the environment is asked for as a run goes on: one value or one acceptance, so many times, in place of what a
-- script lists. Of the values before the last one only their number is kept.
use Rattle.std.specs.Prelude.{◌≡◌, ℕ, ◌+◌, Bool, true, false, not, ◌&&◌, ◌==◌, nat_le, List, [], ◌∷◌, ◌++◌, length, replicate, slice_get, slice_index_or, slice_set, Option, Some, None}
use Rattle.prs_core.specs.declared.wires.Wires.{Wires}
use Rattle.prs_core.specs.Nets.{NetValue}
use Rattle.prs_core.specs.Moves.{high}
use Rattle.env_script.specs.declared.script.Count.{Count}
use Rattle.env_script.specs.declared.script.Count.TheVariants.{Times}
use Rattle.env_script.specs.Scripts.{OfferValue, gives, takes, nothing, offer_at}
use Rattle.env_script.specs.Runs.{RunState, completed}
use Rattle.event_sim.specs.Locality.{IndexedValue, is_ready, IsRetested}

-- one value or one acceptance, and how many times it is offered, if it is
pub record StandingValue : Type 0 where
  pub one : OfferValue
  pub times : Option ℕ

abbrev pub standing_of : OfferValue → Option ℕ → StandingValue
standing_of one times = record { one = one; times = times }

abbrev pub is_one : OfferValue → Bool
is_one (gives []) = false
is_one (gives (v ∷ [])) = true
is_one (gives (v ∷ u ∷ vs)) = false
is_one (takes Count.All) = false
is_one (takes (Times k)) = k == 1
is_one nothing = true

abbrev pub one_like : OfferValue → OfferValue
one_like (gives values) = gives (0 ∷ [])
one_like (takes count) = takes (Times 1)
one_like nothing = nothing

-- with this value in place of its own
abbrev pub one_now : ℕ → OfferValue → OfferValue
one_now value (gives values) = gives (value ∷ [])
one_now value (takes count) = takes count
one_now value nothing = nothing

-- both are of values, or both of acceptances, or both of nothing
abbrev pub is_alike : OfferValue → OfferValue → Bool
is_alike (gives values) (gives others) = true
is_alike (takes count) (takes other) = true
is_alike nothing nothing = true
is_alike _ _ = false

abbrev pub times_over : ℕ → OfferValue → OfferValue
times_over k (gives []) = gives []
times_over k (gives (v ∷ vs)) = gives (replicate k v)
times_over k (takes count) = takes (Times k)
times_over k nothing = nothing

-- what is offered where a script lists this
abbrev pub stands : Option ℕ → OfferValue → OfferValue → OfferValue
stands None one listed = listed
stands (Some k) one listed = times_over k one

abbrev pub script_with : List StandingValue → List OfferValue → List OfferValue
script_with (s ∷ ss) (o ∷ os) = stands s.times s.one o ∷ script_with ss os
script_with _ _ = []

-- on each channel the one and what is listed are alike
abbrev pub are_alike : List StandingValue → List OfferValue → Bool
are_alike [] [] = true
are_alike (s ∷ ss) (o ∷ os) = is_alike s.one o && are_alike ss os
are_alike _ _ = false

-- how many values or acceptances are offered, where that is a number
abbrev pub offered_count : OfferValue → Option ℕ
offered_count (gives values) = Some (length values)
offered_count (takes Count.All) = None
offered_count (takes (Times k)) = Some k
offered_count nothing = None

-- with one more value, in place of all before it too, or with one more acceptance
abbrev pub one_more : ℕ → OfferValue → OfferValue
one_more value (gives values) = gives (replicate (length values + 1) value)
one_more value (takes Count.All) = takes Count.All
one_more value (takes (Times k)) = takes (Times (k + 1))
one_more value nothing = nothing

abbrev pub script_and : ℕ → ℕ → List OfferValue → List OfferValue
script_and chan value script = slice_set script chan (one_more value (offer_at script chan))

-- that many are completed
abbrev pub is_done : Option ℕ → ℕ → Bool
is_done None done = false
is_done (Some count) done = nat_le count done

abbrev pub is_low_ack : (ℕ → Bool) → Option Wires → Bool
is_low_ack v None = false
is_low_ack v (Some w) = not (v w.ack)

-- a channel is idle where its acknowledge is low and all that is offered on it has completed
abbrev pub is_idle : NetValue → List OfferValue → RunState → ℕ → Bool
is_idle net script st chan = is_low_ack (high st.values) (slice_get net.channels chan)
    && is_done (offered_count (offer_at script chan)) (completed st.histories chan)

-- the wires of a channel were tested again
pub record IsRetestedOn (x : IndexedValue) (done : List ℕ) (values : List Bool) (chan : ℕ) (old new : List Bool) :
    Type 0 where
  pub wires : Wires
  pub here : wires ≡ slice_index_or x.net.channels chan wires
  pub lost : Option ℕ
  pub retested : IsRetested (is_ready x done values) (wires.rails ++ wires.ack ∷ []) old new None lost
