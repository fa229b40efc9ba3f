-- Rounds: each step that is enabled at a round's start is taken once, in the order of the places.
use Rattle.std.specs.Prelude.{ℕ, zero, suc, Bool, true, ◌==◌, if◌then◌else◌, List, [], ◌∷◌, filter, fold, unwrap_or, is_some, Option, Some, None}
use Rattle.env_script.specs.Scripts.{OfferValue, gives, takes, nothing, offer_at, is_over}
use Rattle.width_check.specs.Processes.{Process, skipping, assigning, sending, receiving, choosing, repeating, no_members, and_member, Choices, TypedProgram}
use Rattle.chp_meaning.specs.Terms.{Term, finished, opened, followed, Place, statement_at, places}
use Rattle.chp_meaning.specs.Steps.{Configuration, value_in, open_branches, one_fewer, leaving, storing, passing, offering, start_of}

-- a receive that waits at an active place
pub record Waiting : Type 0 where
  pub at : Place
  pub var : ℕ

abbrev pub waits_on : ℕ → Place → Option Process → Option Waiting
waits_on k at (Some (receiving chan s x t)) = if chan == k then Some (record { at = at; var = x }) else None
waits_on k at _ = None

abbrev pub or_later : Option Waiting → Option Waiting → Option Waiting
or_later None later = later
or_later (Some w) later = Some w

-- the first of the places at which a receive on the channel waits
abbrev pub receiver_among : Term → ℕ → List Place → Option Waiting
receiver_among t k [] = None
receiver_among t k (at ∷ more) = or_later (waits_on k at (statement_at t at)) (receiver_among t k more)

abbrev pub receiver_on : Term → ℕ → Option Waiting
receiver_on t k = receiver_among t k (places t)

-- a communication inside of the program, where a receive waits
abbrev pub communicated : Configuration → Place → ℕ → ℕ → Option Waiting → Option Configuration
communicated c at k v None = None
communicated c at k v (Some w) = Some (passing (storing (leaving (leaving c at finished) w.at finished) w.var v) k v)

abbrev pub sent : Configuration → Place → ℕ → ℕ → OfferValue → Option Configuration
sent c at k v nothing = communicated c at k v (receiver_on c.term k)
sent c at k v (takes count) = if is_over count 0 then Some
    (passing (offering (leaving c at finished) k (takes (one_fewer count))) k v) else None
sent c at k v (gives values) = None

abbrev pub received : Configuration → Place → ℕ → ℕ → OfferValue → Option Configuration
received c at k x (gives (v ∷ more)) =
    Some (passing (storing (offering (leaving c at finished) k (gives more)) x v) k v)
received c at k x _ = None

abbrev pub chosen : Configuration → Place → Bool → Choices → List Process → Option Configuration
chosen c at again options (p ∷ []) =
    Some (leaving c at (if again then followed (opened p) (and_member (choosing true options) no_members) else opened
    p))
chosen c at true options [] = Some (leaving c at finished)
chosen c at again options _ = None

-- the configuration after the step of this statement at the place, if it has one
abbrev pub stepped : Configuration → Place → Option Process → Option Configuration
stepped c at (Some skipping) = Some (leaving c at finished)
stepped c at (Some (assigning x s e)) = Some (storing (leaving c at finished) x (value_in c e))
stepped c at (Some (sending k s e)) = sent c at k (value_in c e) (offer_at c.rests k)
stepped c at (Some (receiving k s x t)) = received c at k x (offer_at c.rests k)
stepped c at (Some (choosing again options)) = chosen c at again options (open_branches c options)
stepped c at (Some (repeating p)) = Some (leaving c at (followed (opened p) (and_member (repeating p) no_members)))
stepped c at _ = None

abbrev pub step_at : Configuration → Place → Option Configuration
step_at c at = stepped c at (statement_at c.term at)

abbrev pub is_enabled : Configuration → Place → Bool
is_enabled c at = is_some (step_at c at)

-- the places of the steps, in order
abbrev pub enabled_places : Configuration → List Place
enabled_places c = filter (is_enabled c) (places c.term)

abbrev pub taken : Configuration → Place → Configuration
taken c at = unwrap_or (step_at c at) c

abbrev pub round : Configuration → Configuration
round c = fold taken c (enabled_places c)

abbrev pub rounds_from : Configuration → ℕ → Configuration
rounds_from c zero = c
rounds_from c (suc n) = rounds_from (round c) n

-- the configuration after n rounds of the program under the script
abbrev pub rounds : TypedProgram → List OfferValue → ℕ → Configuration
rounds p script n = rounds_from (start_of p script) n
