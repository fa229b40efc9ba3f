-- The two ends of a channel: what answers a send or a receive, and the port by which a receive takes a value.
use Rattle.std.specs.Prelude.{ℕ, List, [], ◌∷◌, map}
use Rattle.prs_core.specs.Nets.{NodeRules, is_high, is_low, one_term}
use Rattle.prs_core.specs.Pairs.{Pair, rails_of}
use Rattle.prs_core.specs.Parts.{Owned, owned, owned_from}
use Rattle.prs_core.specs.Sites.{site_answer}

-- the site answers with the channel's acknowledge, under its own request: r & X.a -> a+, ~X.a -> a-
abbrev pub end_answer : (request ack : ℕ) → NodeRules
end_answer request ack = site_answer request ack

abbrev pub end_owned : (request ack answer : ℕ) → List Owned
end_owned request ack answer = owned answer (end_answer request ack) ∷ []

-- a rail is taken over under the request, and let go once both are low: r & x -> q+, ~r & ~x -> q-
abbrev pub taken_rail : (request rail : ℕ) → NodeRules
taken_rail request rail = record {
  up = one_term (is_high request ∷ is_high rail ∷ []);
  down =
      one_term (is_low request ∷ is_low rail ∷ []);
}

-- so is each of these rails
abbrev pub taken_rails : (request : ℕ) → (rails : List ℕ) → List NodeRules
taken_rails request rails = map (taken_rail request) rails

-- the two rails of each bit
abbrev pub port_rules : (request : ℕ) → List Pair → List NodeRules
port_rules request xs = taken_rails request (rails_of xs)

-- a receive port that takes these rails, whose own nodes are numbered from one on
abbrev pub port_owned : (request : ℕ) → (rails : List ℕ) → (from : ℕ) → List Owned
port_owned request rails from = owned_from from (taken_rails request rails)
