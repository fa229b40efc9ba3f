-- The moves of the environment. It raises go, sends on the `in` channels and receives on the `out` channels, by the
-- four phases of a handshake (Martin).
use Rattle.std.specs.Prelude.{ℕ, zero, suc, ◌/◌, ◌%◌, Bool, true, false, not, ◌&&◌, ◌||◌, ◌==◌, if◌then◌else◌, List, [], ◌∷◌, length, map, slice_get, Option, Some, None, is_some}
use Rattle.std.specs.List.{list_any}
use Rattle.chp_base.specs.declared.channel.Channel.{Channel}
use Rattle.prs_core.specs.declared.wires.Wires.{Wires}
use Rattle.prs_core.specs.Nets.{NetValue}
use Rattle.prs_core.specs.Moves.{rule_enabled, rail_value_of, neutral}
use Rattle.env_script.specs.Scripts.{OfferValue, gives, takes, nothing, offer_at, is_over}

abbrev pub net_channels : NetValue → List Channel
net_channels net = map (λ (w : Wires). w.channel) net.channels

-- the test passes at each number below the count
abbrev pub all_below : ℕ → (ℕ → Bool) → Bool
all_below zero p = true
all_below (suc n) p = all_below n p && p n

-- under the values of the nodes: there is a reset node, and it is high
abbrev pub in_reset : Option ℕ → (ℕ → Bool) → Bool
in_reset None v = false
in_reset (Some node) v = v node

abbrev pub is_reset : Option ℕ → ℕ → Bool
is_reset None n = false
is_reset (Some node) n = n == node

-- no rule is enabled
abbrev pub rules_rest : NetValue → (ℕ → Bool) → Bool
rules_rest net v = all_below (length net.first) (λ n. not (rule_enabled net v n))

abbrev pub is_odd : ℕ → Bool
is_odd n = n % 2 == 1

-- both rails of a bit are low, and the node is the rail of the bit's value
abbrev pub raises_bit : (ℕ → Bool) → Bool → (t f n : ℕ) → Bool
raises_bit v bit t f n = (n == (if bit then t else f)) && (not (v t) && not (v f))

-- the node is a rail that may rise to bring the value, whose lowest bit comes first
abbrev pub raises_value : (ℕ → Bool) → ℕ → List ℕ → ℕ → Bool
raises_value v value [] n = false
raises_value v value (t ∷ []) n = false
raises_value v value (t ∷ f ∷ rest) n = raises_bit v (is_odd value) t f n || raises_value v (value / 2) rest n

abbrev pub raises_next : (ℕ → Bool) → Option ℕ → List ℕ → ℕ → Bool
raises_next v None rails n = false
raises_next v (Some value) rails n = raises_value v value rails n

-- the node is a high rail
abbrev pub lowers : (ℕ → Bool) → List ℕ → ℕ → Bool
lowers v rails n = v n && list_any (λ rail. n == rail) rails

-- each bit has exactly one rail high
abbrev pub valid : (ℕ → Bool) → List ℕ → Bool
valid v rails = is_some (rail_value_of v rails)

-- the sender moves the rails, towards the next value where there is one
abbrev pub sender_moves : (ℕ → Bool) → Wires → Option ℕ → ℕ → Bool
sender_moves v w next n = if v w.ack then lowers v w.rails n else raises_next v next w.rails n

-- the receiver moves the acknowledge
abbrev pub receiver_moves : (ℕ → Bool) → Wires → Bool → ℕ → Bool
receiver_moves v w more n = (n == w.ack) && (if v w.ack then neutral v w.rails else valid v w.rails && more)

-- the environment may move the node for this offer, of which so many values are completed
abbrev pub offer_moves : (ℕ → Bool) → Wires → OfferValue → ℕ → ℕ → Bool
offer_moves v w (gives values) done n = sender_moves v w (slice_get values done) n
offer_moves v w (takes count) done n = receiver_moves v w (is_over count done) n
offer_moves v w nothing done n = false

-- the same for some of these channels, which are numbered from c on
abbrev pub channels_move : (ℕ → Bool) → (ℕ → OfferValue) → (ℕ → ℕ) → ℕ → List Wires → ℕ → Bool
channels_move v script done c [] n = false
channels_move v script done c (w ∷ ws) n =
    offer_moves v w (script c) (done c) n || channels_move v script done (suc c) ws n

-- go rises, and never falls
abbrev pub raises_go : (ℕ → Bool) → ℕ → Bool
raises_go v n = (n == 0) && not (v 0)

-- The environment may move the node, where so many values are completed on each channel. While a reset node is high
-- it moves that node alone, and only where no rule is enabled; the reset node never rises.
abbrev pub env_enabled : NetValue → List OfferValue → (ℕ → ℕ) → (ℕ → Bool) → ℕ → Bool
env_enabled net script done v n =
    if in_reset net.reset v then is_reset net.reset n && rules_rest net v else raises_go v n
    || channels_move v (offer_at script) done 0 net.channels n
