-- The contracts of a channel's ends (Martin).
use Rattle.std.specs.Prelude.{◌≡◌, ◌≢◌, ℕ, ◌+◌, Bool, not, ◌&&◌, ◌||◌, List, [], ◌∷◌, map, AllPairs}
use Rattle.std.specs.List.{list_all, flat_map}
use Rattle.prs_core.specs.Pairs.{Pair, pair_at, rails_of}
use Rattle.prs_core.specs.Parts.{Part, Wire, wire, Keeps, owned_at, is_valid, never_blocked, no_notes}
use Rattle.prs_core.specs.Sites.{site_part}
use Rattle.cell_channel.specs.Ends.{end_owned, port_owned, port_rules}

-- a bit at a receive port: its rails on the channel, and those by which the port takes them
pub record PortBit : Type 0 where
  pub rail : Pair
  pub taken : Pair

abbrev pub port_bit : (rail taken : Pair) → PortBit
port_bit rail taken = record { rail = rail; taken = taken }

abbrev pub channel_pairs : List PortBit → List Pair
channel_pairs bits = map (λ (b : PortBit). b.rail) bits

abbrev pub taken_pairs : List PortBit → List Pair
taken_pairs bits = map (λ (b : PortBit). b.taken) bits

-- both rails of a bit are low
abbrev pub is_neutral : (ℕ → Bool) → Pair → Bool
is_neutral v p = not (v p.t) && not (v p.f)

-- the four phases of a channel: a rail rises where the acknowledge and the other rail are low, and falls where the
-- acknowledge is high
abbrev pub rail_wire : (ack other rail : ℕ) → Wire
rail_wire ack other rail = wire rail (λ m. not (m.value ack) && not (m.value other)) (λ m. m.value ack)

abbrev pub rail_wires : (ack : ℕ) → List PortBit → List Wire
rail_wires ack bits = flat_map (λ (b : PortBit). rail_wire ack b.rail.f b.rail.t ∷ rail_wire ack b.rail.t b.rail.f ∷ [])
    bits

-- The acknowledge rises where all bits of the channel are valid and, under the request, all are taken. It falls where
-- all are neutral, on the channel and at the port.
abbrev pub port_ack : (request ack : ℕ) → List PortBit → Wire
port_ack request ack bits =
    wire ack
    (λ m. list_all (is_valid m.value) (channel_pairs bits)
    && (not (m.value request) || list_all (is_valid m.value) (taken_pairs bits)))
    (λ m. list_all (is_neutral m.value) (channel_pairs bits) && list_all (is_neutral m.value) (taken_pairs bits))

-- The request rises where the acknowledge and all that the port has taken are low, and falls where the acknowledge is
-- high.
abbrev pub port_request : (request ack : ℕ) → List PortBit → Wire
port_request request ack bits =
    wire request (λ m. not (m.value ack) && list_all (is_neutral m.value) (taken_pairs bits)) (λ m. m.value ack)

-- a rail is to be taken where it and the request are high, and to be let go where both are low
abbrev pub taken_wire : (request rail taken : ℕ) → Wire
taken_wire request rail taken =
    wire taken (λ m. m.value request && m.value rail) (λ m. not (m.value request) && not (m.value rail))

abbrev pub taken_wires : (request : ℕ) → List PortBit → List Wire
taken_wires request bits = flat_map (λ (b : PortBit). taken_wire request b.rail.t b.taken.t
    ∷ taken_wire request b.rail.f b.taken.f ∷ []) bits

-- A receive port takes what is on the channel's rails while it is asked, and holds it until both have let go.
abbrev pub port_part : (request ack : ℕ) → List PortBit → Part
port_part request ack bits = record {
  own = owned_at (rails_of (taken_pairs bits)) (port_rules request (channel_pairs bits));
  promises = taken_wires request bits;
  allows = port_request request ack bits ∷ port_ack request ack bits ∷ rail_wires ack bits;
  lows = rails_of (taken_pairs bits);
  bits = [];
  ports = request ∷ rails_of (taken_pairs bits);
  blocked = never_blocked;
  notes = no_notes;
}

-- all nodes at its bits
abbrev pub port_nodes : List PortBit → List ℕ
port_nodes bits = flat_map (λ (b : PortBit). b.rail.t ∷ b.rail.f ∷ b.taken.t ∷ b.taken.f ∷ []) bits

-- the bits of a port that takes these rails, whose own nodes are numbered from one on
abbrev pub port_bits : List Pair → (from : ℕ) → List PortBit
port_bits [] from = []
port_bits (x ∷ xs) from = port_bit x (pair_at from) ∷ port_bits xs (from + 2)

-- The port that takes these rails keeps its contract, where its nodes are distinct: the one whose own nodes are
-- numbered from one on, and whatever the channel's acknowledge is.
abbrev pub PortKeeps : (request : ℕ) → (rails : List ℕ) → (from : ℕ) → Type 0
PortKeeps request rails from =
    (ack : ℕ) (pairs : List Pair) → rails_of pairs ≡ rails →
    AllPairs (λ (a b : ℕ). a ≢ b) (request ∷ ack ∷ port_nodes (port_bits pairs from))
    → Keeps (port_part request ack (port_bits pairs from))
    × ((port_part request ack (port_bits pairs from)).own ≡ port_owned request rails from)

-- the answer of a send or a receive, at an end of the channel that it shares with the sites of these other requests
abbrev pub end_part : (others : List ℕ) (request ack answer : ℕ) → Part
end_part others request ack answer = record (site_part others request ack answer) { own = end_owned request ack answer }
