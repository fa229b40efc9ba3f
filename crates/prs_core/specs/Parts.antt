-- The contract of a part of a circuit alone, against every neighbour that keeps its own side (four-phase handshakes).
use Rattle.std.specs.Prelude.{◌≡◌, ◌≢◌, ℕ, ◌+◌, Bool, true, false, not, ◌||◌, ◌&&◌, ◌==◌, ◌⊎◌, if◌then◌else◌, List, [], ◌∷◌, map, Contains}
use Rattle.std.specs.List.{list_all}
use Rattle.prs_core.specs.Nets.{RulesValue, NodeRules, with_rules}
use Rattle.prs_core.specs.Moves.{guard_holds}
use Rattle.prs_core.specs.Pairs.{Pair}

-- a node of the part's own, with its rules
pub record Owned : Type 0 where
  pub node : ℕ
  pub rules : NodeRules

abbrev pub owned : ℕ → NodeRules → Owned
owned node rules = record { node = node; rules = rules }

-- nodes that are numbered from one on
abbrev pub owned_from : ℕ → List NodeRules → List Owned
owned_from from [] = []
owned_from from (r ∷ rs) = owned from r ∷ owned_from (from + 1) rs

-- nodes with these numbers
abbrev pub owned_at : List ℕ → List NodeRules → List Owned
owned_at (n ∷ ns) (r ∷ rs) = owned n r ∷ owned_at ns rs
owned_at _ _ = []

-- the rules of a net with the guards of these nodes in place of those they had
abbrev pub with_owned : List Owned → RulesValue → RulesValue
with_owned [] r = r
with_owned (o ∷ os) r = with_owned os (with_rules o.node o.rules r)

-- What a contract looks at: the values of the nodes, and what it has noted of some of them before.
pub record Moment : Type 0 where
  pub value : ℕ → Bool
  pub noted : ℕ → Bool

-- a line of a contract: a wire at the edge of the part, when it may rise, and when it may fall
pub record Wire : Type 0 where
  pub node : ℕ
  pub rises : Moment → Bool
  pub falls : Moment → Bool

abbrev pub wire : ℕ → (rises falls : Moment → Bool) → Wire
wire node rises falls = record { node = node; rises = rises; falls = falls }

-- A part with its contract.
pub record Part : Type 0 where
  -- the nodes that it moves
  pub own : List Owned
  -- those of them at its edge, and when it is to move them
  pub promises : List Wire
  -- the wires of its neighbours, and when these may move them
  pub allows : List Wire
  -- its own nodes that are low at first, and its own bits, of which one rail is high at first
  pub lows : List ℕ
  pub bits : List Pair
  -- its requests and its answers
  pub ports : List ℕ
  -- where it may wait for nothing
  pub blocked : (ℕ → Bool) → Bool
  -- what the contract notes when a node moves
  pub notes : Moment → ℕ → ℕ → Bool

abbrev pub no_notes : Moment → ℕ → ℕ → Bool
no_notes m moved node = false

abbrev pub never_blocked : (ℕ → Bool) → Bool
never_blocked v = false

-- both rails of a bit: exactly one of them is high
abbrev pub is_valid : (ℕ → Bool) → Pair → Bool
is_valid v p = v p.t && not (v p.f) || not (v p.t) && v p.f

abbrev pub all_low : (ℕ → Bool) → List ℕ → Bool
all_low v ns = list_all (λ n. not (v n)) ns

-- the values with one node turned over
abbrev pub turned : (ℕ → Bool) → ℕ → ℕ → Bool
turned v node n = if n == node then not (v n) else v n

abbrev pub moment_after : Part → Moment → ℕ → Moment
moment_after p m node = record { value = turned m.value node; noted = p.notes m node }

-- a rule of the node may turn it over
abbrev pub fires : (ℕ → Bool) → Owned → Bool
fires v o = if v o.node then guard_holds v o.rules.down else guard_holds v o.rules.up

-- the contract lets the wire move
abbrev pub may_move : Moment → Wire → Bool
may_move m w = if m.value w.node then w.falls m else w.rises m

-- first values: of the wires of the neighbours, all are low
pub record IsFirstState (p : Part) (v : ℕ → Bool) : Type 0 where
  pub outside : all_low v (map (λ (w : Wire). w.node) p.allows) ≡ true
  pub own : all_low v p.lows ≡ true
  pub bits : list_all (is_valid v) p.bits ≡ true

-- a move: of an enabled rule of the part, or of a neighbour that keeps the contract
pub record IsOwnMove (p : Part) (m : Moment) (node : ℕ) : Type 0 where
  pub o : Owned
  pub among : Contains p.own o
  pub enabled : fires m.value o ≡ true
  pub at : node ≡ o.node

pub record IsNeighbours (p : Part) (m : Moment) (node : ℕ) : Type 0 where
  pub w : Wire
  pub among : Contains p.allows w
  pub may : may_move m w ≡ true
  pub at : node ≡ w.node

abbrev pub IsMove : Part → Moment → ℕ → Type 0
IsMove p m node = IsOwnMove p m node ⊎ IsNeighbours p m node

-- from first values on, by any moves in any order
pub data Reached (p : Part) : Moment → Type 0 where
  at_first : (v : ℕ → Bool) → IsFirstState p v → Reached p (record { value = v; noted = λ n. false })
  and_then : (m : Moment) (node : ℕ) → Reached p m → IsMove p m node → Reached p (moment_after p m node)

-- what holds of each moment that is reached
pub record IsKept (p : Part) (m : Moment) : Type 0 where
  -- each wire at the edge moves only where it is to
  pub promised : (o : Owned) → Contains p.own o → fires m.value o ≡ true → (w : Wire) → Contains p.promises w →
      w.node ≡ o.node → may_move m w ≡ true
  -- no enabled rule is disabled by another move
  pub firm : (o : Owned) → Contains p.own o → fires m.value o ≡ true → (node : ℕ) → IsMove p m node → node ≢ o.node →
      fires (turned m.value node) o ≡ true
  -- no node is pulled both ways
  pub apart : (o : Owned) → Contains p.own o →
      (guard_holds m.value o.rules.up && guard_holds m.value o.rules.down) ≡ false
  -- where its requests and answers are low all is as at first
  pub lows : all_low m.value p.ports ≡ true → all_low m.value p.lows ≡ true
  pub bits : all_low m.value p.ports ≡ true → list_all (is_valid m.value) p.bits ≡ true
  -- where it does nothing it waits for a neighbour who may move, or is blocked
  pub waits : ((o : Owned) → Contains p.own o → fires m.value o ≡ false) →
      ((w : Wire) × Contains p.allows w × (may_move m w ≡ true)) ⊎ (p.blocked m.value ≡ true)

abbrev pub Keeps : Part → Type 0
Keeps p = (m : Moment) → Reached p m → IsKept p m
