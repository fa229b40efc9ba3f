-- Which nodes read a node.
use Rattle.std.specs.Prelude.{◌≡◌, ℕ, ◌-◌, ◌<◌, Bool, ◌||◌, ◌&&◌, ◌==◌, nat_lt, if◌then◌else◌, List, [], ◌∷◌, ◌++◌, length, map, filter, slice_index, slice_index_or}
use Rattle.std.specs.List.{list_any, range_with_len}
use Rattle.prs_core.specs.declared.rule.Literal.{Literal}
use Rattle.prs_core.specs.Nets.{GuardValue, NetValue, up_of, down_of}

abbrev pub term_names : ℕ → List Literal → Bool
term_names node t = list_any (λ (l : Literal). l.node == node) t

abbrev pub guard_names : ℕ → GuardValue → Bool
guard_names node g = list_any (term_names node) g

-- a guard of the reader names the node
abbrev pub is_reader : NetValue → ℕ → ℕ → Bool
is_reader net node reader = guard_names node (up_of net reader) || guard_names node (down_of net reader)

-- the nodes below a number that read the node, in ascending order
abbrev pub readers_below : NetValue → ℕ → ℕ → List ℕ
readers_below net count node = filter (is_reader net node) (range_with_len 0 count)

-- for each node its readers
abbrev pub fan_value : NetValue → List (List ℕ)
fan_value net = map (readers_below net (length net.first)) (range_with_len 0 (length net.first))

-- while the index is made: a reader is added once, since the readers come in ascending order
abbrev pub ends_in : ℕ → List ℕ → Bool
ends_in node xs = nat_lt 0 (length xs) && slice_index xs (length xs - 1) == node

abbrev pub with_reader : ℕ → List ℕ → List ℕ
with_reader reader xs = if ends_in reader xs then xs else xs ++ reader ∷ []

-- the reader is added to the lists of the nodes that pass
pub record IsNoted (names : ℕ → Bool) (reader : ℕ) (old new : List (List ℕ)) : Type 0 where
  pub count : length new ≡ length old
  pub each : (node : ℕ) → node < length old →
      slice_index_or new node [] ≡ (if names node then with_reader reader (slice_index_or old node []) else
      slice_index_or old node [])
