-- How long nodes have been in the lists of a scheduler, and which of them is the oldest or the newest.
use Rattle.std.specs.Prelude.{◌≡◌, ℕ, ◌+◌, ◌-◌, ◌*◌, ◌^◌, ◌<◌, ◌≤◌, nat_le, ◌==◌, if◌then◌else◌, List, length, map, slice_index, All, AllPairs, Option, vec_capacity}
use Rattle.std.specs.List.{list_any, list_all, position_or_len, range_with_len}
use Rattle.std.specs.VecDeque.{deque_capacity}
use Rattle.event_sim.specs.declared.ages.Presence.{Presence}

-- the age of a node, where so many picks were made: how many picks ago its presence in the lists began, if it is in the
-- last one
abbrev pub age_at : (now : ℕ) → (since list : List ℕ) → ℕ → ℕ
age_at now since list node = if list_any (λ n. n == node) list then now - slice_index since node else 0

abbrev pub ages_at : (now : ℕ) → (since list : List ℕ) → List ℕ
ages_at now since list = map (age_at now since list) (range_with_len 0 (length since))

-- a pick from a list makes each node in it older by one, and every other age 0
abbrev pub aged : List ℕ → List ℕ → List ℕ
aged list ages = map (λ node. if list_any (λ n. n == node) list then slice_index ages node + 1 else 0)
    (range_with_len 0 (length ages))

-- a scheduler that goes by age: all indexes that it returned, for how many picks it has room, the last seed and how
-- many indexes it had returned then, and the age of each node
pub record AgedValue : Type 0 where
  pub log : List ℕ
  pub spare : ℕ
  pub seeded : Option (ℕ × ℕ)
  pub ages : List ℕ

-- the ages of the nodes of the list after a pick from it
abbrev pub ages_in : List ℕ → List ℕ → List ℕ
ages_in list ages = map (slice_index (aged list ages)) list

-- lower for an older node, and of equally old ones for a lesser node
abbrev pub age_rank : List ℕ → ℕ → ℕ
age_rank since node = 2 ^ 32 * slice_index since node + node

-- the order has the nodes of the ascending list, each by its rank; their presence began before so many picks were made
pub record IsByAge (now : ℕ) (since list order : List ℕ) : Type 0 where
  pub few : length since < 2 ^ 32
  pub ascending : AllPairs (λ (a b : ℕ). a < b) list
  pub below : All (λ n. n < length since) list
  pub past : All (λ n. slice_index since n < now) list
  pub ranked : AllPairs (λ (a b : ℕ). age_rank since a < age_rank since b) order
  pub whole : (k : ℕ) → k < length list → (p : ℕ) × (p < length order) × (slice_index order p ≡ slice_index list k)
  pub only : (p : ℕ) → p < length order → (k : ℕ) × (k < length list) × (slice_index list k ≡ slice_index order p)
  pub count : length order ≡ length list

-- the place in an order of the first node whose presence began no earlier than that of the last one
pub record IsPlaceOfNewest (since order : List ℕ) (place : ℕ) : Type 0 where
  pub within : place < length order
  pub older : (k : ℕ) → k < place
      → age_rank since (slice_index order k) < 2 ^ 32 * slice_index since (slice_index order (length order - 1))
  pub others : (k : ℕ) → place ≤ k → k < length order
      → 2 ^ 32 * slice_index since (slice_index order (length order - 1)) ≤ age_rank since (slice_index order k)

-- so it is kept, with room for any list
pub record IsPresence (now : ℕ) (p : Presence) : Type 0 where
  pub by_age : IsByAge now p.since.items p.list.items p.order.items
  pub list_room : length p.since.items ≤ vec_capacity p.list
  pub order_room : 2 * length p.since.items ≤ deque_capacity p.order

-- room for lists of so many nodes
pub record HasRoomForAges (count : ℕ) (p : Presence) : Type 0 where
  pub since : count ≤ vec_capacity p.since
  pub list : count ≤ vec_capacity p.list
  pub order : 2 * count ≤ deque_capacity p.order

-- so many nodes from these places on are equal in two lists
pub record AreEqualFrom (was : List ℕ) (left : ℕ) (list : List ℕ) (done : ℕ) (run : ℕ) : Type 0 where
  pub left_in : left + run ≤ length was
  pub done_in : done + run ≤ length list
  pub same : (a b : ℕ) → left ≤ a → a < left + run → a + done ≡ b + left → slice_index was a ≡ slice_index list b

-- the first index of a greatest number of the list, and of a least one
abbrev pub first_greatest : List ℕ → ℕ
first_greatest xs = position_or_len (λ x. list_all (λ y. nat_le y x) xs) xs

abbrev pub first_least : List ℕ → ℕ
first_least xs = position_or_len (λ x. list_all (λ y. nat_le x y) xs) xs
