-- The handed-in orders (schedulers), as far as the contract of a call mentions them.
use Rattle.std.specs.Prelude.{◌≡◌, ◌≢◌, ℕ, List, ◌++◌, map, slice_get, slice_set, position, bytes_eq, Option, Some}
use Rattle.event_sim.specs.Simulating.{growth}

-- what is known of an order: its name, each index that it has chosen (in its list of enabled moves), and the last seed
-- that it was given, with how many choices there were then
pub record OrderState : Type 0 where
  pub name : List ℕ
  pub log : List ℕ
  pub seeded : Option (ℕ × ℕ)

abbrev pub order_state : (name log : List ℕ) → Option (ℕ × ℕ) → OrderState
order_state name log seeded = record { name = name; log = log; seeded = seeded }

-- the orders before a call, and the same ones after it
pub record Played : Type 0 where
  pub before : List OrderState
  pub after : List OrderState

abbrev pub played_by : (before after : List OrderState) → Played
played_by before after = record { before = before; after = after }

-- the index of the first one of this name
abbrev pub place_named : List OrderState → (name : List ℕ) → Option ℕ
place_named orders name = position (λ (o : OrderState). bytes_eq o.name name) orders

-- only the order at this index may have changed; it keeps its name, and its log may only have grown
pub record IsPlayedAt (place : ℕ) (played : Played) : Type 0 where
  pub order : OrderState
  pub changed : played.after ≡ slice_set played.before place order
  pub name : (was : OrderState) → slice_get played.before place ≡ Some was → order.name ≡ was.name
  pub log : (was : OrderState) → slice_get played.before place ≡ Some was →
      order.log ≡ was.log ++ growth was.log order.log

-- All keep their names, and all except the one at the index that is asked for, if any, are unchanged. Each log before
-- is a prefix of the one after.
pub record KeepsOrders (asked : Option ℕ) (played : Played) : Type 0 where
  pub names : map (λ (o : OrderState). o.name) played.after ≡ map (λ (o : OrderState). o.name) played.before
  pub others : (place : ℕ) → asked ≢ Some place → slice_get played.after place ≡ slice_get played.before place
  pub logs : (place : ℕ) (was is : OrderState) → slice_get played.before place ≡ Some was →
      slice_get played.after place ≡ Some is → is.log ≡ was.log ++ growth was.log is.log
