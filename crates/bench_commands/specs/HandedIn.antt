-- All that a call is handed in: orders and devices.
use Rattle.std.specs.Prelude.{ℕ, List, map, Option}
use Rattle.std.specs.declared.alloc.Global.{Global}
use Rattle.std.specs.declared.dyn_box.DynBox.{DynBox}
use Rattle.peer_bench.specs.Asking.{PeerValue}
use Rattle.command_steps.specs.Orders.{OrderState, Played, KeepsOrders, played_by}
use Rattle.simulation_commands.specs.Simulating.{SameObjects}
use Rattle.bench_commands.specs.Peers.{Peered, KeepsPeers, peered_over}

-- what is known of them before a call and after it
pub record HandedIn : Type 0 where
  pub orders : Played
  pub peers : Peered

-- of these objects, where this is known of an order and that of a device
abbrev pub handed_over : {O P : Type 0} → (order : O → OrderState) → (peer : P → PeerValue) →
    (orders_before orders_after : List O) → (peers_before peers_after : List P) → HandedIn
handed_over order peer orders_before orders_after peers_before peers_after = record {
  orders = played_by (map order orders_before) (map order orders_after);
  peers = peered_over peer peers_before peers_after;
}

-- All objects are still there, each in its place, with its name, and its log has at most grown. Each order but the one
-- at the first place, and each device but the one at the second, if these are asked for, is as it was.
pub record StayHandedIn {B : Type 0} {Order : B → Type 0} {D : Type 0} {Device : D → Type 0}
    (order : DynBox B Global Order → OrderState) (peer : DynBox D Global Device → PeerValue) (place which : Option ℕ)
    (orders_before orders_after : List (DynBox B Global Order))
    (peers_before peers_after : List (DynBox D Global Device)) : Type 0 where
  pub orders : KeepsOrders place (played_by (map order orders_before) (map order orders_after))
  pub order_objects : SameObjects place orders_before orders_after
  pub peers : KeepsPeers which (peered_over peer peers_before peers_after)
  pub peer_objects : SameObjects which peers_before peers_after
