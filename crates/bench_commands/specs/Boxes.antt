-- What is known of orders and devices in boxes, each of which brings the ghost members of its trait by its table of
-- methods.
use Rattle.std.specs.declared.alloc.Global.{Global}
use Rattle.std.specs.declared.dyn_box.DynBox.{DynBox}
use Rattle.event_sim.specs.Asking.{PickerValue, picker_value}
use Rattle.event_sim.specs.declared.picker.Picker.{Ghosts as PickerMembers}
use Rattle.peer_bench.specs.declared.peer.Peer.{Ghosts as PeerMembers}
use Rattle.peer_bench.specs.Asking.{PeerValue, peer_value}
use Rattle.command_steps.specs.Orders.{OrderState, order_state}

-- what is known of an order
abbrev pub order_seen : {B : Type 0} {Order : B → Type 0} →
    ((box : DynBox B Global Order) → PickerMembers (Order box.vtable)) → DynBox B Global Order → OrderState
order_seen order box = order_state ((order box).name box.value) ((order box).log box.value)
    ((order box).seeded box.value)

-- what is known of it as a scheduler
abbrev pub picker_seen : {B : Type 0} {Order : B → Type 0} →
    ((box : DynBox B Global Order) → PickerMembers (Order box.vtable)) → DynBox B Global Order → PickerValue B
picker_seen order box = picker_value box.vtable ((order box).name box.value) ((order box).log box.value)
    ((order box).spare box.value) ((order box).nodes box.value) ((order box).seeded box.value)
    ((order box).choice box.value)

-- and of a device
abbrev pub peer_seen : {D : Type 0} {Device : D → Type 0} →
    ((box : DynBox D Global Device) → PeerMembers (Device box.vtable)) → DynBox D Global Device → PeerValue
peer_seen peer box = peer_value ((peer box).name box.value) ((peer box).log box.value) ((peer box).spare box.value)
    ((peer box).due box.value) ((peer box).willing box.value)
