use Rattle.std.proofs.Common.{◌∙◌, sym}
use Rattle.command_steps.specs.Orders.{order_state}
use Rattle.command_steps.proofs.OrderNames.{found_within, named_mapped}
use Rattle.command_steps.proofs.order_places.place_of.Goals as goal

pub returns : goal.returns
returns g c =
    let found = rw c.deref.ensures.value at c.first_named.ensures in
    record {
      place = found
          ∙ sym (named_mapped
          (λ order. order_state ((goal.Picker-dyn g (order.vtable, order.value)).name order.value)
          ((goal.Picker-dyn g (order.vtable, order.value)).log order.value) ((goal.Picker-dyn g (order.vtable, order.value)).seeded order.value))
          c.args.orders.now.items c.args.wanted.now);
      within = found_within _ _ _ found;
    }
