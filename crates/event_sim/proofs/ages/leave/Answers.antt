use Rattle.std.proofs.Common.{◌≡◌, ℕ, subst, arith}
use Rattle.std.specs.Prelude.{Option, OnSome}
use Rattle.std.specs.List.{remove}
use Rattle.event_sim.proofs.ages.leave.Goals as goal

pub returns-clause-left : goal.returns-clause-left
returns-clause-left c =
    let order = c.args.order.now in
    let place = c.place_in_order-place.result in
    let found = c.place_in_order-place.ensures in
    let some = c.remove.ensures.succeeds 0 (omega (arith, found.within, order.ok.0)) in
    (place, found.within, found.here, subst (λ (r : Option ℕ). OnSome r (c.remove.new.self.items ≡ remove order.items place)) some c.remove.ensures.items)
