use Rattle.std.proofs.Common.{ℕ, length, sym, ap, subst}
use Rattle.event_sim.specs.Ages.{IsPresence}
use Rattle.event_sim.proofs.oldest.OldestPicker.make_room.Goals as goal

pub invariant_of-self : goal.invariant_of-self
invariant_of-self c = c.reserve.ensures.presence (length c.self.inside.log.items) c.self.invariant

pub invariant_of-self-in_err-reserve_exact : goal.invariant_of-self-in_err-reserve_exact
invariant_of-self-in_err-reserve_exact c =
    subst (λ (n : ℕ). IsPresence n c.reserve.new.self) (sym (ap length c.reserve_exact.ensures.items))
    (c.reserve.ensures.presence (length c.self.inside.log.items) c.self.invariant)

pub invariant_of-self-2 : goal.invariant_of-self-2
invariant_of-self-2 c = c.reset.ensures.presence (length c.reserve_exact.new.self.items)
