use Rattle.std.proofs.Common.{◌≡◌, ℕ, ◌+◌, length, length-append, ap, ◌∙◌, arith}
use Rattle.rand_pcg.specs.Lcg.{Lcg}
use Rattle.event_sim.proofs.Words.{one_drawn}
use Rattle.event_sim.proofs.random.RandomPicker.pick.Goals as goal

pub invariant_of-self : goal.invariant_of-self
invariant_of-self c =
    let s = c.args.self.now in
    let more : length c.push_reserved.new.self.items ≡ length s.log.items + 1 = ap length c.push_reserved.ensures.items ∙ length-append s.log.items _ in
    let drawn = one_drawn 64 _ (length s.log.items) _ _ _ s.words s.since more s.drawn in
    record {
      since = omega (arith, s.since);
      drawn = ap (λ (p : ℕ × Lcg). p.1) c.next_word.ensures ∙ drawn;
    }
