-- The words of a generator, one for each pick since the seed was set.
use Rattle.std.proofs.Common.{◌≡◌, ℕ, zero, suc, ◌+◌, ◌-◌, ◌≤◌, refl, ap, sym, arith}
use Rattle.rand_pcg.specs.Lcg.{Lcg, state_after, next_state, next, advance}

state_more : (w m increment n state : ℕ) → state_after w m increment (suc n) state ≡ next_state w m increment (state_after w m increment n state)
unfolding state_after
state_more w m increment zero state = refl
state_more w m increment (suc n) state = state_more w m increment n (next_state w m increment state)

-- at first no word is drawn
pub none_drawn : (w m n : ℕ) (g : Lcg) → n ≡ 0 → g ≡ advance w m n g
unfolding state_after
none_drawn w m n g none = rw none refl

-- one more pick draws one more word
pub one_drawn : (w m picks since more : ℕ) (g now : Lcg) → since ≤ picks → more ≡ picks + 1 → now ≡ advance w m (picks - since) g →
    next w m now ≡ advance w m (more - since) g
one_drawn w m picks since more g now before counted drawn =
    let count : more - since ≡ suc (picks - since) = omega arith in
    rw (count, drawn) (ap (λ s. record g { state = s }) (sym (state_more w m g.increment (picks - since) g.state)))
