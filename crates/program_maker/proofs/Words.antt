-- The words of a seed, one after another.
use Rattle.std.proofs.Common.{◌≡◌, ℕ, zero, suc, ◌+◌, [], ◌∷◌, refl, ap, sym, ◌∙◌, arith}
use Rattle.std.specs.Prelude.{◌%◌}
use Rattle.rand_pcg.specs.Lcg.{Lcg, next_state, state_after, advance, started, increment_of}
use Rattle.rand_pcg.specs.Pcg.{multiplier_64, pcg32}
use Rattle.program_maker.specs.Drawn.{drawn_after, word_at, drawn_values}

-- one more step at the end of some
one_step_more : (w m increment n state : ℕ) → next_state w m increment (state_after w m increment n state) ≡ state_after w m increment (suc n) state
unfolding state_after
one_step_more w m increment zero state = refl
one_step_more w m increment (suc n) state = one_step_more w m increment n (next_state w m increment state)

pub word_is : (seed n : ℕ) (g : Lcg) (word : ℕ) → g ≡ drawn_after seed n → word ≡ (pcg32 g).0 → word ≡ word_at seed n
word_is seed n g word drawn is = is ∙ ap (λ h. (pcg32 h).0) drawn

-- a jump by no words, and one from the first word on
pub first_drawn : (seed : ℕ) → started 64 multiplier_64 seed (increment_of 64 54) ≡ drawn_after seed 0
unfolding state_after
first_drawn seed = refl

pub jump_drawn : (seed n : ℕ) (g h : Lcg) → g ≡ drawn_after seed 0 → h ≡ advance 64 multiplier_64 n g → h ≡ drawn_after seed n
jump_drawn seed n g h drawn is = is ∙ ap (advance 64 multiplier_64 n) (drawn ∙ sym (first_drawn seed))

-- the generator behind one more word
pub word_drawn : (seed n : ℕ) (g h : Lcg) → g ≡ drawn_after seed n → h ≡ (pcg32 g).1 → h ≡ drawn_after seed (n + 1)
word_drawn seed n g h drawn is =
    let start = started 64 multiplier_64 seed (increment_of 64 54) in
    let count : suc n ≡ n + 1 = omega arith in
    is
    ∙ (ap (λ k. (pcg32 k).1) drawn
    ∙ (ap (λ s. record { state = s; increment = start.increment }) (one_step_more 64 multiplier_64 start.increment n start.state)
    ∙ ap (drawn_after seed) count))

value_is : (seed n : ℕ) (g : Lcg) (value : ℕ) → g ≡ drawn_after seed n → value ≡ (pcg32 g).0 % 256 → value ≡ word_at seed n % 256
value_is seed n g value drawn is = is ∙ ap (λ h. (pcg32 h).0 % 256) drawn

-- four values, each with the generator behind it
pub four_values : (seed n : ℕ) (g0 g1 g2 g3 : Lcg) (v0 v1 v2 v3 : ℕ) → g0 ≡ drawn_after seed n
    → v0 ≡ (pcg32 g0).0 % 256 → g1 ≡ (pcg32 g0).1 → v1 ≡ (pcg32 g1).0 % 256
    → g2 ≡ (pcg32 g1).1 → v2 ≡ (pcg32 g2).0 % 256 → g3 ≡ (pcg32 g2).1 → v3 ≡ (pcg32 g3).0 % 256
    → v0 ∷ v1 ∷ v2 ∷ v3 ∷ [] ≡ drawn_values seed n
four_values seed n g0 g1 g2 g3 v0 v1 v2 v3 drawn0 is0 to1 is1 to2 is2 to3 is3 =
    let drawn1 = word_drawn seed n g0 g1 drawn0 to1 in
    let drawn2 = word_drawn seed (n + 1) g1 g2 drawn1 to2 in
    let drawn3 = word_drawn seed (n + 1 + 1) g2 g3 drawn2 to3 in
    ap (λ v. v ∷ v1 ∷ v2 ∷ v3 ∷ []) (value_is seed n g0 v0 drawn0 is0)
    ∙ (ap (λ v. word_at seed n % 256 ∷ v ∷ v2 ∷ v3 ∷ []) (value_is seed (n + 1) g1 v1 drawn1 is1)
    ∙ (ap (λ v. word_at seed n % 256 ∷ word_at seed (n + 1) % 256 ∷ v ∷ v3 ∷ []) (value_is seed (n + 1 + 1) g2 v2 drawn2 is2)
    ∙ ap (λ v. word_at seed n % 256 ∷ word_at seed (n + 1) % 256 ∷ word_at seed (n + 1 + 1) % 256 ∷ v ∷ []) (value_is seed (n + 1 + 1 + 1) g3 v3 drawn3 is3)))
