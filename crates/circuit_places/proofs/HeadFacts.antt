-- Facts of single bits and of heads.
use Rattle.std.proofs.Common.{◌≡◌, ℕ, zero, suc, Bool, true, false, refl, ap, ◌∙◌}
use Rattle.std.specs.Prelude.{not, ◌&&◌, ◌||◌}
use Rattle.prs_core.specs.Deciding.{implies}
use Rattle.function_blocks.specs.Rails.{Pairs}
pub use Rattle.circuit_places.proofs.RailLemmas.{fst_true, snd_true, both_true, not_true}
use Rattle.circuit_places.specs.Heads.{Index, top, under, Bits, low_bits, bit_of, some_bit, turned_bit, hot, each_false, nothing_true, all_neutral, all_valid, all_single, alone, told, over, below}

-- single bits
pub bit_none : {n : ℕ} (i : Index n) → bit_of i (low_bits n) ≡ false
bit_none top = refl
bit_none (under i) = bit_none i

pub some_none : (n : ℕ) → some_bit n (low_bits n) ≡ false
some_none zero = refl
some_none (suc n) = some_none n

pub hot_low : {n : ℕ} (i : Index n) → hot i false ≡ low_bits n
hot_low top = refl
hot_low (under {n = n} i) = ap (λ (x : Bits n). (false, x)) (hot_low i)

pub some_hot : {n : ℕ} (i : Index n) (b : Bool) → some_bit n (hot i b) ≡ b
some_hot (top {n = n}) true = refl
some_hot (top {n = n}) false = some_none n
some_hot (under i) b = some_hot i b

pub bit_hot : {n : ℕ} (i : Index n) (b : Bool) → bit_of i (hot i b) ≡ b
bit_hot top b = refl
bit_hot (under i) b = bit_hot i b

pub hot_is : {n : ℕ} (i k : Index n) (b : Bool) → bit_of k (hot i b) ≡ true → (k ≡ i) × (b ≡ true)
hot_is top top b h = (refl, h)
hot_is top (under k) b h = absurd (cc (bit_none k, h))
hot_is (under i) top b h = absurd (cc h)
hot_is (under i) (under k) b h = let r = hot_is i k b h in (ap (λ x. under x) r.0, r.1)

pub hot_turned : {n : ℕ} (i : Index n) (b : Bool) → hot i (not b) ≡ turned_bit i (hot i b)
hot_turned (top {n = n}) b = refl
hot_turned (under {n = n} i) b = ap (λ (x : Bits n). (false, x)) (hot_turned i b)

pub hot_up : {n : ℕ} (i : Index n) → hot i true ≡ turned_bit i (low_bits n)
hot_up {n = n} i = hot_turned i false ∙ ap (λ (x : Bits n). turned_bit i x) (hot_low i)

-- heads
pub false_none : (n : ℕ) (hs : Pairs n) → all_single n hs ≡ true → each_false n hs ≡ true → nothing_true n hs ≡ true
false_none zero hs s h = refl
false_none (suc n) hs s h = both_true _ _ (here hs.0.t hs.0.f (fst_true _ _ s) (fst_true _ _ h)) (false_none n hs.1 (snd_true _ _ s) (snd_true _ _ h))
  where
    here : (t f : Bool) → not (t && f) ≡ true → f ≡ true → not t ≡ true
    here true f s h = absurd (cc (s, h))
    here false f s h = refl

pub alone_told : {n : ℕ} (i : Index n) (hs : Pairs n) → all_single n hs ≡ true → alone i hs ≡ true → told i hs ≡ true
alone_told (top {n = n}) hs s h = both_true _ _ (here hs.0.t hs.0.f (fst_true _ _ s) (fst_true _ _ h)) (false_none n hs.1 (snd_true _ _ s) (snd_true _ _ h))
  where
    here : (t f : Bool) → not (t && f) ≡ true → t ≡ true → not f ≡ true
    here t true s h = absurd (cc (s, h, ap (λ b. not (b && true)) h))
    here t false s h = refl
alone_told (under i) hs s h = both_true _ _ (here hs.0.t hs.0.f (fst_true _ _ s) (fst_true _ _ h)) (alone_told i hs.1 (snd_true _ _ s) (snd_true _ _ h))
  where
    here : (t f : Bool) → not (t && f) ≡ true → f ≡ true → not t ≡ true
    here true f s h = absurd (cc (s, h))
    here false f s h = refl

pub over_false : (n : ℕ) (hs : Pairs n) → over n hs ≡ true → each_false n hs ≡ true
over_false zero hs h = refl
over_false (suc n) hs h = h

pub false_valid : (n : ℕ) (hs : Pairs n) → each_false n hs ≡ true → all_valid n hs ≡ true
false_valid zero hs h = refl
false_valid (suc n) hs h = both_true _ _ (here hs.0.t hs.0.f (fst_true _ _ h)) (false_valid n hs.1 (snd_true _ _ h))
  where
    here : (t f : Bool) → f ≡ true → (t || f) ≡ true
    here true f h = refl
    here false f h = h

pub alone_valid : {n : ℕ} (i : Index n) (hs : Pairs n) → alone i hs ≡ true → all_valid n hs ≡ true
alone_valid (top {n = n}) hs h = both_true _ _ (ap (λ b. b || hs.0.f) (fst_true hs.0.t _ h)) (false_valid n hs.1 (snd_true _ _ h))
alone_valid (under i) hs h = both_true _ _ (here hs.0.t hs.0.f (fst_true _ _ h)) (alone_valid i hs.1 (snd_true _ _ h))
  where
    here : (t f : Bool) → f ≡ true → (t || f) ≡ true
    here true f h = refl
    here false f h = h

-- where no head is up, no guard is true alone, and they aren't all false
pub neutral_alone : {n : ℕ} (i : Index n) (hs : Pairs n) → all_neutral n hs ≡ true → alone i hs ≡ false
neutral_alone (top {n = n}) hs h = ap (λ b. b && each_false n hs.1) (not_true hs.0.t (fst_true _ _ h))
neutral_alone (under i) hs h = ap (λ b. b && alone i hs.1) (not_true hs.0.f (fst_true _ _ (snd_true (not hs.0.t) _ h)))

pub neutral_over : (n : ℕ) (hs : Pairs n) → all_neutral n hs ≡ true → over n hs ≡ false
neutral_over zero hs h = refl
neutral_over (suc n) hs h = ap (λ b. b && each_false n hs.1) (not_true hs.0.f (fst_true _ _ (snd_true (not hs.0.t) _ h)))

-- one guard at most is told
pub none_alone : {n : ℕ} (k : Index n) (hs : Pairs n) → nothing_true n hs ≡ true → alone k hs ≡ false
none_alone (top {n = n}) hs h = ap (λ b. b && each_false n hs.1) (not_true hs.0.t (fst_true _ _ h))
none_alone (under k) hs h = ap (λ b. hs.0.f && b) (none_alone k hs.1 (snd_true _ _ h)) ∙ never hs.0.f
  where
    never : (b : Bool) → (b && false) ≡ false
    never true = refl
    never false = refl

pub told_alone : {n : ℕ} (i k : Index n) (hs : Pairs n) → told i hs ≡ true → alone k hs ≡ true → k ≡ i
told_alone top top hs h a = refl
told_alone top (under k) hs h a = absurd (cc (fst_true hs.0.f _ a, fst_true (not hs.0.f) _ h, ap not (fst_true hs.0.f _ a)))
told_alone (under i) top hs h a = absurd (cc (fst_true hs.0.t _ a, fst_true (not hs.0.t) _ h, ap not (fst_true hs.0.t _ a)))
told_alone (under i) (under k) hs h a = ap (λ x. under x) (told_alone i k hs.1 (snd_true _ _ h) (snd_true _ _ a))

-- where one guard is told, they aren't all false
told_all : {n : ℕ} (i : Index n) (hs : Pairs n) → told i hs ≡ true → each_false n hs ≡ false
told_all (top {n = n}) hs h = ap (λ b. b && each_false n hs.1) (not_true hs.0.f (fst_true _ _ h))
told_all (under i) hs h = ap (λ b. hs.0.f && b) (told_all i hs.1 (snd_true _ _ h)) ∙ never hs.0.f
  where
    never : (b : Bool) → (b && false) ≡ false
    never true = refl
    never false = refl

pub told_over : {n : ℕ} (i : Index n) (hs : Pairs n) → told i hs ≡ true → over n hs ≡ false
told_over top hs h = told_all top hs h
told_over (under i) hs h = told_all (under i) hs h

-- what is told stays told while the heads fall
falls : (x y : Bool) → implies x y ≡ true → not y ≡ true → not x ≡ true
falls true y h k = absurd (cc (h, ap not h, k))
falls false y h k = refl

pub none_falls : (n : ℕ) (x y : Pairs n) → below n x y ≡ true → nothing_true n y ≡ true → nothing_true n x ≡ true
none_falls zero x y b h = refl
none_falls (suc n) x y b h = both_true _ _ (falls x.0.t y.0.t (fst_true _ _ b) (fst_true _ _ h))
    (none_falls n x.1 y.1 (snd_true (implies x.0.f y.0.f) _ (snd_true (implies x.0.t y.0.t) _ b)) (snd_true _ _ h))

pub told_falls : {n : ℕ} (i : Index n) (x y : Pairs n) → below n x y ≡ true → told i y ≡ true → told i x ≡ true
told_falls (top {n = n}) x y b h = both_true _ _ (falls x.0.f y.0.f (fst_true _ _ (snd_true (implies x.0.t y.0.t) _ b)) (fst_true _ _ h))
    (none_falls n x.1 y.1 (snd_true (implies x.0.f y.0.f) _ (snd_true (implies x.0.t y.0.t) _ b)) (snd_true _ _ h))
told_falls (under i) x y b h = both_true _ _ (falls x.0.t y.0.t (fst_true _ _ b) (fst_true _ _ h))
    (told_falls i x.1 y.1 (snd_true (implies x.0.f y.0.f) _ (snd_true (implies x.0.t y.0.t) _ b)) (snd_true _ _ h))

-- no guard is true alone where all are false
pub over_alone : (n : ℕ) (k : Index n) (hs : Pairs n) → all_single n hs ≡ true → over n hs ≡ true → alone k hs ≡ false
over_alone n k hs s h = none_alone k hs (false_none n hs s (over_false n hs h))
