-- Under a high request each rail of a gate that is high is the right one, whether or not the others have risen.
use Rattle.std.proofs.Common.{◌≡◌, ℕ, zero, suc, ◌+◌, ◌*◌, ◌/◌, ◌%◌, ◌^◌, ◌<◌, ◌==◌, Bool, true, false, List, [], ◌∷◌, ◌++◌, length, get_or, refl, sym, ap, subst, ◌∙◌, arith, length-append}
use Rattle.std.specs.Prelude.{not, ◌&&◌, ◌||◌, nat_lt}
use Rattle.std.specs.List.{list_all}
use Rattle.std.proofs.Math.Nat.{eq-or-lt_of_le}
use Rattle.std.proofs.Math.Logic.{⊎_elim}
use Rattle.std.proofs.lemmas.List.{get_or_append_left}
use Rattle.prs_core.specs.Deciding.{implies, implies_at, left_of, right_of, both_of, at_5}
use Rattle.width_check.specs.Values.{one_if}
use Rattle.function_blocks.specs.Rails.{RailLevels, levels_of, side_of, cross, single, some, Pairs, pair_in, same_bit, Rails, Single}
use Rattle.function_blocks.specs.Parts.{Input, BlockPart, fixed, read_bit, made}
use Rattle.function_blocks.specs.Waves.{inputs_taken, holds, wet, legal, levels_fit, all_fit, input_rails}
use Rattle.function_blocks.proofs.Tables.{or_true}
use Rattle.function_blocks.proofs.Guards.{bit_in, bits_in, holds_some}
use Rattle.function_blocks.proofs.GateLists.{singles, ordered_one, ordered, from_next, from_here, from_zero, is_lt}
use Rattle.function_blocks.proofs.GateRest.{means, Agrees, means_one}
use Rattle.function_blocks.proofs.BitNumbers.{number_of, div_suc}

-- the bits of the gates, one after the other
abbrev results : (ℕ → Rails) → List Bool → List BlockPart → List Bool
results bits done [] = done
results bits done (g ∷ gs) = results bits (done ++ means (λ k. get_or done k false) bits g ∷ []) gs

results_keep : (bits : ℕ → Rails) (done : List Bool) (gs : List BlockPart) (k : ℕ) → k < length done →
    get_or (results bits done gs) k false ≡ get_or done k false
results_keep bits done [] k l = refl
results_keep bits done (g ∷ gs) k l =
    let x = means (λ k. get_or done k false) bits g in
    results_keep bits (done ++ x ∷ []) gs k (omega (arith, l, length-append done (x ∷ []))) ∙ get_or_append_left done (x ∷ []) false k l

get_last : (xs : List Bool) (x : Bool) → get_or (xs ++ x ∷ []) (length xs) false ≡ x
get_last [] x = refl
get_last (y ∷ ys) x = get_last ys x

bits_same : (v w : ℕ → Bool) (m : ℕ) → ((k : ℕ) → k < m → v k ≡ w k) → (ins : List Input) → list_all (λ (j : Input). nat_lt j.at m) ins ≡ true
    → bits_in v ins ≡ bits_in w ins
bits_same v w m f [] h = refl
bits_same v w m f (i ∷ ins) h =
    ap (λ b. same_bit (not i.crossed) b ∷ bits_in v ins) (f i.at (is_lt _ _ (left_of _ _ h)))
    ∙ ap (λ (bs : List Bool). bit_in w i ∷ bs) (bits_same v w m f ins (right_of (nat_lt i.at m) _ h))

means_same : (v w : ℕ → Bool) (bits : ℕ → Rails) (m : ℕ) → ((k : ℕ) → k < m → v k ≡ w k) → (g : BlockPart) → ordered_one m g ≡ true →
    means v bits g ≡ means w bits g
means_same v w bits m f (fixed b) o = refl
means_same v w bits m f (read_bit x i) o = refl
means_same v w bits m f (made g i ins) o = ap g (bits_same v w m f (i ∷ ins) o)

agrees_results : (bits : ℕ → Rails) (done : List Bool) (gs : List BlockPart) (v : ℕ → Bool) → ((k : ℕ) → get_or (results bits done gs) k false ≡ v k)
    → ordered (length done) gs ≡ true → Agrees v bits (length done) gs
agrees_results bits done [] v e o = tt
agrees_results bits done (g ∷ gs) v e o =
    let x = means (λ k. get_or done k false) bits g in
    let wide : length (done ++ x ∷ []) ≡ suc (length done) = length-append done (x ∷ []) ∙ one (length done) in
    let before = λ (k : ℕ) (l : k < length done). sym (results_keep bits done (g ∷ gs) k l) ∙ e k in (
      sym (e (length done)) ∙ (results_keep bits (done ++ x ∷ []) gs (length done) (omega (arith, wide))
          ∙ (get_last done x ∙ means_same (λ k. get_or done k false) v bits (length done) before g (left_of _ _ o))),
      ap_back (λ n. Agrees v bits n gs) wide (agrees_results bits (done ++ x ∷ []) gs v e
          (ap (λ n. ordered n gs) wide ∙ right_of (ordered_one (length done) g) _ o)),
    )
  where
    one : (n : ℕ) → n + 1 ≡ suc n
    one n = omega arith

    ap_back : (P : ℕ → Type 0) {a b : ℕ} → a ≡ b → P a → P b
    ap_back P h x = subst P h x

pub result_bits : (ℕ → Rails) → List BlockPart → ℕ → Bool
result_bits bits gs k = get_or (results bits [] gs) k false

pub agrees_with : (bits : ℕ → Rails) (gs : List BlockPart) → ordered zero gs ≡ true → Agrees (result_bits bits gs) bits zero gs
unfolding result_bits
agrees_with bits gs o = agrees_results bits [] gs (λ k. get_or (results bits [] gs) k false) (λ k. refl) o

-- what is right
abbrev Right : (v : ℕ → Bool) → (look : ℕ → RailLevels) → ℕ → Type 0
Right v look k = some (look k) ≡ true → (look k).t ≡ v k

some_cross : (c : Bool) (p : RailLevels) → some (cross c p) ≡ true → some p ≡ true
some_cross true p h = or_back p.f p.t h
  where
    or_back : (a b : Bool) → (a || b) ≡ true → (b || a) ≡ true
    or_back true true h = refl
    or_back true false h = refl
    or_back false true h = refl
    or_back false false h = h
some_cross false p h = h

right_bits : (v : ℕ → Bool) (look : ℕ → RailLevels) (m : ℕ) → ((k : ℕ) → k < m → Right v look k) → (ins : List Input)
    → list_all (λ (j : Input). nat_lt j.at m) ins ≡ true → list_all some (inputs_taken look ins) ≡ true → bits_in (λ k. (look k).t) ins ≡ bits_in v ins
right_bits v look m f [] o h = refl
right_bits v look m f (i ∷ ins) o h =
    ap (λ b. same_bit (not i.crossed) b ∷ bits_in (λ k. (look k).t) ins) (f i.at (is_lt _ _ (left_of _ _ o)) (some_cross i.crossed (look i.at) (left_of _ _ h)))
    ∙ ap (λ (bs : List Bool). bit_in v i ∷ bs) (right_bits v look m f ins (right_of (nat_lt i.at m) _ o) (right_of (some (cross i.crossed (look i.at))) _ h))

right_one : (v : ℕ → Bool) (look : ℕ → RailLevels) (bits : ℕ → Rails) (g : BlockPart) (p : RailLevels) (m : ℕ) → ((k : ℕ) → single (look k) ≡ true) →
    Single bits
    → ((k : ℕ) → k < m → Right v look k) → ordered_one m g ≡ true → levels_fit true look bits g p ≡ true → some p ≡ true → p.t ≡ means v bits g
right_one v look bits (fixed b) p m s x f o h a = means_one look bits (fixed b) p s x h a
right_one v look bits (read_bit y i) p m s x f o h a = means_one look bits (read_bit y i) p s x h a
right_one v look bits (made g i ins) p m s x f o h a =
    means_one look bits (made g i ins) p s x h a
    ∙ ap g (right_bits v look m f (i ∷ ins) o (⊎_elim
    (λ (q : holds g (inputs_taken look (i ∷ ins)) ≡ true). holds_some g (inputs_taken look (i ∷ ins)) q)
    (λ (q : holds (λ bs. not (g bs)) (inputs_taken look (i ∷ ins)) ≡ true). holds_some (λ bs. not (g bs)) (inputs_taken look (i ∷ ins)) q)
    (or_true _ _ (implies_at _ _ (at_5 (λ ut uf n t f. implies (legal true ut uf n (levels_of t f) && (t || f)) (ut || uf)) refl
    (holds g (inputs_taken look (i ∷ ins)))
    (holds (λ bs. not (g bs)) (inputs_taken look (i ∷ ins))) (wet look (made g i ins)) p.t p.f) (both_of _ _ h a)))))

right_in : (v : ℕ → Bool) (look : ℕ → RailLevels) (bits : ℕ → Rails) → ((k : ℕ) → single (look k) ≡ true) → Single bits
    → (gs : List BlockPart) (n : ℕ) (u : Pairs n) (from : ℕ) → ((j : ℕ) → look (from + j) ≡ pair_in n u j) → ((k : ℕ) → k < from → Right v look k)
    → Agrees v bits from gs → ordered from gs ≡ true → all_fit true look bits gs n u ≡ true → (k : ℕ) → k < from + n → Right v look k
right_in v look bits s x [] zero u from see f a o h k l = f k (omega (arith, l))
right_in v look bits s x [] (suc n) u from see f a o h k l = absurd (cc h)
right_in v look bits s x (g ∷ gs) zero u from see f a o h k l = absurd (cc h)
right_in v look bits s x (g ∷ gs) (suc n) u from see f a o h k l =
    let here = from_here look from n u see in
    let one : Right v look from = λ (q : some (look from) ≡ true). ap (λ (p : RailLevels). p.t) here
    ∙ (right_one v look bits g u.0 from s x f (left_of _ _ o) (left_of _ _ h) (ap some (sym here) ∙ q) ∙ sym a.0) in
    right_in v look bits s x gs n u.1 (suc from) (from_next look from n u see)
    (λ j lt. ⊎_elim (λ (q : j ≡ from). subst (λ i. Right v look i) (sym q) one) (λ (q : j < from). f j q) (eq-or-lt_of_le (omega (arith, lt))))
    a.1 (right_of (ordered_one from g) _ o) (right_of (levels_fit true look bits g u.0) _ h) k (omega (arith, l))

pub right_all : (v : ℕ → Bool) (bits : ℕ → Rails) (gs : List BlockPart) (n : ℕ) (u : Pairs n) → Single bits → Agrees v bits zero gs → ordered zero gs ≡ true
    → all_fit true (pair_in n u) bits gs n u ≡ true → (k : ℕ) → k < n → some (pair_in n u k) ≡ true → (pair_in n u k).t ≡ v k
right_all v bits gs n u x a o h k l = right_in v (pair_in n u) bits (singles true (pair_in n u) bits gs n u h) x gs n u zero (from_zero n u)
    (λ j lt. absurd (omega (arith, lt))) a o h k (omega (arith, l))

-- a rail of the value that is high is that of the bit
high_side : (c t f one : Bool) → not (t && f) ≡ true → side_of (cross c (levels_of t f)) one ≡ true → same_bit (not c) t ≡ one
high_side true true f true s h = absurd (cc (s, h))
high_side true true f false s h = refl
high_side true false f true s h = refl
high_side true false f false s h = absurd (cc h)
high_side false true f true s h = refl
high_side false true f false s h = absurd (cc (s, h))
high_side false false f true s h = absurd (cc h)
high_side false false f false s h = refl

side_some : (c t f one : Bool) → side_of (cross c (levels_of t f)) one ≡ true → some (levels_of t f) ≡ true
side_some c true f one h = refl
side_some true false f true h = h
side_some true false f false h = absurd (cc h)
side_some false false f true h = absurd (cc h)
side_some false false f false h = h

pub right_out : (v : ℕ → Bool) (look : ℕ → RailLevels) (m : ℕ) → ((k : ℕ) → single (look k) ≡ true) →
    ((k : ℕ) → k < m → some (look k) ≡ true → (look k).t ≡ v k)
    → (us : List Input) → list_all (λ (j : Input). nat_lt j.at m) us ≡ true → (i : ℕ) (one : Bool) → input_rails us look i one ≡ true
    → get_or (bits_in v us) i false ≡ one
right_out v look m s f [] o i one h = absurd (cc h)
right_out v look m s f (j ∷ us) o zero one h =
    ap (same_bit (not j.crossed)) (sym (f j.at (is_lt _ _ (left_of _ _ o)) (side_some j.crossed (look j.at).t (look j.at).f one h)))
    ∙ high_side j.crossed (look j.at).t (look j.at).f one (s j.at) h
right_out v look m s f (j ∷ us) o (suc i) one h = right_out v look m s f us (right_of (nat_lt j.at m) _ o) i one h

-- the bits of a number
bit_zero : (b : Bool) (n : ℕ) → ((one_if b + 2 * n) / 2 ^ 0 % 2 == 1) ≡ b
bit_zero true n = let e : (1 + 2 * n) / 2 ^ 0 % 2 ≡ 1 = omega arith in ap (λ k. k == 1) e
bit_zero false n = let e : (0 + 2 * n) / 2 ^ 0 % 2 ≡ 0 = omega arith in ap (λ k. k == 1) e

zero_bit : (i : ℕ) → (0 / 2 ^ i % 2 == 1) ≡ false
zero_bit i = let e : 0 / 2 ^ i % 2 ≡ 0 = grind arith in ap (λ k. k == 1) e

pub bit_of : (xs : List Bool) (i : ℕ) → (number_of xs / 2 ^ i % 2 == 1) ≡ get_or xs i false
bit_of [] i = zero_bit i
bit_of (x ∷ xs) zero = bit_zero x (number_of xs)
bit_of (x ∷ xs) (suc i) = ap (λ k. k % 2 == 1) (div_suc x (number_of xs) i) ∙ bit_of xs i

one_bit : (b : Bool) → ((one_if b + 2 * 0) == 1) ≡ b
one_bit true = refl
one_bit false = refl

pub head_of : (xs : List Bool) → length xs ≡ 1 → (number_of xs == 1) ≡ get_or xs 0 false
head_of [] h = absurd (omega (arith, h))
head_of (x ∷ []) h = one_bit x
head_of (x ∷ y ∷ xs) h = absurd (omega (arith, h))
