-- How late bits are, and what comes behind them: of the gates of operators.
use Rattle.std.proofs.Common.{◌≡◌, ℕ, zero, suc, ◌+◌, ◌≤◌, List, [], ◌∷◌, ◌++◌, length, refl, sym, ap, ◌∙◌, arith}
use Rattle.std.specs.Prelude.{max}
use Rattle.std.proofs.lemmas.List.{length-append}
use Rattle.handshake_expand.specs.Layout.{capped}
use Rattle.round_time.specs.Longest.{greatest}
use Rattle.pace_bound.specs.Bits.{paired, rippled, conjoined, ones}
use Rattle.pace_bound.specs.Behind.{evenly, carried, joint}

pub alike_is : (n : ℕ) (d : ℕ) (ds : List ℕ) → evenly n (d ∷ ds) ≡ n + greatest (d ∷ ds)
alike_is n d [] = omega arith
alike_is n d (e ∷ ds) = let h = alike_is n e ds in omega arith

pub alike_flat : (n k : ℕ) → evenly n (ones (suc k)) ≡ n + 1
alike_flat n zero = omega arith
alike_flat n (suc k) = let h = alike_flat n k in omega arith

pub flat_length : (k : ℕ) → length (ones k) ≡ k
flat_length zero = refl
flat_length (suc k) = ap suc (flat_length k)

pub carried_flat : (n k : ℕ) → carried n (ones (suc k)) ≡ n + suc k
carried_flat n zero = omega arith
carried_flat n (suc k) = let h = carried_flat n k in let l = flat_length (suc k) in omega arith

pub joint_flat : (n k : ℕ) → joint n (ones (suc k)) ≡ n + suc k
joint_flat n zero = omega arith
joint_flat n (suc k) = let h = carried_flat (n + 1) k in let l = flat_length (suc k) in omega arith

pub alike_append : (n : ℕ) (xs ys : List ℕ) → evenly n (xs ++ ys) ≡ max (evenly n xs) (evenly n ys)
alike_append n [] ys = omega arith
alike_append n (x ∷ xs) ys = let h = alike_append n xs ys in omega arith

pub carried_append : (n : ℕ) (xs ys : List ℕ) → carried n (xs ++ ys) ≡ max (carried (n + length ys) xs) (carried n ys)
carried_append n [] ys = omega arith
carried_append n (x ∷ xs) ys = let h = carried_append n xs ys in let l = length-append xs ys in omega arith

pub joint_append : (n x : ℕ) (xs ys : List ℕ) → joint n (x ∷ xs ++ ys) ≡ max (joint (n + length ys) (x ∷ xs)) (carried (n + 1) ys)
joint_append n x xs ys = let h = carried_append (n + 1) xs ys in let l = length-append xs ys in
    let e : carried (n + 1 + length ys) xs ≡ carried (n + length ys + 1) xs = ap (λ k. carried k xs) (omega arith) in omega arith

pub capped_alike : (n : ℕ) (ds : List ℕ) → capped (evenly (capped n) ds) ≡ capped (evenly n ds)
capped_alike n [] = refl
capped_alike n (d ∷ ds) = let h = capped_alike n ds in omega arith

pub capped_carried : (n : ℕ) (ds : List ℕ) → capped (carried (capped n) ds) ≡ capped (carried n ds)
capped_carried n [] = refl
capped_carried n (d ∷ ds) = let h = capped_carried n ds in omega arith

pub alike_paired : (n : ℕ) (us vs : List ℕ) → length vs ≡ length us → evenly n (paired us vs) ≡ max (evenly (n + 1) us) (evenly (n + 1) vs)
alike_paired n [] [] e = refl
alike_paired n [] (b ∷ vs) e = absurd (omega arith)
alike_paired n (a ∷ us) [] e = absurd (omega arith)
alike_paired n (a ∷ us) (b ∷ vs) e = let h = alike_paired n us vs (omega arith) in omega arith

pub paired_length : (us vs : List ℕ) → length vs ≡ length us → length (paired us vs) ≡ length us
paired_length [] [] e = refl
paired_length [] (b ∷ vs) e = refl
paired_length (a ∷ us) [] e = absurd (omega arith)
paired_length (a ∷ us) (b ∷ vs) e = ap suc (paired_length us vs (omega arith))

pub carried_paired : (n : ℕ) (us vs : List ℕ) → length vs ≡ length us → carried n (paired us vs) ≡ max (carried (n + 1) us) (carried (n + 1) vs)
carried_paired n [] [] e = refl
carried_paired n [] (b ∷ vs) e = absurd (omega arith)
carried_paired n (a ∷ us) [] e = absurd (omega arith)
carried_paired n (a ∷ us) (b ∷ vs) e =
    let same : length vs ≡ length us = omega arith in let h = carried_paired n us vs same in let l = paired_length us vs same in omega arith

pub joint_paired : (n : ℕ) (us vs : List ℕ) → length vs ≡ length us → joint n (paired us vs) ≡ max (joint (n + 1) us) (joint (n + 1) vs)
joint_paired n [] [] e = refl
joint_paired n [] (b ∷ vs) e = absurd (omega arith)
joint_paired n (a ∷ us) [] e = absurd (omega arith)
joint_paired n (a ∷ us) (b ∷ vs) e =
    let same : length vs ≡ length us = omega arith in let h = carried_paired (n + 1) us vs same in let l = paired_length us vs same in omega arith

pub rippled_length : (c us vs : List ℕ) → length vs ≡ length us → length (rippled c us vs) ≡ length us
rippled_length c [] [] e = refl
rippled_length c [] (b ∷ vs) e = refl
rippled_length c (a ∷ us) [] e = absurd (omega arith)
rippled_length c (a ∷ us) (b ∷ vs) e = ap suc (rippled_length (suc (max a (max b (greatest c))) ∷ []) us vs (omega arith))

-- a carry goes through all bits above
raised : (l a b g : ℕ) → l + suc (max a (max b g)) ≡ max (l + 1 + a) (max (l + 1 + b) (l + 1 + g))
raised l a b g = omega arith

sorted : (a b g u v : ℕ) → max (max u v) (max a (max b g)) ≡ max (max (max a u) (max b v)) g
sorted a b g u v = omega arith

below_last : (n l s w : ℕ) → n ≤ l → max (n + s) (max w (l + s)) ≡ max w (l + s)
below_last n l s w h = omega arith

over_last : (l s w : ℕ) → max (l + s) (max w (l + s)) ≡ max w (l + s)
over_last l s w = omega arith

above : (l a b g u v : ℕ) → max (max u v) (l + suc (max a (max b g))) ≡ max (max (max (l + 1 + a) u) (max (l + 1 + b) v)) (l + 1 + g)
above l a b g u v = ap (max (max u v)) (raised l a b g) ∙ sorted (l + 1 + a) (l + 1 + b) (l + 1 + g) u v

-- the gates of a ripple, behind which come `n` each, or one more for each bit above
abbrev rest_of : (n a b : ℕ) (c us vs : List ℕ) → ℕ
rest_of n a b c us vs = max (max (carried (n + 1) (a ∷ us)) (carried (n + 1) (b ∷ vs))) (n + suc (length us) + greatest c)

rest_more : (n a b x y : ℕ) (c us vs : List ℕ) → length vs ≡ length us
    → rest_of n x y (suc (max a (max b (greatest c))) ∷ []) us vs ≡ rest_of n a b c (x ∷ us) (y ∷ vs)
rest_more n a b x y c us vs e =
    let l = n + suc (length us) in
    let first : l + max (suc (max a (max b (greatest c)))) 0 ≡ l + suc (max a (max b (greatest c))) = omega arith in
    let here = above l a b (greatest c) (carried (n + 1) (x ∷ us)) (carried (n + 1) (y ∷ vs)) in
    let p : l + 1 + a ≡ n + 1 + suc (length us) + a = omega arith in
    let q : l + 1 + b ≡ n + 1 + suc (length vs) + b = omega arith in
    let r : l + 1 + greatest c ≡ n + suc (suc (length us)) + greatest c = omega arith in
    ap (max (max (carried (n + 1) (x ∷ us)) (carried (n + 1) (y ∷ vs)))) first ∙ (here
    ∙ (ap (λ k. max (max (max k (carried (n + 1) (x ∷ us))) (max (l + 1 + b) (carried (n + 1) (y ∷ vs)))) (l + 1 + greatest c)) p
    ∙ (ap (λ k. max (max (max (n + 1 + suc (length us) + a) (carried (n + 1) (x ∷ us))) (max k (carried (n + 1) (y ∷ vs)))) (l + 1 + greatest c)) q
    ∙ ap (max (max (max (n + 1 + suc (length us) + a) (carried (n + 1) (x ∷ us))) (max (n + 1 + suc (length vs) + b) (carried (n + 1) (y ∷ vs))))) r)))

alike_rippled : (n a b : ℕ) (c us vs : List ℕ) → length vs ≡ length us → evenly n (rippled c (a ∷ us) (b ∷ vs)) ≡ rest_of n a b c us vs
alike_rippled n a b c [] [] e = omega arith
alike_rippled n a b c [] (d ∷ vs) e = absurd (omega arith)
alike_rippled n a b c (d ∷ us) [] e = absurd (omega arith)
alike_rippled n a b c (x ∷ us) (y ∷ vs) e =
    let same : length vs ≡ length us = omega arith in
    let s = suc (max a (max b (greatest c))) in
    let w = max (carried (n + 1) (x ∷ us)) (carried (n + 1) (y ∷ vs)) in
    let last : n + suc (length us) + max s 0 ≡ n + suc (length us) + s = omega arith in
    let h = alike_rippled n x y (s ∷ []) us vs same in
    ap (max (n + s)) h ∙ (ap (λ k. max (n + s) (max w k)) last ∙ (below_last n (n + suc (length us)) s w (omega arith)
    ∙ (ap (max w) (sym last) ∙ rest_more n a b x y c us vs same)))

carried_rippled : (n a b : ℕ) (c us vs : List ℕ) → length vs ≡ length us → carried n (rippled c (a ∷ us) (b ∷ vs)) ≡ rest_of n a b c us vs
carried_rippled n a b c [] [] e = omega arith
carried_rippled n a b c [] (d ∷ vs) e = absurd (omega arith)
carried_rippled n a b c (d ∷ us) [] e = absurd (omega arith)
carried_rippled n a b c (x ∷ us) (y ∷ vs) e =
    let same : length vs ≡ length us = omega arith in
    let s = suc (max a (max b (greatest c))) in
    let w = max (carried (n + 1) (x ∷ us)) (carried (n + 1) (y ∷ vs)) in
    let l = rippled_length (s ∷ []) (x ∷ us) (y ∷ vs) (ap suc same) in
    let last : n + suc (length us) + max s 0 ≡ n + suc (length us) + s = omega arith in
    let h = carried_rippled n x y (s ∷ []) us vs same in
    ap (λ k. max (n + k + s) (carried n (rippled (s ∷ []) (x ∷ us) (y ∷ vs)))) l ∙ (ap (max (n + suc (length us) + s)) h
    ∙ (ap (λ k. max (n + suc (length us) + s) (max w k)) last ∙ (over_last (n + suc (length us)) s w
    ∙ (ap (max w) (sym last) ∙ rest_more n a b x y c us vs same))))

-- without a carry from below
start_is : (n a b : ℕ) (us vs : List ℕ) → rest_of n a b [] us vs ≡ max (carried (n + 1) (a ∷ us)) (carried (n + 1) (b ∷ vs))
start_is n a b us vs = omega arith

pub alike_start : (n a b : ℕ) (us vs : List ℕ) → length vs ≡ length us →
    evenly n (rippled [] (a ∷ us) (b ∷ vs)) ≡ max (carried (n + 1) (a ∷ us)) (carried (n + 1) (b ∷ vs))
alike_start n a b us vs e = alike_rippled n a b [] us vs e ∙ start_is n a b us vs

pub carried_start : (n a b : ℕ) (us vs : List ℕ) → length vs ≡ length us →
    carried n (rippled [] (a ∷ us) (b ∷ vs)) ≡ max (carried (n + 1) (a ∷ us)) (carried (n + 1) (b ∷ vs))
carried_start n a b us vs e = carried_rippled n a b [] us vs e ∙ start_is n a b us vs

-- of several bits: the lowest gate's carry goes on, so that it counts as if it were behind one more
pub joint_start : (n a b x y : ℕ) (us vs : List ℕ) → length vs ≡ length us →
    joint n (rippled [] (a ∷ x ∷ us) (b ∷ y ∷ vs)) ≡ max (carried (n + 2) (a ∷ x ∷ us)) (carried (n + 2) (b ∷ y ∷ vs))
joint_start n a b x y us vs e =
    let s = suc (max a (max b 0)) in
    let l = rippled_length (s ∷ []) (x ∷ us) (y ∷ vs) (ap suc e) in
    let h = carried_rippled (n + 1) x y (s ∷ []) us vs e in
    let m = rest_more (n + 1) a b x y [] us vs e in
    let t = start_is (n + 1) a b (x ∷ us) (y ∷ vs) in
    let last : (n + 1) + suc (length us) + max s 0 ≡ (n + 1) + suc (length us) + s = omega arith in
    let w = max (carried (n + 1 + 1) (x ∷ us)) (carried (n + 1 + 1) (y ∷ vs)) in
    let two : n + 1 + 1 ≡ n + 2 = omega arith in
    ap (λ k. max (n + k + s) (carried (n + 1) (rippled (s ∷ []) (x ∷ us) (y ∷ vs)))) l ∙ (ap (max (n + suc (length us) + s)) h
    ∙ (ap (λ k. max (n + suc (length us) + s) (max w k)) last ∙ (under_last (n + suc (length us)) (n + 1 + suc (length us)) s w (omega arith)
    ∙ (ap (max w) (sym last) ∙ (m ∙ (t ∙ ap (λ k. max (carried k (a ∷ x ∷ us)) (carried k (b ∷ y ∷ vs))) two))))))
  where
    under_last : (k l s w : ℕ) → k ≤ l → max (k + s) (max w (l + s)) ≡ max w (l + s)
    under_last k l s w h = omega arith

pub conjoined_is : (n p : ℕ) (qs : List ℕ) → n + conjoined p qs ≡ joint n (p ∷ qs)
conjoined_is n p [] = omega arith
conjoined_is n p (q ∷ qs) = let h = conjoined_is n (suc (max p (max q 0))) qs in omega arith

pub alike_zero : (ds : List ℕ) → evenly 0 ds ≡ greatest ds
alike_zero [] = refl
alike_zero (d ∷ ds) = let h = alike_zero ds in omega arith
