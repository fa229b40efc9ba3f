-- The depths of an operator's gates, and of the bits of its result.
use Rattle.std.proofs.Common.{◌≡◌, ℕ, suc, ◌+◌, ◌*◌, ◌<◌, ◌≤◌, Bool, List, [], ◌∷◌, ◌++◌, length, refl, sym, ap, subst, ◌∙◌, append_assoc, append-nil, arith}
use Rattle.std.specs.Prelude.{max, slice_index}
use Rattle.std.proofs.lemmas.List.{length-append, get_or_append_left, get_or-append-add}
use Rattle.std.proofs.Math.Seq.{get_or-append_seam}
use Rattle.chp_syntax.specs.declared.tree.Op.{Op}
use Rattle.chp_syntax.specs.declared.tree.Op.TheVariants.{And, Or, Xor, Add, Sub, Eq, Ne, Lt, Le, Gt, Ge}
use Rattle.function_blocks.specs.Gates.{all_one, some_one, odd_ones, carries, alike, borrows}
use Rattle.function_blocks.specs.Parts.{Input, input, BlockPart, made, bitwise_parts, result_inputs, ripple_parts, ripple_inputs, borrow_parts, conjunction_parts, equality_parts, last_from, equal_input, less_input, operator_parts, operator_inputs}
use Rattle.round_time.specs.Longest.{greatest, inputs_depth, part_depth, depths}
use Rattle.pace_bound.specs.Bits.{paired, rippled, conjoined, all_of, op_bits}
use Rattle.pace_bound.proofs.Through.{paired_length, rippled_length}

-- the depths of these gates
abbrev pub ats : (ds : List ℕ) → List Input → List ℕ
ats ds [] = []
ats ds (i ∷ us) = slice_index ds i.at ∷ ats ds us

abbrev pub Below : ℕ → List Input → Type 0
Below n [] = Unit {0}
Below n (i ∷ us) = (i.at < n) × Below n us

pub ats_length : (ds : List ℕ) (us : List Input) → length (ats ds us) ≡ length us
ats_length ds [] = refl
ats_length ds (i ∷ us) = ap suc (ats_length ds us)

inputs_are : (ds : List ℕ) (us : List Input) → inputs_depth ds us ≡ greatest (ats ds us)
inputs_are ds [] = refl
inputs_are ds (i ∷ us) = ap (max (slice_index ds i.at)) (inputs_are ds us)

pub ats_more : (ds xs : List ℕ) (us : List Input) → Below (length ds) us → ats (ds ++ xs) us ≡ ats ds us
ats_more ds xs [] h = refl
ats_more ds xs (i ∷ us) h = ap (λ k. k ∷ ats (ds ++ xs) us) (get_or_append_left ds xs 0 i.at h.0) ∙ ap (λ l. slice_index ds i.at ∷ l) (ats_more ds xs us h.1)

pub depths_append : (ds : List ℕ) (gs hs : List BlockPart) → depths ds (gs ++ hs) ≡ depths (depths ds gs) hs
depths_append ds [] hs = refl
depths_append ds (g ∷ gs) hs = depths_append (ds ++ part_depth ds g ∷ []) gs hs

pub below_up : (n m : ℕ) (us : List Input) → n ≤ m → Below n us → Below m us
below_up n m [] l h = tt
below_up n m (i ∷ us) l h = (omega (arith, h.0), below_up n m us l h.1)

below_same : (n m : ℕ) (us : List Input) → n ≡ m → Below n us → Below m us
below_same n m us e h = subst (λ k. Below k us) e h

regroup : (base done : List ℕ) (g : ℕ) (p : List ℕ) → (base ++ (done ++ g ∷ [])) ++ p ≡ (base ++ done) ++ g ∷ p
regroup base done g p = simp append_assoc

-- gates bit by bit: all inputs are among the first gates
bitwise_all : (f : List Bool → Bool) (base done : List ℕ) (us vs : List Input) → Below (length base) us → Below (length base) vs
    → depths (base ++ done) (bitwise_parts f us vs) ≡ (base ++ done) ++ paired (ats base us) (ats base vs)
bitwise_all f base done [] vs h k = sym (append-nil (base ++ done))
bitwise_all f base done (a ∷ us) [] h k = sym (append-nil (base ++ done))
bitwise_all f base done (a ∷ us) (b ∷ vs) h k =
    let rest = bitwise_parts f us vs in
    let x : slice_index (base ++ done) a.at ≡ slice_index base a.at = get_or_append_left base done 0 a.at h.0 in
    let y : slice_index (base ++ done) b.at ≡ slice_index base b.at = get_or_append_left base done 0 b.at k.0 in
    let g = suc (max (slice_index base a.at) (max (slice_index base b.at) 0)) in
    ap (λ k. depths ((base ++ done) ++ suc (max k (max (slice_index (base ++ done) b.at) 0)) ∷ []) rest) x
    ∙ (ap (λ k. depths ((base ++ done) ++ suc (max (slice_index base a.at) (max k 0)) ∷ []) rest) y
    ∙ (ap (λ l. depths l rest) (append_assoc base done (g ∷ []))
    ∙ (bitwise_all f base (done ++ g ∷ []) us vs h.1 k.1 ∙ regroup base done g (paired (ats base us) (ats base vs)))))

-- a ripple: of each bit but the top one the gate of the bit and that of its carry are alike
abbrev pub ripple_own : List ℕ → List ℕ → List ℕ → List ℕ
ripple_own c [] bs = []
ripple_own c (a ∷ us) [] = []
ripple_own c (a ∷ []) (b ∷ vs) = suc (max a (max b (greatest c))) ∷ []
ripple_own c (a ∷ d ∷ us) (b ∷ vs) =
    suc (max a (max b (greatest c))) ∷ suc (max a (max b (greatest c))) ∷ ripple_own (suc (max a (max b (greatest c))) ∷ []) (d ∷ us) vs

-- what a gate of a ripple reads
here_is : (base done : List ℕ) (a b : Input) (cs : List Input) (c : List ℕ) → a.at < length base → b.at < length base → ats (base ++ done) cs ≡ c
    → suc (max (slice_index (base ++ done) a.at) (max (slice_index (base ++ done) b.at) (inputs_depth (base ++ done) cs)))
    ≡ suc (max (slice_index base a.at) (max (slice_index base b.at) (greatest c)))
here_is base done a b cs c h k is =
    let x : slice_index (base ++ done) a.at ≡ slice_index base a.at = get_or_append_left base done 0 a.at h in
    let y : slice_index (base ++ done) b.at ≡ slice_index base b.at = get_or_append_left base done 0 b.at k in
    let z : inputs_depth (base ++ done) cs ≡ greatest c = inputs_are (base ++ done) cs ∙ ap greatest is in
    ap (λ k. suc (max k (max (slice_index (base ++ done) b.at) (inputs_depth (base ++ done) cs)))) x
    ∙ (ap (λ k. suc (max (slice_index base a.at) (max k (inputs_depth (base ++ done) cs)))) y
    ∙ ap (λ k. suc (max (slice_index base a.at) (max (slice_index base b.at) k))) z)

pub seam : (xs : List ℕ) (g n : ℕ) (ys : List ℕ) → n ≡ length xs → slice_index (xs ++ g ∷ ys) n ≡ g
seam xs g n ys is = ap (slice_index (xs ++ g ∷ ys)) is ∙ get_or-append_seam xs g ys 0

pub longer : (xs : List ℕ) (g n : ℕ) → n ≡ length xs → suc n ≡ length (xs ++ g ∷ [])
longer xs g n is = let l = length-append xs (g ∷ []) in omega arith

ripple_all : (k : List Bool → Bool) (base done : List ℕ) (from : ℕ) (us vs cs : List Input) (c : List ℕ) → from ≡ length (base ++ done)
    → Below (length base) us → Below (length base) vs → Below from cs → ats (base ++ done) cs ≡ c
    → depths (base ++ done) (ripple_parts k us vs cs from) ≡ (base ++ done) ++ ripple_own c (ats base us) (ats base vs)
ripple_all k base done from [] vs cs c at h j b is = sym (append-nil (base ++ done))
ripple_all k base done from (a ∷ us) [] cs c at h j b is = sym (append-nil (base ++ done))
ripple_all k base done from (a ∷ []) (v ∷ vs) cs c at h j b is = ap (λ g. (base ++ done) ++ g ∷ []) (here_is base done a v cs c h.0 j.0 is)
ripple_all k base done from (a ∷ d ∷ us) (v ∷ vs) cs c at h j b is =
    let g = suc (max (slice_index base a.at) (max (slice_index base v.at) (greatest c))) in
    let first = here_is base done a v cs c h.0 j.0 is in
    let one = base ++ (done ++ g ∷ []) in
    let still : ats one cs ≡ c =
    ap (λ l. ats l cs) (sym (append_assoc base done (g ∷ []))) ∙ (ats_more (base ++ done) (g ∷ []) cs (below_same from (length (base ++ done)) cs at b) ∙ is) in
    let second = here_is base (done ++ g ∷ []) a v cs c h.0 j.0 still in
    let two = base ++ ((done ++ g ∷ []) ++ g ∷ []) in
    let rest = ripple_parts k (d ∷ us) vs (input (suc from) ∷ []) (suc (suc from)) in
    let next : suc from ≡ length one = longer (base ++ done) g from at ∙ ap length (append_assoc base done (g ∷ [])) in
    let after : suc (suc from) ≡ length two = longer one g (suc from) next ∙ ap length (append_assoc base (done ++ g ∷ []) (g ∷ [])) in
    let carry : ats two (input (suc from) ∷ []) ≡ g ∷ [] =
    ap (λ l. ats l (input (suc from) ∷ [])) (sym (append_assoc base (done ++ g ∷ []) (g ∷ []))) ∙ ap (λ k. k ∷ []) (seam one g (suc from) [] next) in
    ap (λ x. depths ((base ++ done) ++ x ∷ []) (made k a (v ∷ cs) ∷ rest)) first
    ∙ (ap (λ l. depths l (made k a (v ∷ cs) ∷ rest)) (append_assoc base done (g ∷ []))
    ∙ (ap (λ x. depths (one ++ x ∷ []) rest) second
    ∙ (ap (λ l. depths l rest) (append_assoc base (done ++ g ∷ []) (g ∷ []))
    ∙ (ripple_all k base ((done ++ g ∷ []) ++ g ∷ []) (suc (suc from)) (d ∷ us) vs (input (suc from) ∷ []) (g ∷ []) after h.1 j.1
    (let below : suc from < suc (suc from) = omega arith in (below, tt)) carry
    ∙ (regroup base (done ++ g ∷ []) g (ripple_own (g ∷ []) (ats base (d ∷ us)) (ats base vs))
    ∙ regroup base done g (g ∷ ripple_own (g ∷ []) (ats base (d ∷ us)) (ats base vs)))))))

ripple_outs : (xs c ls bs : List ℕ) (us : List Input) (n : ℕ) → n ≡ length xs → length us ≡ length ls → length bs ≡ length ls
    → ats (xs ++ ripple_own c ls bs) (ripple_inputs us n) ≡ rippled c ls bs
ripple_outs xs c [] bs [] n at e f = refl
ripple_outs xs c [] bs (u ∷ us) n at e f = absurd (omega arith)
ripple_outs xs c (a ∷ ls) bs [] n at e f = absurd (omega arith)
ripple_outs xs c (a ∷ ls) [] (u ∷ us) n at e f = absurd (omega arith)
ripple_outs xs c (a ∷ []) (b ∷ []) (u ∷ []) n at e f = ap (λ k. k ∷ []) (seam xs (suc (max a (max b (greatest c)))) n [] at)
ripple_outs xs c (a ∷ []) (b ∷ bs) (u ∷ w ∷ us) n at e f = absurd (omega arith)
ripple_outs xs c (a ∷ []) (b ∷ d ∷ bs) (u ∷ []) n at e f = absurd (omega arith)
ripple_outs xs c (a ∷ d ∷ ls) (b ∷ bs) (u ∷ []) n at e f = absurd (omega arith)
ripple_outs xs c (a ∷ d ∷ ls) (b ∷ bs) (u ∷ w ∷ us) n at e f =
    let g = suc (max a (max b (greatest c))) in
    let own = ripple_own (g ∷ []) (d ∷ ls) bs in
    let two : suc (suc n) ≡ length ((xs ++ g ∷ []) ++ g ∷ []) = longer (xs ++ g ∷ []) g (suc n) (longer xs g n at) in
    let same : ((xs ++ g ∷ []) ++ g ∷ []) ++ own ≡ xs ++ g ∷ g ∷ own = simp append_assoc in
    ap (λ k. k ∷ ats (xs ++ g ∷ g ∷ own) (ripple_inputs (w ∷ us) (suc (suc n)))) (seam xs g n (g ∷ own) at)
    ∙ ap (λ l. g ∷ l) (ap (λ l. ats l (ripple_inputs (w ∷ us) (suc (suc n)))) (sym same)
    ∙ ripple_outs ((xs ++ g ∷ []) ++ g ∷ []) (g ∷ []) (d ∷ ls) bs (w ∷ us) (suc (suc n)) two (omega arith) (omega arith))

-- borrows: one gate for each bit
borrow_all : (base done : List ℕ) (from : ℕ) (us vs cs : List Input) (c : List ℕ) → from ≡ length (base ++ done)
    → Below (length base) us → Below (length base) vs → Below from cs → ats (base ++ done) cs ≡ c
    → depths (base ++ done) (borrow_parts us vs cs from) ≡ (base ++ done) ++ rippled c (ats base us) (ats base vs)
borrow_all base done from [] vs cs c at h j b is = sym (append-nil (base ++ done))
borrow_all base done from (a ∷ us) [] cs c at h j b is = sym (append-nil (base ++ done))
borrow_all base done from (a ∷ us) (v ∷ vs) cs c at h j b is =
    let g = suc (max (slice_index base a.at) (max (slice_index base v.at) (greatest c))) in
    let first = here_is base done a v cs c h.0 j.0 is in
    let one = base ++ (done ++ g ∷ []) in
    let rest = borrow_parts us vs (input from ∷ []) (suc from) in
    let next : suc from ≡ length one = longer (base ++ done) g from at ∙ ap length (append_assoc base done (g ∷ [])) in
    let carry : ats one (input from ∷ []) ≡ g ∷ [] =
    ap (λ l. ats l (input from ∷ [])) (sym (append_assoc base done (g ∷ []))) ∙ ap (λ k. k ∷ []) (seam (base ++ done) g from [] at) in
    ap (λ x. depths ((base ++ done) ++ x ∷ []) rest) first
    ∙ (ap (λ l. depths l rest) (append_assoc base done (g ∷ []))
    ∙ (borrow_all base (done ++ g ∷ []) (suc from) us vs (input from ∷ []) (g ∷ []) next h.1 j.1
    (let below : from < suc from = omega arith in (below, tt)) carry
    ∙ regroup base done g (rippled (g ∷ []) (ats base us) (ats base vs))))

-- conjunctions, one behind the other
abbrev pub joint_own : ℕ → List ℕ → List ℕ
joint_own p [] = []
joint_own p (q ∷ qs) = suc (max p (max q 0)) ∷ joint_own (suc (max p (max q 0))) qs

joint_all : (base done : List ℕ) (from : ℕ) (i : Input) (p : ℕ) (qs : List Input) → from ≡ length (base ++ done) → slice_index (base ++ done) i.at ≡ p
    → Below (length base) qs → depths (base ++ done) (conjunction_parts i qs from) ≡ (base ++ done) ++ joint_own p (ats base qs)
joint_all base done from i p [] at is h = sym (append-nil (base ++ done))
joint_all base done from i p (q ∷ qs) at is h =
    let g = suc (max p (max (slice_index base q.at) 0)) in
    let y : slice_index (base ++ done) q.at ≡ slice_index base q.at = get_or_append_left base done 0 q.at h.0 in
    let one = base ++ (done ++ g ∷ []) in
    let rest = conjunction_parts (input from) qs (suc from) in
    let next : suc from ≡ length one = longer (base ++ done) g from at ∙ ap length (append_assoc base done (g ∷ [])) in
    let last : slice_index one from ≡ g = ap (λ l. slice_index l from) (sym (append_assoc base done (g ∷ []))) ∙ seam (base ++ done) g from [] at in
    ap (λ k. depths ((base ++ done) ++ suc (max k (max (slice_index (base ++ done) q.at) 0)) ∷ []) rest) is
    ∙ (ap (λ k. depths ((base ++ done) ++ suc (max p (max k 0)) ∷ []) rest) y
    ∙ (ap (λ l. depths l rest) (append_assoc base done (g ∷ []))
    ∙ (joint_all base (done ++ g ∷ []) (suc from) (input from) g qs next last h.1 ∙ regroup base done g (joint_own g (ats base qs)))))

-- the bits of a result that stand one behind the other
results_are : (xs ys : List ℕ) (us : List Input) (n : ℕ) → n ≡ length xs → length us ≡ length ys → ats (xs ++ ys) (result_inputs us n) ≡ ys
results_are xs [] [] n at e = refl
results_are xs (y ∷ ys) [] n at e = absurd (omega arith)
results_are xs [] (u ∷ us) n at e = absurd (omega arith)
results_are xs (y ∷ ys) (u ∷ us) n at e =
    let same : (xs ++ y ∷ []) ++ ys ≡ xs ++ y ∷ ys = simp append_assoc in
    ap (λ k. k ∷ ats (xs ++ y ∷ ys) (result_inputs us (suc n))) (seam xs y n ys at)
    ∙ ap (λ l. y ∷ l) (ap (λ l. ats l (result_inputs us (suc n))) (sym same) ∙ results_are (xs ++ y ∷ []) ys us (suc n) (longer xs y n at) (omega arith))

results_below : (us : List Input) (n m : ℕ) → n + length us ≤ m → Below m (result_inputs us n)
results_below [] n m h = tt
results_below (u ∷ us) n m h = (omega arith, results_below us (suc n) m (omega arith))

ripples_below : (us : List Input) (n m : ℕ) → n + 2 * length us ≤ m + 1 → Below m (ripple_inputs us n)
ripples_below [] n m h = tt
ripples_below (u ∷ us) n m h = (omega arith, ripples_below us (suc (suc n)) m (omega arith))

-- the last of gates
last_at : (n : ℕ) (us : List Input) → (last_from (input n) (suc n) us).at ≡ n + length us
last_at n [] = omega arith
last_at n (u ∷ us) = let h : (last_from (input (suc n)) (suc (suc n)) us).at ≡ suc n + length us = last_at (suc n) us in omega arith

ripple_last : (a b : ℕ) (c us vs : List ℕ) → length vs ≡ length us
    → slice_index (rippled c (a ∷ us) (b ∷ vs)) (length us) ≡ greatest (rippled c (a ∷ us) (b ∷ vs))
ripple_last a b c [] [] e = omega arith
ripple_last a b c [] (y ∷ vs) e = absurd (omega arith)
ripple_last a b c (x ∷ us) [] e = absurd (omega arith)
ripple_last a b c (x ∷ us) (y ∷ vs) e = let h = ripple_last x y (suc (max a (max b (greatest c))) ∷ []) us vs (omega arith) in h ∙ over _ _ _ _
  where
    over : (g x y t : ℕ) → max (suc (max x (max y (max g 0)))) t ≡ max g (max (suc (max x (max y (max g 0)))) t)
    over g x y t = omega arith

joint_last : (p q : ℕ) (qs : List ℕ) → slice_index (joint_own p (q ∷ qs)) (length qs) ≡ conjoined p (q ∷ qs)
joint_last p q [] = refl
joint_last p q (r ∷ qs) = joint_last (suc (max p (max q 0))) r qs

joint_top : (p : ℕ) (qs : List ℕ) → max (max p (greatest qs)) (greatest (joint_own p qs)) ≡ conjoined p qs
joint_top p [] = omega arith
joint_top p (q ∷ qs) = over p q _ _ ∙ joint_top (suc (max p (max q 0))) qs
  where
    over : (p q s t : ℕ) → max (max p (max q s)) (max (suc (max p (max q 0))) t) ≡ max (max (suc (max p (max q 0))) s) t
    over p q s t = omega arith

ripple_top : (c us vs : List ℕ) → greatest (ripple_own c us vs) ≡ greatest (rippled c us vs)
ripple_top c [] vs = refl
ripple_top c (a ∷ us) [] = refl
ripple_top c (a ∷ []) (b ∷ vs) = refl
ripple_top c (a ∷ d ∷ us) (b ∷ vs) =
    let h = ripple_top (suc (max a (max b (greatest c))) ∷ []) (d ∷ us) vs in twice _ _ ∙ ap (max (suc (max a (max b (greatest c))))) h
  where
    twice : (g t : ℕ) → max g (max g t) ≡ max g t
    twice g t = omega arith

-- a result is later than what it is made of
paired_over : (us vs : List ℕ) → length vs ≡ length us → max (greatest us) (max (greatest vs) (greatest (paired us vs))) ≡ greatest (paired us vs)
paired_over [] [] e = refl
paired_over [] (b ∷ vs) e = absurd (omega arith)
paired_over (a ∷ us) [] e = absurd (omega arith)
paired_over (a ∷ us) (b ∷ vs) e = let h = paired_over us vs (omega arith) in over a b _ _ _ h
  where
    over : (a b u v p : ℕ) → max u (max v p) ≡ p → max (max a u) (max (max b v) (max (suc (max a (max b 0))) p)) ≡ max (suc (max a (max b 0))) p
    over a b u v p h = omega arith

rippled_over : (c us vs : List ℕ) → length vs ≡ length us → max (greatest us) (max (greatest vs) (greatest (rippled c us vs))) ≡ greatest (rippled c us vs)
rippled_over c [] [] e = refl
rippled_over c [] (b ∷ vs) e = absurd (omega arith)
rippled_over c (a ∷ us) [] e = absurd (omega arith)
rippled_over c (a ∷ us) (b ∷ vs) e = let h = rippled_over (suc (max a (max b (greatest c))) ∷ []) us vs (omega arith) in over a b (greatest c) _ _ _ h
  where
    over : (a b c u v p : ℕ) → max u (max v p) ≡ p → max (max a u) (max (max b v) (max (suc (max a (max b c))) p)) ≡ max (suc (max a (max b c))) p
    over a b c u v p h = omega arith

-- What an operator's gates do behind earlier ones: their depths, where its result comes from, and that nothing is later than that.
pub record Applied (op : Op) (ds : List ℕ) (us vs : List Input) (from : ℕ) : Type 0 where
  pub own : List ℕ
  pub all : depths ds (operator_parts op us vs from) ≡ ds ++ own
  pub below : Below (from + length own) (operator_inputs op us from)
  pub bits : ats (ds ++ own) (operator_inputs op us from) ≡ op_bits op (ats ds us) (ats ds vs)
  pub top : max (greatest (ats ds us)) (max (greatest (ats ds vs)) (greatest own)) ≡ greatest (op_bits op (ats ds us) (ats ds vs))

started : (ds : List ℕ) (gs : List BlockPart) (own : List ℕ) → depths (ds ++ []) gs ≡ (ds ++ []) ++ own → depths ds gs ≡ ds ++ own
started ds gs own h = subst (λ l. depths l gs ≡ l ++ own) (append-nil ds) h

same_length : (ds : List ℕ) (us vs : List Input) → length vs ≡ length us → length (ats ds vs) ≡ length (ats ds us)
same_length ds us vs e = ats_length ds vs ∙ (e ∙ sym (ats_length ds us))

bitwise_gates : (f : List Bool → Bool) (ds : List ℕ) (us vs : List Input) → Below (length ds) us → Below (length ds) vs
    → depths ds (bitwise_parts f us vs) ≡ ds ++ paired (ats ds us) (ats ds vs)
bitwise_gates f ds us vs h k = started ds (bitwise_parts f us vs) (paired (ats ds us) (ats ds vs)) (bitwise_all f ds [] us vs h k)

module _ (ds : List ℕ) (us vs : List Input) (from : ℕ) (at : from ≡ length ds) (h : Below (length ds) us) (k : Below (length ds) vs)
    (e : length vs ≡ length us) where
  abbrev left : List ℕ
  left = ats ds us

  abbrev right : List ℕ
  right = ats ds vs

  wide : length us ≡ length left
  wide = sym (ats_length ds us)

  same : length right ≡ length left
  same = same_length ds us vs e

  nil : ds ++ [] ≡ ds
  nil = append-nil ds

  begins : from ≡ length (ds ++ [])
  begins = at ∙ sym (ap length nil)

  pairs_below : Below (from + length (paired left right)) (result_inputs us from)
  pairs_below = let l = paired_length left right same in results_below us from _ (omega (arith, l, wide))

  pairs_are : ats (ds ++ paired left right) (result_inputs us from) ≡ paired left right
  pairs_are = results_are ds (paired left right) us from at (wide ∙ sym (paired_length left right same))

  and_applied : Applied And ds us vs from
  and_applied =
      record { own = paired left right; all = bitwise_gates all_one ds us vs h k; below = pairs_below; bits = pairs_are; top = paired_over left right same }

  or_applied : Applied Or ds us vs from
  or_applied =
      record { own = paired left right; all = bitwise_gates some_one ds us vs h k; below = pairs_below; bits = pairs_are; top = paired_over left right same }

  xor_applied : Applied Xor ds us vs from
  xor_applied =
      record { own = paired left right; all = bitwise_gates odd_ones ds us vs h k; below = pairs_below; bits = pairs_are; top = paired_over left right same }

  ripple_gates : (c : List Bool → Bool) → depths ds (ripple_parts c us vs [] from) ≡ ds ++ ripple_own [] left right
  ripple_gates c = started ds (ripple_parts c us vs [] from) (ripple_own [] left right) (ripple_all c ds [] from us vs [] [] begins h k tt refl)

  ripple_count : (c ls bs : List ℕ) → length bs ≡ length ls → 2 * length ls ≤ length (ripple_own c ls bs) + 1
  ripple_count c [] bs f = omega arith
  ripple_count c (a ∷ ls) [] f = absurd (omega arith)
  ripple_count c (a ∷ []) (b ∷ bs) f = omega arith
  ripple_count c (a ∷ d ∷ ls) (b ∷ bs) f = let r = ripple_count (suc (max a (max b (greatest c))) ∷ []) (d ∷ ls) bs (omega arith) in omega arith

  ripples_in : Below (from + length (ripple_own [] left right)) (ripple_inputs us from)
  ripples_in = let l = ripple_count [] left right same in ripples_below us from _ (omega (arith, l, wide))

  ripple_over : max (greatest left) (max (greatest right) (greatest (ripple_own [] left right))) ≡ greatest (rippled [] left right)
  ripple_over = ap (λ t. max (greatest left) (max (greatest right) t)) (ripple_top [] left right) ∙ rippled_over [] left right same

  add_applied : Applied Add ds us vs from
  add_applied = record {
    own = ripple_own [] left right;
    all = ripple_gates carries;
    below = ripples_in;
    bits = ripple_outs ds [] left right us from at wide same;
    top = ripple_over;
  }

  sub_applied : Applied Sub ds us vs from
  sub_applied = record {
    own = ripple_own [] left right;
    all = ripple_gates borrows;
    below = ripples_in;
    bits = ripple_outs ds [] left right us from at wide same;
    top = ripple_over;
  }

-- borrows: the result is the last gate
module _ (ds : List ℕ) where
  less_at : (us : List Input) (from : ℕ) → 1 ≤ length us → (less_input us from).at + 1 ≡ from + length us
  less_at [] from some = absurd (omega arith)
  less_at (a ∷ us) from some = let h = last_at from us in omega arith

  less_gates : (us vs : List Input) (from : ℕ) → from ≡ length ds → Below (length ds) us → Below (length ds) vs
      → depths ds (borrow_parts us vs [] from) ≡ ds ++ rippled [] (ats ds us) (ats ds vs)
  less_gates us vs from at h k =
      started ds (borrow_parts us vs [] from) (rippled [] (ats ds us) (ats ds vs))
      (borrow_all ds [] from us vs [] [] (at ∙ sym (ap length (append-nil ds))) h k tt refl)

  less_bit : (ys : List ℕ) (n m : ℕ) → n + 1 ≡ length ds + m → m ≡ length ys → (k : ℕ) → k + 1 ≡ m → slice_index (ds ++ ys) n ≡ slice_index ys k
  less_bit ys n m e f k g = ap (slice_index (ds ++ ys)) (omega arith) ∙ get_or-append-add ds ys k 0

  less_is : (us vs : List Input) (from : ℕ) → from ≡ length ds → length vs ≡ length us → 1 ≤ length us
      → slice_index (ds ++ rippled [] (ats ds us) (ats ds vs)) (less_input us from).at ≡ greatest (rippled [] (ats ds us) (ats ds vs))
  less_is [] vs from at e some = absurd (omega arith)
  less_is (a ∷ us) [] from at e some = absurd (omega arith)
  less_is (a ∷ us) (b ∷ vs) from at e some =
      let n = less_at (a ∷ us) from some in
      let sized = rippled_length [] (ats ds (a ∷ us)) (ats ds (b ∷ vs)) (same_length ds (a ∷ us) (b ∷ vs) e) in
      let wide = ats_length ds us in
      let rest : length (ats ds vs) ≡ length (ats ds us) = same_length ds us vs (omega arith) in
      less_bit (rippled [] (ats ds (a ∷ us)) (ats ds (b ∷ vs))) _ (length (a ∷ us)) (omega (arith, n, at)) (omega (arith, sized, wide)) (length (ats ds us))
      (omega (arith, wide))
      ∙ ripple_last _ _ [] (ats ds us) (ats ds vs) rest

  less_below : (us vs : List Input) (from : ℕ) → length vs ≡ length us → 1 ≤ length us
      → (less_input us from).at < from + length (rippled [] (ats ds us) (ats ds vs))
  less_below us vs from e some =
      let n = less_at us from some in
      let sized = rippled_length [] (ats ds us) (ats ds vs) (same_length ds us vs e) in
      let wide = ats_length ds us in
      omega arith

one_top : (u v g : ℕ) → max u (max v g) ≡ g → max u (max v g) ≡ max g 0
one_top u v g h = omega arith

swapped : (u v g : ℕ) → max v (max u g) ≡ g → max u (max v g) ≡ max g 0
swapped u v g h = omega arith

-- equalities: of each bit, and then the conjunctions
module _ (ds : List ℕ) where
  abbrev equal_own : List Input → List Input → List ℕ
  equal_own [] vs = []
  equal_own (a ∷ us) [] = []
  equal_own (a ∷ us) (b ∷ vs) =
      paired (ats ds (a ∷ us)) (ats ds (b ∷ vs)) ++ joint_own (suc (max (slice_index ds a.at) (max (slice_index ds b.at) 0))) (paired (ats ds us) (ats ds vs))

  equal_gates : (us vs : List Input) (from : ℕ) → from ≡ length ds → length vs ≡ length us → Below (length ds) us → Below (length ds) vs
      → depths ds (equality_parts us vs from) ≡ ds ++ equal_own us vs
  equal_gates [] vs from at e h k = sym (append-nil ds)
  equal_gates (a ∷ us) [] from at e h k = absurd (omega arith)
  equal_gates (a ∷ us) (b ∷ vs) from at e h k =
      let p = suc (max (slice_index ds a.at) (max (slice_index ds b.at) 0)) in
      let ps = paired (ats ds us) (ats ds vs) in
      let one = ds ++ p ∷ ps in
      let conj = conjunction_parts (input from) (result_inputs us (suc from)) (from + length (a ∷ us)) in
      let rest : length (ats ds vs) ≡ length (ats ds us) = same_length ds us vs (omega arith) in
      let wide = ats_length ds us in
      let sized = paired_length (ats ds us) (ats ds vs) rest in
      let whole = length-append ds (p ∷ ps) in
      let first = bitwise_gates alike ds (a ∷ us) (b ∷ vs) h k in
      let next : from + length (a ∷ us) ≡ length (one ++ []) = let n = length-append one [] in omega (arith, n, whole, sized, wide, at) in
      let here : slice_index (one ++ []) from ≡ p = ap (λ l. slice_index l from) (append-nil one) ∙ seam ds p from ps at in
      let inside : Below (length one) (result_inputs us (suc from)) = results_below us (suc from) _ (omega (arith, whole, sized, wide, at)) in
      let same : (ds ++ p ∷ []) ++ ps ≡ one = simp append_assoc in
      let pairs : ats one (result_inputs us (suc from)) ≡ ps =
      ap (λ l. ats l (result_inputs us (suc from))) (sym same)
      ∙ results_are (ds ++ p ∷ []) ps us (suc from) (longer ds p from at) (omega (arith, sized, wide)) in
      let all : depths one conj ≡ one ++ joint_own p (ats one (result_inputs us (suc from))) =
      started one conj (joint_own p (ats one (result_inputs us (suc from))))
      (joint_all one [] (from + length (a ∷ us)) (input from) p (result_inputs us (suc from)) next here inside) in
      depths_append ds (bitwise_parts alike (a ∷ us) (b ∷ vs)) conj
      ∙ (ap (λ l. depths l conj) first ∙ (all ∙ (ap (λ l. one ++ joint_own p l) pairs ∙ append_assoc ds (p ∷ ps) (joint_own p ps))))

  equal_is : (us vs : List Input) (from : ℕ) → from ≡ length ds → length vs ≡ length us → 1 ≤ length us
      → slice_index (ds ++ equal_own us vs) (equal_input us from).at ≡ all_of (paired (ats ds us) (ats ds vs))
  equal_is [] vs from at e some = absurd (omega arith)
  equal_is (a ∷ us) [] from at e some = absurd (omega arith)
  equal_is (a ∷ []) (b ∷ []) from at e some = seam ds (suc (max (slice_index ds a.at) (max (slice_index ds b.at) 0))) from [] at
  equal_is (a ∷ []) (b ∷ c ∷ vs) from at e some = absurd (omega arith)
  equal_is (a ∷ d ∷ us) (b ∷ []) from at e some = absurd (omega arith)
  equal_is (a ∷ d ∷ us) (b ∷ c ∷ vs) from at e some =
      let p = suc (max (slice_index ds a.at) (max (slice_index ds b.at) 0)) in
      let q = suc (max (slice_index ds d.at) (max (slice_index ds c.at) 0)) in
      let qs = paired (ats ds us) (ats ds vs) in
      let one = ds ++ p ∷ q ∷ qs in
      let rest : length (ats ds vs) ≡ length (ats ds us) = same_length ds us vs (omega arith) in
      let wide = ats_length ds us in
      let sized = paired_length (ats ds us) (ats ds vs) rest in
      let whole = length-append ds (p ∷ q ∷ qs) in
      let place = last_at (from + length (a ∷ d ∷ us)) us in
      let index : (equal_input (a ∷ d ∷ us) from).at ≡ length one + length qs = omega (arith, place, whole, sized, wide, at) in
      ap (λ l. slice_index l (equal_input (a ∷ d ∷ us) from).at) (sym (append_assoc ds (p ∷ q ∷ qs) (joint_own p (q ∷ qs))))
      ∙ (ap (slice_index (one ++ joint_own p (q ∷ qs))) index ∙ (get_or-append-add one (joint_own p (q ∷ qs)) (length qs) 0 ∙ joint_last p q qs))

  joint_length : (p : ℕ) (qs : List ℕ) → length (joint_own p qs) ≡ length qs
  joint_length p [] = refl
  joint_length p (q ∷ qs) = ap suc (joint_length (suc (max p (max q 0))) qs)

  equal_below : (us vs : List Input) (from : ℕ) → length vs ≡ length us → 1 ≤ length us → (equal_input us from).at < from + length (equal_own us vs)
  equal_below [] vs from e some = absurd (omega arith)
  equal_below (a ∷ us) [] from e some = absurd (omega arith)
  equal_below (a ∷ us) (b ∷ vs) from e some =
      let p = suc (max (slice_index ds a.at) (max (slice_index ds b.at) 0)) in
      let ps = paired (ats ds us) (ats ds vs) in
      let rest : length (ats ds vs) ≡ length (ats ds us) = same_length ds us vs (omega arith) in
      let wide = ats_length ds us in
      let sized = paired_length (ats ds us) (ats ds vs) rest in
      let more = joint_length p ps in
      let all = length-append (p ∷ ps) (joint_own p ps) in
      let place = index us in
      omega (arith, place, all, more, sized, wide)
    where
      index : (ws : List Input) → (last_from (input from) (from + suc (length ws)) ws).at ≤ from + 2 * length ws
      index [] = omega arith
      index (w ∷ ws) = let l = last_at (from + suc (length (w ∷ ws))) ws in omega (arith, l)

  equal_over : (us vs : List Input) → length vs ≡ length us → 1 ≤ length us
      → max (greatest (ats ds us)) (max (greatest (ats ds vs)) (greatest (equal_own us vs))) ≡ max (all_of (paired (ats ds us) (ats ds vs))) 0
  equal_over [] vs e some = absurd (omega arith)
  equal_over (a ∷ us) [] e some = absurd (omega arith)
  equal_over (a ∷ us) (b ∷ vs) e some =
      let p = suc (max (slice_index ds a.at) (max (slice_index ds b.at) 0)) in
      let ps = paired (ats ds us) (ats ds vs) in
      let pairs = paired_over (ats ds (a ∷ us)) (ats ds (b ∷ vs)) (same_length ds (a ∷ us) (b ∷ vs) e) in
      let joined = greatest_append (p ∷ ps) (joint_own p ps) in
      over _ _ _ _ _ _ pairs joined (joint_top p ps)
    where
      greatest_append : (xs ys : List ℕ) → greatest (xs ++ ys) ≡ max (greatest xs) (greatest ys)
      greatest_append [] ys = omega arith
      greatest_append (x ∷ xs) ys = let r = greatest_append xs ys in omega arith

      over : (u v p j all c : ℕ) → max u (max v p) ≡ p → all ≡ max p j → max p j ≡ c → max u (max v all) ≡ max c 0
      over u v p j all c h k m = omega arith

less_same : (us vs : List Input) (from : ℕ) → length vs ≡ length us → 1 ≤ length us → (less_input us from).at ≡ (less_input vs from).at
less_same us vs from e some = let n = less_at [] us from some in let m = less_at [] vs from (omega arith) in omega arith

greater_is : (ds : List ℕ) (us vs : List Input) (from : ℕ) → from ≡ length ds → length vs ≡ length us → 1 ≤ length us
    → slice_index (ds ++ rippled [] (ats ds vs) (ats ds us)) (less_input us from).at ≡ greatest (rippled [] (ats ds vs) (ats ds us))
greater_is ds us vs from at e some =
    ap (slice_index (ds ++ rippled [] (ats ds vs) (ats ds us))) (less_same us vs from e some) ∙ less_is ds vs us from at (sym e) (omega arith)

greater_below : (ds : List ℕ) (us vs : List Input) (from : ℕ) → length vs ≡ length us → 1 ≤ length us
    → (less_input us from).at < from + length (rippled [] (ats ds vs) (ats ds us))
greater_below ds us vs from e some = let n = less_same us vs from e some in let b = less_below ds vs us from (sym e) (omega arith) in omega arith

greater_over : (ds : List ℕ) (us vs : List Input) → length vs ≡ length us
    → max (greatest (ats ds us)) (max (greatest (ats ds vs)) (greatest (rippled [] (ats ds vs) (ats ds us)))) ≡
    max (greatest (rippled [] (ats ds vs) (ats ds us))) 0
greater_over ds us vs e = swapped _ _ _ (rippled_over [] (ats ds vs) (ats ds us) (same_length ds vs us (sym e)))

pub operator_applied : (op : Op) (ds : List ℕ) (us vs : List Input) (from : ℕ) → from ≡ length ds → Below (length ds) us → Below (length ds) vs
    → length vs ≡ length us → 1 ≤ length us → Applied op ds us vs from
operator_applied And ds us vs from at h k e some = and_applied ds us vs from at h k e
operator_applied Or ds us vs from at h k e some = or_applied ds us vs from at h k e
operator_applied Xor ds us vs from at h k e some = xor_applied ds us vs from at h k e
operator_applied Add ds us vs from at h k e some = add_applied ds us vs from at h k e
operator_applied Sub ds us vs from at h k e some = sub_applied ds us vs from at h k e
operator_applied Eq ds us vs from at h k e some = record {
  own = equal_own ds us vs;
  all = equal_gates ds us vs from at e h k;
  below = (equal_below ds us vs from e some, tt);
  bits = ap (λ x. x ∷ []) (equal_is ds us vs from at e some);
  top = equal_over ds us vs e some;
}
operator_applied Ne ds us vs from at h k e some = record {
  own = equal_own ds us vs;
  all = equal_gates ds us vs from at e h k;
  below = (equal_below ds us vs from e some, tt);
  bits = ap (λ x. x ∷ []) (equal_is ds us vs from at e some);
  top = equal_over ds us vs e some;
}
operator_applied Lt ds us vs from at h k e some = record {
  own = rippled [] (ats ds us) (ats ds vs);
  all = less_gates ds us vs from at h k;
  below = (less_below ds us vs from e some, tt);
  bits = ap (λ x. x ∷ []) (less_is ds us vs from at e some);
  top = one_top _ _ _ (rippled_over [] (ats ds us) (ats ds vs) (same_length ds us vs e));
}
operator_applied Ge ds us vs from at h k e some = record {
  own = rippled [] (ats ds us) (ats ds vs);
  all = less_gates ds us vs from at h k;
  below = (less_below ds us vs from e some, tt);
  bits = ap (λ x. x ∷ []) (less_is ds us vs from at e some);
  top = one_top _ _ _ (rippled_over [] (ats ds us) (ats ds vs) (same_length ds us vs e));
}
operator_applied Gt ds us vs from at h k e some = record {
  own = rippled [] (ats ds vs) (ats ds us);
  all = less_gates ds vs us from at k h;
  below = (greater_below ds us vs from e some, tt);
  bits = ap (λ x. x ∷ []) (greater_is ds us vs from at e some);
  top = greater_over ds us vs e;
}
operator_applied Le ds us vs from at h k e some = record {
  own = rippled [] (ats ds vs) (ats ds us);
  all = less_gates ds vs us from at k h;
  below = (greater_below ds us vs from e some, tt);
  bits = ap (λ x. x ∷ []) (greater_is ds us vs from at e some);
  top = greater_over ds us vs e;
}
