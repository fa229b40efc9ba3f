-- Lists of distinct numbers, and what a move of one node leaves as it was.
use Rattle.std.proofs.Common.{◌≡◌, ◌≢◌, ℕ, zero, suc, ◌<◌, Bool, false, not, List, [], ◌∷◌, ◌++◌, length, map, slice_index_or, arith, ap, sym, ◌∙◌, refl, AllPairs}
use Rattle.std.specs.Prelude.{if◌then◌else◌, ◌&&◌}
use Rattle.prs_core.specs.Parts.{turned, all_low}
use Rattle.cell_select.proofs.Tables.{same_number, other_number}

abbrev pub Fresh : ℕ → List ℕ → Type 0
Fresh n [] = Unit {0}
Fresh n (m ∷ ms) = (n ≢ m) × Fresh n ms

abbrev pub Distinct : List ℕ → Type 0
Distinct [] = Unit {0}
Distinct (n ∷ ns) = Fresh n ns × Distinct ns

abbrev pub Cross : List ℕ → List ℕ → Type 0
Cross [] ys = Unit {0}
Cross (x ∷ xs) ys = Fresh x ys × Cross xs ys

fresh_in : (n : ℕ) (ms : List ℕ) → ((j d : ℕ) → j < length ms → n ≢ slice_index_or ms j d) → Fresh n ms
fresh_in n [] h = tt
fresh_in n (m ∷ ms) h = (h 0 0 (omega arith), fresh_in n ms (λ j d lt. h (suc j) d (omega (arith, lt))))

pub distinct_from : (ns : List ℕ) → AllPairs (λ (a b : ℕ). a ≢ b) ns → Distinct ns
distinct_from [] h = tt
distinct_from (n ∷ ns) h = (
  fresh_in n ns (λ j d lt. h 0 (suc j) d (omega arith) (omega (arith, lt))),
  distinct_from ns (λ i j d less lt. h (suc i) (suc j) d (omega (arith, less)) (omega (arith, lt))),
)

pub fresh_left : (n : ℕ) (xs ys : List ℕ) → Fresh n (xs ++ ys) → Fresh n xs
fresh_left n [] ys h = tt
fresh_left n (x ∷ xs) ys h = (h.0, fresh_left n xs ys h.1)

pub fresh_right : (n : ℕ) (xs ys : List ℕ) → Fresh n (xs ++ ys) → Fresh n ys
fresh_right n [] ys h = h
fresh_right n (x ∷ xs) ys h = fresh_right n xs ys h.1

pub fresh_both : (n : ℕ) (xs ys : List ℕ) → Fresh n xs → Fresh n ys → Fresh n (xs ++ ys)
fresh_both n [] ys h k = k
fresh_both n (x ∷ xs) ys h k = (h.0, fresh_both n xs ys h.1 k)

pub distinct_left : (xs ys : List ℕ) → Distinct (xs ++ ys) → Distinct xs
distinct_left [] ys h = tt
distinct_left (x ∷ xs) ys h = (fresh_left x xs ys h.0, distinct_left xs ys h.1)

pub distinct_right : (xs ys : List ℕ) → Distinct (xs ++ ys) → Distinct ys
distinct_right [] ys h = h
distinct_right (x ∷ xs) ys h = distinct_right xs ys h.1

pub distinct_cross : (xs ys : List ℕ) → Distinct (xs ++ ys) → Cross xs ys
distinct_cross [] ys h = tt
distinct_cross (x ∷ xs) ys h = (fresh_right x xs ys h.0, distinct_cross xs ys h.1)

pub distinct_both : (xs ys : List ℕ) → Distinct xs → Distinct ys → Cross xs ys → Distinct (xs ++ ys)
distinct_both [] ys h k c = k
distinct_both (x ∷ xs) ys h k c = (fresh_both x xs ys h.0 c.0, distinct_both xs ys h.1 k c.1)

cross_one : (x : ℕ) (ys : List ℕ) → Fresh x ys → Cross ys (x ∷ [])
cross_one x [] h = tt
cross_one x (y ∷ ys) h = ((λ e. h.0 (sym e), tt), cross_one x ys h.1)

cross_more : (x : ℕ) (ys xs : List ℕ) → Cross ys (x ∷ []) → Cross ys xs → Cross ys (x ∷ xs)
cross_more x [] xs h k = tt
cross_more x (y ∷ ys) xs h k = ((h.0.0, k.0), cross_more x ys xs h.1 k.1)

cross_none : (ys : List ℕ) → Cross ys []
cross_none [] = tt
cross_none (y ∷ ys) = (tt, cross_none ys)

pub cross_turned : (xs ys : List ℕ) → Cross xs ys → Cross ys xs
cross_turned [] ys h = cross_none ys
cross_turned (x ∷ xs) ys h = cross_more x ys xs (cross_one x ys h.0) (cross_turned xs ys h.1)

pub cross_left : (xs ys zs : List ℕ) → Cross xs (ys ++ zs) → Cross xs ys
cross_left [] ys zs h = tt
cross_left (x ∷ xs) ys zs h = (fresh_left x ys zs h.0, cross_left xs ys zs h.1)

pub cross_right : (xs ys zs : List ℕ) → Cross xs (ys ++ zs) → Cross xs zs
cross_right [] ys zs h = tt
cross_right (x ∷ xs) ys zs h = (fresh_right x ys zs h.0, cross_right xs ys zs h.1)

pub cross_both : (xs ys zs : List ℕ) → Cross xs ys → Cross xs zs → Cross xs (ys ++ zs)
cross_both [] ys zs h k = tt
cross_both (x ∷ xs) ys zs h k = (fresh_both x ys zs h.0 k.0, cross_both xs ys zs h.1 k.1)

-- two lists that stand side by side changed for each other
pub swapped : (xs ys zs ws : List ℕ) → Distinct (xs ++ (ys ++ (zs ++ ws))) → Distinct (xs ++ (zs ++ (ys ++ ws)))
swapped xs ys zs ws h =
    let rest = distinct_right xs (ys ++ (zs ++ ws)) h in
    let far = distinct_cross xs (ys ++ (zs ++ ws)) h in
    let last = distinct_right ys (zs ++ ws) rest in
    let near = distinct_cross ys (zs ++ ws) rest in
    let behind = cross_right xs ys (zs ++ ws) far in
    let inner = distinct_both ys ws (distinct_left ys (zs ++ ws) rest) (distinct_right zs ws last) (cross_right ys zs ws near) in
    let middle = distinct_both zs (ys ++ ws) (distinct_left zs ws last) inner
    (cross_both zs ys ws (cross_turned ys zs (cross_left ys zs ws near)) (distinct_cross zs ws last)) in
    distinct_both xs (zs ++ (ys ++ ws)) (distinct_left xs (ys ++ (zs ++ ws)) h) middle
    (cross_both xs zs (ys ++ ws) (cross_left xs zs ws behind) (cross_both xs ys ws (cross_left xs ys (zs ++ ws) far) (cross_right xs zs ws behind)))

pub turned_here : (v : ℕ → Bool) (n : ℕ) → turned v n n ≡ not (v n)
turned_here v n = ap (λ b. if b then not (v n) else v n) (same_number n)

pub turned_other : (v : ℕ → Bool) (n k : ℕ) → n ≢ k → turned v n k ≡ v k
turned_other v n k h = ap (λ b. if b then not (v k) else v k) (other_number k n (λ e. h (sym e)))

abbrev pub flip : ℕ → List Bool → List Bool
flip i [] = []
flip zero (x ∷ xs) = not x ∷ xs
flip (suc i) (x ∷ xs) = x ∷ flip i xs

-- the values of nodes that don't move
pub still : (v : ℕ → Bool) (n : ℕ) (ms : List ℕ) → Fresh n ms → map (turned v n) ms ≡ map v ms
still v n [] h = refl
still v n (m ∷ ms) h = ap (λ b. b ∷ map (turned v n) ms) (turned_other v n m h.0) ∙ ap (λ bs. v m ∷ bs) (still v n ms h.1)

fresh_at : (ns : List ℕ) (n : ℕ) (i : ℕ) → i < length ns → Fresh n ns → slice_index_or ns i 0 ≢ n
fresh_at [] n i lt h = absurd (omega (arith, lt))
fresh_at (m ∷ ns) n zero lt h = λ e. h.0 (sym e)
fresh_at (m ∷ ns) n (suc i) lt h = fresh_at ns n i (omega (arith, lt)) h.1

-- of distinct nodes one moves
pub flips : (v : ℕ → Bool) (ns : List ℕ) (i : ℕ) → i < length ns → Distinct ns → map (turned v (slice_index_or ns i 0)) ns ≡ flip i (map v ns)
flips v [] i lt h = refl
flips v (n ∷ ns) zero lt h = ap (λ b. b ∷ map (turned v n) ns) (turned_here v n) ∙ ap (λ bs. not (v n) ∷ bs) (still v n ns h.0)
flips v (n ∷ ns) (suc i) lt h =
    ap (λ b. b ∷ map (turned v (slice_index_or ns i 0)) ns) (turned_other v (slice_index_or ns i 0) n (fresh_at ns n i (omega (arith, lt)) h.0))
    ∙ ap (λ bs. v n ∷ bs) (flips v ns i (omega (arith, lt)) h.1)

pub cross_at : (xs ys : List ℕ) (i : ℕ) → i < length xs → Cross xs ys → Fresh (slice_index_or xs i 0) ys
cross_at [] ys i lt h = absurd (omega (arith, lt))
cross_at (x ∷ xs) ys zero lt h = h.0
cross_at (x ∷ xs) ys (suc i) lt h = cross_at xs ys i (omega (arith, lt)) h.1

-- the same place where the node is the same
pub one_place : (ns : List ℕ) → Distinct ns → (i j : ℕ) → i < length ns → j < length ns → slice_index_or ns i 0 ≡ slice_index_or ns j 0 → i ≡ j
one_place [] h i j lt less e = absurd (omega (arith, lt))
one_place (n ∷ ns) h zero zero lt less e = refl
one_place (n ∷ ns) h zero (suc j) lt less e = absurd (fresh_at ns n j (omega (arith, less)) h.0 (sym e))
one_place (n ∷ ns) h (suc i) zero lt less e = absurd (fresh_at ns n i (omega (arith, lt)) h.0 e)
one_place (n ∷ ns) h (suc i) (suc j) lt less e = ap suc (one_place ns h.1 i j (omega (arith, lt)) (omega (arith, less)) e)

-- the value of a node at a place
pub value_at : (v : ℕ → Bool) (ns : List ℕ) (i : ℕ) → i < length ns → slice_index_or (map v ns) i false ≡ v (slice_index_or ns i 0)
value_at v [] i lt = absurd (omega (arith, lt))
value_at v (n ∷ ns) zero lt = refl
value_at v (n ∷ ns) (suc i) lt = value_at v ns i (omega (arith, lt))

-- what only looks at some nodes
pub low_still : (v : ℕ → Bool) (n : ℕ) (ms : List ℕ) → Fresh n ms → all_low (turned v n) ms ≡ all_low v ms
low_still v n [] h = refl
low_still v n (m ∷ ms) h = ap (λ b. not b && all_low (turned v n) ms) (turned_other v n m h.0) ∙ ap (λ b. not (v m) && b) (low_still v n ms h.1)
