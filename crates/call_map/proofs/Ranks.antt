-- Places in lists: the marked members of a list by their rank, blocks of several sizes one after another, and a list whose
-- members are exchanged.
--
-- xs: a list of nodes of both nets, of which some are marked as requests of calls; k: a place in it; i: a rank; ns: the sizes
-- of blocks; p, q: which block; a, b: places in a block.
use Rattle.std.proofs.Common.{◌≡◌, ℕ, zero, suc, ◌+◌, ◌-◌, ◌<◌, ◌≤◌, Bool, true, false, List, [], ◌∷◌, map, length, get_or, set, refl, sym, ap, ◌∙◌, arith, ⊎_elim}
use Rattle.std.specs.Prelude.{if◌then◌else◌, ◌⊎◌}
use Rattle.std.specs.List.{swap}
use Rattle.std.specs.List.Sorted.{apply_swaps}
use Rattle.std.proofs.lemmas.Bool.{cases_lt}
use Rattle.prs_core.specs.Pairs.{no_rules}
use Rattle.call_map.proofs.Items.{Item, item}
use Rattle.call_map.proofs.Requests.{twin, asked_in}

abbrev pub no_item : Item
no_item = item false 0 0 no_rules no_rules

-- the place of the marked member of a rank, and how many marked members stand before a place
abbrev pub place_next : Bool → ℕ → (ℕ → ℕ) → ℕ
place_next true zero later = 0
place_next true (suc i) later = suc (later i)
place_next false i later = suc (later i)

abbrev pub asked_place : List Item → ℕ → ℕ
asked_place [] i = 0
asked_place (x ∷ xs) i = place_next x.asked i (asked_place xs)

abbrev pub asked_rank : List Item → ℕ → ℕ
asked_rank [] k = 0
asked_rank (x ∷ xs) zero = 0
asked_rank (x ∷ xs) (suc k) = if x.asked then suc (asked_rank xs k) else asked_rank xs k

pub record Ranked (xs : List Item) (i : ℕ) : Type 0 where
  pub within : asked_place xs i < length xs
  pub asked : (get_or xs (asked_place xs i) no_item).asked ≡ true
  pub is : twin (get_or xs (asked_place xs i) no_item).here.node (get_or xs (asked_place xs i) no_item).there.node ≡ get_or (asked_in xs) i (twin 0 0)
  pub rank : asked_rank xs (asked_place xs i) ≡ i

-- the same where the first member is marked or not
abbrev RankedBehind : Item → List Item → Bool → ℕ → Type 0
RankedBehind x xs b i = (place_next b i (asked_place xs) < length (x ∷ xs)) × ((get_or (x ∷ xs) (place_next b i (asked_place xs)) no_item).asked ≡ true)
    × (twin (get_or (x ∷ xs) (place_next b i (asked_place xs)) no_item).here.node (get_or (x ∷ xs) (place_next b i (asked_place xs)) no_item).there.node
    ≡ get_or (if b then twin x.here.node x.there.node ∷ asked_in xs else asked_in xs) i (twin 0 0))
    × (asked_rank (x ∷ xs) (place_next b i (asked_place xs)) ≡ i)

ranked_first : (x : Item) (xs : List Item) (b : Bool) → x.asked ≡ b → (i : ℕ)
    → i < length (if b then twin x.here.node x.there.node ∷ asked_in xs else asked_in xs)
    → ((j : ℕ) → j < length (asked_in xs) → Ranked xs j) → RankedBehind x xs b i
ranked_first x xs true e zero l later = (omega arith, e, refl, refl)
ranked_first x xs true e (suc i) l later =
    let r = later i (omega (arith, l)) in
    let w = r.within in
    (omega (arith, w), r.asked, r.is, ap (λ b. if b then suc (asked_rank xs (asked_place xs i)) else asked_rank xs (asked_place xs i)) e ∙ ap suc r.rank)
ranked_first x xs false e i l later =
    let r = later i l in
    let w = r.within in
    (omega (arith, w), r.asked, r.is, ap (λ b. if b then suc (asked_rank xs (asked_place xs i)) else asked_rank xs (asked_place xs i)) e ∙ r.rank)

pub ranked : (xs : List Item) (i : ℕ) → i < length (asked_in xs) → Ranked xs i
ranked [] i l = absurd (omega (arith, l))
ranked (x ∷ xs) i l =
    let z = ranked_first x xs x.asked refl i l (ranked xs) in
    record { within = z.0; asked = z.1; is = z.2; rank = z.3 }

rank_first : (x : Item) (xs : List Item) (b : Bool) → x.asked ≡ b → (k : ℕ) → k < length (x ∷ xs) → (get_or (x ∷ xs) k no_item).asked ≡ true
    → ((j : ℕ) → j < length xs → (get_or xs j no_item).asked ≡ true → (asked_rank xs j < length (asked_in xs)) × (asked_place xs (asked_rank xs j) ≡ j))
    → (asked_rank (x ∷ xs) k < length (if b then twin x.here.node x.there.node ∷ asked_in xs else asked_in xs))
    × (place_next b (asked_rank (x ∷ xs) k) (asked_place xs) ≡ k)
rank_first x xs true e zero l on later = (omega arith, refl)
rank_first x xs false e zero l on later = absurd (cc (e, on))
rank_first x xs true e (suc k) l on later =
    let z = later k (omega (arith, l)) on in
    let w = z.0 in
    let f : asked_rank (x ∷ xs) (suc k) ≡ suc (asked_rank xs k) = ap (λ b. if b then suc (asked_rank xs k) else asked_rank xs k) e in
    (omega (arith, w, f), ap (λ j. place_next true j (asked_place xs)) f ∙ ap suc z.1)
rank_first x xs false e (suc k) l on later =
    let z = later k (omega (arith, l)) on in
    let w = z.0 in
    let f : asked_rank (x ∷ xs) (suc k) ≡ asked_rank xs k = ap (λ b. if b then suc (asked_rank xs k) else asked_rank xs k) e in
    (omega (arith, w, f), ap (λ j. place_next false j (asked_place xs)) f ∙ ap suc z.1)

pub rank_place : (xs : List Item) (k : ℕ) → k < length xs → (get_or xs k no_item).asked ≡ true
    → (asked_rank xs k < length (asked_in xs)) × (asked_place xs (asked_rank xs k) ≡ k)
rank_place [] k l on = absurd (omega (arith, l))
rank_place (x ∷ xs) k l on = rank_first x xs x.asked refl k l on (rank_place xs)

-- blocks one after another: where a block begins, and the block and the place in it of a number
abbrev pub total : List ℕ → ℕ
total [] = 0
total (n ∷ ns) = n + total ns

abbrev pub begins : List ℕ → ℕ → ℕ
begins [] q = 0
begins (n ∷ ns) zero = 0
begins (n ∷ ns) (suc q) = n + begins ns q

pub record In (ns : List ℕ) (i : ℕ) : Type 0 where
  pub block : ℕ
  pub place : ℕ
  pub within : block < length ns
  pub inside : place < get_or ns block 0
  pub is : begins ns block + place ≡ i

pub located : (ns : List ℕ) (i : ℕ) → i < total ns → In ns i
located [] i l = absurd (omega (arith, l))
located (n ∷ ns) i l = by (cases_lt i n) (λ h. located ns (i - n) h)
  where
    by : (i < n) ⊎ (n ≤ i) → (i - n < total ns → In ns (i - n)) → In (n ∷ ns) i
    by h later = ⊎_elim
        (λ (h : i < n). let r : In (n ∷ ns) i = record { block = 0; place = i; within = omega arith; inside = h; is = omega arith } in r)
        (λ (h : n ≤ i).
        let z = later (omega (arith, l, h)) in
        let w = z.within in
        let e = z.is in
        let r : In (n ∷ ns) i = record { block = suc z.block; place = z.place; within = omega (arith, w); inside = z.inside; is = omega (arith, e, h) } in
        r) h

pub within_total : (ns : List ℕ) (q : ℕ) → q < length ns → begins ns q + get_or ns q 0 ≤ total ns
within_total [] q l = absurd (omega (arith, l))
within_total (n ∷ ns) zero l = omega arith
within_total (n ∷ ns) (suc q) l = let e = within_total ns q (omega (arith, l)) in omega (arith, e)

-- two places in blocks are the same only where block and place are
pub apart_blocks : (ns : List ℕ) (p q a b : ℕ) → p < length ns → q < length ns → a < get_or ns p 0 → b < get_or ns q 0 → begins ns p + a ≡ begins ns q + b
    → (p ≡ q) × (a ≡ b)
apart_blocks [] p q a b hp hq ha hb e = absurd (omega (arith, hp))
apart_blocks (n ∷ ns) zero zero a b hp hq ha hb e = (refl, omega (arith, e))
apart_blocks (n ∷ ns) zero (suc q) a b hp hq ha hb e = absurd (omega (arith, ha, e))
apart_blocks (n ∷ ns) (suc p) zero a b hp hq ha hb e = absurd (omega (arith, hb, e))
apart_blocks (n ∷ ns) (suc p) (suc q) a b hp hq ha hb e =
    let z = apart_blocks ns p q a b (omega (arith, hp)) (omega (arith, hq)) ha hb (omega (arith, e)) in
    (ap suc z.0, z.1)

-- exchanges and maps
map_get : {A B : Type 0} (f : A → B) (xs : List A) (i : ℕ) (d : A) → get_or (map f xs) i (f d) ≡ f (get_or xs i d)
map_get f [] i d = refl
map_get f (x ∷ xs) zero d = refl
map_get f (x ∷ xs) (suc i) d = map_get f xs i d

map_set : {A B : Type 0} (f : A → B) (xs : List A) (i : ℕ) (y : A) → map f (set xs i y) ≡ set (map f xs) i (f y)
map_set f [] i y = refl
map_set f (x ∷ xs) zero y = refl
map_set f (x ∷ xs) (suc i) y = ap (λ l. f x ∷ l) (map_set f xs i y)

map_swap : {A B : Type 0} (f : A → B) (xs : List A) (i j : ℕ) → map f (swap xs i j) ≡ swap (map f xs) i j
map_swap f [] i j = refl
map_swap f (d ∷ ys) i j =
    map_set f (set (d ∷ ys) i (get_or (d ∷ ys) j d)) j (get_or (d ∷ ys) i d)
    ∙ (ap (λ l. set l j (f (get_or (d ∷ ys) i d))) (map_set f (d ∷ ys) i (get_or (d ∷ ys) j d))
    ∙ (ap (λ z. set (set (map f (d ∷ ys)) i z) j (f (get_or (d ∷ ys) i d))) (sym (map_get f (d ∷ ys) j d))
    ∙ ap (λ z. set (set (map f (d ∷ ys)) i (get_or (map f (d ∷ ys)) j (f d))) j z) (sym (map_get f (d ∷ ys) i d))))

pub map_swaps : {A B : Type 0} (f : A → B) (xs : List A) (moves : List (ℕ × ℕ)) → map f (apply_swaps xs moves) ≡ apply_swaps (map f xs) moves
map_swaps f xs [] = refl
map_swaps f xs (p ∷ ps) = map_swap f (apply_swaps xs ps) p.0 p.1 ∙ ap (λ l. swap l p.0 p.1) (map_swaps f xs ps)
