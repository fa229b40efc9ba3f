-- Each node of the net with shared bodies has one place in its order, and so has each of the net with copies.
--
-- C: the program with calls; P: that with copies; s, t: nodes of the two nets; c: a call; q: a procedure; y: a node of its
-- body; k: a place in the list of all nodes that aren't in a body or a copy.
use Rattle.std.proofs.Common.{◌≡◌, ℕ, zero, suc, ◌+◌, ◌-◌, ◌<◌, ◌≤◌, Bool, true, false, List, [], ◌∷◌, map, length, get_or, inl, inr, refl, sym, ap, ◌∙◌, subst, arith, ⊎_elim}
use Rattle.std.specs.Prelude.{◌⊎◌, ◌&&◌, not, if◌then◌else◌, replicate, nat_lt}
use Rattle.std.specs.List.Sorted.{apply_swaps}
use Rattle.std.proofs.lemmas.Bool.{cases_lt}
use Rattle.std.proofs.lemmas.Bool.Decides.{nat_tests}
use Rattle.std.proofs.lemmas.List.{length-map}
use Rattle.std.proofs.lemmas.List.Sorted.{length_permutation}
use Rattle.prs_core.specs.Pairs.{no_rules}
use Rattle.width_check.specs.Processes.{Process, skipping, TypedProgram}
use Rattle.handshake_expand.specs.Layout.{size_of}
use Rattle.net_compose.proofs.HalvedNodes.{Numbered, numbered}
use Rattle.net_compose.proofs.NumberedOnce.{nowhere as no_node, Standing, as_long, node_in, standing, one_place}
use Rattle.call_map.specs.Shared.{Here, plain, asks, answers, enters, body, There, plainly, asked, copied}
use Rattle.call_map.specs.CallNet.{CallProgram, inlined_program, procs_from, call_root, body_at, procs_size}
use Rattle.call_map.proofs.Items.{Item, CallPoint}
use Rattle.call_map.proofs.Requests.{Twin, twin, request_of, requests_of, asked_in}
use Rattle.call_map.proofs.Ranks.{no_item, asked_place, asked_rank, ranked, rank_place, total, begins, located, within_total, apart_blocks, map_swaps}
use Rattle.call_map.proofs.Merged.{nowhere}
use Rattle.call_map.proofs.CallNet.{points}
use Rattle.call_map.proofs.CallOrder.{get_mapped, CallFacts, both_items, marked_requests, exchanged, in_rank, blanks, blanks_long, rank_all}

tabulated : {A B : Type 0} (f : A → B) (g : ℕ → B) (d : A) (xs : List A) (from : ℕ) → ((i : ℕ) → i < length xs → g (from + i) ≡ f (get_or xs i d))
    → map f xs ≡ map (λ (x : Numbered). g x.node) (numbered from (replicate (length xs) no_rules))
tabulated f g d [] from h = refl
tabulated f g d (x ∷ xs) from h =
    ap (λ z. z ∷ map f xs) (sym (h 0 (omega arith)) ∙ ap g (let z : from + 0 ≡ from = omega arith in z))
    ∙ ap (λ l. g from ∷ l) (tabulated f g d xs (suc from) (λ i l. ap g (let z : suc from + i ≡ from + suc i = omega arith in z) ∙ h (suc i) (omega (arith, l))))

and_left : (a b : Bool) → (a && b) ≡ true → a ≡ true
and_left true b e = refl
and_left false b e = absurd (cc e)

and_right : (a b : Bool) → (a && b) ≡ true → b ≡ true
and_right true b e = e
and_right false b e = absurd (cc e)

not_true : (b : Bool) → not b ≡ true → b ≡ false
not_true true e = absurd (cc e)
not_true false e = refl

false_not : (b : Bool) → b ≡ false → not b ≡ true
false_not true e = absurd (cc e)
false_not false e = refl

module _ (C : CallProgram) (is : CallFacts C) where
  abbrev P : TypedProgram
  P = inlined_program C

  abbrev pub its : List Item
  its = both_items C is

  abbrev pub count_items : ℕ
  count_items = length its

  abbrev pub count_calls : ℕ
  count_calls = length (points C)

  abbrev pub point : ℕ → CallPoint
  point c = get_or (points C) c nowhere

  asked_long : length (asked_in its) ≡ count_calls
  asked_long = sym (length_permutation (asked_in its) (requests_of (points C)) (marked_requests C is)) ∙ length-map (points C) request_of

  rank_long : length (in_rank C is) ≡ count_calls
  rank_long = as_long (in_rank C is) (blanks C is) (rank_all C is) ∙ blanks_long C is

  abbrev id_at : ℕ → ℕ
  id_at i = (get_or (in_rank C is) i no_node).node

  id_below : (i : ℕ) → i < count_calls → id_at i < count_calls
  id_below i l =
      let a = (node_in (in_rank C is) (blanks C is) (rank_all C is) i (omega (arith, l, rank_long))).within in
      let b = blanks_long C is in
      omega (arith, a, b)

  -- the call of a marked node
  marked_is : (i : ℕ) → i < count_calls → get_or (asked_in its) i (twin 0 0) ≡ request_of (point (id_at i))
  marked_is i l =
      let h : Numbered → Twin = λ x. request_of (point x.node) in
      let e : requests_of (points C) ≡ map h (numbered 0 (blanks C is)) = tabulated request_of (λ k. request_of (point k)) nowhere (points C) 0
      (λ k less. ap (λ z. request_of (point z)) (let z : 0 + k ≡ k = omega arith in z)) in
      let whole : asked_in its ≡ map h (in_rank C is) =
      (exchanged C is).is ∙ (ap (λ l. apply_swaps l (exchanged C is).moves) e ∙ sym (map_swaps h (numbered 0 (blanks C is)) (exchanged C is).moves)) in
      ap (λ l. get_or l i (twin 0 0)) whole ∙ get_mapped h (in_rank C is) i no_node (twin 0 0) (omega (arith, l, rank_long))

  pub rank_found : (c : ℕ) → c < count_calls → Standing c (in_rank C is)
  rank_found c l = standing (in_rank C is) (blanks C is) (rank_all C is) c (let b = blanks_long C is in omega (arith, l, b))

  abbrev pub rank_by : (c : ℕ) → (c < count_calls) ⊎ (count_calls ≤ c) → ℕ
  rank_by c (inl l) = (rank_found c l).place
  rank_by c (inr l) = 0

  abbrev pub rank_of : ℕ → ℕ
  rank_of c = rank_by c (cases_lt c count_calls)

  rank_told : (c : ℕ) → c < count_calls → (h : (c < count_calls) ⊎ (count_calls ≤ c)) → (rank_by c h < count_calls) × (id_at (rank_by c h) ≡ c)
  rank_told c l (inl m) =
      let s = rank_found c m in
      let w = s.within in
      (omega (arith, w, rank_long), s.is)
  rank_told c l (inr m) = absurd (omega (arith, l, m))

  -- the node that is the request of a call
  abbrev pub ask_place : ℕ → ℕ
  ask_place c = asked_place its (rank_of c)

  pub record AskedAt (c : ℕ) : Type 0 where
    pub within : ask_place c < count_items
    pub asked : (get_or its (ask_place c) no_item).asked ≡ true
    pub here : (get_or its (ask_place c) no_item).here.node ≡ (point c).request
    pub there : (get_or its (ask_place c) no_item).there.node ≡ (point c).request_there
    pub rank : asked_rank its (ask_place c) ≡ rank_of c

  pub asked_at : (c : ℕ) → c < count_calls → AskedAt c
  asked_at c l =
      let t = rank_told c l (cases_lt c count_calls) in
      let low = t.0 in
      let r = ranked its (rank_of c) (omega (arith, low, asked_long)) in
      let e = r.is ∙ (marked_is (rank_of c) low ∙ ap (λ k. request_of (point k)) t.1) in
      record { within = r.within; asked = r.asked; here = ap (λ (z : Twin). z.here) e; there = ap (λ (z : Twin). z.there) e; rank = r.rank }

  abbrev call_at : ℕ → ℕ
  call_at k = id_at (asked_rank its k)

  call_at_told : (k : ℕ) → k < count_items → (get_or its k no_item).asked ≡ true → (call_at k < count_calls) × (ask_place (call_at k) ≡ k)
  call_at_told k l on =
      let z = rank_place its k l on in
      let w = z.0 in
      let low : asked_rank its k < count_calls = omega (arith, w, asked_long) in
      let below = id_below (asked_rank its k) low in
      let t = rank_told (call_at k) below (cases_lt (call_at k) count_calls) in
      let a = t.0 in (
        below,
        ap (asked_place its) (one_place (in_rank C is) (blanks C is) (rank_all C is) (rank_of (call_at k)) (asked_rank its k) (omega (arith, a, rank_long))
            (omega (arith, low, rank_long)) t.1) ∙ z.1,
      )

  ask_one : (c e : ℕ) → c < count_calls → e < count_calls → ask_place c ≡ ask_place e → c ≡ e
  ask_one c e lc le same =
      let a = asked_at c lc in
      let b = asked_at e le in
      let ranks : rank_of c ≡ rank_of e = sym a.rank ∙ (ap (asked_rank its) same ∙ b.rank) in
      sym (rank_told c lc (cases_lt c count_calls)).1 ∙ (ap id_at ranks ∙ (rank_told e le (cases_lt e count_calls)).1)

  -- the sizes of bodies with their requests, and of copies
  abbrev pub sizes : List ℕ
  sizes = map (λ (b : Process). 1 + size_of P b) C.procs

  abbrev pub sizes_there : List ℕ
  sizes_there = map (λ (c : CallPoint). size_of P (body_at C c.proc)) (points C)

  sizes_total : (bs : List Process) → total (map (λ (b : Process). 1 + size_of P b) bs) ≡ procs_size P bs
  sizes_total [] = refl
  sizes_total (b ∷ bs) = ap (λ n. 1 + size_of P b + n) (sizes_total bs)

  pub sizes_long : length sizes ≡ length C.procs
  sizes_long = length-map C.procs _

  pub sizes_there_long : length sizes_there ≡ count_calls
  sizes_there_long = length-map (points C) _

  pub size_at : (q : ℕ) → q < length C.procs → get_or sizes q 0 ≡ 1 + size_of P (body_at C q)
  size_at q l = get_mapped (λ (b : Process). 1 + size_of P b) C.procs q skipping 0 l

  pub size_there_at : (c : ℕ) → c < count_calls → get_or sizes_there c 0 ≡ size_of P (body_at C (point c).proc)
  size_there_at c l = get_mapped (λ (c : CallPoint). size_of P (body_at C c.proc)) (points C) c nowhere 0 l

  -- a node that is plain: a low one, or one that stands in both nets and isn't the request of a call
  abbrev pub plain_test : ℕ → Bool
  plain_test k = if nat_lt k (procs_from C) then true else nat_lt (k - procs_from C) count_items && not (get_or its (k - procs_from C) no_item).asked

  pub data PlainAt (k : ℕ) : Type 0 where
    a_low : k < procs_from C → PlainAt k
    an_item : procs_from C ≤ k → k - procs_from C < count_items → (get_or its (k - procs_from C) no_item).asked ≡ false → PlainAt k

  pub plain_at : (k : ℕ) → plain_test k ≡ true → PlainAt k
  plain_at k e = ⊎_elim (λ (h : k < procs_from C). a_low h) (λ (h : procs_from C ≤ k).
      let f : nat_lt k (procs_from C) ≡ false = grind (arith, nat_tests) in
      let g : (nat_lt (k - procs_from C) count_items && not (get_or its (k - procs_from C) no_item).asked) ≡ true =
      sym (ap (λ b. if b then true else nat_lt (k - procs_from C) count_items && not (get_or its (k - procs_from C) no_item).asked) f) ∙ e in
      an_item h (by_test (k - procs_from C) count_items
      (and_left (nat_lt (k - procs_from C) count_items) (not (get_or its (k - procs_from C) no_item).asked) g))
      (not_true _ (and_right (nat_lt (k - procs_from C) count_items) (not (get_or its (k - procs_from C) no_item).asked) g))) (cases_lt k (procs_from C))
    where
      by_test : (a b : ℕ) → nat_lt a b ≡ true → a < b
      by_test a b e = grind (arith, nat_tests)

  pub low_is_plain : (k : ℕ) → k < procs_from C → plain_test k ≡ true
  low_is_plain k l = ap (λ b. if b then true else nat_lt (k - procs_from C) count_items && not (get_or its (k - procs_from C) no_item).asked)
      (let f : nat_lt k (procs_from C) ≡ true = grind (arith, nat_tests) in f)

  pub item_is_plain : (k : ℕ) → k < count_items → (get_or its k no_item).asked ≡ false → plain_test (procs_from C + k) ≡ true
  item_is_plain k l off =
      let e : procs_from C + k - procs_from C ≡ k = omega arith in
      ap (λ b. if b then true else nat_lt (procs_from C + k - procs_from C) count_items && not (get_or its (procs_from C + k - procs_from C) no_item).asked)
      (let f : nat_lt (procs_from C + k) (procs_from C) ≡ false = grind (arith, nat_tests) in f)
      ∙ (ap (λ j. nat_lt j count_items && not (get_or its j no_item).asked) e
      ∙ (ap (λ b. b && not (get_or its k no_item).asked) (let f : nat_lt k count_items ≡ true = grind (arith, nat_tests) in f) ∙ false_not _ off))

  abbrev pub place : Here → ℕ
  place (plain k) = if nat_lt k (procs_from C) then k else call_root C + (k - procs_from C)
  place (asks c) = call_root C + ask_place c
  place (answers c) = call_root C + (count_items + c)
  place (enters q) = procs_from C + begins sizes q
  place (body q y) = procs_from C + (begins sizes q + suc y)

  abbrev pub place_there : There → ℕ
  place_there (plainly k) = k
  place_there (asked c) = procs_from C + ask_place c
  place_there (copied c y) = procs_from C + (count_items + (begins sizes_there c + y))

  abbrev pub IsNodeHere : Here → Type 0
  IsNodeHere (plain k) = plain_test k ≡ true
  IsNodeHere (asks c) = c < count_calls
  IsNodeHere (answers c) = c < count_calls
  IsNodeHere (enters q) = q < length C.procs
  IsNodeHere (body q y) = (q < length C.procs) × (y < size_of P (body_at C q))

  abbrev pub IsNodeThere : There → Type 0
  IsNodeThere (plainly k) = plain_test k ≡ true
  IsNodeThere (asked c) = c < count_calls
  IsNodeThere (copied c y) = (c < count_calls) × (y < size_of P (body_at C (point c).proc))

  pub place_low : (k : ℕ) → k < procs_from C → place (plain k) ≡ k
  place_low k l = ap (λ b. if b then k else call_root C + (k - procs_from C)) (let f : nat_lt k (procs_from C) ≡ true = grind (arith, nat_tests) in f)

  pub place_item : (k : ℕ) → procs_from C ≤ k → place (plain k) ≡ call_root C + (k - procs_from C)
  place_item k l = ap (λ b. if b then k else call_root C + (k - procs_from C)) (let f : nat_lt k (procs_from C) ≡ false = grind (arith, nat_tests) in f)

  all_sizes : total sizes ≡ procs_size P C.procs
  all_sizes = sizes_total C.procs

  -- bounds of places
  abbrev pub Bounds : Here → Type 0
  Bounds (plain k) =
      ((k < procs_from C) × (place (plain k) ≡ k)) ⊎
      ((procs_from C ≤ k) × (k - procs_from C < count_items) × (place (plain k) ≡ call_root C + (k - procs_from C)))
  Bounds (asks c) = ask_place c < count_items
  Bounds (answers c) = c < count_calls
  Bounds (enters q) = procs_from C + begins sizes q < call_root C
  Bounds (body q y) = procs_from C + (begins sizes q + suc y) < call_root C

  pub bounds : (s : Here) → IsNodeHere s → Bounds s
  bounds (plain k) h = by (plain_at k h)
    where
      by : PlainAt k → Bounds (plain k)
      by (a_low l) = inl (l, place_low k l)
      by (an_item l m off) = inr (l, m, place_item k l)
  bounds (asks c) h = (asked_at c h).within
  bounds (answers c) h = h
  bounds (enters q) h =
      let a = within_total sizes q (omega (arith, h, sizes_long)) in
      let b = size_at q h in
      omega (arith, a, b, all_sizes)
  bounds (body q y) h =
      let l = h.0 in
      let m = h.1 in
      let a = within_total sizes q (omega (arith, l, sizes_long)) in
      let b = size_at q l in
      omega (arith, a, b, all_sizes, m)

  -- one place for each
  plain_plain : (k l : ℕ) → plain_test k ≡ true → plain_test l ≡ true → place (plain k) ≡ place (plain l) → k ≡ l
  plain_plain k l hk hl e = by (bounds (plain k) hk) (bounds (plain l) hl)
    where
      by : Bounds (plain k) → Bounds (plain l) → k ≡ l
      by (inl a) (inl b) = sym a.1 ∙ (e ∙ b.1)
      by (inl a) (inr b) = absurd (let x = a.0 in let y = a.1 in let z = b.2 in omega (arith, e, x, y, z))
      by (inr a) (inl b) = absurd (let x = b.0 in let y = b.1 in let z = a.2 in omega (arith, e, x, y, z))
      by (inr a) (inr b) = let x = a.0 in let y = b.0 in let z = a.2 in let w = b.2 in omega (arith, e, x, y, z, w)

  plain_asks : (k c : ℕ) → plain_test k ≡ true → c < count_calls → place (plain k) ≡ place (asks c) → ⊥
  plain_asks k c hk hc e = by (plain_at k hk)
    where
      by : PlainAt k → ⊥
      by (a_low l) = let z = place_low k l in omega (arith, e, l, z)
      by (an_item l m off) =
          let z = place_item k l in
          let same : k - procs_from C ≡ ask_place c = omega (arith, e, z) in
          cc (sym off ∙ (ap (λ j. (get_or its j no_item).asked) same ∙ (asked_at c hc).asked))

  -- a plain node stands apart from what lies among the bodies, and from answers
  plain_bodies : (k n : ℕ) → plain_test k ≡ true → place (plain k) ≡ procs_from C + n → procs_from C + n < call_root C → ⊥
  plain_bodies k n hk e l = by (bounds (plain k) hk)
    where
      by : Bounds (plain k) → ⊥
      by (inl a) = let x = a.0 in let y = a.1 in omega (arith, e, x, y)
      by (inr a) = let z = a.2 in omega (arith, e, z, l)

  plain_answers : (k c : ℕ) → plain_test k ≡ true → place (plain k) ≡ call_root C + (count_items + c) → ⊥
  plain_answers k c hk e = by (bounds (plain k) hk)
    where
      by : Bounds (plain k) → ⊥
      by (inl a) = let x = a.0 in let y = a.1 in omega (arith, e, x, y)
      by (inr a) = let m = a.1 in let z = a.2 in omega (arith, e, z, m)

  bodies_apart : (p q a b : ℕ) → p < length C.procs → q < length C.procs → a < 1 + size_of P (body_at C p) → b < 1 + size_of P (body_at C q)
      → begins sizes p + a ≡ begins sizes q + b → (p ≡ q) × (a ≡ b)
  bodies_apart p q a b hp hq ha hb e =
      let x = size_at p hp in
      let y = size_at q hq in
      apart_blocks sizes p q a b (omega (arith, hp, sizes_long)) (omega (arith, hq, sizes_long)) (omega (arith, ha, x)) (omega (arith, hb, y)) e

  pub one_here : (s t : Here) → IsNodeHere s → IsNodeHere t → place s ≡ place t → s ≡ t
  one_here (plain k) (plain l) hs ht e = ap (λ z. plain z) (plain_plain k l hs ht e)
  one_here (plain k) (asks d) hs ht e = absurd (plain_asks k d hs ht e)
  one_here (plain k) (answers b) hs ht e = absurd (plain_answers k b hs e)
  one_here (plain k) (enters q) hs ht e = absurd (plain_bodies k (begins sizes q) hs e (bounds (enters q) ht))
  one_here (plain k) (body q y) hs ht e = absurd (plain_bodies k (begins sizes q + suc y) hs e (bounds (body q y) ht))
  one_here (asks c) (plain l) hs ht e = absurd (plain_asks l c ht hs (sym e))
  one_here (asks c) (asks d) hs ht e = ap (λ z. asks z) (ask_one c d hs ht (omega (arith, e)))
  one_here (asks c) (answers b) hs ht e = absurd (let f = bounds (asks c) hs in let g = bounds (answers b) ht in omega (arith, e, f, g))
  one_here (asks c) (enters q) hs ht e = absurd (let f = bounds (asks c) hs in let g = bounds (enters q) ht in omega (arith, e, f, g))
  one_here (asks c) (body q y) hs ht e = absurd (let f = bounds (asks c) hs in let g = bounds (body q y) ht in omega (arith, e, f, g))
  one_here (answers a) (plain l) hs ht e = absurd (plain_answers l a ht (sym e))
  one_here (answers a) (asks d) hs ht e = absurd (let f = bounds (answers a) hs in let g = bounds (asks d) ht in omega (arith, e, f, g))
  one_here (answers a) (answers b) hs ht e = ap (λ z. answers z) (omega (arith, e))
  one_here (answers a) (enters q) hs ht e = absurd (let f = bounds (answers a) hs in let g = bounds (enters q) ht in omega (arith, e, f, g))
  one_here (answers a) (body q y) hs ht e = absurd (let f = bounds (answers a) hs in let g = bounds (body q y) ht in omega (arith, e, f, g))
  one_here (enters p) (plain l) hs ht e = absurd (plain_bodies l (begins sizes p) ht (sym e) (bounds (enters p) hs))
  one_here (enters p) (asks d) hs ht e = absurd (let f = bounds (enters p) hs in let g = bounds (asks d) ht in omega (arith, e, f, g))
  one_here (enters p) (answers b) hs ht e = absurd (let f = bounds (enters p) hs in let g = bounds (answers b) ht in omega (arith, e, f, g))
  one_here (enters p) (enters q) hs ht e = (
      let lp = hs in
      let lq = ht in
      let z = bodies_apart p q (0) (0) lp lq (omega arith) (omega arith) (omega (arith, e)) in
      ap (λ j. enters j) z.0)
  one_here (enters p) (body q y) hs ht e = (
      let lp = hs in
      let lq = ht.0 in
      let ly = ht.1 in
      let z = bodies_apart p q (0) (suc y) lp lq (omega arith) (omega (arith, ly)) (omega (arith, e)) in
      absurd (let f = z.1 in omega (arith, f)))
  one_here (body p x) (plain l) hs ht e = absurd (plain_bodies l (begins sizes p + suc x) ht (sym e) (bounds (body p x) hs))
  one_here (body p x) (asks d) hs ht e = absurd (let f = bounds (body p x) hs in let g = bounds (asks d) ht in omega (arith, e, f, g))
  one_here (body p x) (answers b) hs ht e = absurd (let f = bounds (body p x) hs in let g = bounds (answers b) ht in omega (arith, e, f, g))
  one_here (body p x) (enters q) hs ht e = (
      let lp = hs.0 in
      let lq = ht in
      let lx = hs.1 in
      let z = bodies_apart p q (suc x) (0) lp lq (omega (arith, lx)) (omega arith) (omega (arith, e)) in
      absurd (let f = z.1 in omega (arith, f)))
  one_here (body p x) (body q y) hs ht e = (
      let lp = hs.0 in
      let lq = ht.0 in
      let lx = hs.1 in
      let ly = ht.1 in
      let z = bodies_apart p q (suc x) (suc y) lp lq (omega (arith, lx)) (omega (arith, ly)) (omega (arith, e)) in
      let xy : x ≡ y = (let f = z.1 in omega (arith, f)) in
      ap (λ j. body j x) z.0 ∙ ap (λ j. body q j) xy)

  plain_asked : (k c : ℕ) → plain_test k ≡ true → c < count_calls → k ≡ procs_from C + ask_place c → ⊥
  plain_asked k c hk hc e = by (plain_at k hk)
    where
      by : PlainAt k → ⊥
      by (a_low l) = omega (arith, e, l)
      by (an_item l m off) =
          let same : k - procs_from C ≡ ask_place c = omega (arith, e) in
          cc (sym off ∙ (ap (λ j. (get_or its j no_item).asked) same ∙ (asked_at c hc).asked))

  plain_copied : (k n : ℕ) → plain_test k ≡ true → k ≡ procs_from C + (count_items + n) → ⊥
  plain_copied k n hk e = by (plain_at k hk)
    where
      by : PlainAt k → ⊥
      by (a_low l) = omega (arith, e, l)
      by (an_item l m off) = omega (arith, e, l, m)

  pub one_there : (s t : There) → IsNodeThere s → IsNodeThere t → place_there s ≡ place_there t → s ≡ t
  one_there (plainly k) (plainly l) hs ht e = ap (λ z. plainly z) e
  one_there (plainly k) (asked d) hs ht e = absurd (plain_asked k d hs ht e)
  one_there (asked c) (plainly l) hs ht e = absurd (plain_asked l c ht hs (sym e))
  one_there (asked c) (asked d) hs ht e = ap (λ z. asked z) (ask_one c d hs ht (omega (arith, e)))
  one_there (plainly k) (copied d y) hs ht e = absurd (plain_copied k (begins sizes_there d + y) hs e)
  one_there (copied c x) (plainly l) hs ht e = absurd (plain_copied l (begins sizes_there c + x) ht (sym e))
  one_there (asked c) (copied d y) hs ht e = absurd (let f = (asked_at c hs).within in omega (arith, e, f))
  one_there (copied c x) (asked d) hs ht e = absurd (let f = (asked_at d ht).within in omega (arith, e, f))
  one_there (copied c x) (copied d y) hs ht e =
      let lc = hs.0 in
      let ld = ht.0 in
      let lx = hs.1 in
      let ly = ht.1 in
      let a = size_there_at c lc in
      let b = size_there_at d ld in
      let z = apart_blocks sizes_there c d x y (omega (arith, lc, sizes_there_long)) (omega (arith, ld, sizes_there_long)) (omega (arith, lx, a))
      (omega (arith, ly, b)) (omega (arith, e)) in
      ap (λ j. copied j x) z.0 ∙ ap (λ j. copied d j) z.1

  -- each place is that of a node
  pub record StandsHere (i : ℕ) : Type 0 where
    pub node : Here
    pub fine : IsNodeHere node
    pub stands : place node ≡ i

  pub record StandsThere (i : ℕ) : Type 0 where
    pub node : There
    pub fine : IsNodeThere node
    pub stands : place_there node ≡ i

  item_here : (k : ℕ) → k < count_items → (b : Bool) → (get_or its k no_item).asked ≡ b → StandsHere (call_root C + k)
  item_here k l true on = let z = call_at_told k l on in record { node = asks (call_at k); fine = z.0; stands = ap (λ j. call_root C + j) z.1 }
  item_here k l false off =
      let e = place_item (procs_from C + k) (omega arith) in
      record { node = plain (procs_from C + k); fine = item_is_plain k l off; stands = omega (arith, e) }

  item_there : (k : ℕ) → k < count_items → (b : Bool) → (get_or its k no_item).asked ≡ b → StandsThere (procs_from C + k)
  item_there k l true on = let z = call_at_told k l on in record { node = asked (call_at k); fine = z.0; stands = ap (λ j. procs_from C + j) z.1 }
  item_there k l false off = record { node = plainly (procs_from C + k); fine = item_is_plain k l off; stands = refl }

  in_body : (q y : ℕ) → q < length C.procs → y < 1 + size_of P (body_at C q) → StandsHere (procs_from C + (begins sizes q + y))
  in_body q zero l h = record { node = enters q; fine = l; stands = omega arith }
  in_body q (suc y) l h = record { node = body q y; fine = (l, omega (arith, h)); stands = refl }

  pub stands_here : (i : ℕ) → i < call_root C + (count_items + count_calls) → StandsHere i
  stands_here i l = ⊎_elim
      (λ (a : i < procs_from C). let r : StandsHere i = record { node = plain i; fine = low_is_plain i a; stands = place_low i a } in r)
      (λ (a : procs_from C ≤ i). ⊎_elim
      (λ (b : i < call_root C).
      let z = located sizes (i - procs_from C) (omega (arith, a, b, all_sizes)) in
      let w = z.within in
      let v = z.inside in
      let e = z.is in
      let q : z.block < length C.procs = omega (arith, w, sizes_long) in
      let s = size_at z.block q in
      let f : procs_from C + (begins sizes z.block + z.place) ≡ i = omega (arith, e, a) in
      subst StandsHere f (in_body z.block z.place q (omega (arith, v, s))))
      (λ (b : call_root C ≤ i). ⊎_elim
      (λ (c : i - call_root C < count_items).
      let f : call_root C + (i - call_root C) ≡ i = omega (arith, b) in
      subst StandsHere f (item_here (i - call_root C) c (get_or its (i - call_root C) no_item).asked refl))
      (λ (c : count_items ≤ i - call_root C).
      let r : StandsHere i = record { node = answers (i - call_root C - count_items); fine = omega (arith, l, b, c); stands = omega (arith, b, c) } in r)
      (cases_lt (i - call_root C) count_items))
      (cases_lt i (call_root C)))
      (cases_lt i (procs_from C))

  pub stands_there : (i : ℕ) → i < procs_from C + (count_items + total sizes_there) → StandsThere i
  stands_there i l = ⊎_elim
      (λ (a : i < procs_from C). let r : StandsThere i = record { node = plainly i; fine = low_is_plain i a; stands = refl } in r)
      (λ (a : procs_from C ≤ i). ⊎_elim
      (λ (c : i - procs_from C < count_items).
      let f : procs_from C + (i - procs_from C) ≡ i = omega (arith, a) in
      subst StandsThere f (item_there (i - procs_from C) c (get_or its (i - procs_from C) no_item).asked refl))
      (λ (c : count_items ≤ i - procs_from C).
      let z = located sizes_there (i - procs_from C - count_items) (omega (arith, a, c, l)) in
      let w = z.within in
      let v = z.inside in
      let e = z.is in
      let q : z.block < count_calls = omega (arith, w, sizes_there_long) in
      let s = size_there_at z.block q in
      let r : StandsThere i = record { node = copied z.block z.place; fine = (q, omega (arith, v, s)); stands = omega (arith, e, a, c) } in
      r)
      (cases_lt (i - procs_from C) count_items))
      (cases_lt i (procs_from C))
