-- The list of a set of nodes, where a node is put into the set or taken out of it.
use Rattle.std.proofs.Common.{◌≡◌, ℕ, zero, suc, ◌+◌, ◌-◌, ◌<◌, ◌≤◌, Bool, true, false, cond, ltb, List, [], ◌∷◌, ◌++◌, length, get_or, set, take, drop, filter, refl, sym, ap, subst, ◌∙◌, inl, inr, arith}
use Rattle.std.specs.Prelude.{◌⊎◌, ◌&&◌, All, Result, Ok, Err}
use Rattle.std.specs.List.{range_with_len, insert, remove}
use Rattle.std.proofs.lemmas.Bool.{lt-ltb, le-ltb, ltb-true, and_parts, cases_eq, cases_order, cases_lt, both_ways}
use Rattle.std.proofs.lemmas.List.{append-nil, append_assoc, length-append, length-set, length_push, get_or-set_same, get_or-set_other, get_or_append_left, get_or-append_right, get_or_at, take_at, drop_at, take_more, take_all, drop_all, drop-drop, length-drop, length-take-le, get_or-take}
use Rattle.std.specs.List.Sorted.{IsBinarySearchResult}
use Rattle.std.specs.Ordering.{nat_cmp}
use Rattle.std.proofs.lemmas.List.Sorted.{searched}
use mathlib.Core.Bool.{beq}
use borrow.Rule.Slice.PartMut.{put_mid, mid_of}
use Rattle.std.proofs.lemmas.List.Elements.{filter_agree, filter_passes, All-filter}
use Rattle.event_sim.specs.Locality.{is_member, members, IsListPlace}
use Rattle.event_sim.proofs.Lists.{passes_suc}
use Rattle.event_sim.proofs.Following.{ascending, range_below}

pub agree_below : (p q : ℕ → Bool) (n : ℕ) → ((k : ℕ) → k < n → p k ≡ q k) → filter p (range_with_len 0 n) ≡ filter q (range_with_len 0 n)
agree_below p q zero agree = refl
agree_below p q (suc n) agree =
    passes_suc p n ∙ ap (λ (xs : List ℕ). xs ++ cond (p n) (n ∷ []) []) (agree_below p q n (λ k less. agree k (omega arith)))
    ∙ ap (λ b. filter q (range_with_len 0 n) ++ cond b (n ∷ []) []) (agree n (omega arith)) ∙ sym (passes_suc q n)

pub none_below : (p : ℕ → Bool) (n : ℕ) → ((k : ℕ) → k < n → p k ≡ false) → filter p (range_with_len 0 n) ≡ []
none_below p zero none = refl
none_below p (suc n) none =
    passes_suc p n ∙ ap (λ (xs : List ℕ). xs ++ cond (p n) (n ∷ []) []) (none_below p n (λ k less. none k (omega arith)))
    ∙ ap (λ b. cond b (n ∷ []) []) (none n (omega arith))

-- the nodes of a list that stand behind a node
abbrev behind : (ℕ → Bool) → ℕ → ℕ → List ℕ
behind p n count = filter (λ k. ltb n k && p k) (range_with_len 0 count)

split : (p : ℕ → Bool) (n count : ℕ) → n < count → filter p (range_with_len 0 count) ≡ filter p (range_with_len 0 n)
    ++ (cond (p n) (n ∷ []) [] ++ behind p n count)
split p n zero within = absurd (omega arith)
split p n (suc m) within = by_place (cases_eq n m) (λ less. split p n m less)
  where
    by_place : (n ≡ m) ⊎ (n ≡ m → ⊥) → (n < m → filter p (range_with_len 0 m) ≡ filter p (range_with_len 0 n) ++ (cond (p n) (n ∷ []) [] ++ behind p n m)) →
        filter p (range_with_len 0 (suc m)) ≡ filter p (range_with_len 0 n) ++ (cond (p n) (n ∷ []) [] ++ behind p n (suc m))
    by_place (inl same) rest =
        passes_suc p m ∙ ap (λ k. filter p (range_with_len 0 k) ++ cond (p k) (k ∷ []) []) (sym same)
        ∙ ap (λ (xs : List ℕ). filter p (range_with_len 0 n) ++ xs) (sym (append-nil (cond (p n) (n ∷ []) [])
        ∙ refl) ∙ ap (λ (xs : List ℕ). cond (p n) (n ∷ []) [] ++ xs) (sym nothing))
      where
        nothing : behind p n (suc m) ≡ []
        nothing = none_below (λ k. ltb n k && p k) (suc m) (λ k less. ap (λ b. b && p k) (le-ltb n k (omega arith)))
    by_place (inr apart) rest =
        let less : n < m = omega arith in
        let more : behind p n (suc m) ≡ behind p n m ++ cond (p m) (m ∷ []) [] =
        passes_suc (λ k. ltb n k && p k) m ∙ ap (λ b. behind p n m ++ cond (b && p m) (m ∷ []) []) (lt-ltb n m less) in
        passes_suc p m ∙ ap (λ (xs : List ℕ). xs ++ cond (p m) (m ∷ []) []) (rest less)
        ∙ append_assoc (filter p (range_with_len 0 n)) (cond (p n) (n ∷ []) [] ++ behind p n m) (cond (p m) (m ∷ []) [])
        ∙ ap (λ (xs : List ℕ). filter p (range_with_len 0 n) ++ xs)
        (append_assoc (cond (p n) (n ∷ []) []) (behind p n m) (cond (p m) (m ∷ []) []) ∙ ap (λ (xs : List ℕ). cond (p n) (n ∷ []) [] ++ xs) (sym more))

front_below : (p : ℕ → Bool) (n : ℕ) → All (λ k. k < n) (filter p (range_with_len 0 n))
front_below p n = All-filter p (λ k. k < n) (range_with_len 0 n) (range_below n)

back_above : (p : ℕ → Bool) (n count : ℕ) → All (λ k. n < k) (behind p n count)
back_above p n count = λ k d within. ltb-true n _ (and_parts _ _ (filter_passes (λ j. ltb n j && p j) (range_with_len 0 count) k d within)).0

abbrev front_of : List Bool → ℕ → List ℕ
front_of marks n = filter (is_member marks) (range_with_len 0 n)

abbrev back_of : List Bool → ℕ → List ℕ
back_of marks n = behind (is_member marks) n (length marks)

with_node : (marks : List Bool) (n : ℕ) → n < length marks → is_member marks n ≡ true → members marks ≡ front_of marks n ++ n ∷ back_of marks n
with_node marks n within is =
    split (is_member marks) n (length marks) within ∙ ap (λ b. front_of marks n ++ (cond b (n ∷ []) [] ++ back_of marks n)) is

without_node : (marks : List Bool) (n : ℕ) → n < length marks → is_member marks n ≡ false → members marks ≡ front_of marks n ++ back_of marks n
without_node marks n within is =
    split (is_member marks) n (length marks) within ∙ ap (λ b. front_of marks n ++ (cond b (n ∷ []) [] ++ back_of marks n)) is

-- the others stay
front_same : (marks : List Bool) (n : ℕ) (b : Bool) → front_of (set marks n b) n ≡ front_of marks n
front_same marks n b =
    agree_below (is_member (set marks n b)) (is_member marks) n (λ k less. get_or-set_other marks n k b false (omega arith))

back_same : (marks : List Bool) (n : ℕ) (b : Bool) → back_of (set marks n b) n ≡ back_of marks n
back_same marks n b =
    ap (λ count. behind (is_member (set marks n b)) n count) (length-set marks n b)
    ∙ filter_agree (λ k. ltb n k && is_member (set marks n b) k) (λ k. ltb n k && is_member marks k) each (range_with_len 0 (length marks))
  where
    each : (k : ℕ) → (ltb n k && is_member (set marks n b) k) ≡ (ltb n k && is_member marks k)
    each k = by_order (ltb n k) refl
      where
        by_order : (t : Bool) → ltb n k ≡ t → (t && is_member (set marks n b) k) ≡ (t && is_member marks k)
        by_order true less = let above = ltb-true n k less in get_or-set_other marks n k b false (omega arith)
        by_order false less = refl

set_in : (marks : List Bool) (n : ℕ) → n < length marks → members (set marks n true) ≡ front_of marks n ++ n ∷ back_of marks n
set_in marks n within =
    with_node (set marks n true) n (omega (arith, length-set marks n true)) (get_or-set_same marks n true false within)
    ∙ ap (λ (xs : List ℕ). xs ++ n ∷ back_of (set marks n true) n) (front_same marks n true)
    ∙ ap (λ (xs : List ℕ). front_of marks n ++ n ∷ xs) (back_same marks n true)

set_out : (marks : List Bool) (n : ℕ) → n < length marks → members (set marks n false) ≡ front_of marks n ++ back_of marks n
set_out marks n within =
    without_node (set marks n false) n (omega (arith, length-set marks n false)) (get_or-set_same marks n false false within)
    ∙ ap (λ (xs : List ℕ). xs ++ back_of (set marks n false) n) (front_same marks n false)
    ∙ ap (λ (xs : List ℕ). front_of marks n ++ xs) (back_same marks n false)

-- the place in the list

place_between : (xs ys : List ℕ) (n i : ℕ) → All (λ k. k < n) xs → All (λ k. n < k) ys → i ≤ length (xs ++ ys) →
    ((k : ℕ) → k < i → get_or (xs ++ ys) k 0 < n) → ((k : ℕ) → i ≤ k → k < length (xs ++ ys) → n < get_or (xs ++ ys) k 0) → i ≡ length xs
place_between xs ys n i below above within less more = by_order (cases_order i (length xs))
  where
    whole : length (xs ++ ys) ≡ length xs + length ys
    whole = length-append xs ys

    by_order : (i ≡ length xs) ⊎ ((i < length xs) ⊎ (length xs < i)) → i ≡ length xs
    by_order (inl same) = same
    by_order (inr (inl before)) =
        let one = below i 0 before in
        let two = more i (omega arith) (omega (arith, whole)) in
        absurd (omega (arith, get_or_append_left xs ys 0 i before))
    by_order (inr (inr past)) =
        let one = less (length xs) past in
        let two = above 0 0 (omega (arith, whole)) in
        let none : length xs - length xs ≡ 0 = omega arith in
        absurd (omega (arith, get_or-append_right xs ys (length xs) (length xs) 0 refl (omega arith), ap (λ k. get_or ys k 0) none))

place_at : (xs ys : List ℕ) (n i : ℕ) → All (λ k. k < n) xs → All (λ k. n < k) ys → i < length (xs ++ n ∷ ys) → get_or (xs ++ n ∷ ys) i 0 ≡ n → i ≡ length xs
place_at xs ys n i below above within here = by_order (cases_order i (length xs))
  where
    whole : length (xs ++ n ∷ ys) ≡ length xs + suc (length ys)
    whole = length-append xs (n ∷ ys)

    by_order : (i ≡ length xs) ⊎ ((i < length xs) ⊎ (length xs < i)) → i ≡ length xs
    by_order (inl same) = same
    by_order (inr (inl before)) =
        let one = below i 0 before in
        absurd (omega (arith, get_or_append_left xs (n ∷ ys) 0 i before))
    by_order (inr (inr past)) =
        let rest : i - length xs ≡ suc (i - length xs - 1) = omega arith in
        let two = above (i - length xs - 1) 0 (omega (arith, whole)) in
        absurd (omega (arith, get_or-append_right xs (n ∷ ys) (length xs) i 0 refl (omega arith), ap (λ k. get_or (n ∷ ys) k 0) rest))

insert_there : (xs ys : List ℕ) (n i : ℕ) → i ≡ length xs → insert (xs ++ ys) i n ≡ xs ++ n ∷ ys
insert_there xs ys n i at =
    ap (λ (zs : List ℕ). zs ++ n ∷ drop i (xs ++ ys)) (take_at xs ys i (sym at)) ∙ ap (λ (zs : List ℕ). xs ++ n ∷ zs) (drop_at xs ys i (sym at))

remove_there : (xs ys : List ℕ) (n i : ℕ) → i ≡ length xs → remove (xs ++ n ∷ ys) i ≡ xs ++ ys
remove_there xs ys n i at =
    ap (λ (zs : List ℕ). zs ++ drop (suc i) (xs ++ n ∷ ys)) (take_at xs (n ∷ ys) i (sym at))
    ∙ ap (λ (zs : List ℕ). xs ++ zs) (ap (drop (suc i)) (sym (append_assoc xs (n ∷ []) ys)) ∙ drop_at (xs ++ n ∷ []) ys (suc i)
    (omega (arith, length_push xs n)))

-- a list of members is ascending
pub rises : (marks : List Bool) (i j : ℕ) → i ≤ j → j < length (members marks) → get_or (members marks) i 0 ≤ get_or (members marks) j 0
rises marks i j order within = by_place (cases_eq i j)
  where
    by_place : (i ≡ j) ⊎ (i ≡ j → ⊥) → get_or (members marks) i 0 ≤ get_or (members marks) j 0
    by_place (inl same) = omega (arith, ap (λ k. get_or (members marks) k 0) same)
    by_place (inr apart) = let less = ascending (is_member marks) 0 (length marks) i j 0 (omega arith) within in omega arith

-- a node is inserted where the search ends
pub put_there : (marks : List Bool) (nodes : List ℕ) (n i : ℕ) → nodes ≡ members marks → n < length marks → is_member marks n ≡ false → i ≤ length nodes →
    ((k : ℕ) → k < i → get_or nodes k 0 < n) → ((k : ℕ) → i ≤ k → k < length nodes → n < get_or nodes k 0) → insert nodes i n ≡ members (set marks n true)
put_there marks nodes n i are within isnt bound less more =
    let parts : nodes ≡ front_of marks n ++ back_of marks n = are ∙ without_node marks n within isnt in
    let at : i ≡ length (front_of marks n) = place_between (front_of marks n) (back_of marks n) n i (front_below (is_member marks) n)
    (back_above (is_member marks) n (length marks)) (omega (arith, ap length parts))
    (subst (λ (xs : List ℕ). (k : ℕ) → k < i → get_or xs k 0 < n) parts less)
    (subst (λ (xs : List ℕ). (k : ℕ) → i ≤ k → k < length xs → n < get_or xs k 0) parts more) in
    ap (λ (xs : List ℕ). insert xs i n) parts ∙ insert_there (front_of marks n) (back_of marks n) n i at ∙ sym (set_in marks n within)

-- and removed where it is found
pub take_there : (marks : List Bool) (nodes : List ℕ) (n i : ℕ) → nodes ≡ members marks → n < length marks → is_member marks n ≡ true → i < length nodes →
    get_or nodes i 0 ≡ n → remove nodes i ≡ members (set marks n false)
take_there marks nodes n i are within is bound here =
    let parts : nodes ≡ front_of marks n ++ n ∷ back_of marks n = are ∙ with_node marks n within is in
    let at : i ≡ length (front_of marks n) = place_at (front_of marks n) (back_of marks n) n i (front_below (is_member marks) n)
    (back_above (is_member marks) n (length marks)) (omega (arith, ap length parts)) (ap (λ (xs : List ℕ). get_or xs i 0) (sym parts) ∙ here) in
    ap (λ (xs : List ℕ). remove xs i) parts ∙ remove_there (front_of marks n) (back_of marks n) n i at ∙ sym (set_out marks n within)

-- a member stands in the list at some place, so the list is not that of another search
pub not_missed : (marks : List Bool) (nodes : List ℕ) (n i : ℕ) → nodes ≡ members marks → n < length marks → is_member marks n ≡ true →
    ((k : ℕ) → k < i → get_or nodes k 0 < n) → ((k : ℕ) → i ≤ k → k < length nodes → n < get_or nodes k 0) → ⊥
not_missed marks nodes n i are within is less more = by_order (cases_lt (length (front_of marks n)) i)
  where
    parts : nodes ≡ front_of marks n ++ n ∷ back_of marks n
    parts = are ∙ with_node marks n within is

    at : get_or nodes (length (front_of marks n)) 0 ≡ n
    at = ap (λ (xs : List ℕ). get_or xs (length (front_of marks n)) 0) parts ∙ get_or_at (front_of marks n) n (back_of marks n) 0 _ refl

    by_order : (length (front_of marks n) < i) ⊎ (i ≤ length (front_of marks n)) → ⊥
    by_order (inl before) = let under = less _ before in omega (arith, at)
    by_order (inr past) =
        let over = more _ past (omega (arith, ap length parts, length-append (front_of marks n) (n ∷ back_of marks n))) in
        omega (arith, at)

-- a node that isn't a member isn't found
pub not_found : (marks : List Bool) (nodes : List ℕ) (n i : ℕ) → nodes ≡ members marks → is_member marks n ≡ false → i < length nodes → get_or nodes i 0 ≡ n → ⊥
not_found marks nodes n i are isnt within here =
    let passes = filter_passes (is_member marks) (range_with_len 0 (length marks)) i 0 (omega (arith, ap length are)) in
    both_ways (is_member marks n) isnt (ap (is_member marks) (sym here ∙ ap (λ (xs : List ℕ). get_or xs i 0) are) ∙ passes)

pub rises_as : (marks : List Bool) (nodes : List ℕ) → nodes ≡ members marks → (i j : ℕ) → i ≤ j → j < length nodes → get_or nodes i 0 ≤ get_or nodes j 0
rises_as marks nodes are = subst (λ (xs : List ℕ). (i j : ℕ) → i ≤ j → j < length xs → get_or xs i 0 ≤ get_or xs j 0) (sym are) (rises marks)

-- what turning the front of a part leaves, where the list begins one slot behind then
pub pulled_out : (xs part : List ℕ) (from place k n : ℕ) → k ≡ place + 1 → from + place < length xs → n ≡ length xs →
    part ≡ drop place (mid_of from k xs) ++ take place (mid_of from k xs) →
    drop (from + 1) (take n (put_mid from k xs part ++ drop (length (put_mid from k xs part)) xs)) ≡ remove (drop from xs) place
pulled_out xs part from place k n is within all turned =
    let whole : length (put_mid from k xs part) ≡ length xs = omega (
      arith,
      ap length made,
      length-append (take from xs) (x ∷ kept),
      length-take-le from xs (omega arith),
      length-append (take place rest) (drop k rest),
      length-take-le place rest (omega (arith, left)),
      length-drop k rest,
      left,
    ) in
    ap (drop (from + 1)) (ap (λ (ys : List ℕ). take n (put_mid from k xs part ++ ys)) (drop_all (length (put_mid from k xs part)) xs (omega (arith, whole)))
    ∙ ap (take n) (append-nil (put_mid from k xs part)) ∙ take_all n (put_mid from k xs part) (omega (arith, whole)) ∙ made)
    ∙ sym (drop-drop 1 from (take from xs ++ x ∷ kept)) ∙ ap (drop 1) (drop_at (take from xs) (x ∷ kept) from (length-take-le from xs (omega arith)))
    ∙ ap (λ (i : ℕ). take place rest ++ drop i rest) (is ∙ next)
  where
    rest : List ℕ
    rest = drop from xs

    left : length rest ≡ length xs - from
    left = length-drop from xs

    next : place + 1 ≡ suc place
    next = omega arith

    x : ℕ
    x = get_or rest place 0

    kept : List ℕ
    kept = take place rest ++ drop k rest

    mid : mid_of from k xs ≡ take place rest ++ x ∷ []
    mid = ap (λ i. take i rest) is ∙ take_more rest place 0 (omega (arith, left))

    first : part ≡ x ∷ take place rest
    first = turned ∙ ap (λ (ys : List ℕ). drop place ys ++ take place ys) mid
        ∙ ap (λ (ys : List ℕ). ys ++ take place (take place rest ++ x ∷ []))
        (drop_at (take place rest) (x ∷ []) place (length-take-le place rest (omega (arith, left))))
        ∙ ap (λ (ys : List ℕ). x ∷ ys) (take_at (take place rest) (x ∷ []) place (length-take-le place rest (omega (arith, left))))

    made : put_mid from k xs part ≡ take from xs ++ x ∷ kept
    made = ap (λ (ys : List ℕ). take from xs ++ (ys ++ drop k rest)) first

-- a set with a member has a list that isn't empty
pub not_none : (marks : List Bool) (n : ℕ) → n < length marks → is_member marks n ≡ true → 0 < length (members marks)
not_none marks n within is =
    omega (arith, ap length (with_node marks n within is), length-append (front_of marks n) (n ∷ back_of marks n))

pub was_member : (was is : Bool) → beq was is ≡ false → is ≡ false → was ≡ true
was_member true is differ off = refl
was_member false true differ off = absurd (cc off)
was_member false false differ off = absurd (cc differ)

-- what a search of a whole list of members tells
pub placed : (marks : List Bool) (list : List ℕ) (n : ℕ) (r : Result ℕ ℕ) → list ≡ members marks → IsBinarySearchResult (λ y. nat_cmp y n) list r →
    IsListPlace list n r
placed marks list n r are told = searched list n r told (rises_as marks list are)

-- and one of its front, where the last node of the front isn't below
pub placed_near : (marks : List Bool) (list front : List ℕ) (n k : ℕ) (r : Result ℕ ℕ) → list ≡ members marks → front ≡ take (k + 1) list →
    k + 1 < length list →
    n ≤ get_or list k 0 → IsBinarySearchResult (λ y. nat_cmp y n) front r → IsListPlace list n r
placed_near marks list front n k r are is within above told = by_result r (searched front n r told order)
  where
    count : length front ≡ k + 1
    count = ap length is ∙ length-take-le (k + 1) list (omega arith)

    at : (i : ℕ) → i < k + 1 → get_or front i 0 ≡ get_or list i 0
    at i less = ap (λ (xs : List ℕ). get_or xs i 0) is ∙ get_or-take (k + 1) list i 0 less

    order : (i j : ℕ) → i ≤ j → j < length front → get_or front i 0 ≤ get_or front j 0
    order i j less bound =
        let up = rises_as marks list are i j less (omega (arith, count)) in
        omega (arith, at i (omega (arith, count)), at j (omega (arith, count)))

    later : (j : ℕ) → k < j → j < length list → n < get_or list j 0
    later j less bound =
        let up : get_or list k 0 < get_or list j 0 = subst (λ (xs : List ℕ). j < length xs → get_or xs k 0 < get_or xs j 0) (sym are)
        (λ b. ascending (is_member marks) 0 (length marks) k j 0 less b) bound in
        omega arith

    by_result : (r : Result ℕ ℕ) → IsListPlace front n r → IsListPlace list n r
    by_result (Ok i) found = (omega (arith, found.0, count), sym (at i (omega (arith, found.0, count))) ∙ found.1)
    by_result (Err i) found = (
      omega (arith, found.0, count),
      λ j less. let under = found.1 j less in omega (arith, at j (omega (arith, found.0, count))),
      λ j less bound. by_place j less bound (cases_lt k j),
    )
      where
        by_place : (j : ℕ) → i ≤ j → j < length list → (k < j) ⊎ (j ≤ k) → n < get_or list j 0
        by_place j less bound (inl past) = later j past bound
        by_place j less bound (inr here) = let over = found.2 j less (omega (arith, count)) in omega (arith, at j (omega arith))
