-- Buckets and the heap of a calendar: sums over their entries, and which entry is the first.
use Rattle.std.proofs.Common.{◌≡◌, ℕ, zero, suc, ◌+◌, ◌-◌, ◌<◌, ◌≤◌, Bool, true, false, List, [], ◌∷◌, ◌++◌, length, get_or, set, map, refl, sym, ap, subst, ◌∙◌, inl, inr, arith}
use Rattle.std.specs.Prelude.{◌==◌, ◌||◌, All, Option, Some, None, MatchOption, IfSome, option_to_list, Result, Ok, Err, OnOk}
use Rattle.std.specs.Result.{is_ok}
use Rattle.std.specs.BinaryHeap.{IsUpperBound}
use Rattle.std.specs.List.{sum_by}
use Rattle.std.specs.List.Sorted.{IsPermutation, IsSorted}
use Rattle.std.specs.Ordering.{is_lt, nat_cmp}
use Rattle.std.specs.declared.cmp.Reverse.{Reverse}
use Rattle.std.proofs.lemmas.Bool.{eqb-true}
use Rattle.std.proofs.lemmas.List.{length-append, length-map, get_or-map, get_or_at, get_or_append_left, nil_from_length}
use Rattle.std.proofs.lemmas.List.Elements.{All-nil, All-append, All-map, All-from_get_or, All-from_recursion, All-weaker}
use Rattle.std.proofs.lemmas.List.Sorted.{sum_by-IsPermutation, sum_by_pushed, sum_by_popped, IsPermutation-map}
use Rattle.std.proofs.lemmas.Map.Keys.{ge_from_not_lt}
use Rattle.std.proofs.lemmas.List.Sums.{sum_by-cons, sum_by-append}
use Rattle.delay_script.specs.TimedRuns.{ComesNoLater}
use Rattle.delay_script.specs.Calendars.{BucketValue, entries_of, entries_in, others_of, bucket_at, last_node, IsDescending, IsFirstBucket, AreEmpty, IsLater, AreBuckets, IsCalendar, sooner, LeadsAll, FollowsFirst, IsDueBefore, LeadsBuckets, TakesFirst}
use Rattle.delay_script.proofs.Entries.{order_says, same_first, ones}

-- sums

pub sum_others : (f : ℕ × ℕ → ℕ) (heap : List (Reverse (ℕ × ℕ))) → sum_by f (others_of heap) ≡ sum_by (λ (e : Reverse (ℕ × ℕ)). f e.0) heap
sum_others f [] = refl
sum_others f (x ∷ heap) =
    sum_by-cons f x.0 (others_of heap) ∙ ap (λ (k : ℕ). f x.0 + k) (sum_others f heap) ∙ sym (sum_by-cons (λ (e : Reverse (ℕ × ℕ)). f e.0) x heap)

pub sum_parts : (f : ℕ × ℕ → ℕ) (xs ys zs : List (ℕ × ℕ)) → sum_by f (xs ++ (ys ++ zs)) ≡ sum_by f xs + (sum_by f ys + sum_by f zs)
sum_parts f xs ys zs = sum_by-append f xs (ys ++ zs) ∙ ap (λ (k : ℕ). sum_by f xs + k) (sum_by-append f ys zs)

pub sum_set : (f : ℕ × ℕ → ℕ) (bs : List BucketValue) (p : ℕ) (b : BucketValue) → p < length bs →
    sum_by f (entries_in (set bs p b)) + sum_by f (entries_of (bucket_at bs p)) ≡ sum_by f (entries_in bs) + sum_by f (entries_of b)
sum_set f [] p b within = absurd (omega arith)
sum_set f (c ∷ cs) zero b within =
    exchanged _ _ _ _ _ (sum_by-append f (entries_of b) (entries_in cs)) (sum_by-append f (entries_of c) (entries_in cs))
  where
    exchanged : (s t x y z : ℕ) → s ≡ x + z → t ≡ y + z → s + y ≡ t + x
    exchanged s t x y z one two = omega arith
sum_set f (c ∷ cs) (suc p) b within =
    behind _ _ _ _ _ _ _ (sum_by-append f (entries_of c) (entries_in (set cs p b))) (sum_by-append f (entries_of c) (entries_in cs))
    (sum_set f cs p b (omega arith))
  where
    behind : (s t x u v y z : ℕ) → s ≡ x + u → t ≡ x + v → u + y ≡ v + z → s + y ≡ t + z
    behind s t x u v y z one two three = omega arith

pub sum_empty : (f : ℕ × ℕ → ℕ) (b : BucketValue) → b.nodes ≡ [] → sum_by f (entries_of b) ≡ 0
sum_empty f b none = ap (λ (ns : List ℕ). sum_by f (map (λ (n : ℕ). (b.time, n)) ns)) none

-- how many there are

pub length_in : (bs : List BucketValue) (p : ℕ) → p < length bs → length (bucket_at bs p).nodes ≤ length (entries_in bs)
length_in [] p within = absurd (omega arith)
length_in (b ∷ bs) zero within =
    let long : length (entries_of b) ≡ length b.nodes = length-map b.nodes (λ (n : ℕ). (b.time, n)) in
    omega (arith, long, length-append (entries_of b) (entries_in bs))
length_in (b ∷ bs) (suc p) within =
    let rest = length_in bs p (omega arith) in
    omega (arith, rest, length-append (entries_of b) (entries_in bs))

-- all of them

pub all_of : (P : ℕ × ℕ → Type 0) (b : BucketValue) → ((k : ℕ) → k < length b.nodes → P (b.time, get_or b.nodes k 0)) → All P (entries_of b)
all_of P b each = All-map P (λ (n : ℕ). (b.time, n)) b.nodes (All-from_get_or (λ (n : ℕ). P (b.time, n)) b.nodes 0 each)

pub all_in : (P : ℕ × ℕ → Type 0) (bs : List BucketValue) → ((p : ℕ) → p < length bs → All P (entries_of (bucket_at bs p))) → All P (entries_in bs)
all_in P [] each = All-nil P
all_in P (b ∷ bs) each =
    All-append P (entries_of b) (entries_in bs) (each 0 (omega arith)) (all_in P bs (λ p within. each (suc p) (omega arith)))

all_empty : (P : ℕ × ℕ → Type 0) (b : BucketValue) → b.nodes ≡ [] → All P (entries_of b)
all_empty P b none = all_of P b (λ k within. absurd (omega (arith, ap length none)))

-- nodes that are sorted by their reverse order descend
pub descending_of : (xs : List (Reverse ℕ)) → IsSorted (λ (x y : Reverse ℕ). nat_cmp y.0 x.0) xs → IsDescending (map (λ (n : Reverse ℕ). n.0) xs)
descending_of xs sorted k within =
    let d : Reverse ℕ = record { 0 = 0 } in
    let long = length-map xs (λ (n : Reverse ℕ). n.0) in
    let order = ge_from_not_lt (get_or xs k d).0 (get_or xs (k + 1) d).0 (sorted k d (omega arith) (omega (arith, within, long))) in
    omega (
      arith,
      order,
      get_or-map (λ (n : Reverse ℕ). n.0) xs k d 0 (omega (arith, within, long)),
      get_or-map (λ (n : Reverse ℕ). n.0) xs (k + 1) d 0 (omega (arith, within, long)),
    )

-- of nodes in descending order the last is the least
pub descends_to : (ns : List ℕ) → IsDescending ns → (k n : ℕ) → k + n < length ns → get_or ns (k + n) 0 ≤ get_or ns k 0
descends_to ns descends k zero within = let e : k + 0 ≡ k = omega arith in subst (λ (i : ℕ). get_or ns i 0 ≤ get_or ns k 0) (sym e) (omega arith)
descends_to ns descends k (suc n) within =
    let e : k + suc n ≡ k + n + 1 = omega arith in
    let before = descends_to ns descends k n (omega arith) in
    let step = descends (k + n) (omega arith) in
    subst (λ (i : ℕ). get_or ns i 0 ≤ get_or ns k 0) (sym e) (omega (arith, before, step))

pub last_least : (ns : List ℕ) → IsDescending ns → (k : ℕ) → k < length ns → last_node ns ≤ get_or ns k 0
last_least ns descends k within =
    let e : k + (length ns - 1 - k) ≡ length ns - 1 = omega arith in
    subst (λ (i : ℕ). get_or ns i 0 ≤ get_or ns k 0) e (descends_to ns descends k (length ns - 1 - k) (omega arith))

-- where there is room for one more, each bucket and the heap have it
pub room_near : (reached : BucketValue) (later : List BucketValue) (others : List (Reverse (ℕ × ℕ))) (slots room place : ℕ) →
    IsCalendar reached later others slots room → place < 16 → length (entries_of reached ++ (entries_in later ++ others_of others)) < room →
    length (bucket_at later place).nodes < (bucket_at later place).room
room_near reached later others slots room place is within fewer = omega (
  arith,
  fewer,
  length-append (entries_of reached) (entries_in later ++ others_of others),
  length-append (entries_in later) (others_of others),
  length_in later place (omega (arith, within, is.buckets.count)),
  (is.buckets.each place within).room_is,
)

-- the buckets are looked at one after the other

abbrev pub IsFirstSoFar : List BucketValue → ℕ → Option ℕ → Type 0
IsFirstSoFar bs count first = MatchOption first (AreEmpty bs count) (λ (p : ℕ). IsFirstBucket bs count p)

pub sum_sorted : (f : ℕ × ℕ → ℕ) (b next : BucketValue) → IsPermutation b.nodes next.nodes → next.time ≡ b.time →
    sum_by f (entries_of next) ≡ sum_by f (entries_of b)
sum_sorted f b next same time =
    ap (λ (t : ℕ). sum_by f (map (λ (n : ℕ). (t, n)) next.nodes)) time
    ∙ sum_by-IsPermutation f (entries_of b) (map (λ (n : ℕ). (b.time, n)) next.nodes) (IsPermutation-map (λ (n : ℕ). (b.time, n)) b.nodes next.nodes same)

pub sums_turned : (f : ℕ × ℕ → ℕ) (reached next : BucketValue) (later : List BucketValue) (place : ℕ) → place < length later → reached.nodes ≡ [] →
    IsPermutation (bucket_at later place).nodes next.nodes → next.time ≡ (bucket_at later place).time →
    sum_by f (entries_of next) + sum_by f (entries_in (set later place reached)) ≡ sum_by f (entries_of reached) + sum_by f (entries_in later)
sums_turned f reached next later place within none same time =
    exchanged _ _ _ _ _ (sum_set f later place reached within) (sum_sorted f (bucket_at later place) next same time)
  where
    exchanged : (n s b l r : ℕ) → s + b ≡ l + r → n ≡ b → n + s ≡ r + l
    exchanged n s b l r one two = omega arith

-- the last node of the bucket that is reached is the first, if it comes before all of the heap
pub lead_first : (reached : BucketValue) (later : List BucketValue) (others : List (Reverse (ℕ × ℕ))) (room : ℕ) → AreBuckets reached later room →
    LeadsAll reached others →
    All (λ (o : ℕ × ℕ). ComesNoLater reached.time (last_node reached.nodes) o.0 o.1) (entries_of reached ++ (entries_in later ++ others_of others))
lead_first reached later others room is leads =
    All-append P (entries_of reached) (entries_in later ++ others_of others)
    (all_of P reached (λ k within. inr (refl, last_least reached.nodes is.descends k within)))
    (All-append P (entries_in later) (others_of others)
    (all_in P later (λ p within. all_of P (bucket_at later p) (λ k some. inl ((is.each p (omega (arith, within, is.count))).after (omega arith)))))
    (All-map P (λ (e : Reverse (ℕ × ℕ)). e.0) others leads.first))
  where
    P : ℕ × ℕ → Type 0
    P o = ComesNoLater reached.time (last_node reached.nodes) o.0 o.1

pub lead_sums : (f : ℕ × ℕ → ℕ) (reached left : BucketValue) (n : ℕ) → reached.nodes ≡ left.nodes ++ n ∷ [] → left.time ≡ reached.time →
    sum_by f (entries_of reached) ≡ f (reached.time, n) + sum_by f (entries_of left)
lead_sums f reached left n parts time =
    ap (λ (ns : List ℕ). sum_by f (map (λ (m : ℕ). (reached.time, m)) ns)) parts ∙ pushed left.nodes
    ∙ ap (λ (t : ℕ). f (reached.time, n) + sum_by f (map (λ (m : ℕ). (t, m)) left.nodes)) (sym time)
  where
    pushed : (ns : List ℕ) → sum_by f (map (λ (m : ℕ). (reached.time, m)) (ns ++ n ∷ [])) ≡
        f (reached.time, n) + sum_by f (map (λ (m : ℕ). (reached.time, m)) ns)
    pushed [] = sum_by-cons f (reached.time, n) []
    pushed (m ∷ ns) =
        moved _ _ _ _ _ _ (sum_by-cons f (reached.time, m) (map (λ (k : ℕ). (reached.time, k)) (ns ++ n ∷ []))) (pushed ns)
        (sum_by-cons f (reached.time, m) (map (λ (k : ℕ). (reached.time, k)) ns))
      where
        moved : (s a t b u w : ℕ) → s ≡ a + t → t ≡ b + u → w ≡ a + u → s ≡ b + w
        moved s a t b u w one two three = omega arith

more_in : (f : ℕ × ℕ → ℕ) (old new : BucketValue) (n : ℕ) → new.nodes ≡ old.nodes ++ n ∷ [] →
    ((length old.nodes == 0) || (old.time == new.time)) ≡ true → sum_by f (entries_of new) ≡ f (new.time, n) + sum_by f (entries_of old)
more_in f old new n parts takes = by_test (length old.nodes == 0) (old.time == new.time) refl refl takes
  where
    by_test : (a b : Bool) → (length old.nodes == 0) ≡ a → (old.time == new.time) ≡ b → (a || b) ≡ true →
        sum_by f (entries_of new) ≡ f (new.time, n) + sum_by f (entries_of old)
    by_test true b none same t =
        let here : old.nodes ≡ [] = nil_from_length old.nodes (eqb-true (length old.nodes) 0 none) in
        lead_sums f new (record { time = new.time; nodes = []; room = 0 }) n (parts ∙ ap (λ (ns : List ℕ). ns ++ n ∷ []) here) refl
        ∙ ap (λ (k : ℕ). f (new.time, n) + k) (sym (sum_empty f old here))
    by_test false true none same t = lead_sums f new old n parts (eqb-true old.time new.time same)
    by_test false false none same t = absurd (cc t)

pub near_sums : (f : ℕ × ℕ → ℕ) (reached new : BucketValue) (later : List BucketValue) (others : List (Reverse (ℕ × ℕ))) (place n : ℕ) →
    place < length later → new.nodes ≡ (bucket_at later place).nodes ++ n ∷ [] →
    ((length (bucket_at later place).nodes == 0) || ((bucket_at later place).time == new.time)) ≡ true →
    sum_by f (entries_of reached ++ (entries_in (set later place new) ++ others_of others)) ≡
    f (new.time, n) + sum_by f (entries_of reached ++ (entries_in later ++ others_of others))
near_sums f reached new later others place n within parts takes =
    added _ _ _ _ _ _ _ _ _ (sum_parts f (entries_of reached) (entries_in (set later place new)) (others_of others))
    (sum_parts f (entries_of reached) (entries_in later) (others_of others)) (sum_set f later place new within)
    (more_in f (bucket_at later place) new n parts takes)
  where
    added : (s t r l m o x y b : ℕ) → s ≡ r + (m + o) → t ≡ r + (l + o) → m + b ≡ l + y → y ≡ x + b → s ≡ x + t
    added s t r l m o x y b one two three four = omega arith

pub far_sums : (f : ℕ × ℕ → ℕ) (reached : BucketValue) (later : List BucketValue) (others more : List (Reverse (ℕ × ℕ))) (x : Reverse (ℕ × ℕ)) →
    IsPermutation (x ∷ others) more → sum_by f (entries_of reached ++ (entries_in later ++ others_of more)) ≡
    f x.0 + sum_by f (entries_of reached ++ (entries_in later ++ others_of others))
far_sums f reached later others more x pushed =
    added _ _ _ _ _ _ _ _ _ (sum_parts f (entries_of reached) (entries_in later) (others_of more))
    (sum_parts f (entries_of reached) (entries_in later) (others_of others)) (sum_others f more) (sum_others f others)
    (sum_by_pushed (λ (e : Reverse (ℕ × ℕ)). f e.0) x others more pushed)
  where
    added : (s t r l m o n p x : ℕ) → s ≡ r + (l + m) → t ≡ r + (l + o) → m ≡ n → o ≡ p → n ≡ x + p → s ≡ x + t
    added s t r l m o n p x one two three four five = omega arith

pub from_ok : {T E : Type 0} (r : Result T E) (P : Type 0) → is_ok r ≡ true → OnOk r P → P
from_ok (Ok x) P done p = p
from_ok (Err e) P done p = absurd (cc done)

pub last_is : (ns rest : List ℕ) (n : ℕ) → ns ≡ rest ++ n ∷ [] → last_node ns ≡ n
last_is ns rest n parts =
    ap last_node parts ∙ get_or_at rest n [] 0 _ (omega (arith, length-append rest (n ∷ [])))

-- else the first of the heap is
pub top_first : (reached : BucketValue) (later : List BucketValue) (others : List (Reverse (ℕ × ℕ))) (room : ℕ) (x : Reverse (ℕ × ℕ)) →
    AreBuckets reached later room → FollowsFirst reached others → (reached.nodes ≡ [] → LeadsBuckets others later) → x ≡ get_or others 0 x →
    IsUpperBound sooner x others →
    All (λ (o : ℕ × ℕ). ComesNoLater x.0.0 x.0.1 o.0 o.1) (entries_of reached ++ (entries_in later ++ others_of others))
top_first reached later others room x is follows none at top = by_nodes reached.nodes refl
  where
    P : ℕ × ℕ → Type 0
    P o = ComesNoLater x.0.0 x.0.1 o.0 o.1

    all_others : All P (others_of others)
    all_others = All-map P (λ (e : Reverse (ℕ × ℕ)). e.0) others
        (All-weaker (λ (e : Reverse (ℕ × ℕ)). is_lt (sooner x e) ≡ false) (λ (e : Reverse (ℕ × ℕ)). P e.0)
        (λ e off. order_says x.0.0 x.0.1 e.0.0 e.0.1 off) others (All-from_recursion (λ (e : Reverse (ℕ × ℕ)). is_lt (sooner x e) ≡ false) others top))

    before : (t : ℕ) → IsDueBefore others t → x.0.0 < t
    before t due = subst (λ (y : Reverse (ℕ × ℕ)). y.0.0 < t) (sym at) (due.1 x)

    behind : (t n u m w k : ℕ) → ComesNoLater t n u m → (u ≡ w) → m ≤ k → ComesNoLater t n w k
    behind t n u m w k (inl less) same le = inl (omega arith)
    behind t n u m w k (inr equal) same le = inr (omega (arith, equal.0, same), omega (arith, equal.1, le))

    far_behind : (t n u m w k : ℕ) → ComesNoLater t n u m → u < w → ComesNoLater t n w k
    far_behind t n u m w k (inl less) after = inl (omega arith)
    far_behind t n u m w k (inr equal) after = inl (omega (arith, equal.0, after))

    by_nodes : (ns : List ℕ) → reached.nodes ≡ ns → All P (entries_of reached ++ (entries_in later ++ others_of others))
    by_nodes [] here =
        All-append P (entries_of reached) (entries_in later ++ others_of others) (all_empty P reached here)
        (All-append P (entries_in later) (others_of others)
        (all_in P later (λ p within. all_of P (bucket_at later p)
        (λ k some. inl (before (bucket_at later p).time (none here p within (omega arith)))))) all_others)
    by_nodes (n ∷ ns) here =
        All-append P (entries_of reached) (entries_in later ++ others_of others)
        (all_of P reached (λ k within. behind _ _ _ _ _ _ ahead refl (last_least reached.nodes is.descends k within)))
        (All-append P (entries_in later) (others_of others)
        (all_in P later (λ p within. all_of P (bucket_at later p)
        (λ k some. far_behind _ _ _ _ _ _ ahead ((is.each p (omega (arith, within, is.count))).after (omega arith))))) all_others)
      where
        ahead : ComesNoLater x.0.0 x.0.1 reached.time (last_node reached.nodes)
        ahead = subst (λ (y : Reverse (ℕ × ℕ)). ComesNoLater y.0.0 y.0.1 reached.time (last_node reached.nodes)) (sym at)
            ((follows (omega (arith, ap length here))).1 x)

pub top_sums : (f : ℕ × ℕ → ℕ) (others rest : List (Reverse (ℕ × ℕ))) (x : Reverse (ℕ × ℕ)) → IsPermutation others (x ∷ rest) →
    sum_by f (others_of others) ≡ f x.0 + sum_by f (others_of rest)
top_sums f others rest x popped =
    exchanged _ _ _ _ _ (sum_others f others) (sum_others f rest) (sum_by_popped (λ (e : Reverse (ℕ × ℕ)). f e.0) x others rest popped)
  where
    exchanged : (a b c d e : ℕ) → a ≡ b → c ≡ d → d + e ≡ b → a ≡ e + c
    exchanged a b c d e one two three = omega arith

-- a bucket of which the last nodes are taken
pub left_kept : (reached left : BucketValue) (later : List BucketValue) (room : ℕ) (gone : List ℕ) → AreBuckets reached later room →
    reached.nodes ≡ left.nodes ++ gone → left.time ≡ reached.time → left.room ≡ reached.room → AreBuckets left later room
left_kept reached left later room gone is parts time same = record {
  descends = λ k within.
      let before = is.descends k (omega (arith, within, ap length parts, length-append left.nodes gone)) in
      omega (
        arith,
        before,
        ap (λ (ns : List ℕ). get_or ns k 0) parts,
        get_or_append_left left.nodes gone 0 k (omega (arith, within)),
        ap (λ (ns : List ℕ). get_or ns (k + 1) 0) parts,
        get_or_append_left left.nodes gone 0 (k + 1) within,
      );
  room_is = omega (arith, is.room_is, same);
  count = is.count;
  each = λ place less. subst (λ (t : ℕ). IsLater t place room (bucket_at later place)) (sym time) (is.each place less);
}

pub turned_sums : (f : ℕ × ℕ → ℕ) (reached next : BucketValue) (later more : List BucketValue) (others : List (Reverse (ℕ × ℕ))) →
    sum_by f (entries_of next) + sum_by f (entries_in more) ≡ sum_by f (entries_of reached) + sum_by f (entries_in later) →
    sum_by f (entries_of reached ++ (entries_in later ++ others_of others)) ≡ sum_by f (entries_of next ++ (entries_in more ++ others_of others))
turned_sums f reached next later more others same =
    regrouped _ _ _ _ _ _ _ (sum_parts f (entries_of reached) (entries_in later) (others_of others))
    (sum_parts f (entries_of next) (entries_in more) (others_of others)) same
  where
    regrouped : (s t r l n m o : ℕ) → s ≡ r + (l + o) → t ≡ n + (m + o) → n + m ≡ r + l → s ≡ t
    regrouped s t r l n m o one two three = omega arith

-- what is taken where these entries are as some before them

abbrev pub AreAs : List (ℕ × ℕ) → BucketValue → List BucketValue → List (Reverse (ℕ × ℕ)) → Type 0
AreAs old reached later others = (f : ℕ × ℕ → ℕ) → sum_by f old ≡ sum_by f (entries_of reached ++ (entries_in later ++ others_of others))

pub lead_taken : (old : List (ℕ × ℕ)) (reached left : BucketValue) (later : List BucketValue) (others : List (Reverse (ℕ × ℕ))) (room : ℕ) (r : Option ℕ) →
    AreAs old reached later others → AreBuckets reached later room → LeadsAll reached others → reached.nodes ≡ left.nodes ++ option_to_list r →
    left.time ≡ reached.time → IfSome r (λ (n : ℕ). (time : ℕ) × TakesFirst (time, n) old (entries_of left ++ (entries_in later ++ others_of others)))
lead_taken old reached left later others room None alike is leads parts time = tt
lead_taken old reached left later others room (Some n) alike is leads parts time = (
  reached.time,
  record {
    first = same_first (reached.time, n) old (entries_of reached ++ (entries_in later ++ others_of others)) alike
        (subst (λ (k : ℕ). All (λ (o : ℕ × ℕ). ComesNoLater reached.time k o.0 o.1) (entries_of reached ++ (entries_in later ++ others_of others)))
        (last_is reached.nodes left.nodes n parts) (lead_first reached later others room is leads));
    sums = λ f. alike f ∙ less f (lead_sums f reached left n parts time);
  },
)
  where
    less : (f : ℕ × ℕ → ℕ) → sum_by f (entries_of reached) ≡ f (reached.time, n) + sum_by f (entries_of left) →
        sum_by f (entries_of reached ++ (entries_in later ++ others_of others)) ≡
        f (reached.time, n) + sum_by f (entries_of left ++ (entries_in later ++ others_of others))
    less f one = regrouped _ _ _ _ _ _ (sum_parts f (entries_of reached) (entries_in later) (others_of others))
        (sum_parts f (entries_of left) (entries_in later) (others_of others)) one
      where
        regrouped : (s t r l x o : ℕ) → s ≡ r + o → t ≡ l + o → r ≡ x + l → s ≡ x + t
        regrouped s t r l x o one two three = omega arith

pub top_taken : (old : List (ℕ × ℕ)) (reached : BucketValue) (later : List BucketValue) (others rest : List (Reverse (ℕ × ℕ))) (room : ℕ)
    (x : Reverse (ℕ × ℕ)) → AreAs old reached later others → AreBuckets reached later room → FollowsFirst reached others →
    (reached.nodes ≡ [] → LeadsBuckets others later) → x ≡ get_or others 0 x → IsUpperBound sooner x others → IsPermutation others (x ∷ rest) →
    TakesFirst x.0 old (entries_of reached ++ (entries_in later ++ others_of rest))
top_taken old reached later others rest room x alike is follows none at top popped = record {
  first = same_first x.0 old (entries_of reached ++ (entries_in later ++ others_of others)) alike
      (top_first reached later others room x is follows none at top);
  sums = λ f. alike f ∙ regrouped _ _ _ _ _ _ _ (sum_parts f (entries_of reached) (entries_in later) (others_of others))
      (sum_parts f (entries_of reached) (entries_in later) (others_of rest)) (top_sums f others rest x popped);
}
  where
    regrouped : (s t r l o x q : ℕ) → s ≡ r + (l + o) → t ≡ r + (l + q) → o ≡ x + q → s ≡ x + t
    regrouped s t r l o x q one two three = omega arith

sum_none : (f : ℕ × ℕ → ℕ) (bs : List BucketValue) → AreEmpty bs (length bs) → sum_by f (entries_in bs) ≡ 0
sum_none f [] none = refl
sum_none f (b ∷ bs) none =
    both _ _ _ (sum_by-append f (entries_of b) (entries_in bs)) (sum_empty f b (none 0 (omega arith)))
    (sum_none f bs (λ p within. none (suc p) (omega arith)))
  where
    both : (s a b : ℕ) → s ≡ a + b → a ≡ 0 → b ≡ 0 → s ≡ 0
    both s a b one two three = omega arith

-- where nothing leads and the heap is empty there is nothing
pub none_left : (old : List (ℕ × ℕ)) (reached : BucketValue) (later : List BucketValue) (others : List (Reverse (ℕ × ℕ))) →
    AreAs old reached later others → FollowsFirst reached others → (reached.nodes ≡ [] → LeadsBuckets others later) → others ≡ [] → old ≡ []
none_left old reached later others alike follows none empty =
    nil_from_length old (sym (ones old) ∙ alike (λ (e : ℕ × ℕ). 1)
    ∙ all _ _ _ _ (sum_parts (λ (e : ℕ × ℕ). 1) (entries_of reached) (entries_in later) (others_of others)) (sum_empty (λ (e : ℕ × ℕ). 1) reached here)
    (sum_none (λ (e : ℕ × ℕ). 1) later (λ p within. no_nodes p within (bucket_at later p).nodes refl))
    (ap (λ (es : List (Reverse (ℕ × ℕ))). sum_by (λ (e : ℕ × ℕ). 1) (others_of es)) empty))
  where
    all : (s r l o : ℕ) → s ≡ r + (l + o) → r ≡ 0 → l ≡ 0 → o ≡ 0 → s ≡ 0
    all s r l o one two three four = omega arith

    here : reached.nodes ≡ []
    here = by_nodes reached.nodes refl
      where
        by_nodes : (ns : List ℕ) → reached.nodes ≡ ns → reached.nodes ≡ []
        by_nodes [] e = e
        by_nodes (n ∷ ns) e = absurd (omega (arith, (follows (omega (arith, ap length e))).0, ap length empty))

    no_nodes : (p : ℕ) → p < length later → (ns : List ℕ) → (bucket_at later p).nodes ≡ ns → (bucket_at later p).nodes ≡ []
    no_nodes p within [] e = e
    no_nodes p within (n ∷ ns) e = absurd (omega (arith, (none here p within (omega (arith, ap length e))).0, ap length empty))
