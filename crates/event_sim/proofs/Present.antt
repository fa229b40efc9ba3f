-- The nodes of a scheduler's list by age: what is kept of them, on the way from a list to the next one.
use Rattle.std.proofs.Common.{◌≡◌, ◌≢◌, ℕ, zero, suc, ◌+◌, ◌-◌, ◌*◌, ◌^◌, ◌<◌, ◌≤◌, Bool, true, false, List, [], ◌∷◌, ◌++◌, length, get_or, set, take, drop, refl, sym, ap, subst, ◌∙◌, inl, inr, arith}
use Rattle.std.specs.Prelude.{◌⊎◌, ◌==◌, if◌then◌else◌, nat_eq, slice_range, Decides, All, AllPairs, Err}
use Rattle.std.specs.List.Sorted.{IsBinarySearchResult}
use Rattle.std.specs.Ordering.{nat_cmp}
use Rattle.std.proofs.lemmas.List.Sorted.{searched}
use Rattle.std.specs.List.{list_any, remove}
use Rattle.std.proofs.lemmas.Bool.{eq-eqb, eqb-true, ne_eqb, or_from, cases_eq, cases_lt}
use Rattle.std.proofs.lemmas.List.{get_or-set_same, get_or-set_other, get_or_append_left, get_or_push, get_or_default, get_or-take, get_or-drop, length-set, length-take, length-drop, length_push}
use Rattle.std.proofs.Math.Seq.{take-append_seam}
use Rattle.std.proofs.lemmas.List.Edits.{length-remove, get_or-remove_below, get_or-remove_above}
use Rattle.std.proofs.lemmas.List.Folds.{list_any_at}
use Rattle.event_sim.specs.Ages.{age_rank, IsByAge, AreEqualFrom}

-- ascending numbers below n are at most n
climbs : (xs : List ℕ) (k : ℕ) → AllPairs (λ (a b : ℕ). a < b) xs → k < length xs → k ≤ get_or xs k 0
climbs xs zero up within = omega arith
climbs xs (suc k) up within =
    let before = climbs xs k up (omega arith) in
    let more = up k (suc k) 0 (omega arith) within in
    omega (arith, before, more)

pub ascending_few : (xs : List ℕ) (n : ℕ) → AllPairs (λ (a b : ℕ). a < b) xs → All (λ k. k < n) xs → length xs ≤ n
ascending_few xs n up below = by_length (length xs) refl
  where
    by_length : (m : ℕ) → length xs ≡ m → length xs ≤ n
    by_length zero e = omega (arith, e)
    by_length (suc m) e =
        let last = climbs xs m up (omega (arith, e)) in
        let less = below m 0 (omega (arith, e)) in
        omega (arith, e, last, less)

pub any_in : (xs : List ℕ) (n k : ℕ) → k < length xs → get_or xs k 0 ≡ n → list_any (λ m. m == n) xs ≡ true
any_in xs n k within e = list_any_at (λ m. m == n) xs k 0 within (eq-eqb (get_or xs k 0) n e)

pub any_out : (xs : List ℕ) (n : ℕ) → ((k : ℕ) → k < length xs → get_or xs k 0 ≢ n) → list_any (λ m. m == n) xs ≡ false
any_out [] n apart = refl
any_out (x ∷ xs) n apart = or_from _ _ (ne_eqb x n (apart 0 (omega arith))) (any_out xs n (λ k less. apart (suc k) (omega arith)))

abbrev pub IsAt : List ℕ → ℕ → Type 0
IsAt xs n = (p : ℕ) × (p < length xs) × (get_or xs p 0 ≡ n)

-- among the first of the list, or among those that are left of the list before
abbrev pub IsPresent : (left done : ℕ) → (was list : List ℕ) → ℕ → Type 0
IsPresent left done was list n = ((k : ℕ) × (k < done) × (get_or list k 0 ≡ n)) ⊎ ((k : ℕ) × (left ≤ k) × (k < length was) × (get_or was k 0 ≡ n))

-- so many nodes of the list before have left or stay, and so many of the list have arrived or stay
pub record IsOnTheWay (now left done : ℕ) (was list before since order : List ℕ) : Type 0 where
  pub left_in : left ≤ length was
  pub done_in : done ≤ length list
  pub count : length since ≡ length before
  pub many : length order + left ≡ done + length was
  pub whole_list : (k : ℕ) → k < done → IsAt order (get_or list k 0)
  pub whole_was : (k : ℕ) → left ≤ k → k < length was → IsAt order (get_or was k 0)
  pub only : (p : ℕ) → p < length order → IsPresent left done was list (get_or order p 0)
  pub behind : (k m : ℕ) → k < done → left ≤ m → m < length was → get_or list k 0 < get_or was m 0
  pub ahead : (k m : ℕ) → k < left → done ≤ m → m < length list → get_or was k 0 < get_or list m 0
  pub ranked : (p q : ℕ) → p < q → q < length order → age_rank since (get_or order p 0) < age_rank since (get_or order q 0)
  pub late : (p k : ℕ) → p < length order → done ≤ k → k < length list → age_rank since (get_or order p 0) < 2 ^ 32 * now + get_or list k 0
  pub recent : (p : ℕ) → p < length order → get_or since (get_or order p 0) 0 ≤ now
  pub ages_list : (k : ℕ) → k < done →
      get_or since (get_or list k 0) 0 ≡ (if list_any (λ n. n == get_or list k 0) was then get_or before (get_or list k 0) 0 else now)
  pub ages_was : (k : ℕ) → left ≤ k → k < length was → get_or since (get_or was k 0) 0 ≡ get_or before (get_or was k 0) 0

pick_true : (b : Bool) (x y : ℕ) → b ≡ true → x ≡ (if b then x else y)
pick_true true x y on = refl
pick_true false x y on = absurd (cc on)

pick_false : (b : Bool) (x y : ℕ) → b ≡ false → y ≡ (if b then x else y)
pick_false true x y off = absurd (cc off)
pick_false false x y off = refl

started : (now : ℕ) (was list before order : List ℕ) → IsByAge now before was order → IsOnTheWay now 0 0 was list before before order
started now was list before order kept = record {
  left_in = omega arith;
  done_in = omega arith;
  count = refl;
  many = omega (arith, kept.count);
  whole_list = λ k less. absurd (omega arith);
  whole_was = λ k past within. kept.whole k within;
  only = λ p within. let found = kept.only p within in inr (found.0, omega arith, found.1, found.2);
  behind = λ k m less past within. absurd (omega arith);
  ahead = λ k m less past within. absurd (omega arith);
  ranked = λ p q less within. kept.ranked p q 0 less within;
  late = λ p k within past less. omega (arith, old p within, low p within, kept.few);
  recent = λ p within. omega (arith, old p within);
  ages_list = λ k less. absurd (omega arith);
  ages_was = λ k past within. refl;
}
  where
    old : (p : ℕ) → p < length order → get_or before (get_or order p 0) 0 < now
    old p within = let found = kept.only p within in subst (λ n. get_or before n 0 < now) found.2 (kept.past found.0 0 found.1)

    low : (p : ℕ) → p < length order → get_or order p 0 < length before
    low p within = let found = kept.only p within in subst (λ n. n < length before) found.2 (kept.below found.0 0 found.1)

-- a run of nodes stays
module _ (now left done run : ℕ) (was list before since order : List ℕ) (was_up : AllPairs (λ (a b : ℕ). a < b) was)
    (list_up : AllPairs (λ (a b : ℕ). a < b) list) (way : IsOnTheWay now left done was list before since order)
    (same : AreEqualFrom was left list done run) where
  stays_list : (k : ℕ) → k < done + run → IsAt order (get_or list k 0)
  stays_list k less = by_place (cases_lt k done)
    where
      by_place : (k < done) ⊎ (done ≤ k) → IsAt order (get_or list k 0)
      by_place (inl inner) = way.whole_list k inner
      by_place (inr past) =
          subst (IsAt order) (same.same (k - done + left) k (omega arith) (omega arith) (omega arith))
          (way.whole_was (k - done + left) (omega arith) (omega (arith, same.left_in)))

  stays_only : (n : ℕ) → IsPresent left done was list n → IsPresent (left + run) (done + run) was list n
  stays_only n (inl at) = inl (at.0, omega (arith, at.1), at.2)
  stays_only n (inr at) = by_place (cases_lt at.0 (left + run))
    where
      by_place : (at.0 < left + run) ⊎ (left + run ≤ at.0) → IsPresent (left + run) (done + run) was list n
      by_place (inl inner) =
          let low : left ≤ at.0 = at.1 in
          inl (at.0 - left + done, omega arith, sym (same.same at.0 (at.0 - left + done) low inner (omega arith)) ∙ at.3)
      by_place (inr past) = inr (at.0, past, at.2, at.3)

  stays_behind : (k m : ℕ) → k < done + run → left + run ≤ m → m < length was → get_or list k 0 < get_or was m 0
  stays_behind k m less past within = by_place (cases_lt k done)
    where
      by_place : (k < done) ⊎ (done ≤ k) → get_or list k 0 < get_or was m 0
      by_place (inl inner) = way.behind k m inner (omega arith) within
      by_place (inr above) =
          subst (λ n. n < get_or was m 0) (same.same (k - done + left) k (omega arith) (omega arith) (omega arith))
          (was_up (k - done + left) m 0 (omega arith) within)

  stays_ahead : (k m : ℕ) → k < left + run → done + run ≤ m → m < length list → get_or was k 0 < get_or list m 0
  stays_ahead k m less past within = by_place (cases_lt k left)
    where
      by_place : (k < left) ⊎ (left ≤ k) → get_or was k 0 < get_or list m 0
      by_place (inl inner) = way.ahead k m inner (omega arith) within
      by_place (inr above) =
          subst (λ n. n < get_or list m 0) (sym (same.same k (k - left + done) above less (omega arith)))
          (list_up (k - left + done) m 0 (omega arith) within)

  stays_ages : (k : ℕ) → k < done + run →
      get_or since (get_or list k 0) 0 ≡ (if list_any (λ n. n == get_or list k 0) was then get_or before (get_or list k 0) 0 else now)
  stays_ages k less = by_place (cases_lt k done)
    where
      by_place : (k < done) ⊎ (done ≤ k) →
          get_or since (get_or list k 0) 0 ≡ (if list_any (λ n. n == get_or list k 0) was then get_or before (get_or list k 0) 0 else now)
      by_place (inl inner) = way.ages_list k inner
      by_place (inr past) =
          let a : ℕ = k - done + left in
          let inner : a < length was = omega (arith, same.left_in) in
          subst (λ n. get_or since n 0 ≡ (if list_any (λ m. m == n) was then get_or before n 0 else now))
          (same.same a k (omega arith) (omega arith) (omega arith))
          (way.ages_was a (omega arith) inner
          ∙ pick_true (list_any (λ m. m == get_or was a 0) was) (get_or before (get_or was a 0) 0) now (any_in was (get_or was a 0) a inner refl))

  pub stayed : IsOnTheWay now (left + run) (done + run) was list before since order
  stayed = record {
    left_in = same.left_in;
    done_in = same.done_in;
    count = way.count;
    many = omega (arith, way.many);
    whole_list = stays_list;
    whole_was = λ k past within. way.whole_was k (omega arith) within;
    only = λ p within. stays_only (get_or order p 0) (way.only p within);
    behind = stays_behind;
    ahead = stays_ahead;
    ranked = way.ranked;
    late = λ p k within past less. way.late p k within (omega arith) less;
    recent = way.recent;
    ages_list = stays_ages;
    ages_was = λ k past within. way.ages_was k (omega arith) within;
  }

-- the beginning stays
pub started_at : (now n : ℕ) (was list before order : List ℕ) → IsByAge now before was order → AllPairs (λ (a b : ℕ). a < b) list →
    AreEqualFrom was 0 list 0 n → IsOnTheWay now n n was list before before order
started_at now n was list before order kept list_up same =
    let all : 0 + n ≡ n = omega arith in
    subst (λ (k : ℕ). IsOnTheWay now k k was list before before order) all
    (stayed now 0 0 n was list before before order kept.ascending list_up (started now was list before order kept) same)

-- a node leaves
module _ (now left done : ℕ) (was list before since order : List ℕ) (was_up : AllPairs (λ (a b : ℕ). a < b) was)
    (way : IsOnTheWay now left done was list before since order) (inner : left < length was)
    (first : (done ≡ length list) ⊎ (get_or was left 0 < get_or list done 0))
    (list_up : AllPairs (λ (a b : ℕ). a < b) list) (place : ℕ) (place_in : place < length order) (here : get_or order place 0 ≡ get_or was left 0) where
  abbrev rest : List ℕ
  rest = remove order place

  fewer : length rest + 1 ≡ length order
  fewer = length-remove order place place_in

  low : (q : ℕ) → q < place → get_or rest q 0 ≡ get_or order q 0
  low q less = get_or-remove_below order place 0 q less place_in

  high : (q : ℕ) → place ≤ q → get_or rest q 0 ≡ get_or order (q + 1) 0
  high q past = get_or-remove_above order place 0 q past place_in

  apart_at : (p q : ℕ) → p < length order → q < length order → p ≢ q → get_or order p 0 ≢ get_or order q 0
  apart_at p q p_in q_in apart same = by_order (cases_lt p q)
    where
      equal : age_rank since (get_or order p 0) ≡ age_rank since (get_or order q 0)
      equal = ap (age_rank since) same

      by_order : (p < q) ⊎ (q ≤ p) → ⊥
      by_order (inl less) = omega (arith, equal, way.ranked p q less q_in)
      by_order (inr past) = omega (arith, equal, way.ranked q p (omega arith) p_in)

  -- where a node of the rest was
  from : (q : ℕ) → q < length rest → (p : ℕ) × (p < length order) × (p ≢ place) × (get_or order p 0 ≡ get_or rest q 0)
  from q within = by_place (cases_lt q place)
    where
      by_place : (q < place) ⊎ (place ≤ q) → (p : ℕ) × (p < length order) × (p ≢ place) × (get_or order p 0 ≡ get_or rest q 0)
      by_place (inl less) = (q, omega (arith, fewer), omega arith, sym (low q less))
      by_place (inr past) = (q + 1, omega (arith, fewer), omega arith, sym (high q past))

  back : (p : ℕ) → p < length order → p ≢ place → IsAt rest (get_or order p 0)
  back p within apart = by_place (cases_lt p place)
    where
      by_place : (p < place) ⊎ (place ≤ p) → IsAt rest (get_or order p 0)
      by_place (inl less) = (p, omega (arith, fewer, place_in), low p less)
      by_place (inr past) =
          let next : p - 1 + 1 ≡ p = omega arith in
          (p - 1, omega (arith, fewer), high (p - 1) (omega arith) ∙ ap (λ k. get_or order k 0) next)

  stands : (n : ℕ) → get_or was left 0 ≢ n → IsAt order n → IsAt rest n
  stands n apart at =
      subst (IsAt rest) at.2 (back at.0 at.1 (λ same. apart (sym here ∙ (ap (λ p. get_or order p 0) (sym same) ∙ at.2))))

  leaves_only : (n : ℕ) → get_or was left 0 ≢ n → IsPresent left done was list n → IsPresent (left + 1) done was list n
  leaves_only n apart (inl at) = inl at
  leaves_only n apart (inr at) = by_place (cases_eq at.0 left)
    where
      by_place : (at.0 ≡ left) ⊎ (at.0 ≡ left → ⊥) → IsPresent (left + 1) done was list n
      by_place (inl same) = absurd (apart (sym (ap (λ k. get_or was k 0) same) ∙ at.3))
      by_place (inr other) =
          let past : left ≤ at.0 = at.1 in
          inr (at.0, omega arith, at.2, at.3)

  leaves_ahead : (k m : ℕ) → k < left + 1 → done ≤ m → m < length list → get_or was k 0 < get_or list m 0
  leaves_ahead k m less past within = by_place (cases_lt k left) first
    where
      by_place : (k < left) ⊎ (left ≤ k) → (done ≡ length list) ⊎ (get_or was left 0 < get_or list done 0) → get_or was k 0 < get_or list m 0
      by_place (inl before_it) which = way.ahead k m before_it past within
      by_place (inr at_it) (inl none) = absurd (omega arith)
      by_place (inr at_it) (inr smaller) =
          let it : left ≡ k = omega arith in
          subst (λ j. get_or was j 0 < get_or list m 0) it (by_next (cases_eq done m))
        where
          by_next : (done ≡ m) ⊎ (done ≡ m → ⊥) → get_or was left 0 < get_or list m 0
          by_next (inl same) = subst (λ j. get_or was left 0 < get_or list j 0) same smaller
          by_next (inr other) = omega (arith, smaller, list_up done m 0 (omega arith) within)

  leaves_ranked : (p q : ℕ) → p < q → q < length rest → age_rank since (get_or rest p 0) < age_rank since (get_or rest q 0)
  leaves_ranked p q less within = by_place (cases_lt p place) (cases_lt q place)
    where
      by_place : (p < place) ⊎ (place ≤ p) → (q < place) ⊎ (place ≤ q) → age_rank since (get_or rest p 0) < age_rank since (get_or rest q 0)
      by_place (inl p_low) (inl q_low) = rw (low p p_low, low q q_low) (way.ranked p q less (omega (arith, fewer)))
      by_place (inl p_low) (inr q_high) = rw (low p p_low, high q q_high) (way.ranked p (q + 1) (omega arith) (omega (arith, fewer)))
      by_place (inr p_high) (inl q_low) = absurd (omega arith)
      by_place (inr p_high) (inr q_high) = rw (high p p_high, high q q_high) (way.ranked (p + 1) (q + 1) (omega arith) (omega (arith, fewer)))

  pub left_one : IsOnTheWay now (left + 1) done was list before since rest
  left_one = record {
    left_in = omega arith;
    done_in = way.done_in;
    count = way.count;
    many = omega (arith, way.many, fewer);
    whole_list = λ k less.
        let before_it : get_or list k 0 < get_or was left 0 = way.behind k left less (omega arith) inner in
        stands (get_or list k 0) (λ same. omega (arith, before_it, same)) (way.whole_list k less);
    whole_was = λ k past within.
        let more : get_or was left 0 < get_or was k 0 = was_up left k 0 (omega arith) within in
        stands (get_or was k 0) (λ same. omega (arith, more, same)) (way.whole_was k (omega arith) within);
    only = λ q within.
        let f = from q within in
        subst (IsPresent (left + 1) done was list) f.3
        (leaves_only (get_or order f.0 0) (λ same. apart_at f.0 place f.1 place_in f.2 (sym same ∙ sym here)) (way.only f.0 f.1));
    behind = λ k m less past within. way.behind k m less (omega arith) within;
    ahead = leaves_ahead;
    ranked = leaves_ranked;
    late = λ q k within past less.
        let f = from q within in
        subst (λ n. age_rank since n < 2 ^ 32 * now + get_or list k 0) f.3 (way.late f.0 k f.1 past less);
    recent = λ q within. let f = from q within in subst (λ n. get_or since n 0 ≤ now) f.3 (way.recent f.0 f.1);
    ages_list = way.ages_list;
    ages_was = λ k past within. way.ages_was k (omega arith) within;
  }

-- a node arrives
module _ (now left done : ℕ) (was list before since order : List ℕ) (was_up : AllPairs (λ (a b : ℕ). a < b) was)
    (list_up : AllPairs (λ (a b : ℕ). a < b) list) (way : IsOnTheWay now left done was list before since order) (inner : done < length list)
    (low : get_or list done 0 < length since) (first : (left ≡ length was) ⊎ (get_or list done 0 < get_or was left 0)) where
  abbrev node : ℕ
  node = get_or list done 0

  abbrev after : List ℕ
  after = set since node now

  abbrev more : List ℕ
  more = order ++ node ∷ []

  longer : length more ≡ length order + 1
  longer = length_push order node

  kept_at : (p : ℕ) → p < length order → get_or more p 0 ≡ get_or order p 0
  kept_at p within = get_or_append_left order (node ∷ []) 0 p within

  last_at : (p : ℕ) → length order ≡ p → get_or more p 0 ≡ node
  last_at p e = get_or_push order node 0 p e

  before_was : (m : ℕ) → left ≤ m → m < length was → node < get_or was m 0
  before_was m past within = by_first first (cases_eq left m)
    where
      by_first : (left ≡ length was) ⊎ (node < get_or was left 0) → (left ≡ m) ⊎ (left ≡ m → ⊥) → node < get_or was m 0
      by_first (inl none) which = absurd (omega arith)
      by_first (inr smaller) (inl same) = subst (λ j. node < get_or was j 0) same smaller
      by_first (inr smaller) (inr other) = omega (arith, smaller, was_up left m 0 (omega arith) within)

  behind_list : (k : ℕ) → k < done → get_or list k 0 < node
  behind_list k less = list_up k done 0 less inner

  fresh : (n : ℕ) → IsPresent left done was list n → n ≢ node
  fresh n (inl at) same = omega (arith, behind_list at.0 at.1, at.2, same)
  fresh n (inr at) same = omega (arith, before_was at.0 at.1 at.2, at.3, same)

  new_in : (p : ℕ) → p < length order → get_or order p 0 ≢ node
  new_in p within = fresh (get_or order p 0) (way.only p within)

  as_before : (n : ℕ) → n ≢ node → get_or after n 0 ≡ get_or since n 0
  as_before n apart = get_or-set_other since node n now 0 apart

  its_own : get_or after node 0 ≡ now
  its_own = get_or-set_same since node now 0 low

  rank_kept : (p : ℕ) → p < length order → age_rank after (get_or more p 0) ≡ age_rank since (get_or order p 0)
  rank_kept p within = ap (age_rank after) (kept_at p within) ∙ ap (λ s. 2 ^ 32 * s + get_or order p 0) (as_before (get_or order p 0) (new_in p within))

  rank_last : (p : ℕ) → length order ≡ p → age_rank after (get_or more p 0) ≡ 2 ^ 32 * now + node
  rank_last p e = ap (age_rank after) (last_at p e) ∙ ap (λ s. 2 ^ 32 * s + node) its_own

  stands_too : (n : ℕ) → IsAt order n → IsAt more n
  stands_too n at = (at.0, omega (arith, at.1, longer), kept_at at.0 at.1 ∙ at.2)

  arrives_list : (k : ℕ) → k < done + 1 → IsAt more (get_or list k 0)
  arrives_list k less = by_place (cases_lt k done)
    where
      by_place : (k < done) ⊎ (done ≤ k) → IsAt more (get_or list k 0)
      by_place (inl earlier) = stands_too (get_or list k 0) (way.whole_list k earlier)
      by_place (inr it) =
          let same : done ≡ k = omega arith in
          (length order, omega (arith, longer), last_at (length order) refl ∙ ap (λ j. get_or list j 0) same)

  arrives_only : (p : ℕ) → p < length more → IsPresent left (done + 1) was list (get_or more p 0)
  arrives_only p within = by_place (cases_lt p (length order))
    where
      one_more : (n : ℕ) → IsPresent left done was list n → IsPresent left (done + 1) was list n
      one_more n (inl at) = inl (at.0, omega (arith, at.1), at.2)
      one_more n (inr at) = inr at

      by_place : (p < length order) ⊎ (length order ≤ p) → IsPresent left (done + 1) was list (get_or more p 0)
      by_place (inl less) = subst (IsPresent left (done + 1) was list) (sym (kept_at p less)) (one_more (get_or order p 0) (way.only p less))
      by_place (inr past) = inl (done, omega arith, sym (last_at p (omega (arith, longer))))

  arrives_behind : (k m : ℕ) → k < done + 1 → left ≤ m → m < length was → get_or list k 0 < get_or was m 0
  arrives_behind k m less past within = by_place (cases_lt k done)
    where
      by_place : (k < done) ⊎ (done ≤ k) → get_or list k 0 < get_or was m 0
      by_place (inl earlier) = way.behind k m earlier past within
      by_place (inr it) =
          let same : done ≡ k = omega arith in
          subst (λ j. get_or list j 0 < get_or was m 0) same (before_was m past within)

  arrives_ranked : (p q : ℕ) → p < q → q < length more → age_rank after (get_or more p 0) < age_rank after (get_or more q 0)
  arrives_ranked p q less within = by_place (cases_lt q (length order))
    where
      p_in : p < length order
      p_in = omega (arith, longer)

      by_place : (q < length order) ⊎ (length order ≤ q) → age_rank after (get_or more p 0) < age_rank after (get_or more q 0)
      by_place (inl q_in) = rw (rank_kept p p_in, rank_kept q q_in) (way.ranked p q less q_in)
      by_place (inr past) = rw (rank_kept p p_in, rank_last q (omega (arith, longer))) (way.late p done p_in (omega arith) inner)

  arrives_late : (p k : ℕ) → p < length more → done + 1 ≤ k → k < length list → age_rank after (get_or more p 0) < 2 ^ 32 * now + get_or list k 0
  arrives_late p k within past less = by_place (cases_lt p (length order))
    where
      by_place : (p < length order) ⊎ (length order ≤ p) → age_rank after (get_or more p 0) < 2 ^ 32 * now + get_or list k 0
      by_place (inl p_in) = rw (rank_kept p p_in) (way.late p k p_in (omega arith) less)
      by_place (inr last) =
          let ahead : node < get_or list k 0 = list_up done k 0 (omega arith) less in
          rw (rank_last p (omega (arith, longer))) (omega (arith, ahead))

  arrives_recent : (p : ℕ) → p < length more → get_or after (get_or more p 0) 0 ≤ now
  arrives_recent p within = by_place (cases_lt p (length order))
    where
      by_place : (p < length order) ⊎ (length order ≤ p) → get_or after (get_or more p 0) 0 ≤ now
      by_place (inl p_in) = rw (kept_at p p_in, as_before (get_or order p 0) (new_in p p_in)) (way.recent p p_in)
      by_place (inr last) = rw (last_at p (omega (arith, longer)), its_own) (omega arith)

  not_in_was : (k : ℕ) → k < length was → get_or was k 0 ≢ node
  not_in_was k within same = by_place (cases_lt k left)
    where
      by_place : (k < left) ⊎ (left ≤ k) → ⊥
      by_place (inl earlier) = omega (arith, way.ahead k done earlier (omega arith) inner, same)
      by_place (inr later) = omega (arith, before_was k later within, same)

  arrives_ages : (k : ℕ) → k < done + 1 →
      get_or after (get_or list k 0) 0 ≡ (if list_any (λ n. n == get_or list k 0) was then get_or before (get_or list k 0) 0 else now)
  arrives_ages k less = by_place (cases_lt k done)
    where
      by_place : (k < done) ⊎ (done ≤ k) →
          get_or after (get_or list k 0) 0 ≡ (if list_any (λ n. n == get_or list k 0) was then get_or before (get_or list k 0) 0 else now)
      by_place (inl earlier) =
          let apart : get_or list k 0 < node = behind_list k earlier in
          as_before (get_or list k 0) (omega arith) ∙ way.ages_list k earlier
      by_place (inr it) =
          let same : done ≡ k = omega arith in
          subst (λ j. get_or after (get_or list j 0) 0 ≡ (if list_any (λ n. n == get_or list j 0) was then get_or before (get_or list j 0) 0 else now)) same
          (its_own ∙ pick_false (list_any (λ n. n == node) was) (get_or before node 0) now (any_out was node not_in_was))

  pub arrived : IsOnTheWay now left (done + 1) was list before after more
  arrived = record {
    left_in = way.left_in;
    done_in = omega arith;
    count = length-set since node now ∙ way.count;
    many = omega (arith, way.many, longer);
    whole_list = arrives_list;
    whole_was = λ k past within. stands_too (get_or was k 0) (way.whole_was k past within);
    only = arrives_only;
    behind = arrives_behind;
    ahead = λ k m less past within. way.ahead k m less (omega arith) within;
    ranked = arrives_ranked;
    late = arrives_late;
    recent = arrives_recent;
    ages_list = arrives_ages;
    ages_was = λ k past within.
        let apart : node < get_or was k 0 = before_was k past within in
        as_before (get_or was k 0) (omega arith) ∙ way.ages_was k past within;
  }

-- what is asked of the order on the way
pub way_below : (now left done : ℕ) (was list before since order : List ℕ) → All (λ n. n < length before) was → All (λ n. n < length before) list →
    IsOnTheWay now left done was list before since order → All (λ n. n < length since) order
way_below now left done was list before since order was_low list_low way = λ p d within.
    subst (λ n. n < length since) (get_or_default order p 0 d within) (by_present (get_or order p 0) (way.only p within))
  where
    by_present : (n : ℕ) → IsPresent left done was list n → n < length since
    by_present n (inl at) =
        let low : get_or list at.0 0 < length before = list_low at.0 0 (omega (arith, at.1, way.done_in)) in
        omega (arith, low, at.2, way.count)
    by_present n (inr at) =
        let low : get_or was at.0 0 < length before = was_low at.0 0 at.2 in
        omega (arith, low, at.3, way.count)

pub way_ranked : (now left done : ℕ) (was list before since order : List ℕ) → IsOnTheWay now left done was list before since order →
    AllPairs (λ (a b : ℕ). age_rank since a < age_rank since b) order
way_ranked now left done was list before since order way = λ p q d less within.
    rw (get_or_default order p d 0 (omega arith), get_or_default order q d 0 within) (way.ranked p q less within)

-- a node leaves where none arrives before it
pub leaves_first : (b : Bool) (left done : ℕ) (was list : List ℕ) →
    ((done < length list) × ((left ≡ length was) ⊎ (get_or list done 0 < get_or was left 0)) → b ≡ true) → b ≡ false → done ≤ length list →
    (done < length list → get_or was left 0 ≢ get_or list done 0) → (done ≡ length list) ⊎ (get_or was left 0 < get_or list done 0)
leaves_first b left done was list first off within apart = by_done (cases_lt done (length list))
  where
    by_value : done < length list → (get_or list done 0 < get_or was left 0) ⊎ (get_or was left 0 ≤ get_or list done 0) →
        (done ≡ length list) ⊎ (get_or was left 0 < get_or list done 0)
    by_value less (inl smaller) = absurd (cc (sym off ∙ first (less, inr smaller)))
    by_value less (inr larger) =
        let other : get_or was left 0 ≢ get_or list done 0 = apart less in
        inr (omega arith)

    by_done : (done < length list) ⊎ (length list ≤ done) → (done ≡ length list) ⊎ (get_or was left 0 < get_or list done 0)
    by_done (inl less) = by_value less (cases_lt (get_or list done 0) (get_or was left 0))
    by_done (inr all) = inl (omega arith)

-- how many are older

pub not_less : (b : Bool) (x y : ℕ) → (x < y → b ≡ true) → b ≡ false → y ≤ x
not_less b x y onto off = by_order (cases_lt x y)
  where
    by_order : (x < y) ⊎ (y ≤ x) → y ≤ x
    by_order (inl less) = absurd (cc (sym off ∙ onto less))
    by_order (inr more) = more

pub all_older : (since order : List ℕ) (m x : ℕ) → AllPairs (λ (a b : ℕ). age_rank since a < age_rank since b) order → m < length order →
    age_rank since (get_or order m 0) < x → (k : ℕ) → k < m + 1 → age_rank since (get_or order k 0) < x
all_older since order m x ranked within less k at = by_place (cases_lt k m)
  where
    by_place : (k < m) ⊎ (m ≤ k) → age_rank since (get_or order k 0) < x
    by_place (inl before) = let more = ranked k m 0 before within in omega (arith, more, less)
    by_place (inr here) =
        let same : m ≡ k = omega arith in
        subst (λ j. age_rank since (get_or order j 0) < x) same less

pub none_older_from : (since order : List ℕ) (m x : ℕ) → AllPairs (λ (a b : ℕ). age_rank since a < age_rank since b) order →
    x ≤ age_rank since (get_or order m 0) → (k : ℕ) → m ≤ k → k < length order → x ≤ age_rank since (get_or order k 0)
none_older_from since order m x ranked more k past within = by_place (cases_eq m k)
  where
    by_place : (m ≡ k) ⊎ (m ≡ k → ⊥) → x ≤ age_rank since (get_or order k 0)
    by_place (inl same) = subst (λ j. x ≤ age_rank since (get_or order j 0)) same more
    by_place (inr other) = let less = ranked m k 0 (omega arith) within in omega (arith, less, more)

-- the place of a node in the order
pub at_rank : (since order : List ℕ) (node place : ℕ) → AllPairs (λ (a b : ℕ). age_rank since a < age_rank since b) order → IsAt order node →
    ((k : ℕ) → k < place → age_rank since (get_or order k 0) < age_rank since node) →
    ((k : ℕ) → place ≤ k → k < length order → age_rank since node ≤ age_rank since (get_or order k 0)) → (place < length order) × (get_or order place 0 ≡ node)
at_rank since order node place ranked at older others = by_place (cases_lt at.0 place) (cases_eq place at.0)
  where
    its : age_rank since (get_or order at.0 0) ≡ age_rank since node
    its = ap (age_rank since) at.2

    by_place : (at.0 < place) ⊎ (place ≤ at.0) → (place ≡ at.0) ⊎ (place ≡ at.0 → ⊥) → (place < length order) × (get_or order place 0 ≡ node)
    by_place (inl before) which = absurd (omega (arith, its, older at.0 before))
    by_place (inr past) (inl same) = (omega (arith, same, at.1), ap (λ p. get_or order p 0) same ∙ at.2)
    by_place (inr past) (inr other) =
        let less = ranked place at.0 0 (omega arith) at.1 in
        let not_older = others place (omega arith) (omega (arith, at.1)) in
        absurd (omega (arith, its, less, not_older))

-- a node of an ascending list isn't missed
pub not_missing : (list : List ℕ) (node place : ℕ) → AllPairs (λ (a b : ℕ). a < b) list → IsAt list node →
    IsBinarySearchResult (λ y. nat_cmp y node) list (Err place) → ⊥
not_missing list node place up at told = by_place (cases_lt at.0 place)
  where
    rises : (i j : ℕ) → i ≤ j → j < length list → get_or list i 0 ≤ get_or list j 0
    rises i j past within = by_same (cases_eq i j)
      where
        by_same : (i ≡ j) ⊎ (i ≡ j → ⊥) → get_or list i 0 ≤ get_or list j 0
        by_same (inl same) = subst (λ k. get_or list i 0 ≤ get_or list k 0) same (omega arith)
        by_same (inr other) = let less = up i j 0 (omega arith) within in omega (arith, less)

    missed : (place ≤ length list) × ((k : ℕ) → k < place → get_or list k 0 < node) × ((k : ℕ) → place ≤ k → k < length list → node < get_or list k 0)
    missed = searched list node (Err place) told rises

    by_place : (at.0 < place) ⊎ (place ≤ at.0) → ⊥
    by_place (inl before) = omega (arith, at.2, missed.1 at.0 before)
    by_place (inr past) = omega (arith, at.2, missed.2 at.0 past at.1)

-- one more group of equal nodes
pub group_same : (was list : List ℕ) (left done run n : ℕ) → AreEqualFrom was left list done run → left + run + n ≤ length was → done + run + n ≤ length list →
    slice_range was (left + run) (left + run + n) ≡ slice_range list (done + run) (done + run + n) → AreEqualFrom was left list done (run + n)
group_same was list left done run n so_far was_in list_in equal = record {
  left_in = omega (arith, was_in);
  done_in = omega (arith, list_in);
  same = λ a b past less aligned. by_place a b past less aligned (cases_lt a (left + run));
}
  where
    entry : (xs : List ℕ) (from i : ℕ) → i < n → get_or (slice_range xs from (from + n)) i 0 ≡ get_or xs (from + i) 0
    entry xs from i less =
        let short : i < from + n - from = omega arith in
        get_or-take (from + n - from) (drop from xs) i 0 short ∙ get_or-drop from xs i 0

    by_place : (a b : ℕ) → left ≤ a → a < left + (run + n) → a + done ≡ b + left → (a < left + run) ⊎ (left + run ≤ a) → get_or was a 0 ≡ get_or list b 0
    by_place a b past less aligned (inl before) = so_far.same a b past before aligned
    by_place a b past less aligned (inr above) =
        let i : ℕ = a - (left + run) in
        let was_at : left + run + i ≡ a = omega arith in
        let list_at : done + run + i ≡ b = omega (arith, aligned) in
        let short : i < n = omega (arith, less) in
        sym (ap (λ k. get_or was k 0) was_at) ∙ sym (entry was (left + run) i short) ∙ ap (λ xs. get_or xs i 0) equal ∙ entry list (done + run) i short
        ∙ ap (λ k. get_or list k 0) list_at

pub none_same : (was list : List ℕ) (left done : ℕ) → left ≤ length was → done ≤ length list → AreEqualFrom was left list done 0
none_same was list left done was_in list_in = record {
  left_in = omega (arith, was_in);
  done_in = omega (arith, list_in);
  same = λ a b past less aligned. absurd (omega (arith, past, less));
}

-- so many nodes at the beginning, and all that are left
range_same : (was list : List ℕ) (left a done b n : ℕ) → left + n ≡ a → done + n ≡ b → a ≤ length was → b ≤ length list →
    slice_range was left a ≡ slice_range list done b → AreEqualFrom was left list done n
range_same was list left a done b n a_is b_is was_in list_in equal = record {
  left_in = omega (arith, a_is, was_in);
  done_in = omega (arith, b_is, list_in);
  same = λ x y past less aligned.
      let i : ℕ = x - left in
      let was_at : left + i ≡ x = omega arith in
      let list_at : done + i ≡ y = omega (arith, aligned) in
      sym (ap (λ k. get_or was k 0) was_at) ∙ sym (entry was left a i (omega (arith, less, a_is))) ∙ ap (λ xs. get_or xs i 0) equal
      ∙ entry list done b i (omega (arith, less, b_is)) ∙ ap (λ k. get_or list k 0) list_at;
}
  where
    entry : (xs : List ℕ) (from to i : ℕ) → from + i < to → get_or (slice_range xs from to) i 0 ≡ get_or xs (from + i) 0
    entry xs from to i less =
        let short : i < to - from = omega (arith, less) in
        get_or-take (to - from) (drop from xs) i 0 short ∙ get_or-drop from xs i 0

pub start_same : (was list : List ℕ) (n : ℕ) → n ≤ length was → n ≤ length list → take n was ≡ take n list → AreEqualFrom was 0 list 0 n
start_same was list n was_in list_in equal = record {
  left_in = omega (arith, was_in);
  done_in = omega (arith, list_in);
  same = λ a b past less aligned.
      let short : a < n = omega (arith, less) in
      let same : a ≡ b = omega (arith, aligned) in
      sym (get_or-take n was a 0 short) ∙ ap (λ xs. get_or xs a 0) equal ∙ get_or-take n list a 0 short ∙ ap (λ k. get_or list k 0) same;
}

pub rest_same : (was list : List ℕ) (left done : ℕ) → left ≤ length was → done ≤ length list →
    slice_range was left (length was) ≡ slice_range list done (length list) → AreEqualFrom was left list done (length was - left)
rest_same was list left done was_in list_in equal =
    range_same was list left (length was) done (length list) (length was - left) (omega arith) (omega (arith, long)) (omega arith) (omega arith) equal
  where
    whole : (xs : List ℕ) (from : ℕ) → from ≤ length xs → length (slice_range xs from (length xs)) ≡ length xs - from
    whole xs from within = omega (arith, length-take (length xs - from) (drop from xs), length-drop from xs)

    long : length was - left ≡ length list - done
    long = sym (whole was left was_in) ∙ ap length equal ∙ whole list done list_in

pub number_decides : (a b : ℕ) → Decides (nat_eq a b) (a ≡ b)
number_decides a b = (eqb-true a b, eq-eqb a b)

pub ended : (now left done : ℕ) (was list before since order : List ℕ) → length was ≤ left → length list ≤ done →
    IsOnTheWay now left done was list before since order → IsOnTheWay now (length was) (length list) was list before since order
ended now left done was list before since order all_left all_done way =
    let left_is : left ≡ length was = omega (arith, all_left, way.left_in) in
    let done_is : done ≡ length list = omega (arith, all_done, way.done_in) in
    subst (λ (n : ℕ). IsOnTheWay now n (length list) was list before since order) left_is
    (subst (λ (n : ℕ). IsOnTheWay now left n was list before since order) done_is way)

-- what a loan of a whole vector writes back
pub whole_back : (xs ys : List ℕ) (n : ℕ) → n ≡ length xs → take n (xs ++ drop (length xs) ys) ≡ xs
whole_back xs ys n long = ap (λ (k : ℕ). take k (xs ++ drop (length xs) ys)) long ∙ take-append_seam xs (drop (length xs) ys)
