-- Ages: what one more pick makes of them, and the first of the oldest and of the newest.
use Rattle.std.proofs.Common.{◌≡◌, ℕ, zero, suc, ◌+◌, ◌-◌, ◌*◌, ◌^◌, ◌<◌, ◌≤◌, Bool, true, false, List, [], ◌∷◌, length, get_or, map, replicate, refl, sym, ap, subst, ◌∙◌, inl, inr, arith}
use Rattle.std.specs.Prelude.{◌⊎◌, ◌==◌, nat_le, if◌then◌else◌, slice_index, All, AllPairs}
use Rattle.std.specs.List.{list_any, list_all, position_or_len, range_with_len}
use Rattle.std.proofs.lemmas.Bool.{and_right, le-leb, lt-leb, eqb-true, cases_eq, cases_lt}
use Rattle.std.proofs.lemmas.List.{get_or-map, get_or_default}
use Rattle.std.proofs.lemmas.List.Folds.{Any-from_list_any}
use Rattle.std.proofs.lemmas.List.FromFn.{fill_by_all, get_or-map-range_with_len, length-map-range_with_len}
use Rattle.event_sim.specs.Ages.{age_at, ages_at, aged, age_rank, IsByAge, IsPlaceOfNewest, first_greatest, first_least}
use Rattle.event_sim.specs.Picking.{IsChoiceList}
use Rattle.event_sim.proofs.Present.{IsAt, IsOnTheWay, any_in, all_older}

-- where a list has a number
found : (xs : List ℕ) (n : ℕ) → list_any (λ m. m == n) xs ≡ true → IsAt xs n
found xs n has =
    let at = Any-from_list_any (λ m. m == n) xs has in
    let same : get_or xs at.0 0 ≡ at.1 = get_or_default xs at.0 0 at.1 at.2 ∙ at.3 in
    (at.0, at.2, same ∙ eqb-true at.1 n at.4)

-- at the end of the way
module _ (now : ℕ) (was list before since order : List ℕ) (old : IsByAge now before was order) (choice : IsChoiceList (length before) list) where
  module _ (end : List ℕ) (way : IsOnTheWay now (length was) (length list) was list before since end) where
    since_of : (k : ℕ) → k < length list → get_or since (get_or list k 0) 0 ≤ now
    since_of k less =
        let at = way.whole_list k less in
        subst (λ n. get_or since n 0 ≤ now) at.2 (way.recent at.0 at.1)

    pub kept_by_age : IsByAge (now + 1) since list end
    kept_by_age = record {
      few = omega (arith, way.count, old.few);
      ascending = choice.ascending;
      below = λ k d less. subst (λ n. get_or list k d < n) (sym way.count) (choice.below k d less);
      past = λ k d less. subst (λ n. get_or since n 0 < now + 1) (get_or_default list k 0 d less) (omega (arith, since_of k less));
      ranked = λ p q d less within.
          rw (get_or_default end p d 0 (omega arith), get_or_default end q d 0 within) (way.ranked p q less within);
      whole = way.whole_list;
      only = λ p within. only_list p (way.only p within);
      count = omega (arith, way.many);
    }
      where
        only_list : (p : ℕ) → ((k : ℕ) × (k < length list) × (get_or list k 0 ≡ get_or end p 0))
            ⊎ ((k : ℕ) × (length was ≤ k) × (k < length was) × (get_or was k 0 ≡ get_or end p 0)) →
            (k : ℕ) × (k < length list) × (get_or list k 0 ≡ get_or end p 0)
        only_list p (inl at) = at
        only_list p (inr at) = absurd (omega (arith, at.1, at.2))

    old_age : (k : ℕ) → k < length before → slice_index (ages_at now before was) k ≡ age_at now before was k
    old_age k less = get_or-map-range_with_len (age_at now before was) 0 (length before) k k 0 less (omega arith)

    by_was : (k : ℕ) (b : Bool) → list_any (λ n. n == k) was ≡ b → get_or since k 0 ≡ (if b then get_or before k 0 else now) →
        now + 1 - get_or since k 0 ≡ (if b then now - get_or before k 0 else 0) + 1
    by_was k true has is =
        let at = found was k has in
        let past : get_or before k 0 < now = subst (λ n. get_or before n 0 < now) at.2 (old.past at.0 0 at.1) in
        omega (arith, is, past)
    by_was k false has is = omega (arith, is)

    by_list : (k : ℕ) (b : Bool) → list_any (λ n. n == k) list ≡ b → k < length before →
        (if b then now + 1 - get_or since k 0 else 0) ≡ (if b then slice_index (ages_at now before was) k + 1 else 0)
    by_list k true has less =
        let at = found list k has in
        let is : get_or since k 0 ≡ (if list_any (λ n. n == k) was then get_or before k 0 else now) =
        subst (λ n. get_or since n 0 ≡ (if list_any (λ m. m == n) was then get_or before n 0 else now)) at.2 (way.ages_list at.0 at.1) in
        by_was k (list_any (λ n. n == k) was) refl is ∙ ap (λ a. a + 1) (sym (old_age k less))
    by_list k false has less = refl

    pub ages_are : ages_at (now + 1) since list ≡ aged list (ages_at now before was)
    ages_are =
        subst (λ (n : ℕ). ages_at (now + 1) since list ≡ map (λ k. if list_any (λ m. m == k) list then slice_index (ages_at now before was) k + 1 else 0)
        (range_with_len 0 n)) (sym (length-map-range_with_len (age_at now before was) 0 (length before)))
        (fill_by_all (λ node. if list_any (λ m. m == node) list then slice_index (ages_at now before was) node + 1 else 0)
        (ages_at (now + 1) since list) (length before) 0 (length-map-range_with_len (age_at (now + 1) since list) 0 (length since) ∙ way.count) each)
      where
        each : (k : ℕ) → k < length before → get_or (ages_at (now + 1) since list) k 0
            ≡ (if list_any (λ m. m == k) list then slice_index (ages_at now before was) k + 1 else 0)
        each k less =
            get_or-map-range_with_len (age_at (now + 1) since list) 0 (length since) k k 0 (omega (arith, way.count)) (omega arith)
            ∙ by_list k (list_any (λ m. m == k) list) refl less

pub none_aged : (now : ℕ) (since : List ℕ) → ages_at now since [] ≡ replicate (length since) 0
none_aged now since = all_none (length since) 0
  where
    all_none : (n a : ℕ) → map (age_at now since []) (range_with_len a n) ≡ replicate n 0
    all_none zero a = refl
    all_none (suc n) a = ap (λ xs. 0 ∷ xs) (all_none n (a + 1))

-- the first place that passes

first_place : (p : ℕ → Bool) (xs : List ℕ) (b : ℕ) → b < length xs → p (get_or xs b 0) ≡ true → ((k : ℕ) → k < b → p (get_or xs k 0) ≡ false) →
    b ≡ position_or_len p xs
first_place p [] b within passes before = absurd (omega arith)
first_place p (x ∷ xs) zero within passes before = rw passes refl
first_place p (x ∷ xs) (suc b) within passes before =
    let first : p x ≡ false = before 0 (omega arith) in
    let rest = first_place p xs b (omega arith) passes (λ k less. before (suc k) (omega arith)) in
    rw first (omega (arith, rest))

all_pass : (p : ℕ → Bool) (xs : List ℕ) → ((k : ℕ) → k < length xs → p (get_or xs k 0) ≡ true) → list_all p xs ≡ true
all_pass p [] each = refl
all_pass p (x ∷ xs) each = rw (each 0 (omega arith)) (all_pass p xs (λ k less. each (suc k) (omega arith)))

one_fails : (p : ℕ → Bool) (xs : List ℕ) (k : ℕ) → k < length xs → p (get_or xs k 0) ≡ false → list_all p xs ≡ false
one_fails p [] k within fails = absurd (omega arith)
one_fails p (x ∷ xs) zero within fails = rw fails refl
one_fails p (x ∷ xs) (suc k) within fails = and_right (p x) _ (one_fails p xs k (omega arith) fails)

greatest_is : (xs : List ℕ) (b : ℕ) → b < length xs → ((k : ℕ) → k < length xs → get_or xs k 0 ≤ get_or xs b 0) →
    ((k : ℕ) → k < b → get_or xs k 0 < get_or xs b 0) → b ≡ first_greatest xs
greatest_is xs b within best before =
    first_place (λ x. list_all (λ y. nat_le y x) xs) xs b within
    (all_pass (λ y. nat_le y (get_or xs b 0)) xs (λ k less. le-leb (get_or xs k 0) (get_or xs b 0) (best k less)))
    (λ k less. one_fails (λ y. nat_le y (get_or xs k 0)) xs b within (lt-leb (get_or xs b 0) (get_or xs k 0) (before k less)))

least_is : (xs : List ℕ) (b : ℕ) → b < length xs → ((k : ℕ) → k < length xs → get_or xs b 0 ≤ get_or xs k 0) →
    ((k : ℕ) → k < b → get_or xs b 0 < get_or xs k 0) → b ≡ first_least xs
least_is xs b within best before =
    first_place (λ x. list_all (λ y. nat_le x y) xs) xs b within
    (all_pass (λ y. nat_le (get_or xs b 0) y) xs (λ k less. le-leb (get_or xs b 0) (get_or xs k 0) (best k less)))
    (λ k less. one_fails (λ y. nat_le (get_or xs k 0) y) xs b within (lt-leb (get_or xs k 0) (get_or xs b 0) (before k less)))

-- the oldest and the newest of an order by age
module _ (now : ℕ) (since list order : List ℕ) (kept : IsByAge now since list order) (place : ℕ) (place_in : place < length list) where
  abbrev ages : List ℕ
  ages = map (slice_index (ages_at now since list)) list

  age_is : (k : ℕ) → k < length list → get_or ages k 0 ≡ now - get_or since (get_or list k 0) 0
  age_is k less =
      get_or-map (slice_index (ages_at now since list)) list k 0 0 less
      ∙ get_or-map-range_with_len (age_at now since list) 0 (length since) (get_or list k 0) (get_or list k 0) 0 (kept.below k 0 less) (omega arith)
      ∙ ap (λ b. if b then now - get_or since (get_or list k 0) 0 else 0) (any_in list (get_or list k 0) k less refl)

  low : (k : ℕ) → k < length list → get_or list k 0 < 2 ^ 32
  low k less = omega (arith, kept.below k 0 less, kept.few)

  past : (k : ℕ) → k < length list → get_or since (get_or list k 0) 0 < now
  past k less = kept.past k 0 less

  long : length ages ≡ length list
  long = length-map-list list (slice_index (ages_at now since list))
    where
      length-map-list : (xs : List ℕ) (f : ℕ → ℕ) → length (map f xs) ≡ length xs
      length-map-list [] f = refl
      length-map-list (x ∷ xs) f = ap suc (length-map-list xs f)

  module _ (here : get_or list place 0 ≡ get_or order 0 0) where
    none_older : (k : ℕ) → k < length list → age_rank since (get_or list place 0) ≤ age_rank since (get_or list k 0)
    none_older k less = let at = kept.whole k less in by_place at.0 at.1 at.2 (cases_eq at.0 0)
      where
        by_place : (p : ℕ) → p < length order → get_or order p 0 ≡ get_or list k 0 → (p ≡ 0) ⊎ (p ≡ 0 → ⊥) →
            age_rank since (get_or list place 0) ≤ age_rank since (get_or list k 0)
        by_place p within at (inl same) =
            let equal : get_or list place 0 ≡ get_or list k 0 = here ∙ (ap (λ q. get_or order q 0) (sym same) ∙ at) in
            omega (arith, ap (age_rank since) equal)
        by_place p within at (inr other) =
            let less_than = kept.ranked 0 p 0 (omega arith) within in
            omega (arith, ap (age_rank since) here, ap (age_rank since) at, less_than)

    pub oldest_is : place ≡ first_greatest ages
    oldest_is = greatest_is ages place (omega (arith, long))
        (λ k less.
        let in_list : k < length list = omega (arith, long) in
        omega (arith, age_is k in_list, age_is place place_in, none_older k in_list, low k in_list, low place place_in))
        (λ k less.
        let in_list : k < length list = omega arith in
        omega (
          arith,
          age_is k in_list,
          age_is place place_in,
          none_older k in_list,
          low k in_list,
          low place place_in,
          past place place_in,
          kept.ascending k place 0 less place_in,
        ))

  module _ (first : ℕ) (newest : IsPlaceOfNewest since order first) (here : get_or list place 0 ≡ get_or order first 0) where
    abbrev latest : ℕ
    latest = get_or since (get_or order (length order - 1) 0) 0

    low_at : (p : ℕ) → p < length order → get_or order p 0 < 2 ^ 32
    low_at p within = let at = kept.only p within in subst (λ n. n < 2 ^ 32) at.2 (low at.0 at.1)

    none_later : (p : ℕ) → p < length order → get_or since (get_or order p 0) 0 ≤ latest
    none_later p within = by_place (cases_eq p (length order - 1))
      where
        by_place : (p ≡ length order - 1) ⊎ (p ≡ length order - 1 → ⊥) → get_or since (get_or order p 0) 0 ≤ latest
        by_place (inl same) = subst (λ q. get_or since (get_or order p 0) 0 ≤ get_or since (get_or order q 0) 0) same (omega arith)
        by_place (inr other) = omega (
          arith,
          kept.ranked p (length order - 1) 0 (omega arith) (omega arith),
          low_at p within,
          low_at (length order - 1) (omega arith),
        )

    its_since : get_or since (get_or list place 0) 0 ≡ latest
    its_since =
        let least : latest ≤ get_or since (get_or order first 0) 0 =
        omega (arith, newest.others first (omega arith) newest.within, low_at first newest.within) in
        ap (λ n. get_or since n 0) here ∙ omega (arith, least, none_later first newest.within)

    since_in : (k : ℕ) → k < length list → get_or since (get_or list k 0) 0 ≤ latest
    since_in k less = let at = kept.whole k less in subst (λ n. get_or since n 0 ≤ latest) at.2 (none_later at.0 at.1)

    earlier : (k : ℕ) → k < length list → get_or list k 0 < get_or list place 0 → get_or since (get_or list k 0) 0 < latest
    earlier k less before = let at = kept.whole k less in by_place at.0 at.1 at.2 (cases_lt at.0 first) (cases_eq first at.0)
      where
        by_place : (p : ℕ) → p < length order → get_or order p 0 ≡ get_or list k 0 → (p < first) ⊎ (first ≤ p) → (first ≡ p) ⊎ (first ≡ p → ⊥) →
            get_or since (get_or list k 0) 0 < latest
        by_place p within at (inl old) which = omega (arith, newest.older p old, ap (age_rank since) at)
        by_place p within at (inr new) (inl same) =
            let equal : get_or order first 0 ≡ get_or order p 0 = ap (λ q. get_or order q 0) same in
            absurd (omega (arith, before, here, equal, at))
        by_place p within at (inr new) (inr other) =
            let less_than : age_rank since (get_or order first 0) < age_rank since (get_or order p 0) = kept.ranked first p 0 (omega arith) within in
            omega (arith, less_than, ap (age_rank since) at, ap (age_rank since) here, its_since, before, since_in k less)

    pub newest_is : place ≡ first_least ages
    newest_is = least_is ages place (omega (arith, long))
        (λ k less.
        let in_list : k < length list = omega (arith, long) in
        omega (arith, age_is k in_list, age_is place place_in, its_since, since_in k in_list))
        (λ k less.
        let in_list : k < length list = omega arith in
        omega (
          arith,
          age_is k in_list,
          age_is place place_in,
          its_since,
          past place place_in,
          earlier k in_list (kept.ascending k place 0 less place_in),
        ))

pub order_below : (now : ℕ) (since list order : List ℕ) → IsByAge now since list order → All (λ n. n < length since) order
order_below now since list order kept = λ p d within.
    let at = kept.only p within in
    subst (λ n. n < length since) (at.2 ∙ get_or_default order p 0 d within) (kept.below at.0 0 at.1)

first_within : (since order : List ℕ) (first last pick : ℕ) → first ≤ length order → 0 < length order → last ≡ get_or order (length order - 1) 0 →
    pick ≡ get_or since last 0 → ((k : ℕ) → k < first → age_rank since (get_or order k 0) < 2 ^ 32 * pick + 0) → first < length order
first_within since order first last pick within some is_last is_pick older = by_place (cases_lt first (length order))
  where
    pick_of : pick ≡ get_or since (get_or order (length order - 1) 0) 0
    pick_of = is_pick ∙ ap (λ n. get_or since n 0) is_last

    by_place : (first < length order) ⊎ (length order ≤ first) → first < length order
    by_place (inl less) = less
    by_place (inr all) = absurd (omega (arith, older (length order - 1) (omega arith), pick_of))

pub ages_long : (now : ℕ) (since list : List ℕ) → length (ages_at now since list) ≡ length since
ages_long now since list = length-map-range_with_len (age_at now since list) 0 (length since)

-- what is best of the ages after a pick
pub choice_is : (best : List ℕ → ℕ) (r : ℕ) (after before list given : List ℕ) → r ≡ best (map (slice_index after) list) → list ≡ given →
    after ≡ aged given before → r ≡ best (map (slice_index (aged given before)) given)
choice_is best r after before list given is same aging =
    is ∙ ap (λ (xs : List ℕ). best (map (slice_index after) xs)) same ∙ ap (λ (ages : List ℕ). best (map (slice_index ages) given)) aging

-- the place of the newest, where the last node is known
module _ (since order : List ℕ) (end last : ℕ) (few : length since < 2 ^ 32) (below : All (λ n. n < length since) order)
    (ranked : AllPairs (λ (a b : ℕ). age_rank since a < age_rank since b) order) (end_is : end + 1 ≡ length order) (is_last : last ≡ get_or order end 0) where
  latest_is : get_or since last 0 ≡ get_or since (get_or order (length order - 1) 0) 0
  latest_is =
      let same : end ≡ length order - 1 = omega (arith, end_is) in
      ap (λ n. get_or since n 0) (is_last ∙ ap (λ k. get_or order k 0) same)

  abbrev AllFrom : ℕ → Type 0
  AllFrom place = (k : ℕ) → place ≤ k → k < length order → 2 ^ 32 * get_or since last 0 ≤ age_rank since (get_or order k 0)

  pub last_alone : AllFrom end
  last_alone k past within =
      let same : k ≡ end = omega (arith, past, within, end_is) in
      let here : get_or order k 0 ≡ last = ap (λ p. get_or order p 0) same ∙ sym is_last in
      omega (arith, ap (age_rank since) here)

  pub one_earlier : (place node : ℕ) → 0 < place → node ≡ get_or order (place - 1) 0 → get_or since last 0 ≤ get_or since node 0 → AllFrom place →
      AllFrom (place - 1)
  one_earlier place node some is_node as_new from k past within = by_place (cases_eq k (place - 1))
    where
      by_place : (k ≡ place - 1) ⊎ (k ≡ place - 1 → ⊥) → 2 ^ 32 * get_or since last 0 ≤ age_rank since (get_or order k 0)
      by_place (inl same) =
          let here : node ≡ get_or order k 0 = is_node ∙ ap (λ p. get_or order p 0) (sym same) in
          omega (arith, as_new, ap (age_rank since) here)
      by_place (inr other) = from k (omega (arith, past)) within

  pub found_newest : (place node : ℕ) → 0 < place → place ≤ end → node ≡ get_or order (place - 1) 0 → get_or since node 0 < get_or since last 0 →
      AllFrom place → IsPlaceOfNewest since order place
  found_newest place node some within is_node is_before from = record {
    within = omega (arith, within, end_is);
    older = λ k less.
        subst (λ (n : ℕ). age_rank since (get_or order k 0) < 2 ^ 32 * n) latest_is
        (all_older since order (place - 1) (2 ^ 32 * get_or since last 0) ranked inner lower k (omega (arith, less, some)));
    others = λ k past less. subst (λ (n : ℕ). 2 ^ 32 * n ≤ age_rank since (get_or order k 0)) latest_is (from k past less);
  }
    where
      inner : place - 1 < length order
      inner = omega (arith, within, end_is)

      lower : age_rank since (get_or order (place - 1) 0) < 2 ^ 32 * get_or since last 0
      lower =
          let earlier : get_or since (get_or order (place - 1) 0) 0 < get_or since last 0 =
          subst (λ n. get_or since n 0 < get_or since last 0) is_node is_before in
          omega (arith, earlier, below (place - 1) 0 inner, few)

  pub counted_newest : (first : ℕ) → first ≤ length order →
      ((k : ℕ) → k < first → age_rank since (get_or order k 0) < 2 ^ 32 * get_or since last 0 + 0) →
      ((k : ℕ) → first ≤ k → k < length order → 2 ^ 32 * get_or since last 0 + 0 ≤ age_rank since (get_or order k 0)) →
      IsPlaceOfNewest since order first
  counted_newest first within older others = record {
    within = first_within since order first last (get_or since last 0) within (omega (arith, end_is)) is_last_of refl older;
    older = λ k less. let is = older k less in omega (arith, is, latest_is);
    others = λ k past less. let is = others k past less in omega (arith, is, latest_is);
  }
    where
      is_last_of : last ≡ get_or order (length order - 1) 0
      is_last_of =
          let same : end ≡ length order - 1 = omega (arith, end_is) in
          is_last ∙ ap (λ k. get_or order k 0) same
