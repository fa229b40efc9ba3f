-- The keys of names: no two names have one, so a table that goes by them finds the place of a name.
use Rattle.std.proofs.Common.{◌≡◌, ℕ, zero, suc, ◌+◌, ◌*◌, ◌-◌, ◌<◌, ◌≤◌, ◌^◌, Bool, true, false, cond, List, [], ◌∷◌, ◌++◌, length, take, drop, get_or, map, Option, Some, None, slice_get, Contains, ⊎_elim, true≢false, IfSome, IfNone, refl, sym, ap, subst, ◌∙◌, arith}
use Rattle.std.specs.Prelude.{◌||◌, ◌&&◌, ◌==◌, nat_eq}
use Rattle.std.specs.BTreeMap.{Updates}
use Rattle.std.specs.Cmp.{both_tied, unsigned_ties}
use Rattle.std.specs.Cmp.Lexicographic.{bytes_decides, nat_list_eq_equiv}
use Rattle.std.specs.List.{list_all, list_any, IsDistinct}
use Rattle.std.specs.Map.{lookup}
use Rattle.std.specs.Ordering.{is_eq, nat_cmp}
use Rattle.std.specs.Str.{bytes_eq}
use Rattle.std.proofs.lemmas.Bool.{leb-true, eqb-true, eq-eqb, ne_eqb}
use Rattle.std.proofs.lemmas.List.{drop_more, take-append-drop, map-append, length-map, length_push}
use Rattle.std.proofs.lemmas.List.Elements.{Contains-push_cases}
use Rattle.std.proofs.lemmas.Map.Keys.{IsDistinct-push}
use Rattle.indexmap.specs.IndexMap.{IndexMap, values, insert_entry, get as value_at}
use Rattle.indexmap.specs.IndexMap as changes
use Rattle.indexmap.proofs.CallerLemmas.{Contains-list_any, insert_entry-new}
use lib.Pow.{pow_pos, pow_mono, pow-add}
use Rattle.chp_base.specs.Names.{IsNodeName, node_part, word_part, letter, digit, between}
use Rattle.chp_base.specs.NameKeys.{packed, name_key, key_cmp, place_at, Places, IsPlaceIn, IsPlaced, IsNumbered}
use Rattle.chp_base.proofs.NameLemmas.{left_true, right_true}

-- digits

pub one_more_digit : (bs : List ℕ) (place number : ℕ) → 0 < place → place ≤ length bs → number ≡ packed (drop place bs) →
    256 * number + get_or bs (place - 1) 0 ≡ packed (drop (place - 1) bs)
one_more_digit bs place number some within is =
    let next : (place - 1) + 1 ≡ place = omega arith in
    let more : packed (drop (place - 1) bs) ≡ get_or bs (place - 1) 0 + 256 * packed (drop ((place - 1) + 1) bs) =
    ap packed (drop_more bs (place - 1) 0 (omega arith)) in
    omega (arith, more, is, ap (λ k. packed (drop k bs)) next)

pub digit_fits : (number byte place : ℕ) → 0 < place → place ≤ 16 → byte < 256 → number < 2 ^ (8 * (16 - place)) →
    256 * number + byte < 2 ^ (8 * (16 - (place - 1)))
digit_fits number byte place some most small fits =
    let e : 8 * (16 - (place - 1)) ≡ 8 * (16 - place) + 8 = omega arith in
    rw (e, pow-add 2 (8 * (16 - place)) 8) (omega arith)

pub some_power : (k : ℕ) → 0 < 2 ^ k
some_power k = pow_pos k

pub room_for_a_digit : (number place : ℕ) → 0 < place → number < 2 ^ (8 * (16 - place)) → number < 2 ^ 120
room_for_a_digit number place some fits =
    let few : 8 * (16 - place) ≤ 120 = omega arith in
    omega (arith, pow_mono few)

-- what stands in a name is a digit above 0

abbrev IsDigit : ℕ → Type 0
IsDigit b = (1 ≤ b) × (b < 256)

by_either : (P : Type 0) (a b : Bool) → (a ≡ true → P) → (b ≡ true → P) → (a || b) ≡ true → P
by_either P true b f g h = f refl
by_either P false b f g h = g h

in_range : (low high b : ℕ) → 1 ≤ low → high < 256 → between low high b ≡ true → IsDigit b
in_range low high b some most h = (omega (arith, leb-true low b (left_true _ _ h)), omega (arith, leb-true b high (right_true _ _ h)))

letter_digit : (b : ℕ) → letter b ≡ true → IsDigit b
letter_digit b = by_either (IsDigit b) (between 97 122 b) (between 65 90 b) (in_range 97 122 b (omega arith) (omega arith))
    (in_range 65 90 b (omega arith) (omega arith))

is_number : (n b : ℕ) → 1 ≤ n → n < 256 → (b == n) ≡ true → IsDigit b
is_number n b some most h = (omega (arith, eqb-true b n h), omega (arith, eqb-true b n h))

part_digit : (b : ℕ) → node_part b ≡ true → IsDigit b
part_digit b = by_either (IsDigit b) (word_part b) (b == 46)
    (by_either (IsDigit b) (letter b || digit b) (b == 95)
    (by_either (IsDigit b) (letter b) (digit b) (letter_digit b) (in_range 48 57 b (omega arith) (omega arith)))
    (is_number 95 b (omega arith) (omega arith)))
    (is_number 46 b (omega arith) (omega arith))

same_digits : (xs ys : List ℕ) → list_all node_part xs ≡ true → list_all node_part ys ≡ true → packed xs ≡ packed ys → xs ≡ ys
same_digits [] [] p q e = refl
same_digits [] (y ∷ ys) p q e = let d = part_digit y (left_true (node_part y) _ q) in absurd (omega (arith, e, d.0))
same_digits (x ∷ xs) [] p q e = let d = part_digit x (left_true (node_part x) _ p) in absurd (omega (arith, e, d.0))
same_digits (x ∷ xs) (y ∷ ys) p q e =
    let a = part_digit x (left_true (node_part x) _ p) in
    let b = part_digit y (left_true (node_part y) _ q) in
    let head : x ≡ y = omega (arith, e, a.1, b.1) in
    let rest : packed xs ≡ packed ys = omega (arith, e, a.1, b.1) in
    let tail : xs ≡ ys = same_digits xs ys (right_true (node_part x) _ p) (right_true (node_part y) _ q) rest in
    λ i. head i ∷ tail i

-- a name is told by its key

all_taken : (p : ℕ → Bool) (n : ℕ) (bs : List ℕ) → list_all p bs ≡ true → list_all p (take n bs) ≡ true
all_taken p zero bs h = refl
all_taken p (suc n) [] h = refl
all_taken p (suc n) (b ∷ bs) h = rw (left_true (p b) _ h) (all_taken p n bs (right_true (p b) _ h))

all_dropped : (p : ℕ → Bool) (n : ℕ) (bs : List ℕ) → list_all p bs ≡ true → list_all p (drop n bs) ≡ true
all_dropped p zero bs h = h
all_dropped p (suc n) [] h = refl
all_dropped p (suc n) (b ∷ bs) h = all_dropped p n bs (right_true (p b) _ h)

same_name : (a b : List ℕ) → IsNodeName a → IsNodeName b → packed (take 16 a) ≡ packed (take 16 b) → packed (drop 16 a) ≡ packed (drop 16 b) → a ≡ b
same_name a b is other first last =
    let front : take 16 a ≡ take 16 b = same_digits _ _ (all_taken node_part 16 a is.parts) (all_taken node_part 16 b other.parts) first in
    let back : drop 16 a ≡ drop 16 b = same_digits _ _ (all_dropped node_part 16 a is.parts) (all_dropped node_part 16 b other.parts) last in
    sym (take-append-drop 16 a) ∙ (λ i. front i ++ back i) ∙ take-append-drop 16 b

abbrev key_eq : ℕ × ℕ → ℕ × ℕ → Bool
key_eq p q = (p.0 == q.0) && (p.1 == q.1)

key_itself : (p : ℕ × ℕ) → key_eq p p ≡ true
key_itself p = rw (eq-eqb p.0 p.0 refl) (eq-eqb p.1 p.1 refl)

by_test : (t : Bool) (a b : List ℕ) → IsNodeName a → IsNodeName b → bytes_eq a b ≡ t → key_eq (name_key a) (name_key b) ≡ t
by_test true a b is other e = subst (λ n. key_eq (name_key a) (name_key n) ≡ true) ((bytes_decides a b).0 e) (key_itself (name_key a))
by_test false a b is other e = by_key (key_eq (name_key a) (name_key b)) refl
  where
    by_key : (t : Bool) → key_eq (name_key a) (name_key b) ≡ t → t ≡ false
    by_key false k = refl
    by_key true k =
        let p = name_key a in
        let q = name_key b in
        let first : p.0 ≡ q.0 = eqb-true p.0 q.0 (left_true (p.0 == q.0) (p.1 == q.1) k) in
        let last : p.1 ≡ q.1 = eqb-true p.1 q.1 (right_true (p.0 == q.0) (p.1 == q.1) k) in
        absurd (true≢false (sym ((bytes_decides a b).1 (same_name a b is other first last)) ∙ e))

key_tells : (a b : List ℕ) → IsNodeName a → IsNodeName b → is_eq (key_cmp (name_key a) (name_key b)) ≡ bytes_eq a b
key_tells a b is other =
    let p = name_key a in
    let q = name_key b in
    sym (both_tied (p.0 == q.0) (p.1 == q.1) (nat_cmp p.0 q.0) (nat_cmp p.1 q.1) (unsigned_ties p.0 q.0) (unsigned_ties p.1 q.1))
    ∙ by_test (bytes_eq a b) a b is other refl

-- the place of a name

still_there : (names : List (List ℕ)) (n q : List ℕ) (k : ℕ) → slice_get names k ≡ Some q → slice_get (names ++ n ∷ []) k ≡ Some q
still_there [] n q k h = absurd (cc h)
still_there (m ∷ names) n q zero h = h
still_there (m ∷ names) n q (suc k) h = still_there names n q k h

behind : (names : List (List ℕ)) (n : List ℕ) → slice_get (names ++ n ∷ []) (length names) ≡ Some n
behind [] n = refl
behind (m ∷ names) n = behind names n

pub none_equal : (names : List (List ℕ)) (name : List ℕ) → (Contains names name → ⊥) → list_any (bytes_eq name) names ≡ false
none_equal names name fresh = by_any (list_any (bytes_eq name) names) refl
  where
    by_any : (t : Bool) → list_any (bytes_eq name) names ≡ t → t ≡ false
    by_any false e = refl
    by_any true e = absurd (fresh (Contains-list_any bytes_eq (λ a b. (bytes_decides a b).0) names name e))

module _ (names : List (List ℕ)) (name : List ℕ) where
  others_kept : (q : List ℕ) (r : Option ℕ) → bytes_eq name q ≡ false → IsPlaceIn names q r → IsPlaceIn (names ++ name ∷ []) q r
  others_kept q None apart absent = λ there. ⊎_elim absent (λ same. cc (apart, (bytes_decides name q).1 same)) (Contains-push_cases names name q there)
  others_kept q (Some k) apart at = still_there names name q k at

  now_placed : (q : List ℕ) (t : Bool) (r : Option ℕ) → bytes_eq name q ≡ t → IsPlaceIn names q r →
      IsPlaceIn (names ++ name ∷ []) q (cond t (Some (length names)) r)
  now_placed q true r e at = subst (λ n. slice_get (names ++ name ∷ []) (length names) ≡ Some n) ((bytes_decides name q).0 e) (behind names name)
  now_placed q false r e at = others_kept q r e at

  -- one more name has the next place
  pub one_more_place : (old new : Places) → IsPlaced names old → IsNodeName name → Updates key_cmp old new (name_key name) (Some (length names)) →
      IsPlaced (names ++ name ∷ []) new
  one_more_place old new placed is changed = λ q other.
      let now : place_at new q ≡ cond (bytes_eq name q) (Some (length names)) (place_at old q) =
      changed.0 (name_key q) ∙ ap (λ t. cond t (Some (length names)) (place_at old q)) (key_tells name q is other) in
      subst (IsPlaceIn (names ++ name ∷ []) q) (sym now) (now_placed q (bytes_eq name q) (place_at old q) refl (placed q other))

-- the names by their numbers

module _ {S : Type 0} (old new : IndexMap ℕ (List ℕ) S) (name : List ℕ) where
  pub values_pushed : IsNumbered old → new.entries ≡ insert_entry nat_eq old.entries (length old.entries) name → values new ≡ values old ++ name ∷ []
  values_pushed numbered made =
      let entries : new.entries ≡ old.entries ++ (length old.entries, name) ∷ [] =
      made ∙ insert_entry-new nat_eq old (length old.entries) name (numbered (length old.entries) (omega arith)) in
      ap (map (λ (e : ℕ × List ℕ). e.1)) entries ∙ map-append (λ (e : ℕ × List ℕ). e.1) old.entries ((length old.entries, name) ∷ [])

  pub numbered_on : IsNumbered old → changes.Updates nat_eq old new (length old.entries) (Some name) → length new.entries ≡ length old.entries + 1 →
      IsNumbered new
  numbered_on numbered changed longer = λ k above.
      changed.0 k ∙ ap (λ t. cond t (Some name) (value_at nat_eq old k)) (ne_eqb (length old.entries) k (omega arith)) ∙ numbered k (omega arith)

-- what a table keeps

abbrev pub IsKept : {S : Type 0} → IndexMap ℕ (List ℕ) S → Places → Type 0
IsKept names places = IsNumbered names × IsPlaced (values names) places × IsDistinct bytes_eq (values names) × (length names.entries < 2 ^ 32)

module _ {S : Type 0} (names : IndexMap ℕ (List ℕ) S) (places : Places) where
  nothing_in : (vs : List (List ℕ)) (q : List ℕ) (r : Option ℕ) → vs ≡ [] → r ≡ None → IsPlaceIn vs q r
  nothing_in vs q r none at = subst (IsPlaceIn vs q) (sym at) (λ there. absurd (omega (arith, there.1, ap length none)))

  pub begun : names.entries ≡ [] → places.entries ≡ [] → IsKept names places
  unfolding IsDistinct
  begun no_names no_places =
      let vs : values names ≡ [] = ap (map (λ (e : ℕ × List ℕ). e.1)) no_names in (
        λ k above. ap (lookup (nat_eq k)) no_names,
        λ q is. nothing_in (values names) q (place_at places q) vs (ap (lookup (λ k. is_eq (key_cmp (name_key q) k))) no_places),
        subst (IsDistinct bytes_eq) (sym vs) tt,
        omega (arith, ap length no_names),
      )

module _ {S : Type 0} (old new : IndexMap ℕ (List ℕ) S) (before after : Places) (name : List ℕ) where
  pub pushed : IsKept old before → IsNodeName name → (Contains (values old) name → ⊥) → length old.entries < 2 ^ 32 - 1 →
      new.entries ≡ insert_entry nat_eq old.entries (length old.entries) name → changes.Updates nat_eq old new (length old.entries) (Some name) →
      Updates key_cmp before after (name_key name) (Some (length old.entries)) → IsKept new after
  pushed kept is fresh room made changed placed =
      let vs : values new ≡ values old ++ name ∷ [] = values_pushed old new name kept.0 made in
      let count : length (values old) ≡ length old.entries = length-map old.entries (λ (e : ℕ × List ℕ). e.1) in
      let longer : length new.entries ≡ length old.entries + 1 = omega (
        arith,
        sym (length-map new.entries (λ (e : ℕ × List ℕ). e.1)),
        ap length vs,
        length_push (values old) name,
        count,
      ) in (
        numbered_on old new name kept.0 changed longer,
        subst (λ xs. IsPlaced xs after) (sym vs) (one_more_place (values old) name before after kept.1 is
            (subst (λ n. Updates key_cmp before after (name_key name) (Some n)) (sym count) placed)),
        subst (IsDistinct bytes_eq) (sym vs) (IsDistinct-push nat_list_eq_equiv (values old) name kept.2 (none_equal (values old) name fresh)),
        omega (arith, longer, room),
      )

-- room for more changes nothing
pub same_entries : {S : Type 0} (old new : IndexMap ℕ (List ℕ) S) (places : Places) → new.entries ≡ old.entries → IsKept old places → IsKept new places
same_entries old new places same kept =
    subst (λ (es : List (ℕ × List ℕ)). ((k : ℕ) → length es ≤ k → lookup (nat_eq k) es ≡ None) × IsPlaced (map (λ (e : ℕ × List ℕ). e.1) es) places
    × IsDistinct bytes_eq (map (λ (e : ℕ × List ℕ). e.1) es) × (length es < 2 ^ 32)) (sym same) kept

-- what is found

pub some_place : (names : List (List ℕ)) (name : List ℕ) (r : Option ℕ) → IsPlaceIn names name r → IfSome r (λ place. slice_get names place ≡ Some name)
some_place names name None at = tt
some_place names name (Some k) at = at

pub no_place : (names : List (List ℕ)) (name : List ℕ) (r : Option ℕ) → IsPlaceIn names name r → IfNone r (¬ Contains names name)
no_place names name None at = at
no_place names name (Some k) at = tt
