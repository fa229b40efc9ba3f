-- The wires of a channel: found or not, low or high at first.
use Rattle.std.proofs.Common.{◌≡◌, ◌≢◌, ℕ, suc, ◌<◌, Bool, true, false, cond, Option, None, Some, List, [], ◌∷◌, ◌++◌, length, get_or, refl, ap, sym, ◌∙◌, arith}
use Rattle.std.specs.Prelude.{◌||◌, All, AllPairs, bytes_eq, option_map}
use Rattle.std.specs.List.{list_any}
use Rattle.std.specs.Cmp.Lexicographic.{bytes_decides}
use Rattle.std.proofs.lemmas.Bool.{or_from, or_left, or_right, and_left, or_parts, false_from_ne_true}
use Rattle.std.proofs.lemmas.List.Folds.{list_any-append}
use Rattle.std.proofs.lemmas.List.Elements.{All-nil, All-cons}
use Rattle.chp_base.specs.declared.channel.Channel.{Channel}
use Rattle.prs_file.specs.declared.fault.NetFault.TheVariants.{BadFirst}
use Rattle.prs_file.specs.Indexes.{place_in}
use Rattle.prs_file.specs.Reading.{wires_of}
use Rattle.prs_file.specs.WiresFound.{AreFound, some_unknown, is_high_named, wires_fault_of}

abbrev Distinct : List (List ℕ) → Type 0
Distinct names = AllPairs (λ (a b : List ℕ). a ≢ b) names

distinct_tail : (m : List ℕ) (names : List (List ℕ)) → Distinct (m ∷ names) → Distinct names
distinct_tail m names all = λ i j d below within. all (suc i) (suc j) d (omega arith) (omega arith)

-- the place of a name, in the list with one more at the front
pub place_cases : {P : Type 0} (m : List ℕ) (names : List (List ℕ)) (name : List ℕ) (n : ℕ) → place_in (m ∷ names) name ≡ Some n → ((m ≡ name) → (n ≡ 0) → P) →
    ((k : ℕ) → place_in names name ≡ Some k → n ≡ suc k → bytes_eq m name ≡ false → P) → P
place_cases {P = P} m names name n is here behind = by_name (bytes_eq m name) refl (place_in names name) refl is
  where
    by_name : (b : Bool) → bytes_eq m name ≡ b → (o : Option ℕ) → place_in names name ≡ o → cond b (Some 0) (option_map (λ k. suc k) o) ≡ Some n → P
    by_name true same o at e = here ((bytes_decides m name).0 same) (cc e)
    by_name false other None at e = absurd (cc e)
    by_name false other (Some k) at e = behind k at (cc e) other

-- the name at the place of a name
pub place_found : (names : List (List ℕ)) (name : List ℕ) (n : ℕ) → place_in names name ≡ Some n → (n < length names) × (get_or names n [] ≡ name)
place_found [] name n is = absurd (cc is)
place_found (m ∷ names) name n is =
    place_cases m names name n is (λ same at. (omega arith, ap (λ k. get_or (m ∷ names) k []) at ∙ same)) (λ k at next other. let rest =
    place_found names name k at in (omega (arith, rest.0), ap (λ k. get_or (m ∷ names) k []) next ∙ rest.1))

none_high : (names : List (List ℕ)) (first : List Bool) (name : List ℕ) → ((k : ℕ) → k < length names → get_or names k [] ≢ name) →
    is_high_named names first name ≡ false
none_high [] first name apart = refl
none_high (m ∷ names) [] name apart = refl
none_high (m ∷ names) (v ∷ first) name apart =
    or_from _ _ (and_left (bytes_eq m name) v (false_from_ne_true (bytes_eq m name) (λ same. apart 0 (omega arith) ((bytes_decides m name).0 same))))
    (none_high names first name (λ k below. apart (suc k) (omega arith)))

pub high_is : (names : List (List ℕ)) (first : List Bool) (name : List ℕ) (n : ℕ) → length first ≡ length names → Distinct names →
    place_in names name ≡ Some n → is_high_named names first name ≡ get_or first n false
high_is [] first name n count apart is = absurd (cc is)
high_is (m ∷ names) [] name n count apart is = absurd (omega arith)
high_is (m ∷ names) (v ∷ first) name n count apart is =
    place_cases m names name n is
    (λ same at.
    let here : bytes_eq m name ≡ true = (bytes_decides m name).1 same in
    let rest : is_high_named names first name ≡ false =
    none_high names first name (λ k below e. apart 0 (suc k) [] (omega arith) (omega arith) (same ∙ sym e)) in
    rw (at, here, rest) (by_value v))
    (λ k at next other. rw (next, other) (high_is names first name k (omega arith) (distinct_tail m names apart) at))
  where
    by_value : (b : Bool) → (b || false) ≡ b
    by_value true = refl
    by_value false = refl

all_found : (names wires : List (List ℕ)) (numbers : List ℕ) → AreFound names wires numbers → some_unknown names wires ≡ false
all_found names [] numbers found = refl
all_found names (w ∷ wires) [] found = absurd (cc found)
all_found names (w ∷ wires) (n ∷ numbers) found =
    let first : place_in names w ≡ Some n = cc found in
    let rest : AreFound names wires numbers = cc found in
    rw first (all_found names wires numbers rest)

pub high_wires : (names : List (List ℕ)) (first : List Bool) (wires : List (List ℕ)) (numbers : List ℕ) → length first ≡ length names → Distinct names →
    AreFound names wires numbers → list_any (is_high_named names first) wires ≡ list_any (λ n. get_or first n false) numbers
high_wires names first [] [] count apart found = refl
high_wires names first [] (n ∷ numbers) count apart found = absurd (cc found)
high_wires names first (w ∷ wires) [] count apart found = absurd (cc found)
high_wires names first (w ∷ wires) (n ∷ numbers) count apart found =
    let at : place_in names w ≡ Some n = cc found in
    let rest : AreFound names wires numbers = cc found in
    rw (high_is names first w n count apart at, high_wires names first wires numbers count apart rest) refl

pub numbers_within : (names wires : List (List ℕ)) (numbers : List ℕ) → AreFound names wires numbers → All (λ n. n < length names) numbers
numbers_within names wires [] found = All-nil (λ n. n < length names)
numbers_within names [] (n ∷ numbers) found = absurd (cc found)
numbers_within names (w ∷ wires) (n ∷ numbers) found =
    let at : place_in names w ≡ Some n = cc found in
    let rest : AreFound names wires numbers = cc found in
    All-cons (λ n. n < length names) n numbers (place_found names w n at).0 (numbers_within names wires numbers rest)

pub fault_high : (names : List (List ℕ)) (first : List Bool) (c : Channel) (numbers : List ℕ) → length first ≡ length names → Distinct names →
    AreFound names (wires_of c) numbers → list_any (λ n. get_or first n false) numbers ≡ true → wires_fault_of names first c ≡ Some BadFirst
fault_high names first c numbers count apart found high =
    rw (all_found names (wires_of c) numbers found, high_wires names first (wires_of c) numbers count apart found, high) refl

pub fault_none : (names : List (List ℕ)) (first : List Bool) (c : Channel) (numbers : List ℕ) → length first ≡ length names → Distinct names →
    AreFound names (wires_of c) numbers → list_any (λ n. get_or first n false) numbers ≡ false → wires_fault_of names first c ≡ None
fault_none names first c numbers count apart found low =
    rw (all_found names (wires_of c) numbers found, high_wires names first (wires_of c) numbers count apart found, low) refl

pub all_low : (first : List Bool) (numbers : List ℕ) → list_any (λ n. get_or first n false) numbers ≡ false → All (λ n. get_or first n false ≡ false) numbers
all_low first [] low = All-nil (λ n. get_or first n false ≡ false)
all_low first (n ∷ numbers) low =
    let both = or_parts (get_or first n false) (list_any (λ n. get_or first n false) numbers) low in
    All-cons (λ n. get_or first n false ≡ false) n numbers both.0 (all_low first numbers both.1)

either : (first : List Bool) (rails : List ℕ) (ack : ℕ) →
    list_any (λ n. get_or first n false) (rails ++ ack ∷ []) ≡ (list_any (λ n. get_or first n false) rails || (get_or first ack false || false))
either first rails ack = list_any-append (λ n. get_or first n false) rails (ack ∷ [])

pub rail_high : (first : List Bool) (rails : List ℕ) (ack : ℕ) → list_any (λ n. get_or first n false) rails ≡ true →
    list_any (λ n. get_or first n false) (rails ++ ack ∷ []) ≡ true
rail_high first rails ack is = either first rails ack ∙ or_left _ _ is

pub ack_high : (first : List Bool) (rails : List ℕ) (ack : ℕ) → get_or first ack false ≡ true → list_any (λ n. get_or first n false) (rails ++ ack ∷ []) ≡ true
ack_high first rails ack is = either first rails ack ∙ or_right (list_any (λ n. get_or first n false) rails) _ (or_left _ false is)

pub none_is_high : (first : List Bool) (rails : List ℕ) (ack : ℕ) → list_any (λ n. get_or first n false) rails ≡ false → get_or first ack false ≡ false →
    list_any (λ n. get_or first n false) (rails ++ ack ∷ []) ≡ false
none_is_high first rails ack one two = either first rails ack ∙ or_from _ _ one (or_from _ false two refl)
