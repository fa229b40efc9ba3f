-- Names of the letter h and a number: they are names, and not all of them are taken.
use Rattle.std.proofs.Common.{◌≡◌, ◌≢◌, ℕ, zero, suc, ◌+◌, ◌<◌, ◌≤◌, ◌^◌, Bool, true, false, List, [], ◌∷◌, length, get_or, drop, Option, Some, None, refl, sym, ap, ◌∙◌, subst, ⊎_elim, arith}
use Rattle.std.specs.Prelude.{◌||◌, ◌==◌, nat_lt, decimal, IfNone, IsSome}
use Rattle.std.specs.Int.{IsInRange}
use Rattle.std.specs.List.{list_all, list_any, IsDistinct, AllByRecursion}
use Rattle.std.specs.Set.{is_member}
use Rattle.std.specs.Str.{bytes_eq}
use Rattle.std.specs.Str.Parse.{AllDigits}
use Rattle.std.specs.Cmp.Lexicographic.{nat_list_eq_equiv}
use Rattle.std.proofs.lemmas.Bool.{and_from, and_parts, cases_lt}
use Rattle.std.proofs.lemmas.Bool.Decides.{nat_tests}
use Rattle.std.proofs.lemmas.Slice.Eq.{bytes_eq-Decides}
use Rattle.std.proofs.lemmas.Str.Parse.{tells_digits}
use Rattle.std.proofs.lemmas.Fmt.{decimal_is_IsNumeral, decimal_injective, decimal_nonempty, length-decimal-le}
use Rattle.std.proofs.lemmas.Map.Made.{length-le_from_is_member}
use Rattle.chp_base.specs.Names.{IsName, letter, digit, word_part, keywords}
use Rattle.call_merge.specs.CallSplits.{own_name}

-- they are names

in_order : (c : ℕ) → 48 ≤ c → c ≤ 57 → digit c ≡ true
in_order c low high = grind (arith, nat_tests)

or_left : (a b : Bool) → a ≡ true → (a || b) ≡ true
or_left true b e = refl
or_left false b e = absurd (cc e)

or_right : (a b : Bool) → b ≡ true → (a || b) ≡ true
or_right true b e = refl
or_right false b e = e

part_of_digit : (c : ℕ) → IsInRange 48 57 c → word_part c ≡ true
part_of_digit c r = or_left (letter c || digit c) (c == 95) (or_right (letter c) (digit c) (in_order c r.0 r.1))

parts_of_digits : (ds : List ℕ) → AllDigits 10 ds → list_all word_part ds ≡ true
parts_of_digits [] h = refl
parts_of_digits (c ∷ cs) h = let t = tells_digits.parts c cs h in and_from (word_part c) (list_all word_part cs) (part_of_digit c t.0) (parts_of_digits cs t.1)

-- a word whose second byte is above the digits
abbrev is_worded : List ℕ → Bool
is_worded w = nat_lt 57 (get_or w 1 0)

above : (n : ℕ) → nat_lt 57 n ≡ true → 57 < n
above n h = grind (arith, nat_tests)

not_word : (bs w : List ℕ) → get_or bs 1 0 ≤ 57 → is_worded w ≡ true → bytes_eq bs w ≡ false
not_word bs w low worded = by_test (bytes_eq bs w) refl
  where
    by_test : (b : Bool) → bytes_eq bs w ≡ b → bytes_eq bs w ≡ false
    by_test false e = e
    by_test true e =
        let same : bs ≡ w = (bytes_eq-Decides bs w).0 e in
        let second : get_or bs 1 0 ≡ get_or w 1 0 = ap (λ z. get_or z 1 0) same in
        absurd (omega (arith, second, low, above (get_or w 1 0) worded))

no_word : (bs : List ℕ) (ws : List (List ℕ)) → get_or bs 1 0 ≤ 57 → list_all is_worded ws ≡ true → list_any (bytes_eq bs) ws ≡ false
no_word bs [] low h = refl
no_word bs (w ∷ ws) low h =
    let t = and_parts (is_worded w) (list_all is_worded ws) h in
    ap (λ b. b || list_any (bytes_eq bs) ws) (not_word bs w low t.0) ∙ no_word bs ws low t.1

second_digit : (first : ℕ) (ds : List ℕ) → 0 < length ds → AllDigits 10 ds → get_or (first ∷ ds) 1 0 ≤ 57
second_digit first [] some h = absurd (omega (arith, some))
second_digit first (c ∷ cs) some h = (tells_digits.parts c cs h).0.1

pub own_name_is_name : (number : ℕ) → number < 2 ^ 64 → IsName (own_name number)
own_name_is_name number small =
    let digits = (decimal_is_IsNumeral number small).0.1 in record {
      short = (let l = length-decimal-le 20 number (omega arith) (omega (arith, small)) (omega (arith, small)) in omega (arith, l));
      first = refl;
      parts = parts_of_digits (decimal number) digits;
      free = no_word (own_name number) keywords (second_digit 104 (decimal number) (decimal_nonempty number small) digits) refl;
    }

pub made_name : {X : Type 0} (o : Option X) (bs cs : List ℕ) → IfNone o (¬ IsName bs) → bs ≡ cs → IsName cs → IsSome o
made_name (Some x) bs cs none same is = refl
made_name None bs cs none same is = absurd (none (subst (λ z. IsName z) (sym same) is))

-- not all are taken

same_own : (j k : ℕ) → j < 2 ^ 64 → k < 2 ^ 64 → own_name j ≡ own_name k → j ≡ k
same_own j k h g e = decimal_injective j k h g (ap (drop 1) e)

unequal : (xs ys : List ℕ) → xs ≢ ys → bytes_eq xs ys ≡ false
unequal xs ys ne = by_test (bytes_eq xs ys) refl
  where
    by_test : (b : Bool) → bytes_eq xs ys ≡ b → bytes_eq xs ys ≡ false
    by_test false e = e
    by_test true e = absurd (ne ((bytes_eq-Decides xs ys).0 e))

-- the names of the numbers below this one
abbrev names_below : ℕ → List (List ℕ)
names_below zero = []
names_below (suc k) = own_name k ∷ names_below k

names_counted : (k : ℕ) → length (names_below k) ≡ k
names_counted zero = refl
names_counted (suc k) = ap suc (names_counted k)

apart_below : (k j : ℕ) → j ≤ k → k < 2 ^ 64 → AllByRecursion (λ y. bytes_eq (own_name k) y ≡ false) (names_below j)
apart_below k zero le small = tt
apart_below k (suc j) le small = (
  unequal (own_name k) (own_name j) (λ e. let same = same_own k j small (omega (arith, le, small)) e in omega (arith, same, le)),
  apart_below k j (omega (arith, le)) small,
)

names_distinct : (k : ℕ) → k ≤ 2 ^ 64 → IsDistinct bytes_eq (names_below k)
unfolding IsDistinct
names_distinct zero small = tt
names_distinct (suc k) small = (apart_below k k (omega arith) (omega (arith, small)), names_distinct k (omega (arith, small)))

member_below : (k : ℕ) (keys : List (List ℕ)) → ((j : ℕ) → j < k → list_any (bytes_eq (own_name j)) keys ≡ true) → (q : List ℕ)
    → is_member bytes_eq (names_below k) q ≡ true → is_member bytes_eq keys q ≡ true
member_below zero keys taken q h = absurd (cc h)
member_below (suc k) keys taken q h =
    by_test (bytes_eq q (own_name k)) refl h (member_below k keys (λ j less. taken j (omega (arith, less))) q)
  where
    by_test : (b : Bool) → bytes_eq q (own_name k) ≡ b → (b || is_member bytes_eq (names_below k) q) ≡ true
        → (is_member bytes_eq (names_below k) q ≡ true → is_member bytes_eq keys q ≡ true) → is_member bytes_eq keys q ≡ true
    by_test true so here rest =
        let same : q ≡ own_name k = (bytes_eq-Decides q (own_name k)).0 so in
        subst (λ (n : List ℕ). is_member bytes_eq keys n ≡ true) (sym same) (taken k (omega arith))
    by_test false so here rest = rest here

-- so no more than there are keys
pub few_taken : (k : ℕ) (keys : List (List ℕ)) → k ≤ 2 ^ 64 → ((j : ℕ) → j < k → list_any (bytes_eq (own_name j)) keys ≡ true) → k ≤ length keys
few_taken k keys small taken =
    subst (λ n. n ≤ length keys) (names_counted k)
    (length-le_from_is_member nat_list_eq_equiv (names_below k) keys (names_distinct k small) (member_below k keys taken))

-- one number more that is taken
pub taken_more : (k : ℕ) (keys : List (List ℕ)) (name : List ℕ) → name ≡ own_name k → list_any (bytes_eq name) keys ≡ true
    → ((j : ℕ) → j < k → list_any (bytes_eq (own_name j)) keys ≡ true) → (j : ℕ) → j < k + 1 → list_any (bytes_eq (own_name j)) keys ≡ true
taken_more k keys name is here below j less =
    ⊎_elim (λ before. below j before)
    (λ behind. let same : j ≡ k = omega (arith, less, behind) in
    subst (λ n. list_any (bytes_eq (own_name n)) keys ≡ true) (sym same) (subst (λ n. list_any (bytes_eq n) keys ≡ true) is here)) (cases_lt j k)

-- behind as many numbers as there are keys none more is taken
pub last_free : (k : ℕ) (keys : List (List ℕ)) (name : List ℕ) → name ≡ own_name k → k ≡ length keys → k < 2 ^ 63
    → ((j : ℕ) → j < k → list_any (bytes_eq (own_name j)) keys ≡ true) → list_any (bytes_eq name) keys ≡ false
last_free k keys name is most small below = by_test (list_any (bytes_eq name) keys) refl
  where
    by_test : (b : Bool) → list_any (bytes_eq name) keys ≡ b → list_any (bytes_eq name) keys ≡ false
    by_test false so = so
    by_test true so =
        let more = few_taken (k + 1) keys (omega (arith, small)) (taken_more k keys name is so below) in absurd (omega (arith, more, most))
