-- Identifiers and the numbers that they write.
use Rattle.std.proofs.Common.{◌≡◌, ℕ, zero, suc, inl, inr, ◌+◌, ◌*◌, ◌-◌, ◌/◌, ◌%◌, ◌<◌, ◌≤◌, Bool, true, false, List, [], ◌∷◌, length, get_or, drop, refl, ap, sym, ◌∙◌, arith}
use Rattle.std.specs.Prelude.{◌&&◌, ◌||◌, ◌==◌, ◌⊎◌, not, nat_lt}
use Rattle.std.specs.List.{list_all}
use Rattle.std.proofs.lemmas.Bool.{and_parts, cases_lt, lt-ltb, le-ltb, ne_eqb}
use Rattle.std.proofs.lemmas.Bool.Decides.{nat_tests}
use Rattle.std.proofs.lemmas.List.{drop_more}
use Rattle.wave_file.specs.Waves.{id_of}
use Rattle.wave_file.specs.WaveLines.{id_part, has_high_digit, is_id, id_value}

pub part_range : (b : ℕ) → id_part b ≡ true → (33 ≤ b) × (b ≤ 126)
part_range b part = grind (arith, nat_tests)

pub parts_of : (id : List ℕ) → is_id id ≡ true → list_all id_part id ≡ true
parts_of id is = (and_parts (list_all id_part id) _ is).0

-- the digits behind some make no more than all
pub value_front : (k : ℕ) (id : List ℕ) → id_value (drop k id) ≤ id_value id
value_front zero id = omega arith
value_front (suc k) [] = omega arith
value_front (suc k) (b ∷ bs) = omega (arith, value_front k bs)

pub value_more : (id : List ℕ) (at : ℕ) → at < length id →
    id_value (drop (length id - (at + 1)) id) ≡ (get_or id (length id - 1 - at) 0 - 33) + 94 * id_value (drop (length id - at) id)
value_more id at within =
    let i : length id - (at + 1) ≡ length id - 1 - at = omega arith in
    let j : (length id - 1 - at) + 1 ≡ length id - at = omega arith in
    ap (λ k. id_value (drop k id)) i ∙ ap id_value (drop_more id (length id - 1 - at) 0 (omega arith))
    ∙ ap (λ k. (get_or id (length id - 1 - at) 0 - 33) + 94 * id_value (drop k id)) j

high_more : (a b : ℕ) (bs : List ℕ) → has_high_digit (a ∷ b ∷ bs) ≡ has_high_digit (b ∷ bs)
high_more a b bs =
    let count : suc (suc (length bs)) - 1 ≡ suc (suc (length bs) - 1) = omega arith in
    ap (λ k. not (get_or (a ∷ b ∷ bs) k 33 == 33)) count

-- the number of an identifier with a high digit
high_some : (b : ℕ) (bs : List ℕ) → list_all id_part (b ∷ bs) ≡ true → has_high_digit (b ∷ bs) ≡ true → 1 ≤ id_value (b ∷ bs)
high_some b [] parts high =
    let range = part_range b (and_parts (id_part b) true parts).0 in
    by_digit (b == 33) refl high range.0
  where
    by_digit : (e : Bool) → (b == 33) ≡ e → not (b == 33) ≡ true → 33 ≤ b → 1 ≤ (b - 33) + 94 * 0
    by_digit e is other above = grind (arith, nat_tests)
high_some b (c ∷ bs) parts high = omega (arith, high_some c bs (and_parts (id_part b) (list_all id_part (c ∷ bs)) parts).1 (sym (high_more b c bs) ∙ high))

one_digit : (a : ℕ) → 33 ≤ a → a ≤ 126 → a ∷ [] ≡ id_of ((a - 33) + 94 * 0)
one_digit a low most =
    let n = (a - 33) + 94 * 0 in
    let small : nat_lt n 94 ≡ true = lt-ltb n 94 (omega arith) in
    rw small (ap (λ x. x ∷ []) (omega arith))

two_digits : (a b : ℕ) → 33 ≤ a → a ≤ 126 → 34 ≤ b → b ≤ 126 → a ∷ b ∷ [] ≡ id_of ((a - 33) + 94 * ((b - 33) + 94 * 0))
two_digits a b low most low' most' =
    let n = (a - 33) + 94 * ((b - 33) + 94 * 0) in
    let large : nat_lt n 94 ≡ false = le-ltb n 94 (omega arith) in
    let small : nat_lt n 8836 ≡ true = lt-ltb n 8836 (omega arith) in
    let first : a ≡ 33 + n % 94 = omega arith in
    let second : b ≡ 33 + n / 94 % 94 = omega arith in
    rw (large, small) (ap (λ x. x ∷ b ∷ []) first ∙ ap (λ x. (33 + n % 94) ∷ x ∷ []) second)

three_digits : (a b c : ℕ) → 33 ≤ a → a ≤ 126 → 33 ≤ b → b ≤ 126 → 34 ≤ c → c ≤ 126 →
    a ∷ b ∷ c ∷ [] ≡ id_of ((a - 33) + 94 * ((b - 33) + 94 * ((c - 33) + 94 * 0)))
three_digits a b c low most low' most' low'' most'' =
    let n = (a - 33) + 94 * ((b - 33) + 94 * ((c - 33) + 94 * 0)) in
    let large : nat_lt n 94 ≡ false = le-ltb n 94 (omega arith) in
    let larger : nat_lt n 8836 ≡ false = le-ltb n 8836 (omega arith) in
    let first : a ≡ 33 + n % 94 = omega arith in
    let second : b ≡ 33 + n / 94 % 94 = omega arith in
    let third : c ≡ 33 + n / 8836 = omega arith in
    rw (large, larger) (ap (λ x. x ∷ b ∷ c ∷ []) first ∙ ap (λ x. (33 + n % 94) ∷ x ∷ c ∷ []) second
    ∙ ap (λ x. (33 + n % 94) ∷ (33 + n / 94 % 94) ∷ x ∷ []) third)

high_digit : (b : ℕ) → id_part b ≡ true → not (b == 33) ≡ true → 34 ≤ b
high_digit b part other = grind (arith, nat_tests)

-- an identifier is that of its number
pub id_back : (id : List ℕ) → is_id id ≡ true → id_value id < 830584 → id ≡ id_of (id_value id)
id_back [] is few = absurd (cc is)
id_back (a ∷ []) is few =
    let first = part_range a (and_parts (id_part a) true (parts_of (a ∷ []) is)).0 in
    one_digit a first.0 first.1
id_back (a ∷ b ∷ []) is few =
    let both = and_parts (list_all id_part (a ∷ b ∷ [])) (has_high_digit (a ∷ b ∷ [])) is in
    let one = and_parts (id_part a) (id_part b && true) both.0 in
    let two = and_parts (id_part b) true one.1 in
    let first = part_range a one.0 in
    two_digits a b first.0 first.1 (high_digit b two.0 both.1) (part_range b two.0).1
id_back (a ∷ b ∷ c ∷ []) is few =
    let both = and_parts (list_all id_part (a ∷ b ∷ c ∷ [])) (has_high_digit (a ∷ b ∷ c ∷ [])) is in
    let one = and_parts (id_part a) (id_part b && (id_part c && true)) both.0 in
    let two = and_parts (id_part b) (id_part c && true) one.1 in
    let three = and_parts (id_part c) true two.1 in
    let first = part_range a one.0 in
    let second = part_range b two.0 in
    three_digits a b c first.0 first.1 second.0 second.1 (high_digit c three.0 both.1) (part_range c three.0).1
id_back (a ∷ b ∷ c ∷ d ∷ ds) is few =
    let id = a ∷ b ∷ c ∷ d ∷ ds in
    let both = and_parts (list_all id_part id) (length id == 1 || has_high_digit id) is in
    let last : has_high_digit id ≡ true = rw (ne_eqb (length id) 1 (λ e. absurd (omega (arith, e)))) at both.1 in
    let one = and_parts (id_part a) (list_all id_part (b ∷ c ∷ d ∷ ds)) both.0 in
    let two = and_parts (id_part b) (list_all id_part (c ∷ d ∷ ds)) one.1 in
    let three = and_parts (id_part c) (list_all id_part (d ∷ ds)) two.1 in
    let high : has_high_digit (d ∷ ds) ≡ true =
    sym (high_more a b (c ∷ d ∷ ds) ∙ high_more b c (d ∷ ds) ∙ high_more c d ds) ∙ last in
    absurd (omega (arith, high_some d ds three.1 high))

part_back : (d : ℕ) → d < 94 → id_part (33 + d) ≡ true
part_back d below = grind (arith, nat_tests)

no_zero : (d : ℕ) → 0 < d → (33 + d == 33) ≡ false
no_zero d above = ne_eqb (33 + d) 33 (λ e. absurd (omega (arith, e)))

-- the identifier of a node is one, and is that of its number
pub id_of_is : (n : ℕ) → n < 830584 → (is_id (id_of n) ≡ true) × (id_value (id_of n) ≡ n)
id_of_is n few = by_digits (cases_lt n 94) (cases_lt n 8836)
  where
    by_digits : (n < 94) ⊎ (94 ≤ n) → (n < 8836) ⊎ (8836 ≤ n) → (is_id (id_of n) ≡ true) × (id_value (id_of n) ≡ n)
    by_digits (inl small) any =
        let one : nat_lt n 94 ≡ true = lt-ltb n 94 small in
        let a : id_part (33 + n % 94) ≡ true = part_back (n % 94) (omega arith) in
        (rw (one, a) refl, rw one (omega arith))
    by_digits (inr large) (inl small) =
        let one : nat_lt n 94 ≡ false = le-ltb n 94 large in
        let two : nat_lt n 8836 ≡ true = lt-ltb n 8836 small in
        let a : id_part (33 + n % 94) ≡ true = part_back (n % 94) (omega arith) in
        let b : id_part (33 + n / 94 % 94) ≡ true = part_back (n / 94 % 94) (omega arith) in
        let z : (33 + n / 94 % 94 == 33) ≡ false = no_zero (n / 94 % 94) (omega arith) in
        (rw (one, two, a, b, z) refl, rw (one, two) (omega arith))
    by_digits (inr large) (inr larger) =
        let one : nat_lt n 94 ≡ false = le-ltb n 94 large in
        let two : nat_lt n 8836 ≡ false = le-ltb n 8836 larger in
        let a : id_part (33 + n % 94) ≡ true = part_back (n % 94) (omega arith) in
        let b : id_part (33 + n / 94 % 94) ≡ true = part_back (n / 94 % 94) (omega arith) in
        let d : id_part (33 + n / 8836) ≡ true = part_back (n / 8836) (omega arith) in
        let z : (33 + n / 8836 == 33) ≡ false = no_zero (n / 8836) (omega arith) in
        (rw (one, two, a, b, d, z) refl, rw (one, two) (omega arith))
