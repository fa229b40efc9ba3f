-- Numbers as lists of bits, the lowest first: what each operator does to them.
use Rattle.std.proofs.Common.{◌≡◌, ℕ, zero, suc, ◌+◌, ◌-◌, ◌*◌, ◌/◌, ◌%◌, ◌^◌, ◌<◌, ◌≤◌, ◌==◌, Bool, true, false, List, [], ◌∷◌, ◌++◌, length, map, refl, sym, ap, ◌∙◌, arith}
use Rattle.std.specs.Prelude.{not, ◌&&◌, min, max, nat_lt, nat_le, bit_and, bit_or, bit_xor}
use Rattle.std.specs.Int.{bit_at}
use Rattle.std.proofs.Math.Nat.{pow-succ', mul_assoc, add-mul-mod_self_left, mod-eq_of_lt, div-div-eq-div-mul}
use Rattle.std.proofs.lemmas.Nat.{mod-pow-add}
use Rattle.std.proofs.lemmas.Nat.Bits.{bit_at_lowest, bit_at-suc, bit_at-zero, bit_at_and, bit_at_or, bit_at_xor, same_from_bits}
use Rattle.std.proofs.lemmas.Bool.Decides.{nat_tests}
use Rattle.width_check.specs.Values.{one_if}
use Rattle.function_blocks.specs.Gates.{all_one, some_one, odd_ones, alike, carries, borrows}
use Rattle.function_blocks.specs.Rails.{Rails, number_on}

abbrev pub number_of : List Bool → ℕ
number_of [] = 0
number_of (b ∷ bs) = one_if b + 2 * number_of bs

pow_suc : (n : ℕ) → 2 ^ suc n ≡ 2 * 2 ^ n
pow_suc n = pow-succ' 2 n

pub number_below : (xs : List Bool) → number_of xs < 2 ^ length xs
number_below [] = omega arith
number_below (true ∷ xs) = omega (arith, number_below xs, pow_suc (length xs))
number_below (false ∷ xs) = omega (arith, number_below xs, pow_suc (length xs))

doubled : (n k : ℕ) → 2 ^ suc n * k ≡ 2 * (2 ^ n * k)
doubled n k = ap (λ x. x * k) (pow-succ' 2 n) ∙ mul_assoc 2 (2 ^ n) k

-- a join has its second part lowest; exchanged rails are the complement
pub number_append : (xs ys : List Bool) → number_of (xs ++ ys) ≡ number_of xs + 2 ^ length xs * number_of ys
number_append [] ys = omega arith
number_append (x ∷ xs) ys = omega (arith, number_append xs ys, doubled (length xs) (number_of ys))

one_not : (x : Bool) → one_if (not x) + one_if x ≡ 1
one_not true = refl
one_not false = refl

pub number_not : (xs : List Bool) → number_of (map not xs) + number_of xs + 1 ≡ 2 ^ length xs
number_not [] = refl
number_not (x ∷ xs) = omega (arith, number_not xs, one_not x, doubled (length xs) 1)

-- bit by bit
abbrev pub zipped : (List Bool → Bool) → List Bool → List Bool → List Bool
zipped f [] ys = []
zipped f (x ∷ xs) [] = []
zipped f (x ∷ xs) (y ∷ ys) = f (x ∷ y ∷ []) ∷ zipped f xs ys

low_bit : (x : Bool) (n : ℕ) → (one_if x + 2 * n) % 2 ≡ one_if x
low_bit true n = omega arith
low_bit false n = omega arith

high_bits : (x : Bool) (n : ℕ) → (one_if x + 2 * n) / 2 ≡ n
high_bits true n = omega arith
high_bits false n = omega arith

bit_first : (x : Bool) (n : ℕ) → bit_at (one_if x + 2 * n) 0 ≡ one_if x
bit_first x n = bit_at_lowest (one_if x + 2 * n) ∙ low_bit x n

bit_next : (x : Bool) (n i : ℕ) → bit_at (one_if x + 2 * n) (suc i) ≡ bit_at n i
bit_next x n i = bit_at-suc (one_if x + 2 * n) i ∙ ap (λ z. bit_at z i) (high_bits x n)

zipped_bits : (f : List Bool → Bool) (g : ℕ → ℕ → ℕ) → ((x y : Bool) → one_if (f (x ∷ y ∷ [])) ≡ g (one_if x) (one_if y)) → g 0 0 ≡ 0 → (xs ys : List Bool)
    → length ys ≡ length xs → (i : ℕ) → bit_at (number_of (zipped f xs ys)) i ≡ g (bit_at (number_of xs) i) (bit_at (number_of ys) i)
zipped_bits f g h z [] [] e i = bit_at-zero i ∙ (sym z ∙ (ap (λ k. g k 0) (sym (bit_at-zero i)) ∙ ap (g (bit_at 0 i)) (sym (bit_at-zero i))))
zipped_bits f g h z [] (y ∷ ys) e i = absurd (omega (arith, e))
zipped_bits f g h z (x ∷ xs) [] e i = absurd (omega (arith, e))
zipped_bits f g h z (x ∷ xs) (y ∷ ys) e zero = bit_first (f (x ∷ y ∷ [])) (number_of (zipped f xs ys))
    ∙ (h x y ∙ (ap (λ k. g k (one_if y)) (sym (bit_first x (number_of xs))) ∙ ap (g (bit_at (number_of (x ∷ xs)) 0)) (sym (bit_first y (number_of ys)))))
zipped_bits f g h z (x ∷ xs) (y ∷ ys) e (suc i) = bit_next (f (x ∷ y ∷ [])) (number_of (zipped f xs ys)) i
    ∙ (zipped_bits f g h z xs ys (omega (arith, e)) i ∙ (ap (λ k. g k (bit_at (number_of ys) i)) (sym (bit_next x (number_of xs) i))
    ∙ ap (g (bit_at (number_of (x ∷ xs)) (suc i))) (sym (bit_next y (number_of ys) i))))

pub and_number : (xs ys : List Bool) → length ys ≡ length xs → number_of (zipped all_one xs ys) ≡ bit_and (number_of xs) (number_of ys)
and_number xs ys e = same_from_bits _ _ (λ i. zipped_bits all_one min table refl xs ys e i ∙ sym (bit_at_and (number_of xs) (number_of ys) i))
  where
    table : (x y : Bool) → one_if (all_one (x ∷ y ∷ [])) ≡ min (one_if x) (one_if y)
    table true true = refl
    table true false = refl
    table false true = refl
    table false false = refl

pub or_number : (xs ys : List Bool) → length ys ≡ length xs → number_of (zipped some_one xs ys) ≡ bit_or (number_of xs) (number_of ys)
or_number xs ys e = same_from_bits _ _ (λ i. zipped_bits some_one max table refl xs ys e i ∙ sym (bit_at_or (number_of xs) (number_of ys) i))
  where
    table : (x y : Bool) → one_if (some_one (x ∷ y ∷ [])) ≡ max (one_if x) (one_if y)
    table true true = refl
    table true false = refl
    table false true = refl
    table false false = refl

pub xor_number : (xs ys : List Bool) → length ys ≡ length xs → number_of (zipped odd_ones xs ys) ≡ bit_xor (number_of xs) (number_of ys)
xor_number xs ys e = same_from_bits _ _ (λ i. zipped_bits odd_ones (λ a b. (a + b) % 2) table refl xs ys e i ∙ sym (bit_at_xor (number_of xs) (number_of ys) i))
  where
    table : (x y : Bool) → one_if (odd_ones (x ∷ y ∷ [])) ≡ (one_if x + one_if y) % 2
    table true true = refl
    table true false = refl
    table false true = refl
    table false false = refl

-- a ripple, with what is carried in, if anything is
abbrev pub ripple_bits : (List Bool → Bool) → (xs ys carried : List Bool) → List Bool
ripple_bits k [] ys c = []
ripple_bits k (x ∷ xs) [] c = []
ripple_bits k (x ∷ xs) (y ∷ ys) c = odd_ones (x ∷ y ∷ c) ∷ ripple_bits k xs ys (k (x ∷ y ∷ c) ∷ [])

abbrev pub last_of : (List Bool → Bool) → Bool → List Bool → List Bool → Bool
last_of k c [] ys = c
last_of k c (x ∷ xs) [] = c
last_of k c (x ∷ xs) (y ∷ ys) = last_of k (k (x ∷ y ∷ c ∷ [])) xs ys

pub ripple_length : (k : List Bool → Bool) (xs ys c : List Bool) → length ys ≡ length xs → length (ripple_bits k xs ys c) ≡ length xs
ripple_length k [] ys c e = refl
ripple_length k (x ∷ xs) [] c e = absurd (omega (arith, e))
ripple_length k (x ∷ xs) (y ∷ ys) c e = ap suc (ripple_length k xs ys (k (x ∷ y ∷ c) ∷ []) (omega (arith, e)))

-- nothing carried in is a 0
odd_first : (x y : Bool) → odd_ones (x ∷ y ∷ []) ≡ odd_ones (x ∷ y ∷ false ∷ [])
odd_first true true = refl
odd_first true false = refl
odd_first false true = refl
odd_first false false = refl

pub carry_first : (x y : Bool) → carries (x ∷ y ∷ []) ≡ carries (x ∷ y ∷ false ∷ [])
carry_first true true = refl
carry_first true false = refl
carry_first false true = refl
carry_first false false = refl

pub borrow_first : (x y : Bool) → borrows (x ∷ y ∷ []) ≡ borrows (x ∷ y ∷ false ∷ [])
borrow_first true true = refl
borrow_first true false = refl
borrow_first false true = refl
borrow_first false false = refl

ripple_first : (k : List Bool → Bool) → ((x y : Bool) → k (x ∷ y ∷ []) ≡ k (x ∷ y ∷ false ∷ [])) → (xs ys : List Bool)
    → ripple_bits k xs ys [] ≡ ripple_bits k xs ys (false ∷ [])
ripple_first k f [] ys = refl
ripple_first k f (x ∷ xs) [] = refl
ripple_first k f (x ∷ xs) (y ∷ ys) =
    ap (λ b. b ∷ ripple_bits k xs ys (k (x ∷ y ∷ []) ∷ [])) (odd_first x y) ∙ ap (λ b. odd_ones (x ∷ y ∷ false ∷ []) ∷ ripple_bits k xs ys (b ∷ [])) (f x y)

one_sum : (x y c : Bool) → one_if (odd_ones (x ∷ y ∷ c ∷ [])) + 2 * one_if (carries (x ∷ y ∷ c ∷ [])) ≡ one_if x + one_if y + one_if c
one_sum true true true = refl
one_sum true true false = refl
one_sum true false true = refl
one_sum true false false = refl
one_sum false true true = refl
one_sum false true false = refl
one_sum false false true = refl
one_sum false false false = refl

one_difference : (x y c : Bool) → one_if (odd_ones (x ∷ y ∷ c ∷ [])) + one_if y + one_if c ≡ one_if x + 2 * one_if (borrows (x ∷ y ∷ c ∷ []))
one_difference true true true = refl
one_difference true true false = refl
one_difference true false true = refl
one_difference true false false = refl
one_difference false true true = refl
one_difference false true false = refl
one_difference false false true = refl
one_difference false false false = refl

sum_is : (c : Bool) (xs ys : List Bool) → length ys ≡ length xs → number_of (ripple_bits carries xs ys (c ∷ [])) + 2 ^ length xs * one_if
    (last_of carries c xs ys) ≡ number_of xs + number_of ys + one_if c
sum_is c [] [] e = omega arith
sum_is c [] (y ∷ ys) e = absurd (omega arith)
sum_is c (x ∷ xs) [] e = absurd (omega arith)
sum_is c (x ∷ xs) (y ∷ ys) e =
    let k = carries (x ∷ y ∷ c ∷ []) in
    omega (arith, sum_is k xs ys (omega arith), one_sum x y c, doubled (length xs) (one_if (last_of carries k xs ys)))

difference_is : (c : Bool) (xs ys : List Bool) → length ys ≡ length xs
    → number_of (ripple_bits borrows xs ys (c ∷ [])) + number_of ys + one_if c ≡ number_of xs + 2 ^ length xs * one_if (last_of borrows c xs ys)
difference_is c [] [] e = omega arith
difference_is c [] (y ∷ ys) e = absurd (omega arith)
difference_is c (x ∷ xs) [] e = absurd (omega arith)
difference_is c (x ∷ xs) (y ∷ ys) e =
    let k = borrows (x ∷ y ∷ c ∷ []) in
    omega (arith, difference_is k xs ys (omega arith), one_difference x y c, doubled (length xs) (one_if (last_of borrows k xs ys)))

-- a number below n is the rest of what exceeds it by a multiple of n
rest_is : (v n k w : ℕ) → v < n → v + n * k ≡ w → v ≡ w % n
rest_is v n k w lt e = sym (mod-eq_of_lt lt) ∙ (sym (add-mul-mod_self_left v n k) ∙ ap (λ x. x % n) e)

pub sum_number : (xs ys : List Bool) → length ys ≡ length xs → number_of (ripple_bits carries xs ys []) ≡ (number_of xs + number_of ys) % 2 ^ length xs
sum_number xs ys e =
    let v = ripple_bits carries xs ys (false ∷ []) in
    let lt : number_of v < 2 ^ length xs = rw (← ripple_length carries xs ys (false ∷ []) e) (number_below v) in
    ap number_of (ripple_first carries carry_first xs ys) ∙ rest_is (number_of v) (2 ^ length xs) (one_if (last_of carries false xs ys))
    (number_of xs + number_of ys) lt (omega (arith, sum_is false xs ys e))

wraps : (v x y n : ℕ) (b : Bool) → v < n → y < n → v + y ≡ x + n * one_if b → v ≡ (x + (n - y)) % n
wraps v x y n true lt low e = rest_is v n 0 (x + (n - y)) lt (omega arith)
wraps v x y n false lt low e = rest_is v n 1 (x + (n - y)) lt (omega arith)

pub difference_number : (xs ys : List Bool) → length ys ≡ length xs
    → number_of (ripple_bits borrows xs ys []) ≡ (number_of xs + (2 ^ length xs - number_of ys)) % 2 ^ length xs
difference_number xs ys e =
    let v = ripple_bits borrows xs ys (false ∷ []) in
    let lt : number_of v < 2 ^ length xs = rw (← ripple_length borrows xs ys (false ∷ []) e) (number_below v) in
    let low : number_of ys < 2 ^ length xs = rw (← e) (number_below ys) in
    ap number_of (ripple_first borrows borrow_first xs ys) ∙ wraps (number_of v) (number_of xs) (number_of ys) (2 ^ length xs) (last_of borrows false xs ys) lt
    low (omega (arith, difference_is false xs ys e))

-- comparison by the last borrow
less_true : (xs ys : List Bool) → length ys ≡ length xs → last_of borrows false xs ys ≡ true → number_of xs < number_of ys
less_true xs ys e h =
    let d = difference_is false xs ys e in
    let v = ripple_bits borrows xs ys (false ∷ []) in
    let lt : number_of v < 2 ^ length xs = rw (← ripple_length borrows xs ys (false ∷ []) e) (number_below v) in
    let l : one_if (last_of borrows false xs ys) ≡ 1 = ap one_if h in
    let n = ap (λ b. 2 ^ length xs * b) l in
    omega (arith, d, lt, n)

less_false : (xs ys : List Bool) → length ys ≡ length xs → last_of borrows false xs ys ≡ false → number_of ys ≤ number_of xs
less_false xs ys e h =
    let d = difference_is false xs ys e in
    let l : one_if (last_of borrows false xs ys) ≡ 0 = ap one_if h in
    let n = ap (λ b. 2 ^ length xs * b) l in
    omega (arith, d, n)

lt_true : (a b : ℕ) → a < b → nat_lt a b ≡ true
lt_true a b h = grind (arith, nat_tests)

lt_false : (a b : ℕ) → b ≤ a → nat_lt a b ≡ false
lt_false a b h = grind (arith, nat_tests)

pub less_number : (xs ys : List Bool) → length ys ≡ length xs → last_of borrows false xs ys ≡ nat_lt (number_of xs) (number_of ys)
less_number xs ys e = here (last_of borrows false xs ys) refl
  where
    here : (b : Bool) → last_of borrows false xs ys ≡ b → last_of borrows false xs ys ≡ nat_lt (number_of xs) (number_of ys)
    here true h = h ∙ sym (lt_true (number_of xs) (number_of ys) (less_true xs ys e h))
    here false h = h ∙ sym (lt_false (number_of xs) (number_of ys) (less_false xs ys e h))

le_not : (a b : ℕ) → not (nat_lt b a) ≡ nat_le a b
le_not a b = grind (arith, nat_tests)

pub at_least_number : (xs ys : List Bool) → length ys ≡ length xs → not (last_of borrows false xs ys) ≡ nat_le (number_of ys) (number_of xs)
at_least_number xs ys e = ap not (less_number xs ys e) ∙ le_not (number_of ys) (number_of xs)

-- equality
abbrev pub all_alike : List Bool → List Bool → Bool
all_alike [] ys = true
all_alike (x ∷ xs) [] = true
all_alike (x ∷ xs) (y ∷ ys) = alike (x ∷ y ∷ []) && all_alike xs ys

alike_equal : (xs ys : List Bool) → length ys ≡ length xs → all_alike xs ys ≡ (number_of xs == number_of ys)
alike_equal [] [] e = refl
alike_equal [] (y ∷ ys) e = absurd (omega (arith, e))
alike_equal (x ∷ xs) [] e = absurd (omega (arith, e))
alike_equal (x ∷ xs) (y ∷ ys) e = ap (λ b. alike (x ∷ y ∷ []) && b) (alike_equal xs ys (omega (arith, e))) ∙ one x y (number_of xs) (number_of ys)
  where
    equal_more : (a b m n : ℕ) → a ≡ b → (m == n) ≡ ((a + 2 * m) == (b + 2 * n))
    equal_more a b m n e = grind (arith, nat_tests)

    unequal_high : (m n : ℕ) → false ≡ ((1 + 2 * m) == (0 + 2 * n))
    unequal_high m n = grind (arith, nat_tests)

    unequal_low : (m n : ℕ) → false ≡ ((0 + 2 * m) == (1 + 2 * n))
    unequal_low m n = grind (arith, nat_tests)

    one : (x y : Bool) (m n : ℕ) → (alike (x ∷ y ∷ []) && (m == n)) ≡ ((one_if x + 2 * m) == (one_if y + 2 * n))
    one true true m n = equal_more 1 1 m n refl
    one true false m n = unequal_high m n
    one false true m n = unequal_low m n
    one false false m n = equal_more 0 0 m n refl

pub equal_number : (xs ys : List Bool) → length ys ≡ length xs → all_alike xs ys ≡ (number_of xs == number_of ys)
equal_number xs ys e = alike_equal xs ys e

-- a constant, and a slice of a variable
abbrev pub constant_list : (width value : ℕ) → List Bool
constant_list zero v = []
constant_list (suc n) v = (v % 2 == 1) ∷ constant_list n (v / 2)

odd_bit : (v : ℕ) → one_if (v % 2 == 1) ≡ v % 2
odd_bit v = here (v % 2 == 1) refl
  where
    odd : (r : ℕ) → (r == 1) ≡ true → 1 ≡ r
    odd r h = grind (arith, nat_tests)

    even : (v : ℕ) → (v % 2 == 1) ≡ false → 0 ≡ v % 2
    even v h = grind (arith, nat_tests)

    here : (b : Bool) → (v % 2 == 1) ≡ b → one_if (v % 2 == 1) ≡ v % 2
    here true h = ap one_if h ∙ odd (v % 2) h
    here false h = ap one_if h ∙ even v h

half_below : (v n : ℕ) → v < 2 ^ suc n → v / 2 < 2 ^ n
half_below v n h = grind arith

pub constant_number : (w v : ℕ) → v < 2 ^ w → number_of (constant_list w v) ≡ v
constant_number zero v h = omega arith
constant_number (suc n) v h = omega (arith, constant_number n (v / 2) (half_below v n h), odd_bit v)

abbrev pub read_list : Rails → (bit count : ℕ) → List Bool
read_list rail i zero = []
read_list rail i (suc n) = rail i true ∷ read_list rail (suc i) n

read_later : (rail : Rails) (i n : ℕ) → read_list rail (suc i) n ≡ read_list (λ k. rail (suc k)) i n
read_later rail i zero = refl
read_later rail i (suc n) = ap (λ (bs : List Bool). rail (suc i) true ∷ bs) (read_later rail (suc i) n)

mod_suc : (b : Bool) (m n : ℕ) → (one_if b + 2 * m) % 2 ^ suc n ≡ one_if b + 2 * (m % 2 ^ n)
mod_suc b m n =
    let all : (one_if b + 2 * m) % 2 ^ (n + 1) ≡ ((one_if b + 2 * m) / 2 ^ 1 % 2 ^ n) * 2 ^ 1 + (one_if b + 2 * m) % 2 ^ 1 =
    mod-pow-add (one_if b + 2 * m) n 1 in
    let high : (one_if b + 2 * m) / 2 ^ 1 ≡ m = high_bits b m in
    let low : (one_if b + 2 * m) % 2 ^ 1 ≡ one_if b = low_bit b m in
    let one : suc n ≡ n + 1 = omega arith in
    let step : ((one_if b + 2 * m) / 2 ^ 1 % 2 ^ n) ≡ m % 2 ^ n = ap (λ k. k % 2 ^ n) high in
    ap (λ k. (one_if b + 2 * m) % 2 ^ k) one ∙ omega (arith, all, step, low)

pub div_suc : (b : Bool) (m l : ℕ) → (one_if b + 2 * m) / 2 ^ suc l ≡ m / 2 ^ l
div_suc b m l = ap (λ k. (one_if b + 2 * m) / k) (pow_suc l) ∙ (sym (div-div-eq-div-mul (one_if b + 2 * m) 2 (2 ^ l)) ∙ ap (λ k. k / 2 ^ l) (high_bits b m))

front_number : (w n : ℕ) (rail : Rails) → n ≤ w → number_of (read_list rail 0 n) ≡ number_on w rail % 2 ^ n
front_number w zero rail h = let e : 2 ^ 0 ≡ 1 = refl in omega arith
front_number zero (suc n) rail h = absurd (omega (arith, h))
front_number (suc w) (suc n) rail h =
    let more = ap number_of (read_later rail 0 n) ∙ front_number w n (λ k. rail (suc k)) (omega (arith, h)) in
    ap (λ k. one_if (rail 0 true) + 2 * k) more ∙ sym (mod_suc (rail 0 true) (number_on w (λ k. rail (suc k))) n)

pub read_number : (w l n : ℕ) (rail : Rails) → l + n ≤ w → number_of (read_list rail l n) ≡ number_on w rail / 2 ^ l % 2 ^ n
read_number w zero n rail h =
    front_number w n rail (omega (arith, h)) ∙ ap (λ k. k % 2 ^ n) (let e : number_on w rail ≡ number_on w rail / 2 ^ 0 = omega arith in e)
read_number zero (suc l) n rail h = absurd (omega (arith, h))
read_number (suc w) (suc l) n rail h =
    ap number_of (read_later rail l n)
    ∙ (read_number w l n (λ k. rail (suc k)) (omega (arith, h))
    ∙ ap (λ k. k % 2 ^ n) (sym (div_suc (rail 0 true) (number_on w (λ k. rail (suc k))) l)))
