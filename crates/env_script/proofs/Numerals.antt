-- Numbers and their digits in a script.
use Rattle.std.proofs.Common.{◌≡◌, ℕ, suc, ◌+◌, ◌*◌, ◌^◌, ◌<◌, ◌≤◌, true, List, [], ◌∷◌, length, get_or, take, drop, refl, sym, ap, ◌∙◌, arith}
use Rattle.std.specs.Prelude.{fold}
use Rattle.std.specs.List.{list_all}
use Rattle.std.proofs.Math.Nat.{mul-le-mul_left, pow-le-pow_right}
use Rattle.std.proofs.lemmas.Bool.{and_parts}
use Rattle.std.proofs.lemmas.Bool.Decides.{nat_tests}
use Rattle.std.proofs.lemmas.List.{take-append-drop}
use Rattle.std.proofs.lemmas.List.Sums.{fold_more, fold-append}
use Rattle.chp_base.specs.Names.{digit}
use Rattle.env_script.specs.Numbers.{hex_digit_of_word, digit_of_word, number_of_word}

abbrev step : ℕ → ℕ → ℕ → ℕ
step base n b = base * n + digit_of_word b

grows : (base n : ℕ) (bs : List ℕ) → 1 ≤ base → n ≤ fold (step base) n bs
grows base n [] some = omega arith
grows base n (b ∷ bs) some =
    let more : n * 1 ≤ n * base = mul-le-mul_left n some in
    omega (arith, more, grows base (step base n b) bs some)

pub number_more : (base : ℕ) (bs : List ℕ) (i : ℕ) → i < length bs →
    number_of_word base (take (i + 1) bs) ≡ base * number_of_word base (take i bs) + digit_of_word (get_or bs i 0)
number_more base bs i lt = fold_more (step base) 0 bs i 0 lt

-- the digits behind make no number smaller
pub number_part : (base : ℕ) (bs : List ℕ) (i : ℕ) → 1 ≤ base → number_of_word base (take i bs) ≤ number_of_word base bs
number_part base bs i some =
    let whole : number_of_word base bs ≡ fold (step base) (number_of_word base (take i bs)) (drop i bs) =
    sym (ap (number_of_word base) (take-append-drop i bs)) ∙ fold-append (step base) 0 (take i bs) (drop i bs) in
    omega (arith, whole, grows base (number_of_word base (take i bs)) (drop i bs) some)

pub too_large : (base value i : ℕ) (bs : List ℕ) → 1 ≤ base → i < length bs → value ≡ number_of_word base (take i bs) →
    (base * value + digit_of_word (get_or bs i 0) < 2 ^ 64 → ⊥) → 2 ^ 64 ≤ number_of_word base bs
too_large base value i bs some lt is over =
    let e : base * value ≡ base * number_of_word base (take i bs) = ap (λ x. base * x) is in
    omega (arith, e, number_more base bs i lt, number_part base bs (i + 1) some, over)

pub hex_digits : (bs : List ℕ) → list_all digit bs ≡ true → list_all hex_digit_of_word bs ≡ true
hex_digits [] h = refl
hex_digits (b ∷ bs) h =
    let head : digit b ≡ true = (and_parts (digit b) _ h).0 in
    rw head (hex_digits bs ((and_parts (digit b) _ h).1))

small_digit : (b : ℕ) → hex_digit_of_word b ≡ true → digit_of_word b ≤ 15
small_digit b h = grind (arith, nat_tests)

bound : (bs : List ℕ) (n k : ℕ) → list_all hex_digit_of_word bs ≡ true → n < 16 ^ k → fold (step 16) n bs < 16 ^ (k + length bs)
bound [] n k h lt = let e : k + 0 ≡ k = omega arith in rw e lt
bound (b ∷ bs) n k h lt =
    let small : digit_of_word b ≤ 15 = small_digit b ((and_parts (hex_digit_of_word b) _ h).0) in
    let e : k + suc (length bs) ≡ suc k + length bs = omega arith in
    rw e (bound bs (step 16 n b) (suc k) ((and_parts (hex_digit_of_word b) _ h).1) (omega (arith, small, lt)))

pub hex_fits : (bs : List ℕ) → list_all hex_digit_of_word bs ≡ true → length bs ≤ 16 → number_of_word 16 bs < 2 ^ 64
hex_fits bs h few =
    let power : 16 ^ (length bs) ≤ 16 ^ 16 = pow-le-pow_right {n = 16} (omega arith) few in
    let zero_first : 0 + length bs ≡ length bs = omega arith in
    let small : fold (step 16) 0 bs < 16 ^ (0 + length bs) = bound bs 0 0 h (omega arith) in
    omega (arith, power, rw zero_first at small)
