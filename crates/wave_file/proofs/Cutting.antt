-- Where a text is cut at a byte.
use Rattle.std.proofs.Common.{◌≡◌, ℕ, zero, suc, Some, None, cond, inl, inr, ◌+◌, ◌<◌, ◌≤◌, ◌^◌, ◌%◌, Bool, true, false, List, [], ◌∷◌, ◌++◌, length, get_or, take, drop, refl, ap, ◌∙◌, arith, length-append}
use Rattle.std.specs.Prelude.{◌==◌, ◌&&◌, ◌⊎◌, not, position, decimal}
use Rattle.std.specs.List.{list_all, position_or_len}
use Rattle.std.proofs.lemmas.Bool.{and_parts, cases_lt, lt-ltb, eqb-true, ne_eqb}
use Rattle.std.proofs.lemmas.Fmt.{decimal_by_steps}
use Rattle.std.proofs.lemmas.List.{get_or_at}
use Rattle.std.proofs.lemmas.List.Folds.{list_all-append}
use Rattle.std.proofs.lemmas.List.Quantifiers.{position-Some}
use Rattle.std.proofs.lemmas.List.Sums.{fails_before_first}
use Rattle.chp_base.specs.Names.{IsNodeName, node_part}
use Rattle.wave_file.specs.WaveLines.{is_free_of, is_id, id_part}
use Rattle.wave_file.proofs.IdLemmas.{parts_of}

pub same_byte : (b : ℕ) → (b == b) ≡ true
same_byte b = by_case (b == b) refl
  where
    by_case : (e : Bool) → (b == b) ≡ e → (b == b) ≡ true
    by_case true is = is
    by_case false is = absurd (cc (is, ne_back b))
      where
        ne_back : (b : ℕ) → (b == b) ≡ true
        ne_back b = grind arith

other_byte : (P : ℕ → Bool) (end b : ℕ) → P end ≡ false → P b ≡ true → (b == end) ≡ false
other_byte P end b no_end part = by_case (b == end) refl
  where
    by_case : (e : Bool) → (b == end) ≡ e → (b == end) ≡ false
    by_case true is = absurd (cc (part, no_end, ap P (eqb-true b end is)))
    by_case false is = is

pub free_of_parts : (P : ℕ → Bool) (end : ℕ) → P end ≡ false → (xs : List ℕ) → list_all P xs ≡ true → is_free_of end xs ≡ true
free_of_parts P end no_end [] parts = refl
free_of_parts P end no_end (b ∷ bs) parts =
    let both = and_parts (P b) (list_all P bs) parts in
    rw (other_byte P end b no_end both.0) (free_of_parts P end no_end bs both.1)

pub free_name : (name : List ℕ) → IsNodeName name → is_free_of 32 name ≡ true
free_name name is = free_of_parts node_part 32 refl name is.parts

pub no_end_in_id : (id : List ℕ) → is_id id ≡ true → is_free_of 10 id ≡ true
no_end_in_id id is = free_of_parts id_part 10 refl id (parts_of id is)

pub no_end_in_decimal : (n : ℕ) → n < 2 ^ 64 → is_free_of 10 (decimal n) ≡ true
no_end_in_decimal n small = decimal_by_steps (λ n ds. is_free_of 10 ds ≡ true) one more n small
  where
    no_digit : (d : ℕ) → (48 + d == 10) ≡ false
    no_digit d = ne_eqb (48 + d) 10 (λ e. absurd (omega (arith, e)))

    one : (n : ℕ) → n < 10 → is_free_of 10 ((48 + n) ∷ []) ≡ true
    one n below = rw (no_digit n) refl

    more : (n : ℕ) (ds : List ℕ) → 10 ≤ n → is_free_of 10 ds ≡ true → is_free_of 10 (ds ++ ((48 + n % 10) ∷ [])) ≡ true
    more n ds above so_far = list_all-append (λ b. not (b == 10)) ds ((48 + n % 10) ∷ []) ∙ ap (λ b. b && (not (48 + n % 10 == 10) && true)) so_far
        ∙ rw (no_digit (n % 10)) refl

-- a text is cut at the first such byte in one way
pub cut_once : (end : ℕ) (xs ys a b : List ℕ) → is_free_of end xs ≡ true → is_free_of end ys ≡ true → xs ++ end ∷ a ≡ ys ++ end ∷ b →
    (xs ≡ ys) × (a ≡ b)
cut_once end [] [] a b one two e = (refl, ap (drop 1) e)
cut_once end [] (y ∷ ys) a b one two e =
    let head : end ≡ y = ap (λ t. get_or t 0 0) e in
    absurd (cc ((and_parts (not (y == end)) (is_free_of end ys) two).0, ap (λ x. x == end) head, same_byte end))
cut_once end (x ∷ xs) [] a b one two e =
    let head : x ≡ end = ap (λ t. get_or t 0 0) e in
    absurd (cc ((and_parts (not (x == end)) (is_free_of end xs) one).0, ap (λ y. y == end) head, same_byte end))
cut_once end (x ∷ xs) (y ∷ ys) a b one two e =
    let head : x ≡ y = ap (λ t. get_or t 0 0) e in
    let rest = cut_once end xs ys a b (and_parts (not (x == end)) (is_free_of end xs) one).1 (and_parts (not (y == end)) (is_free_of end ys) two).1
    (ap (drop 1) e) in
    (ap (λ z. z ∷ xs) head ∙ ap (λ zs. y ∷ zs) rest.0, rest.1)

cut_at : (end : ℕ) (text : List ℕ) (at : ℕ) → at < length text → (get_or text at 0 == end) ≡ true → ((k : ℕ) → k < at → (get_or text k 0 == end) ≡ false) →
    (text ≡ take at text ++ end ∷ drop (at + 1) text) × (is_free_of end (take at text) ≡ true)
cut_at end [] at within is before = absurd (omega arith)
cut_at end (b ∷ bs) zero within is before = (ap (λ x. x ∷ bs) (eqb-true b end is), refl)
cut_at end (b ∷ bs) (suc at) within is before =
    let rest = cut_at end bs at (omega arith) is (λ k below. before (suc k) (omega arith)) in
    let count : suc (at + 1) ≡ suc at + 1 = omega arith in
    (ap (λ t. b ∷ t) rest.0 ∙ ap (λ k. b ∷ (take at bs ++ end ∷ drop k (b ∷ bs))) count, rw (before 0 (omega arith)) rest.1)

pub cut_first : (end : ℕ) (text : List ℕ) (at : ℕ) → position (λ b. b == end) text ≡ Some at →
    (text ≡ take at text ++ end ∷ drop (at + 1) text) × (is_free_of end (take at text) ≡ true)
cut_first end text at e =
    let is = position-Some (λ b. b == end) text at 0 e in
    cut_at end text at is.0 is.1 is.2

pub never_cut : (end : ℕ) (text front rest : List ℕ) → position (λ b. b == end) text ≡ None → text ≡ front ++ end ∷ rest → ⊥
never_cut end text front rest none whole = by_place (cases_lt (position_or_len p text) (length text))
  where
    p : ℕ → Bool
    p b = b == end

    within : length front < length text
    within = omega (arith, ap length whole, length-append front (end ∷ rest))

    here : (get_or text (length front) 0 == end) ≡ true
    here = ap (λ t. get_or t (length front) 0 == end) whole ∙ ap (λ x. x == end) (get_or_at front end rest 0 (length front) refl) ∙ same_byte end

    by_place : (position_or_len p text < length text) ⊎ (length text ≤ position_or_len p text) → ⊥
    by_place (inl below) = absurd (cc (none, ap (λ b. cond b (Some (position_or_len p text)) None) (lt-ltb _ _ below)))
    by_place (inr past) = absurd (cc (here, fails_before_first p text (length front) 0 (omega (arith, within, past))))
