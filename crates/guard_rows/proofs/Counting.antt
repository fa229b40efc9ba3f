-- How many of some nodes are high: one node more, a turn of one node, and guards that ask for no more.
use Rattle.std.proofs.Common.{◌≡◌, ℕ, ◌+◌, ◌-◌, ◌*◌, ◌<◌, ◌≤◌, Bool, true, false, cond, not, List, [], ◌∷◌, ◌++◌, length, get_or, take, drop, refl, sym, ap, subst, ◌∙◌, arith}
use Rattle.std.specs.Prelude.{◌==◌, ◌&&◌, ◌||◌, nat_lt, nat_le, Option, Some, None}
use Rattle.std.proofs.Math.Bool.{and-true, and-false, or-true, or-false}
use Rattle.std.proofs.lemmas.Bool.{eqb-true, eqb-false, eq-eqb, ne_eqb, leb-true, leb-false, le-leb, lt-leb, lt-ltb, le-ltb}
use Rattle.std.proofs.lemmas.List.{take_more, take_all, length-take-le, length-drop, take-append-drop}
use Rattle.std.proofs.lemmas.List.Folds.{list_any_more, list_all_more, list_all-append}
use Rattle.prs_core.specs.declared.rule.Literal.{Literal}
use Rattle.prs_core.specs.Nets.{GuardValue}
use Rattle.prs_core.specs.Moves.{high, fired, literal_holds, term_holds, guard_holds}
use Rattle.guard_rows.specs.Places.{as_bit, count_of, times_in, overrides, override_step, AllPass, GuardPasses}
use Rattle.guard_rows.proofs.Indexes.{bit_small, bit_raised, bit_lowered}

pub count_push : (v : ℕ → Bool) (ns : List ℕ) (n : ℕ) → count_of v (ns ++ n ∷ []) ≡ count_of v ns + as_bit (v n)
count_push v [] n = omega arith
count_push v (m ∷ ns) n = omega (arith, count_push v ns n)

pub count_more : (v : ℕ → Bool) (ns : List ℕ) (i : ℕ) → i < length ns →
    count_of v (take (i + 1) ns) ≡ count_of v (take i ns) + as_bit (v (get_or ns i 0))
count_more v ns i within = ap (count_of v) (take_more ns i 0 within) ∙ count_push v (take i ns) (get_or ns i 0)

pub count_few : (v : ℕ → Bool) (ns : List ℕ) → count_of v ns ≤ length ns
count_few v [] = omega arith
count_few v (n ∷ ns) = omega (arith, count_few v ns, bit_small (v n))

pub count_part : (v : ℕ → Bool) (ns : List ℕ) (i : ℕ) → i ≤ length ns → count_of v (take i ns) ≤ i
count_part v ns i within = omega (arith, count_few v (take i ns), length-take-le i ns within)

pub times_few : (m : ℕ) (ns : List ℕ) → times_in m ns ≤ length ns
times_few m [] = omega arith
times_few m (n ∷ ns) = omega (arith, times_few m ns, bit_small (n == m))

times_push : (m : ℕ) (ns : List ℕ) (n : ℕ) → times_in m (ns ++ n ∷ []) ≡ times_in m ns + as_bit (n == m)
times_push m [] n = omega arith
times_push m (k ∷ ns) n = omega (arith, times_push m ns n)

pub times_more : (m : ℕ) (ns : List ℕ) (i : ℕ) → i < length ns →
    times_in m (take (i + 1) ns) ≡ times_in m (take i ns) + 1 * as_bit (get_or ns i 0 == m)
times_more m ns i within = ap (times_in m) (take_more ns i 0 within) ∙ times_push m (take i ns) (get_or ns i 0) ∙ omega arith

-- a turn of one node

pub count_raised : (values : List Bool) (m : ℕ) (ns : List ℕ) → m < length values → high values m ≡ false →
    count_of (high (fired values m)) ns ≡ count_of (high values) ns + times_in m ns
count_raised values m [] within low = refl
count_raised values m (n ∷ ns) within low = omega (arith, bit_raised values m n within low, count_raised values m ns within low)

pub count_lowered : (values : List Bool) (m : ℕ) (ns : List ℕ) → m < length values → high values m ≡ true →
    count_of (high (fired values m)) ns + times_in m ns ≡ count_of (high values) ns
count_lowered values m [] within up = refl
count_lowered values m (n ∷ ns) within up = omega (arith, bit_lowered values m n within up, count_lowered values m ns within up)

pub over_raised : (values : List Bool) (m : ℕ) (over : Option ℕ) → m < length values → high values m ≡ false →
    as_bit (overrides (high (fired values m)) over) ≡ as_bit (overrides (high values) over) + override_step m over
over_raised values m None within low = refl
over_raised values m (Some n) within low = bit_raised values m n within low

pub over_lowered : (values : List Bool) (m : ℕ) (over : Option ℕ) → m < length values → high values m ≡ true →
    as_bit (overrides (high (fired values m)) over) + override_step m over ≡ as_bit (overrides (high values) over)
over_lowered values m None within up = refl
over_lowered values m (Some n) within up = bit_lowered values m n within up

-- one literal or one term more

same : (k : ℕ) → k ≡ k + 0
same k = omega arith

none_of : (k : ℕ) (b : Bool) → ((k == 0) && not b) ≡ (k + as_bit b == 0)
none_of k true = and-false (k == 0) ∙ sym (ne_eqb (k + 1) 0 (omega arith))
none_of k false = and-true (k == 0) ∙ ap (λ j. j == 0) (same k)

pub none_more : (v : ℕ → Bool) (t : List Literal) (ns : List ℕ) (i : ℕ) (d : Literal) → i < length t → (get_or t i d).high ≡ false →
    term_holds v (take i t) ≡ (count_of v ns == 0) → term_holds v (take (i + 1) t) ≡ (count_of v (ns ++ (get_or t i d).node ∷ []) == 0)
none_more v t ns i d within low before =
    let n = (get_or t i d).node in
    list_all_more (literal_holds v) t i d within
    ∙ ap (λ b. b && literal_holds v (get_or t i d)) before
    ∙ ap (λ b. (count_of v ns == 0) && cond b (v n) (not (v n))) low
    ∙ none_of (count_of v ns) (v n)
    ∙ sym (ap (λ k. k == 0) (count_push v ns n))

one_of : (k : ℕ) (b : Bool) → (nat_le 1 k || b) ≡ nat_le 1 (k + as_bit b)
one_of k true = or-true (nat_le 1 k) ∙ sym (le-leb 1 (k + 1) (omega arith))
one_of k false = or-false (nat_le 1 k) ∙ ap (nat_le 1) (same k)

one_under : (k : ℕ) (b free : Bool) → ((nat_le 1 k && free) || (b && free)) ≡ (nat_le 1 (k + as_bit b) && free)
one_under k b true =
    ap (λ x. x || (b && true)) (and-true (nat_le 1 k)) ∙ ap (λ x. nat_le 1 k || x) (and-true b) ∙ one_of k b ∙ sym (and-true (nat_le 1 (k + as_bit b)))
one_under k b false =
    ap (λ x. x || (b && false)) (and-false (nat_le 1 k)) ∙ and-false b ∙ sym (and-false (nat_le 1 (k + as_bit b)))

pub any_more : (v : ℕ → Bool) (g : GuardValue) (ns : List ℕ) (i : ℕ) (t : List Literal) (free : Bool) → i < length g → i < length ns → t ≡ get_or g i t →
    term_holds v t ≡ (v (get_or ns i 0) && free) → guard_holds v (take i g) ≡ (nat_le 1 (count_of v (take i ns)) && free) →
    guard_holds v (take (i + 1) g) ≡ (nat_le 1 (count_of v (take (i + 1) ns)) && free)
any_more v g ns i t free within inside is now before =
    let n = get_or ns i 0 in
    list_any_more (term_holds v) g i t within
    ∙ ap (λ (x : List Literal). guard_holds v (take i g) || term_holds v x) (sym is)
    ∙ ap (λ b. guard_holds v (take i g) || b) now
    ∙ ap (λ b. b || (v n && free)) before
    ∙ one_under (count_of v (take i ns)) (v n) free
    ∙ sym (ap (λ k. nat_le 1 k && free) (count_more v ns i inside))

both_more : (n k : ℕ) → nat_le n k ≡ nat_le (n + 1) (k + 1)
both_more n k = by_test (nat_le n k) refl
  where
    by_test : (b : Bool) → nat_le n k ≡ b → nat_le n k ≡ nat_le (n + 1) (k + 1)
    by_test true is = let less = leb-true n k is in is ∙ sym (le-leb (n + 1) (k + 1) (omega arith))
    by_test false is = let more = leb-false n k is in is ∙ sym (lt-leb (n + 1) (k + 1) (omega arith))

all_of : (n k : ℕ) (b : Bool) → k ≤ n → (nat_le n k && b) ≡ nat_le (n + 1) (k + as_bit b)
all_of n k true few = and-true (nat_le n k) ∙ both_more n k
all_of n k false few = and-false (nat_le n k) ∙ sym (lt-leb (n + 1) (k + 0) (omega arith))

pub all_more : (v : ℕ → Bool) (t : List Literal) (ns : List ℕ) (i : ℕ) (d : Literal) → i < length t → i < length ns →
    literal_holds v (get_or t i d) ≡ v (get_or ns i 0) → term_holds v (take i t) ≡ nat_le i (count_of v (take i ns)) →
    term_holds v (take (i + 1) t) ≡ nat_le (i + 1) (count_of v (take (i + 1) ns))
all_more v t ns i d within inside now before =
    let n = get_or ns i 0 in
    list_all_more (literal_holds v) t i d within
    ∙ ap (λ b. b && literal_holds v (get_or t i d)) before
    ∙ ap (λ b. nat_le i (count_of v (take i ns)) && b) now
    ∙ all_of i (count_of v (take i ns)) (v n) (count_part v ns i (omega arith))
    ∙ sym (ap (nat_le (i + 1)) (count_more v ns i inside))

pub both_added : (b : Bool) (old mid new first further : ℕ) → mid ≡ old + cond b first 0 → new ≡ mid + cond b further 0 →
    new ≡ old + cond b (first + further) 0
both_added true old mid new first further once again = omega arith
both_added false old mid new first further once again = omega arith

-- the parts of a guard and of a term

pub first_and_end : (v : ℕ → Bool) (t : List Literal) (d : Literal) → 0 < length t →
    term_holds v t ≡ (literal_holds v (get_or t 0 d) && term_holds v (take (length t - 1) (drop 1 t)))
first_and_end v [] d some = absurd (omega arith)
first_and_end v (l ∷ t) d some = ap (λ (x : List Literal). literal_holds v l && term_holds v x) (sym (take_all (length (l ∷ t) - 1) t (omega arith)))

pub all_and_end : (v : ℕ → Bool) (t : List Literal) (k : ℕ) →
    term_holds v t ≡ (term_holds v (take k t) && term_holds v (take (length t - k) (drop k t)))
all_and_end v t k =
    sym (ap (λ (x : List Literal). term_holds v x) (take-append-drop k t)) ∙ list_all-append (literal_holds v) (take k t) (drop k t)
    ∙ ap (λ (x : List Literal). term_holds v (take k t) && term_holds v x) (sym (take_all (length t - k) (drop k t) (omega (arith, length-drop k t))))

pub two_alone : {X : Type 0} (xs : List X) (x y : X) → length xs ≡ 2 → x ≡ get_or xs 0 x → y ≡ get_or xs 1 y → xs ≡ x ∷ y ∷ []
two_alone [] x y two is also = absurd (omega arith)
two_alone (a ∷ []) x y two is also = absurd (omega arith)
two_alone (a ∷ b ∷ []) x y two is also = ap (λ z. z ∷ b ∷ []) (sym is) ∙ ap (λ z. x ∷ z ∷ []) (sym also)
two_alone (a ∷ b ∷ z ∷ zs) x y two is also = absurd (omega arith)

pub second_passes : (passes : ℕ → Bool) (g : GuardValue) (t u : List Literal) → g ≡ t ∷ u ∷ [] → GuardPasses passes g → AllPass passes u
second_passes passes g t u is all = subst (λ (h : GuardValue). GuardPasses passes h) is all 1 [] (omega arith)

-- the number that a place stands for

none_at : (base place k : ℕ) → place ≡ base + k → (place == base) ≡ (k == 0)
none_at base place k at = by_test (k == 0) refl
  where
    by_test : (b : Bool) → (k == 0) ≡ b → (place == base) ≡ (k == 0)
    by_test true is = let none = eqb-true k 0 is in eq-eqb place base (omega arith) ∙ sym is
    by_test false is = let some = eqb-false k 0 is in ne_eqb place base (λ e. some (omega arith)) ∙ sym is

pub up_at : (base more place k least : ℕ) (over : Bool) → k < more → place ≡ base + k + more * as_bit over →
    (nat_le least (place - base) && nat_lt place (base + more)) ≡ (nat_le least k && not over)
up_at base more place k least true few at =
    ap (λ b. nat_le least (place - base) && b) (le-ltb place (base + more) (omega arith)) ∙ and-false (nat_le least (place - base))
    ∙ sym (and-false (nat_le least k))
up_at base more place k least false few at =
    let is : place - base ≡ k = omega arith in
    ap (λ b. nat_le least (place - base) && b) (lt-ltb place (base + more) (omega arith)) ∙ ap (λ j. nat_le least j && true) is

pub down_at : (base more place k : ℕ) (over : Bool) → k < more → place ≡ base + k + more * as_bit over →
    (place == base || nat_le (base + more) place) ≡ ((k == 0) || over)
down_at base more place k true few at =
    ap (λ b. (place == base) || b) (le-leb (base + more) place (omega arith)) ∙ or-true (place == base) ∙ sym (or-true (k == 0))
down_at base more place k false few at =
    ap (λ b. (place == base) || b) (lt-leb (base + more) place (omega arith)) ∙ ap (λ b. b || false) (none_at base place k (omega arith))
