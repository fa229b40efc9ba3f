-- Names of a letter and a number: they are names, and not all of them are taken.
use Rattle.std.proofs.Common.{◌≡◌, ◌≢◌, ◌⊎◌, ℕ, zero, suc, ◌+◌, ◌<◌, ◌≤◌, ◌^◌, Bool, true, false, List, [], ◌∷◌, length, get_or, drop, Option, Some, None, cond, refl, sym, ap, ◌∙◌, subst, inl, inr, ⊎_elim, arith}
use Rattle.std.specs.Prelude.{◌||◌, ◌==◌, nat_lt, decimal, Contains, IfNone, IsSome}
use Rattle.std.specs.List.{list_all, list_any}
use Rattle.std.specs.Str.{bytes_eq}
use Rattle.std.specs.Str.Parse.{AllDigits}
use Rattle.std.specs.Int.{IsInRange}
use Rattle.std.proofs.lemmas.Bool.{and_from, and_parts, cases_lt}
use Rattle.std.proofs.lemmas.Bool.Decides.{nat_tests}
use Rattle.std.proofs.lemmas.Slice.Eq.{bytes_eq-Decides}
use Rattle.std.proofs.lemmas.Str.Parse.{tells_digits}
use Rattle.std.proofs.lemmas.Fmt.{decimal_is_IsNumeral, decimal_injective, decimal_nonempty, length-decimal-le}
use Rattle.std.proofs.lemmas.List.{length-map}
use Rattle.chp_base.specs.Names.{IsName, letter, digit, word_part, keywords}
use Rattle.chp_syntax.specs.declared.tree.Decl.{Decl}
use Rattle.slack_buffer.specs.Buffers.{copy_name, slot_name}
use Rattle.slack_buffer.specs.BufferedTrees.{declared_names, IsTakenNumber, IsFreeNumber}

-- they are names

in_order : (c : ℕ) → 48 ≤ c → c ≤ 57 → digit c ≡ true
in_order c low high = grind (arith, nat_tests)

or_left : (a b : Bool) → a ≡ true → (a || b) ≡ true
or_left true b e = refl
or_left false b e = absurd (cc e)

or_right : (a b : Bool) → b ≡ true → (a || b) ≡ true
or_right true b e = refl
or_right false b e = e

part_of_letter : (c : ℕ) → letter c ≡ true → word_part c ≡ true
part_of_letter c h = or_left (letter c || digit c) (c == 95) (or_left (letter c) (digit c) h)

part_of_digit : (c : ℕ) → IsInRange 48 57 c → word_part c ≡ true
part_of_digit c r = or_left (letter c || digit c) (c == 95) (or_right (letter c) (digit c) (in_order c r.0 r.1))

parts_of_digits : (ds : List ℕ) → AllDigits 10 ds → list_all word_part ds ≡ true
parts_of_digits [] h = refl
parts_of_digits (c ∷ cs) h = let t = tells_digits.parts c cs h in and_from (word_part c) (list_all word_part cs) (part_of_digit c t.0) (parts_of_digits cs t.1)

-- a word whose second byte is above the digits
abbrev is_worded : List ℕ → Bool
is_worded w = nat_lt 57 (get_or w 1 0)

above : (n : ℕ) → nat_lt 57 n ≡ true → 57 < n
above n h = grind (arith, nat_tests)

not_word : (bs w : List ℕ) → get_or bs 1 0 ≤ 57 → is_worded w ≡ true → bytes_eq bs w ≡ false
not_word bs w low worded = by_test (bytes_eq bs w) refl
  where
    by_test : (b : Bool) → bytes_eq bs w ≡ b → bytes_eq bs w ≡ false
    by_test false e = e
    by_test true e =
        let same : bs ≡ w = (bytes_eq-Decides bs w).0 e in
        let second : get_or bs 1 0 ≡ get_or w 1 0 = ap (λ z. get_or z 1 0) same in
        absurd (omega (arith, second, low, above (get_or w 1 0) worded))

no_word : (bs : List ℕ) (ws : List (List ℕ)) → get_or bs 1 0 ≤ 57 → list_all is_worded ws ≡ true → list_any (bytes_eq bs) ws ≡ false
no_word bs [] low h = refl
no_word bs (w ∷ ws) low h =
    let t = and_parts (is_worded w) (list_all is_worded ws) h in
    ap (λ b. b || list_any (bytes_eq bs) ws) (not_word bs w low t.0) ∙ no_word bs ws low t.1

second_digit : (first : ℕ) (ds : List ℕ) → 0 < length ds → AllDigits 10 ds → get_or (first ∷ ds) 1 0 ≤ 57
second_digit first [] some h = absurd (omega (arith, some))
second_digit first (c ∷ cs) some h = (tells_digits.parts c cs h).0.1

pub numbered_is_name : (first number : ℕ) → letter first ≡ true → number < 2 ^ 64 → IsName (first ∷ decimal number)
numbered_is_name first number is small =
    let digits = (decimal_is_IsNumeral number small).0.1 in record {
      short = (let l = length-decimal-le 20 number (omega arith) (omega (arith, small)) (omega (arith, small)) in omega (arith, l));
      first = is;
      parts = and_from (word_part first) (list_all word_part (decimal number)) (part_of_letter first is) (parts_of_digits (decimal number) digits);
      free = no_word (first ∷ decimal number) keywords (second_digit first (decimal number) (decimal_nonempty number small) digits) refl;
    }

pub made_name : {X : Type 0} (o : Option X) (bs cs : List ℕ) → IfNone o (¬ IsName bs) → bs ≡ cs → IsName cs → IsSome o
made_name (Some x) bs cs none same is = refl
made_name None bs cs none same is = absurd (none (subst (λ z. IsName z) (sym same) is))

-- the two kinds, and their numbers

pub apart_kinds : (j k : ℕ) → copy_name j ≢ slot_name k
apart_kinds j k e = let first : 66 ≡ 98 = ap (λ z. get_or z 0 0) e in absurd (omega (arith, first))

pub same_copy : (j k : ℕ) → j < 2 ^ 64 → k < 2 ^ 64 → copy_name j ≡ copy_name k → j ≡ k
same_copy j k h g e = decimal_injective j k h g (ap (drop 1) e)

pub same_slot : (j k : ℕ) → j < 2 ^ 64 → k < 2 ^ 64 → slot_name j ≡ slot_name k → j ≡ k
same_slot j k h g e = decimal_injective j k h g (ap (drop 1) e)

-- whether a name has a number below this one
abbrev has_below : ℕ → List ℕ → Bool
has_below zero name = false
has_below (suc k) name = has_below k name || (bytes_eq name (copy_name k) || bytes_eq name (slot_name k))

unequal : (xs ys : List ℕ) → xs ≢ ys → bytes_eq xs ys ≡ false
unequal xs ys ne = by_test (bytes_eq xs ys) refl
  where
    by_test : (b : Bool) → bytes_eq xs ys ≡ b → bytes_eq xs ys ≡ false
    by_test false e = e
    by_test true e = absurd (ne ((bytes_eq-Decides xs ys).0 e))

equal : (xs : List ℕ) → bytes_eq xs xs ≡ true
equal xs = (bytes_eq-Decides xs xs).1 refl

copy_above : (k j : ℕ) → k ≤ j → j < 2 ^ 64 → has_below k (copy_name j) ≡ false
copy_above zero j le small = refl
copy_above (suc k) j le small =
    ap (λ b. b || (bytes_eq (copy_name j) (copy_name k) || bytes_eq (copy_name j) (slot_name k))) (copy_above k j (omega arith) small)
    ∙ (ap (λ b. b || bytes_eq (copy_name j) (slot_name k)) (unequal (copy_name j) (copy_name k) (λ e. let same =
    same_copy j k small (omega (arith, le, small)) e in
    omega (arith, same, le)))
    ∙ unequal (copy_name j) (slot_name k) (apart_kinds j k))

slot_above : (k j : ℕ) → k ≤ j → j < 2 ^ 64 → has_below k (slot_name j) ≡ false
slot_above zero j le small = refl
slot_above (suc k) j le small =
    ap (λ b. b || (bytes_eq (slot_name j) (copy_name k) || bytes_eq (slot_name j) (slot_name k))) (slot_above k j (omega arith) small)
    ∙ (ap (λ b. b || bytes_eq (slot_name j) (slot_name k)) (unequal (slot_name j) (copy_name k) (λ e. apart_kinds k j (sym e)))
    ∙ unequal (slot_name j) (slot_name k) (λ e. let same = same_slot j k small (omega (arith, le, small)) e in omega (arith, same, le)))

copy_here : (k : ℕ) → has_below (suc k) (copy_name k) ≡ true
copy_here k = or_right (has_below k (copy_name k)) (bytes_eq (copy_name k) (copy_name k) || bytes_eq (copy_name k) (slot_name k))
    (or_left (bytes_eq (copy_name k) (copy_name k)) (bytes_eq (copy_name k) (slot_name k)) (equal (copy_name k)))

slot_here : (k : ℕ) → has_below (suc k) (slot_name k) ≡ true
slot_here k = or_right (has_below k (slot_name k)) (bytes_eq (slot_name k) (copy_name k) || bytes_eq (slot_name k) (slot_name k))
    (or_right (bytes_eq (slot_name k) (copy_name k)) (bytes_eq (slot_name k) (slot_name k)) (equal (slot_name k)))

-- how many names have no number below this one

abbrev others : ℕ → List (List ℕ) → ℕ
others k [] = 0
others k (n ∷ ns) = cond (has_below k n) (others k ns) (suc (others k ns))

no_more : (k : ℕ) (ns : List (List ℕ)) → others (suc k) ns ≤ others k ns
no_more k [] = omega arith
no_more k (n ∷ ns) = by_tests (has_below k n) (bytes_eq n (copy_name k) || bytes_eq n (slot_name k)) (no_more k ns)
  where
    by_tests : (a b : Bool) → others (suc k) ns ≤ others k ns →
        cond (a || b) (others (suc k) ns) (suc (others (suc k) ns)) ≤ cond a (others k ns) (suc (others k ns))
    by_tests true b h = h
    by_tests false true h = omega (arith, h)
    by_tests false false h = omega (arith, h)

one_fewer : (k : ℕ) (name : List ℕ) (ns : List (List ℕ)) (i : ℕ) → i < length ns → get_or ns i name ≡ name → has_below k name ≡ false →
    has_below (suc k) name ≡ true →
    suc (others (suc k) ns) ≤ others k ns
one_fewer k name [] i within is before now = absurd (omega (arith, within))
one_fewer k name (n ∷ ns) zero within is before now =
    let old : has_below k n ≡ false = ap (has_below k) is ∙ before in
    let new : has_below (suc k) n ≡ true = ap (has_below (suc k)) is ∙ now in
    let more = no_more k ns in
    let left : others (suc k) (n ∷ ns) ≡ others (suc k) ns = ap (λ b. cond b (others (suc k) ns) (suc (others (suc k) ns))) new in
    let right : others k (n ∷ ns) ≡ suc (others k ns) = ap (λ b. cond b (others k ns) (suc (others k ns))) old in
    omega (arith, left, right, more)
one_fewer k name (n ∷ ns) (suc i) within is before now =
    by_tests (has_below k n) (bytes_eq n (copy_name k) || bytes_eq n (slot_name k)) (one_fewer k name ns i (omega (arith, within)) is before now)
  where
    by_tests : (a b : Bool) → suc (others (suc k) ns) ≤ others k ns →
        suc (cond (a || b) (others (suc k) ns) (suc (others (suc k) ns))) ≤ cond a (others k ns) (suc (others k ns))
    by_tests true b h = h
    by_tests false true h = omega (arith, h)
    by_tests false false h = omega (arith, h)

-- so of more numbers than names not all are taken
enough : (decls : List Decl) (k : ℕ) → k ≤ 2 ^ 64 → ((j : ℕ) → j < k → IsTakenNumber decls j) →
    others k (declared_names decls) + k ≤ length (declared_names decls)
enough decls zero few taken = at_first (declared_names decls)
  where
    at_first : (ns : List (List ℕ)) → others 0 ns + 0 ≤ length ns
    at_first [] = omega arith
    at_first (n ∷ ns) = let h = at_first ns in omega (arith, h)
enough decls (suc k) few taken =
    let before = enough decls k (omega (arith, few)) (λ j h. taken j (omega (arith, h))) in
    let less = ⊎_elim
    (λ c. one_fewer k (copy_name k) (declared_names decls) c.0 c.1 c.2 (copy_above k k (omega arith) (omega (arith, few))) (copy_here k))
    (λ c. one_fewer k (slot_name k) (declared_names decls) c.0 c.1 c.2 (slot_above k k (omega arith) (omega (arith, few))) (slot_here k))
    (taken k (omega arith)) in
    omega (arith, before, less)

less_or_same : (j n : ℕ) → j ≤ n → (j < n) ⊎ (n ≡ j)
less_or_same j n h = ⊎_elim (λ less. inl less) (λ more. inr (omega (arith, h, more))) (cases_lt j n)

pub last_free : (decls : List Decl) → length decls < 2 ^ 64 → ((j : ℕ) → j < length decls → IsTakenNumber decls j) → IsFreeNumber decls (length decls)
last_free decls few taken = record {
  free = λ here.
      let all : (j : ℕ) → j < suc (length decls) → IsTakenNumber decls j = λ j h. by_number j here h (cases j h) in
      let most = enough decls (suc (length decls)) (omega (arith, few)) all in
      let many : length (declared_names decls) ≡ length decls = length-map decls (λ (d : Decl). d.name.name) in
      omega (arith, most, many);
  least = taken;
}
  where
    cases : (j : ℕ) → j < suc (length decls) → (j < length decls) ⊎ (length decls ≡ j)
    cases j h = less_or_same j (length decls) (omega (arith, h))

    by_number : (j : ℕ) → IsTakenNumber decls (length decls) → j < suc (length decls) → (j < length decls) ⊎ (length decls ≡ j) → IsTakenNumber decls j
    by_number j here h (inl less) = taken j less
    by_number j here h (inr same) = subst (λ z. IsTakenNumber decls z) same here

-- what a test of all declarations tells

abbrev names_one : List ℕ → List ℕ → Decl → Bool
names_one one other d = bytes_eq d.name.name one || bytes_eq d.name.name other

left_no : (a b : Bool) → (a || b) ≡ false → a ≡ false
left_no true b e = absurd (cc e)
left_no false b e = refl

right_no : (a b : Bool) → (a || b) ≡ false → b ≡ false
right_no true b e = absurd (cc e)
right_no false b e = e

both_true : (b : Bool) → b ≡ true → b ≡ false → ⊥
both_true true e f = absurd (cc f)
both_true false e f = absurd (cc e)

first_unnamed : (one other : List ℕ) (ds : List Decl) (i : ℕ) → i < length (declared_names ds) → get_or (declared_names ds) i one ≡ one →
    list_any (names_one one other) ds ≡ false → ⊥
first_unnamed one other [] i within is none = omega (arith, within)
first_unnamed one other (d ∷ ds) zero within is none =
    both_true (bytes_eq d.name.name one) ((bytes_eq-Decides d.name.name one).1 is)
    (left_no (bytes_eq d.name.name one) (bytes_eq d.name.name other) (left_no (names_one one other d) (list_any (names_one one other) ds) none))
first_unnamed one other (d ∷ ds) (suc i) within is none =
    first_unnamed one other ds i (omega (arith, within)) is (right_no (names_one one other d) (list_any (names_one one other) ds) none)

second_unnamed : (one other : List ℕ) (ds : List Decl) (i : ℕ) → i < length (declared_names ds) → get_or (declared_names ds) i other ≡ other →
    list_any (names_one one other) ds ≡ false → ⊥
second_unnamed one other [] i within is none = omega (arith, within)
second_unnamed one other (d ∷ ds) zero within is none =
    both_true (bytes_eq d.name.name other) ((bytes_eq-Decides d.name.name other).1 is)
    (right_no (bytes_eq d.name.name one) (bytes_eq d.name.name other) (left_no (names_one one other d) (list_any (names_one one other) ds) none))
second_unnamed one other (d ∷ ds) (suc i) within is none =
    second_unnamed one other ds i (omega (arith, within)) is (right_no (names_one one other d) (list_any (names_one one other) ds) none)

behind : (n name : List ℕ) (ns : List (List ℕ)) → Contains ns name → Contains (n ∷ ns) name
behind n name ns c = (suc c.0, omega (arith, c.1), c.2)

one_named : (one other : List ℕ) (ds : List Decl) → list_any (names_one one other) ds ≡ true →
    Contains (declared_names ds) one ⊎ Contains (declared_names ds) other
one_named one other [] h = absurd (cc h)
one_named one other (d ∷ ds) h = by_tests (bytes_eq d.name.name one) (bytes_eq d.name.name other) refl refl h (one_named one other ds)
  where
    by_tests : (a b : Bool) → bytes_eq d.name.name one ≡ a → bytes_eq d.name.name other ≡ b → ((a || b) || list_any (names_one one other) ds) ≡ true →
        (list_any (names_one one other) ds ≡ true → Contains (declared_names ds) one ⊎ Contains (declared_names ds) other) →
        Contains (declared_names (d ∷ ds)) one ⊎ Contains (declared_names (d ∷ ds)) other
    by_tests true b e f k rest = inl (0, omega arith, (bytes_eq-Decides d.name.name one).0 e)
    by_tests false true e f k rest = inr (0, omega arith, (bytes_eq-Decides d.name.name other).0 f)
    by_tests false false e f k rest =
        ⊎_elim (λ c. inl (behind d.name.name one (declared_names ds) c)) (λ c. inr (behind d.name.name other (declared_names ds) c)) (rest k)

pub free_by : (decls : List Decl) (k : ℕ) (one other : List ℕ) (r : Bool) → r ≡ list_any (names_one one other) decls → one ≡ copy_name k → other ≡ slot_name k →
    r ≡ false → ((j : ℕ) → j < k → IsTakenNumber decls j) → IsFreeNumber decls k
free_by decls k one other r is copy slot no_one taken =
    let none : list_any (names_one (copy_name k) (slot_name k)) decls ≡ false =
    ap (λ z. list_any (names_one z (slot_name k)) decls) (sym copy) ∙ (ap (λ z. list_any (names_one one z) decls) (sym slot) ∙ (sym is ∙ no_one)) in
    record {
      free = λ t. ⊎_elim (λ c. first_unnamed (copy_name k) (slot_name k) decls c.0 c.1 c.2 none)
          (λ c. second_unnamed (copy_name k) (slot_name k) decls c.0 c.1 c.2 none) t;
      least = taken;
    }

pub taken_more : (decls : List Decl) (k : ℕ) (one other : List ℕ) (r : Bool) → r ≡ list_any (names_one one other) decls → one ≡ copy_name k →
    other ≡ slot_name k →
    r ≡ true → ((j : ℕ) → j < k → IsTakenNumber decls j) → (j : ℕ) → j < k + 1 → IsTakenNumber decls j
taken_more decls k one other r is copy slot some taken j h = ⊎_elim (λ less. taken j less) (λ same. subst (λ z. IsTakenNumber decls z) same now)
    (less_or_same j k (omega (arith, h)))
  where
    now : IsTakenNumber decls k
    now = one_named (copy_name k) (slot_name k) decls
        (ap (λ z. list_any (names_one z (slot_name k)) decls) (sym copy) ∙ (ap (λ z. list_any (names_one one z) decls) (sym slot) ∙ (sym is ∙ some)))
