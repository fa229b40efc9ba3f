-- How the index of readers grows, and what it leaves out.
use Rattle.std.proofs.Common.{◌≡◌, ℕ, zero, suc, ◌+◌, ◌-◌, ◌<◌, Bool, true, false, cond, not, List, [], ◌∷◌, ◌++◌, length, get_or, take, filter, refl, ap, sym, ◌∙◌, arith}
use Rattle.std.specs.Prelude.{◌||◌, ◌&&◌, ◌==◌, ◌≢◌, nat_lt, All, Contains, slice_index_or}
use Rattle.std.specs.List.{range_with_len}
use Rattle.std.proofs.lemmas.List.{append-nil, get_or_push, get_or-set_other, length_push, map-id}
use Rattle.std.proofs.lemmas.List.Elements.{All-filter, filter-append}
use Rattle.std.proofs.lemmas.List.Folds.{list_any_more}
use Rattle.std.proofs.lemmas.List.FromFn.{map-range_with_len_more, get_or-range_with_len, length-range_with_len, get_or-map-range_with_len}
use Rattle.std.proofs.lemmas.Bool.{and_right, eqb-false, ne_eqb, or_parts}
use Rattle.std.proofs.lemmas.Bool.Decides.{nat_tests}
use Rattle.prs_core.specs.declared.rule.Literal.{Literal}
use Rattle.prs_core.specs.Nets.{GuardValue, NetValue, up_of, down_of}
use Rattle.prs_core.specs.Moves.{high, literal_holds, term_holds, guard_holds, rule_enabled, fired}
use Rattle.prs_core.specs.Fans.{term_names, guard_names, is_reader, readers_below, fan_value, ends_in, with_reader, IsNoted}

ends_in-push : (r : ℕ) (xs : List ℕ) → ends_in r (xs ++ r ∷ []) ≡ true
ends_in-push r xs =
    let count = length_push xs r in
    let last : get_or (xs ++ r ∷ []) (length (xs ++ r ∷ []) - 1) 0 ≡ r = get_or_push xs r 0 _ (omega arith) in
    grind (arith, nat_tests)

with_reader_again : (r : ℕ) (xs : List ℕ) → with_reader r (with_reader r xs) ≡ with_reader r xs
with_reader_again r xs = by_end (ends_in r xs) refl
  where
    by_end : (e : Bool) → ends_in r xs ≡ e → with_reader r (cond e xs (xs ++ r ∷ [])) ≡ cond e xs (xs ++ r ∷ [])
    by_end true is = rw is refl
    by_end false is = rw (ends_in-push r xs) refl

noted_twice : (p q : Bool) (r : ℕ) (x y z : List ℕ) → y ≡ cond p (with_reader r x) x → z ≡ cond q (with_reader r y) y → z ≡ cond (p || q) (with_reader r x) x
noted_twice true true r x y z first second = second ∙ ap (with_reader r) first ∙ with_reader_again r x
noted_twice true false r x y z first second = second ∙ first
noted_twice false true r x y z first second = second ∙ ap (with_reader r) first
noted_twice false false r x y z first second = second ∙ first

pub noted_more : (p q : ℕ → Bool) (r : ℕ) (xs ys zs : List (List ℕ)) → IsNoted p r xs ys → IsNoted q r ys zs → IsNoted (λ n. p n || q n) r xs zs
noted_more p q r xs ys zs first second = record {
  count = second.count ∙ first.count;
  each = λ n within. noted_twice (p n) (q n) r (get_or xs n []) (get_or ys n []) (get_or zs n []) (first.each n within)
      (second.each n (omega (arith, first.count)));
}

pub noted_as : (p q : ℕ → Bool) (r : ℕ) (xs ys : List (List ℕ)) → ((n : ℕ) → q n ≡ p n) → IsNoted p r xs ys → IsNoted q r xs ys
noted_as p q r xs ys agree noted = record {
  count = noted.count;
  each = λ n within. rw (agree n) (noted.each n within);
}

pub noted_term : (r i : ℕ) (terms : List (List Literal)) (term : List Literal) (xs ys zs : List (List ℕ)) → i < length terms → term ≡ get_or terms i term →
    IsNoted (λ n. guard_names n (take i terms)) r xs ys → IsNoted (λ n. term_names n term) r ys zs → IsNoted (λ n. guard_names n (take (i + 1) terms)) r xs zs
noted_term r i terms term xs ys zs within is before now =
    noted_as (λ n. guard_names n (take i terms) || term_names n term) (λ n. guard_names n (take (i + 1) terms)) r xs zs
    (λ n. list_any_more (term_names n) terms i term within ∙ ap (λ t. guard_names n (take i terms) || term_names n t) (sym is))
    (noted_more (λ n. guard_names n (take i terms)) (λ n. term_names n term) r xs ys zs before now)

-- one more reader

range_more : (n : ℕ) → range_with_len 0 (n + 1) ≡ range_with_len 0 n ++ n ∷ []
range_more n = sym (map-id (range_with_len 0 (n + 1))) ∙ map-range_with_len_more (λ k. k) 0 n n (omega arith)
    ∙ ap (λ xs. xs ++ n ∷ []) (map-id (range_with_len 0 n))

readers_more : (net : NetValue) (m node : ℕ) → readers_below net (m + 1) node ≡ readers_below net m node ++ cond (is_reader net node m) (m ∷ []) []
readers_more net m node = ap (filter (is_reader net node)) (range_more m) ∙ filter-append (is_reader net node) (range_with_len 0 m) (m ∷ [])

range_below : (n : ℕ) → All (λ k. k < n) (range_with_len 0 n)
range_below n = λ i d within. let e = get_or-range_with_len 0 n i d (omega (arith, length-range_with_len 0 n)) in omega (arith, length-range_with_len 0 n)

not_last : (m : ℕ) (xs : List ℕ) → All (λ k. k < m) xs → ends_in m xs ≡ false
not_last m [] below = refl
not_last m (x ∷ xs) below =
    let last : get_or (x ∷ xs) (length (x ∷ xs) - 1) 0 < m = below (length (x ∷ xs) - 1) 0 (omega arith) in
    and_right (nat_lt 0 (length (x ∷ xs))) _ (ne_eqb (get_or (x ∷ xs) (length (x ∷ xs) - 1) 0) m (omega arith))

readers_not_last : (net : NetValue) (m node : ℕ) → ends_in m (readers_below net m node) ≡ false
readers_not_last net m node = not_last m _ (All-filter (is_reader net node) (λ k. k < m) (range_with_len 0 m) (range_below m))

one_reader : (b : Bool) (m : ℕ) (xs ys : List ℕ) → ends_in m xs ≡ false → ys ≡ cond b (with_reader m xs) xs → ys ≡ xs ++ cond b (m ∷ []) []
one_reader true m xs ys fresh now = now ∙ rw fresh refl
one_reader false m xs ys fresh now = now ∙ sym (append-nil xs)

-- both guards of a reader are noted
pub noted_reader : (net : NetValue) (m : ℕ) (xs ys : List (List ℕ)) → ((n : ℕ) → n < length xs → get_or xs n [] ≡ readers_below net m n) →
    IsNoted (λ n. is_reader net n m) m xs ys → (n : ℕ) → n < length xs → get_or ys n [] ≡ readers_below net (m + 1) n
noted_reader net m xs ys before noted n within =
    one_reader (is_reader net n m) m (readers_below net m n) (get_or ys n []) (readers_not_last net m n) (rw (← before n within) (noted.each n within))
    ∙ sym (readers_more net m n)

-- firing a node that a guard doesn't name

fired_other : (state : List Bool) (moved node : ℕ) → (node == moved) ≡ false → high (fired state moved) node ≡ high state node
fired_other state moved node apart = get_or-set_other state moved node _ false (eqb-false node moved apart)

literal_same : (state : List Bool) (moved : ℕ) (l : Literal) → (l.node == moved) ≡ false →
    literal_holds (high (fired state moved)) l ≡ literal_holds (high state) l
literal_same state moved l apart = ap (λ v. cond l.high v (not v)) (fired_other state moved l.node apart)

both_same : (a b c d : Bool) → a ≡ c → b ≡ d → (a && b) ≡ (c && d)
both_same a b c d x y = ap (λ e. e && b) x ∙ ap (λ e. c && e) y

either_same : (a b c d : Bool) → a ≡ c → b ≡ d → (a || b) ≡ (c || d)
either_same a b c d x y = ap (λ e. e || b) x ∙ ap (λ e. c || e) y

term_same : (state : List Bool) (moved : ℕ) (t : List Literal) → term_names moved t ≡ false →
    term_holds (high (fired state moved)) t ≡ term_holds (high state) t
term_same state moved [] apart = refl
term_same state moved (l ∷ t) apart =
    let parts = or_parts (l.node == moved) (term_names moved t) apart in
    both_same _ _ _ _ (literal_same state moved l parts.0) (term_same state moved t parts.1)

guard_same : (state : List Bool) (moved : ℕ) (g : GuardValue) → guard_names moved g ≡ false →
    guard_holds (high (fired state moved)) g ≡ guard_holds (high state) g
guard_same state moved [] apart = refl
guard_same state moved (t ∷ g) apart =
    let parts = or_parts (term_names moved t) (guard_names moved g) apart in
    either_same _ _ _ _ (term_same state moved t parts.0) (guard_same state moved g parts.1)

contains_filter : (p : ℕ → Bool) (xs : List ℕ) (x : ℕ) → p x ≡ true → (k : ℕ) → k < length xs → get_or xs k x ≡ x → Contains (filter p xs) x
contains_filter p [] x passes k within at = absurd (omega arith)
contains_filter p (y ∷ ys) x passes zero within at = rw (ap p at ∙ passes) (zero, omega arith, at)
contains_filter p (y ∷ ys) x passes (suc k) within at = behind (p y) (contains_filter p ys x passes k (omega arith) at)
  where
    behind : (b : Bool) → Contains (filter p ys) x → Contains (cond b (y ∷ filter p ys) (filter p ys)) x
    behind true c = (suc c.0, omega (arith, c.1), c.2)
    behind false c = c

not_read : (net : NetValue) (moved node : ℕ) → moved < length net.first → node < length net.first → ¬ Contains (slice_index_or (fan_value net) moved []) node →
    is_reader net moved node ≡ false
not_read net moved node within node_within apart = by_test (is_reader net moved node) refl
  where
    readers : slice_index_or (fan_value net) moved [] ≡ readers_below net (length net.first) moved
    readers = get_or-map-range_with_len (readers_below net (length net.first)) 0 (length net.first) moved moved [] within (omega arith)

    by_test : (b : Bool) → is_reader net moved node ≡ b → b ≡ false
    by_test true is =
        let at : get_or (range_with_len 0 (length net.first)) node node ≡ node = get_or-range_with_len 0 (length net.first) node node node_within
        ∙ omega arith in
        absurd (apart (rw readers (contains_filter (is_reader net moved) (range_with_len 0 (length net.first)) node is node
        (omega (arith, length-range_with_len 0 (length net.first))) at)))
    by_test false is = refl

pub same_enabled : (net : NetValue) (state : List Bool) (moved node : ℕ) → moved < length net.first → node < length net.first → node ≢ moved →
    ¬ Contains (slice_index_or (fan_value net) moved []) node → rule_enabled net (high (fired state moved)) node ≡ rule_enabled net (high state) node
same_enabled net state moved node within node_within apart unread =
    let parts = or_parts (guard_names moved (up_of net node)) (guard_names moved (down_of net node)) (not_read net moved node within node_within unread) in
    let own : high (fired state moved) node ≡ high state node = fired_other state moved node (ne_eqb node moved apart) in
    rw (own, guard_same state moved (up_of net node) parts.0, guard_same state moved (down_of net node) parts.1) refl
