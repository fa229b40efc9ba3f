-- The first of the places at which something is.
use Rattle.std.proofs.Common.{◌≡◌, ℕ, zero, suc, ◌<◌, Bool, true, false, List, [], ◌∷◌, length, get_or, Option, Some, None, ◌⊎◌, inl, inr, ⊎_elim, refl, sym, ◌∙◌, subst, arith}
use Rattle.std.specs.Prelude.{◌&&◌, ◌||◌, ◌==◌, nat_lt, if◌then◌else◌, Contains, MatchOption}
use Rattle.std.proofs.lemmas.Bool.Decides.{nat_tests}
use Rattle.chp_base.specs.declared.span.Span.{Span}
use Rattle.width_check.specs.Order.{IsNoLater, IsFirst}
use Rattle.width_check.specs.Walk.{is_earlier, earlier, first_of}

-- a place is the first one at which P is, and none where P is nowhere
abbrev pub IsLeast : (Span → Type 0) → Option Span → Type 0
IsLeast P o = MatchOption o ((s : Span) → ¬ P s) (λ s. IsFirst P s)

-- a test of an item of a list, at its place
pub record Passes {X : Type 0} (test : X → Bool) (at : X → Span) (xs : List X) (s : Span) : Type 0 where
  pub item : X
  pub among : Contains xs item
  pub passed : test item ≡ true
  pub place : s ≡ at item

-- the order of places

no_later_than : (s t : Span) → is_earlier s t ≡ true → IsNoLater s t
no_later_than s t is = by_front (nat_lt s.from t.from) (s.from == t.from) (nat_lt t.to s.to) refl refl refl is
  where
    by_front : (a b c : Bool) → nat_lt s.from t.from ≡ a → (s.from == t.from) ≡ b → nat_lt t.to s.to ≡ c → (a || (b && c)) ≡ true → IsNoLater s t
    by_front true b c front same back is = inl (grind (arith, nat_tests))
    by_front false true true front same back is = inr (grind (arith, nat_tests), grind (arith, nat_tests))
    by_front false true false front same back is = absurd (cc is)
    by_front false false c front same back is = absurd (cc is)

no_earlier_than : (s t : Span) → is_earlier s t ≡ false → IsNoLater t s
no_earlier_than s t is = by_front (nat_lt s.from t.from) (nat_lt t.from s.from) refl refl is
  where
    by_back : (b c : Bool) → (s.from == t.from) ≡ b → nat_lt t.to s.to ≡ c → nat_lt s.from t.from ≡ false → nat_lt t.from s.from ≡ false →
        (false || (b && c)) ≡ false → IsNoLater t s
    by_back true true same back one other is = absurd (cc is)
    by_back true false same back one other is = inr (grind (arith, nat_tests), grind (arith, nat_tests))
    by_back false c same back one other is = absurd (grind (arith, nat_tests))

    by_front : (a b : Bool) → nat_lt s.from t.from ≡ a → nat_lt t.from s.from ≡ b → (a || ((s.from == t.from) && nat_lt t.to s.to)) ≡ false → IsNoLater t s
    by_front true b one other is = absurd (cc is)
    by_front false true one other is = inl (grind (arith, nat_tests))
    by_front false false one other is = by_back (s.from == t.from) (nat_lt t.to s.to) refl refl one other is

pub no_later_self : (s : Span) → IsNoLater s s
no_later_self s = inr (refl, omega arith)

pub no_later_chain : (s t u : Span) → IsNoLater s t → IsNoLater t u → IsNoLater s u
no_later_chain s t u (inl a) (inl b) = inl (omega arith)
no_later_chain s t u (inl a) (inr b) = inl (omega (arith, b.0))
no_later_chain s t u (inr a) (inl b) = inl (omega (arith, a.0))
no_later_chain s t u (inr a) (inr b) = inr (a.0 ∙ b.0, omega (arith, a.1, b.1))

-- one more place
pub least_more : (P : Span → Type 0) (o : Option Span) (t : Span) → IsLeast P o → IsLeast (λ s. P s ⊎ (s ≡ t)) (earlier o t)
least_more P None t nowhere = record {
  there = inr refl;
  first =
      λ s h. ⊎_elim (λ p. absurd (nowhere s p)) (λ (e : s ≡ t). subst (λ (u : Span). IsNoLater t u) (sym e) (no_later_self t)) h;
}
least_more P (Some r) t first = by_order (is_earlier t r) refl
  where
    by_order : (b : Bool) → is_earlier t r ≡ b → IsLeast (λ s. P s ⊎ (s ≡ t)) (if b then Some t else Some r)
    by_order true is = record {
      there = inr refl;
      first =
          λ s h. ⊎_elim (λ p. no_later_chain t r s (no_later_than t r is) (first.first s p))
          (λ (e : s ≡ t). subst (λ (u : Span). IsNoLater t u) (sym e) (no_later_self t)) h;
    }
    by_order false is = record {
      there = inl first.there;
      first =
          λ s h. ⊎_elim (λ p. first.first s p) (λ (e : s ≡ t). subst (λ (u : Span). IsNoLater r u) (sym e) (no_earlier_than t r is)) h;
    }

-- the same places
pub least_same : (P Q : Span → Type 0) (o : Option Span) → ((s : Span) → P s → Q s) → ((s : Span) → Q s → P s) → IsLeast P o → IsLeast Q o
least_same P Q None to from nowhere = λ s q. nowhere s (from s q)
least_same P Q (Some t) to from first = record { there = to t first.there; first = λ s q. first.first s (from s q) }

-- those of a list

in_front : {X : Type 0} (x : X) (xs : List X) → Contains (x ∷ xs) x
in_front x xs = (0, omega arith, refl)

pub in_rest : {X : Type 0} (x y : X) (xs : List X) → Contains xs y → Contains (x ∷ xs) y
in_rest x y xs c = (suc c.0, omega (arith, c.1), c.2)

pub front_or_rest : {X : Type 0} (x y : X) (xs : List X) → Contains (x ∷ xs) y → (x ≡ y) ⊎ Contains xs y
front_or_rest x y xs c = by_place c.0 c.1 c.2
  where
    by_place : (k : ℕ) → k < length (x ∷ xs) → get_or (x ∷ xs) k y ≡ y → (x ≡ y) ⊎ Contains xs y
    by_place zero within is = inl is
    by_place (suc k) within is = inr (k, omega (arith, within), is)

pub no_item : {X : Type 0} (y : X) → ¬ Contains [] y
no_item y c = absurd (omega (arith, c.1))

passes_rest : {X : Type 0} {test : X → Bool} {at : X → Span} (x : X) (xs : List X) (s : Span) → Passes test at xs s → Passes test at (x ∷ xs) s
passes_rest x xs s h = record { item = h.item; among = in_rest x h.item xs h.among; passed = h.passed; place = h.place }

passes_front : {X : Type 0} {test : X → Bool} {at : X → Span} (x : X) (xs : List X) (s : Span) → Passes test at (x ∷ xs) s →
    ((test x ≡ true) × (s ≡ at x)) ⊎ Passes test at xs s
passes_front {X} {test} {at} x xs s h =
    ⊎_elim (λ (e : x ≡ h.item). inl (subst (λ (y : X). (test y ≡ true) × (s ≡ at y)) (sym e) (h.passed, h.place)))
    (λ c. inr (record { item = h.item; among = c; passed = h.passed; place = h.place })) (front_or_rest x h.item xs h.among)

pub least_of : {X : Type 0} (test : X → Bool) (at : X → Span) (P : Span → Type 0) (o : Option Span) (xs : List X) → IsLeast P o →
    IsLeast (λ s. P s ⊎ Passes test at xs s) (first_of test at o xs)
least_of {X} test at P o [] least = least_same P (λ s. P s ⊎ Passes test at [] s) o (λ s p. inl p)
    (λ s h. ⊎_elim (λ p. p) (λ q. absurd (no_item q.item q.among)) h) least
least_of {X} test at P o (x ∷ xs) least = by_test (test x) refl (λ q Q first. least_of test at Q q xs first)
  where
    by_test : (b : Bool) → test x ≡ b → ((q : Option Span) (Q : Span → Type 0) → IsLeast Q q → IsLeast (λ s. Q s ⊎ Passes test at xs s) (first_of test at q xs))
        → IsLeast (λ s. P s ⊎ Passes test at (x ∷ xs) s) (first_of test at (if b then earlier o (at x) else o) xs)
    by_test true is rest =
        least_same (λ s. (P s ⊎ (s ≡ at x)) ⊎ Passes test at xs s) (λ s. P s ⊎ Passes test at (x ∷ xs) s) (first_of test at (earlier o (at x)) xs)
        (λ s h. ⊎_elim (λ k. ⊎_elim (λ p. inl p) (λ (e : s ≡ at x). inr (record { item = x; among = in_front x xs; passed = is; place = e })) k)
        (λ q. inr (passes_rest x xs s q)) h)
        (λ s h. ⊎_elim (λ p. inl (inl p)) (λ q. ⊎_elim (λ e. inl (inr e.1)) (λ r. inr r) (passes_front x xs s q)) h)
        (rest (earlier o (at x)) (λ s. P s ⊎ (s ≡ at x)) (least_more P o (at x) least))
    by_test false is rest =
        least_same (λ s. P s ⊎ Passes test at xs s) (λ s. P s ⊎ Passes test at (x ∷ xs) s) (first_of test at o xs)
        (λ s h. ⊎_elim (λ p. inl p) (λ q. inr (passes_rest x xs s q)) h)
        (λ s h. ⊎_elim (λ p. inl p) (λ q. ⊎_elim (λ e. absurd (let c : true ≡ false = sym e.0 ∙ is in cc c)) (λ r. inr r) (passes_front x xs s q)) h)
        (rest o P least)

pub least_in : {X : Type 0} (test : X → Bool) (at : X → Span) (xs : List X) → IsLeast (λ s. Passes test at xs s) (first_of test at None xs)
least_in test at xs = least_same (λ s. ⊥ ⊎ Passes test at xs s) (λ s. Passes test at xs s) (first_of test at None xs) (λ s h. ⊎_elim (λ n. absurd n) (λ q. q) h)
    (λ s q. inr q) (least_of test at (λ s. ⊥) None xs (λ s n. n))
