-- The steps and the ends of loops that go on raising numbers, and sums that saturate.
use Rattle.std.proofs.Common.{◌≡◌, ◌≢◌, ℕ, suc, ◌+◌, ◌*◌, ◌-◌, ◌^◌, ◌<◌, ◌≤◌, true, false, List, [], ◌∷◌, ◌++◌, length, set, sym, ap, ◌∙◌, ◌⊎◌, inl, inr, arith}
use Rattle.std.specs.Prelude.{min, max, ◌==◌, slice_index}
use Rattle.std.proofs.lemmas.List.{length-set, length-append, get_or-set_same, get_or-set_other, get_or_append_left, get_or_push}
use Rattle.std.proofs.lemmas.Bool.{cases_lt}
use Rattle.std.proofs.lemmas.Bool.Decides.{eqb_tells, nat_tests}
use Rattle.handshake_expand.specs.Layout.{capped}
use Rattle.pace_bound.specs.Clearing.{IsTableOf}
use Rattle.pace_bound.specs.Noting.{IsRaised}

pub stepped : (old here rest own next total : ℕ) → max old rest ≡ total → next ≡ max old own → rest ≡ max own here → max next here ≡ total
stepped old here rest own next total p q r = omega arith

pub ended : (now old rest whole w : ℕ) → max now (capped rest) ≡ max old whole → rest ≡ 0 → w ≡ whole → now ≡ max old w
ended now old rest whole w p q r = omega arith

pub left_none : (now rest whole : ℕ) → max now (capped rest) ≡ capped whole → rest ≡ 0 → now ≡ capped whole
left_none now rest whole p q = omega arith

pub left_least : (now rest whole : ℕ) → max now (capped rest) ≡ capped whole → rest ≤ now → now ≡ capped whole
left_least now rest whole p q = omega arith

pub branches_sum : (now whole held tree doubled one two three : ℕ) → now ≡ capped whole → doubled ≡ min (tree * 2) (2 ^ 64 - 1) → one ≡ capped (doubled + held)
    → two ≡ capped (one + 3) → three ≡ capped (now + two) → three ≡ capped (whole + 3 + held + 2 * tree)
branches_sum now whole held tree doubled one two three p q r s t =
    let a : two ≡ capped (2 * tree + held + 3) = before doubled one two q r s in last now whole two (2 * tree + held + 3) three p a t (omega arith)
  where
    before : (doubled one two : ℕ) → doubled ≡ min (tree * 2) (2 ^ 64 - 1) → one ≡ capped (doubled + held) → two ≡ capped (one + 3)
        → two ≡ capped (2 * tree + held + 3)
    before doubled one two q r s = omega arith

    last : (now whole two sum three : ℕ) → now ≡ capped whole → two ≡ capped sum → three ≡ capped (now + two) → whole + sum ≡ whole + 3 + held + 2 * tree
        → three ≡ capped (whole + 3 + held + 2 * tree)
    last now whole two sum three p q r e = omega arith

pub again_sum : (guards whole held one two : ℕ) → guards ≡ capped whole → one ≡ capped (held + guards) → two ≡ capped (one + 7)
    → two ≡ capped (held + 7 + whole)
again_sum guards whole held one two p q r = omega arith

pub one_after : (now whole other next : ℕ) → now ≡ capped whole → capped whole ≡ capped other → next ≡ capped (now + 1) → next ≡ capped (suc other)
one_after now whole other next p q r = omega arith

pub two_capped : (a b : ℕ) → capped (max a b) ≡ max (capped a) (capped b)
two_capped a b = omega arith

pub three_capped : (a b c : ℕ) → capped (max a (max b c)) ≡ max (max (capped a) (capped b)) (capped c)
three_capped a b c = two_capped a (max b c) ∙ (ap (max (capped a)) (two_capped b c) ∙ regroup (capped a) (capped b) (capped c))
  where
    regroup : (a b c : ℕ) → max a (max b c) ≡ max (max a b) c
    regroup a b c = omega arith

pub max_capped : (now turned whole other : ℕ) → now ≡ max (capped turned) (capped whole) → capped whole ≡ capped other → now ≡ capped (max turned other)
max_capped now turned whole other p q = omega arith

pub same_capped : (a b : ℕ) → a ≡ capped b → capped a ≡ capped b
same_capped a b h = omega arith

-- raised by one, and then by another one
pub both_raised : (now between old f g : ℕ) {whole : ℕ} → now ≡ max between (capped g) → between ≡ max old (capped f) → whole ≡ max f g
    → now ≡ max old (capped whole)
both_raised now between old f g p q r = omega arith

pub eq_other : (a b : ℕ) → a ≢ b → (a == b) ≡ false
eq_other a b h = grind (arith, nat_tests)

none_above : (a b : ℕ) → b ≡ 0 → a ≡ max a (capped b)
none_above a b h = omega arith

-- one number of a list is raised
pub raised_by : (old new : List ℕ) (place v : ℕ) (f : ℕ → ℕ) → place < length old → new ≡ set old place (max (slice_index old place) v) → v ≡ capped (f place)
    → ((k : ℕ) → place ≢ k → f k ≡ 0) → IsRaised f old new
raised_by old new place v f inside is here other = record {
  sized = ap length is ∙ length-set old place (max (slice_index old place) v);
  each = λ k h. ap (λ l. slice_index l k) is ∙ by k (eqb_tells k place);
}
  where
    by : (k : ℕ) → (((k == place) ≡ true) × (k ≡ place)) ⊎ (((k == place) ≡ false) × (k ≢ place))
        → slice_index (set old place (max (slice_index old place) v)) k ≡ max (slice_index old k) (capped (f k))
    by k (inl t) =
        ap (slice_index (set old place (max (slice_index old place) v))) t.1
        ∙ (get_or-set_same old place (max (slice_index old place) v) 0 inside
        ∙ (ap (max (slice_index old place)) here ∙ ap (λ n. max (slice_index old n) (capped (f n))) (sym t.1)))
    by k (inr t) =
        get_or-set_other old place k (max (slice_index old place) v) 0 t.1
        ∙ none_above (slice_index old k) (f k) (other k (λ e. t.1 (sym e)))

-- the same table, and one number more
pub same_table : (n : ℕ) (f g : ℕ → ℕ) (table : List ℕ) → IsTableOf n f table → ((k : ℕ) → f k ≡ g k) → IsTableOf n g table
same_table n f g table is same = record { sized = is.sized; each = λ k h. is.each k h ∙ ap capped (same k) }

pub table_more : (n x : ℕ) (f : ℕ → ℕ) (old new : List ℕ) → IsTableOf n f old → new ≡ old ++ x ∷ [] → x ≡ capped (f n) → IsTableOf (n + 1) f new
table_more n x f old new is more here = record {
  sized = omega (arith, ap length more, length-append old (x ∷ []), is.sized);
  each = λ k h. ap (λ xs. slice_index xs k) more ∙ by k h (cases_lt k n);
}
  where
    by : (k : ℕ) → k < n + 1 → (k < n) ⊎ (n ≤ k) → slice_index (old ++ x ∷ []) k ≡ capped (f k)
    by k h (inl lt) = get_or_append_left old (x ∷ []) 0 k (omega (arith, lt, is.sized)) ∙ is.each k lt
    by k h (inr le) =
        let at : length old ≡ k = omega (arith, h, le, is.sized) in
        let last : n ≡ k = omega (arith, h, le) in
        get_or_push old x 0 k at ∙ (here ∙ ap (λ m. capped (f m)) last)
