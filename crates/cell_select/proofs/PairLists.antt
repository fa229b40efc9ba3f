-- Rails as the pairs of guards.
use Rattle.std.proofs.Common.{◌≡◌, ℕ, zero, suc, ◌<◌, ◌≤◌, ◌+◌, ◌-◌, ◌*◌, ◌/◌, List, [], ◌∷◌, ◌++◌, length, take, drop, slice_index_or, arith, ap, sym, ◌∙◌, refl}
use Rattle.std.proofs.lemmas.List.{map-append, take_more, append_assoc, get_or-drop, length-drop, take_rest, take_all}
use Rattle.prs_core.specs.declared.rule.Literal.{Literal}
use Rattle.prs_core.specs.Nets.{is_high, is_low}
use Rattle.prs_core.specs.Pairs.{Pair, lows, rails_of}
use Rattle.cell_select.specs.Selections.{all_false}
use Rattle.cell_select.specs.PortNodes.{pairs_of}

pub pairs_length : (n : ℕ) (rails : List ℕ) → length rails ≡ 2 * n → length (pairs_of rails) ≡ n
pairs_length zero [] e = refl
pairs_length (suc n) [] e = absurd (omega arith)
pairs_length n (t ∷ []) e = absurd (omega arith)
pairs_length zero (t ∷ f ∷ rails) e = absurd (omega arith)
pairs_length (suc n) (t ∷ f ∷ rails) e = let rest : length (pairs_of rails) ≡ n = pairs_length n rails (omega arith) in omega (arith, rest)

pub rails_again : (n : ℕ) (rails : List ℕ) → length rails ≡ 2 * n → rails_of (pairs_of rails) ≡ rails
rails_again zero [] e = refl
rails_again (suc n) [] e = absurd (omega arith)
rails_again n (t ∷ []) e = absurd (omega arith)
rails_again zero (t ∷ f ∷ rails) e = absurd (omega arith)
rails_again (suc n) (t ∷ f ∷ rails) e = ap (λ (ns : List ℕ). t ∷ f ∷ ns) (rails_again n rails (omega arith))

abbrev pub pair_in : List ℕ → ℕ → Pair
pair_in rails i = record { t = slice_index_or rails (2 * i) 0; f = slice_index_or rails (2 * i + 1) 0 }

pub pair_is : (n : ℕ) (rails : List ℕ) (i : ℕ) (d : Pair) → length rails ≡ 2 * n → i < n → slice_index_or (pairs_of rails) i d ≡ pair_in rails i
pair_is zero rails i d e lt = absurd (omega arith)
pair_is (suc n) [] i d e lt = absurd (omega arith)
pair_is (suc n) (t ∷ []) i d e lt = absurd (omega arith)
pair_is (suc n) (t ∷ f ∷ rails) zero d e lt = refl
pair_is (suc n) (t ∷ f ∷ rails) (suc i) d e lt =
    let rest : slice_index_or (pairs_of rails) i d ≡ pair_in rails i = pair_is n rails i d (omega arith) (omega arith) in
    let even : 2 * suc i ≡ suc (suc (2 * i)) = omega arith in
    let odd : 2 * suc i + 1 ≡ suc (suc (2 * i + 1)) = omega arith in
    let at_even : slice_index_or (t ∷ f ∷ rails) (2 * suc i) 0 ≡ slice_index_or rails (2 * i) 0 = ap (λ k. slice_index_or (t ∷ f ∷ rails) k 0) even in
    let at_odd : slice_index_or (t ∷ f ∷ rails) (2 * suc i + 1) 0 ≡ slice_index_or rails (2 * i + 1) 0 = ap (λ k. slice_index_or (t ∷ f ∷ rails) k 0) odd in
    rest ∙ ap (λ (k : ℕ). let p : Pair = record { t = k; f = slice_index_or rails (2 * i + 1) 0 } in p) (sym at_even)
    ∙ ap (λ (k : ℕ). let p : Pair = record { t = slice_index_or (t ∷ f ∷ rails) (2 * suc i) 0; f = k } in p) (sym at_odd)

pub pair_within : (rails : List ℕ) (i : ℕ) (d : Pair) → 2 * i + 1 < length rails →
    (i < length (pairs_of rails)) × (slice_index_or (pairs_of rails) i d ≡ pair_in rails i)
pair_within [] i d lt = absurd (omega (arith, lt))
pair_within (t ∷ []) i d lt = absurd (omega (arith, lt))
pair_within (t ∷ f ∷ rails) zero d lt = (omega arith, refl)
pair_within (t ∷ f ∷ rails) (suc i) d lt =
    let rest = pair_within rails i d (omega (arith, lt)) in
    let even : 2 * suc i ≡ suc (suc (2 * i)) = omega arith in
    let odd : 2 * suc i + 1 ≡ suc (suc (2 * i + 1)) = omega arith in
    let at_even : slice_index_or (t ∷ f ∷ rails) (2 * suc i) 0 ≡ slice_index_or rails (2 * i) 0 = ap (λ k. slice_index_or (t ∷ f ∷ rails) k 0) even in
    let at_odd : slice_index_or (t ∷ f ∷ rails) (2 * suc i + 1) 0 ≡ slice_index_or rails (2 * i + 1) 0 = ap (λ k. slice_index_or (t ∷ f ∷ rails) k 0) odd in (
      omega (arith, rest.0),
      rest.1 ∙ ap (λ (k : ℕ). let p : Pair = record { t = k; f = slice_index_or rails (2 * i + 1) 0 } in p) (sym at_even)
          ∙ ap (λ (k : ℕ). let p : Pair = record { t = slice_index_or (t ∷ f ∷ rails) (2 * suc i) 0; f = k } in p) (sym at_odd),
    )

-- one more literal that wants a guard false
pub falses_step : (rails : List ℕ) (from guard : ℕ) (start items : List Literal) → from ≤ guard → 2 * guard + 1 < length rails →
    items ≡ start ++ all_false (take (guard - from) (drop from (pairs_of rails))) → items ++ is_high (slice_index_or rails (2 * guard + 1) 0) ∷ [] ≡ start
    ++ all_false (take (guard + 1 - from) (drop from (pairs_of rails)))
falses_step rails from guard start items le lt is =
    let p = pair_in rails guard in
    let within = pair_within rails guard p lt in
    let k = guard - from in
    let back : from + (guard - from) ≡ guard = omega (arith, le) in
    let next : guard + 1 - from ≡ guard - from + 1 = omega (arith, le) in
    let hs = drop from (pairs_of rails) in
    let long : length hs ≡ length (pairs_of rails) - from = length-drop from (pairs_of rails) in
    let inside : guard - from < length hs = omega (arith, long, within.0, le) in
    let at : slice_index_or hs (guard - from) p ≡ p = get_or-drop from (pairs_of rails) (guard - from) p ∙ ap (λ n. slice_index_or (pairs_of rails) n p) back
    ∙ within.1 in
    let more : all_false (take (guard + 1 - from) hs) ≡ all_false (take (guard - from) hs) ++ is_high p.f ∷ [] =
    ap (λ n. all_false (take n hs)) next ∙ ap all_false (take_more hs (guard - from) p inside)
    ∙ map-append (λ (h : Pair). is_high h.f) (take (guard - from) hs) (slice_index_or hs (guard - from) p ∷ [])
    ∙ ap (λ (h : Pair). all_false (take (guard - from) hs) ++ is_high h.f ∷ []) at in
    ap (λ (xs : List Literal). xs ++ is_high p.f ∷ []) is ∙ append_assoc start (all_false (take (guard - from) hs)) (is_high p.f ∷ [])
    ∙ ap (λ (xs : List Literal). start ++ xs) (sym more)

-- all of them
pub falses_all : (rails : List ℕ) (n : ℕ) → length rails ≡ 2 * n →
    all_false (take (length rails / 2 - 0) (drop 0 (pairs_of rails))) ≡ all_false (pairs_of rails)
falses_all rails n e =
    let long = pairs_length n rails e in
    let count : length rails / 2 - 0 ≡ length (pairs_of rails) = omega (arith, long, e) in
    ap (λ k. all_false (take k (pairs_of rails))) count ∙ ap all_false (take_all (length (pairs_of rails)) (pairs_of rails) (omega arith))

-- those behind one
pub falses_behind : (rails : List ℕ) (n i : ℕ) → length rails ≡ 2 * n →
    all_false (take (length rails / 2 - i) (drop i (pairs_of rails))) ≡ all_false (drop i (pairs_of rails))
falses_behind rails n i e =
    let long = pairs_length n rails e in
    let count : length rails / 2 - i ≡ length (pairs_of rails) - i = omega (arith, long, e) in
    ap (λ k. all_false (take k (drop i (pairs_of rails)))) count ∙ ap all_false (take_rest (pairs_of rails) i)

-- one literal and one low node more
pub lows_next : (first : Literal) (ns : List ℕ) (i : ℕ) (items : List Literal) → i < length ns → items ≡ first ∷ lows (take i ns) →
    items ++ is_low (slice_index_or ns i 0) ∷ [] ≡ first ∷ lows (take (i + 1) ns)
lows_next first ns i items lt is =
    ap (λ (xs : List Literal). xs ++ is_low (slice_index_or ns i 0) ∷ []) is
    ∙ ap (λ (xs : List Literal). first ∷ xs) (sym (map-append is_low (take i ns) (slice_index_or ns i 0 ∷ [])))
    ∙ ap (λ xs. first ∷ lows xs) (sym (take_more ns i 0 lt))
