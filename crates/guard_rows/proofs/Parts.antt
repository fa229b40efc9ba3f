-- One list more behind those that are parts of one list.
use Rattle.std.proofs.Common.{◌≡◌, ℕ, zero, suc, ◌+◌, ◌-◌, ◌<◌, ◌≤◌, List, [], ◌∷◌, ◌++◌, length, get_or, take, drop, refl, sym, ap, ◌∙◌, inl, inr, arith}
use Rattle.std.specs.Prelude.{◌⊎◌}
use Rattle.std.proofs.lemmas.Bool.{cases_eq}
use Rattle.std.proofs.lemmas.List.{ext_get_or, length-append, length-drop, length_push, get_or_push, get_or_append_left, take_all, take-append-le, drop-append-le, drop_at}
use Rattle.std.proofs.lemmas.List.FromFn.{length-map-range_with_len, get_or-map-range_with_len}
use Rattle.guard_rows.specs.Places.{part_at, parts_by, AreStarts}

first_at : (m : ℕ) → m < 1 → get_or (0 ∷ []) m 0 ≤ 0
first_at zero less = omega arith
first_at (suc m) less = absurd (omega arith)

pub first_start : AreStarts (0 ∷ []) 0
first_start = record {
  some = omega arith;
  ascend = λ m less. absurd (omega arith);
  within = first_at;
  last = refl;
}

pub start_more : (starts : List ℕ) (end next : ℕ) → AreStarts starts end → end ≤ next → AreStarts (starts ++ next ∷ []) next
start_more starts end next are more = record {
  some = omega (arith, length_push starts next);
  ascend = λ m less. ascends m less (cases_eq (m + 1) (length starts));
  within = λ m less. inside m less (cases_eq m (length starts));
  last = get_or_push starts next 0 (length (starts ++ next ∷ []) - 1) (omega (arith, length_push starts next));
}
  where
    ascends : (m : ℕ) → m + 1 < length (starts ++ next ∷ []) → (m + 1 ≡ length starts) ⊎ (m + 1 ≡ length starts → ⊥) →
        get_or (starts ++ next ∷ []) m 0 ≤ get_or (starts ++ next ∷ []) (m + 1) 0
    ascends m less (inl same) =
        omega (arith, get_or_append_left starts (next ∷ []) 0 m (omega arith), get_or_push starts next 0 (m + 1) (sym same), are.within m (omega arith))
    ascends m less (inr apart) =
        let before : m + 1 < length starts = omega (arith, length_push starts next) in
        omega (arith, get_or_append_left starts (next ∷ []) 0 m (omega arith), get_or_append_left starts (next ∷ []) 0 (m + 1) before, are.ascend m before)

    inside : (m : ℕ) → m < length (starts ++ next ∷ []) → (m ≡ length starts) ⊎ (m ≡ length starts → ⊥) → get_or (starts ++ next ∷ []) m 0 ≤ next
    inside m less (inl same) = omega (arith, get_or_push starts next 0 m (sym same))
    inside m less (inr apart) =
        let before : m < length starts = omega (arith, length_push starts next) in
        omega (arith, get_or_append_left starts (next ∷ []) 0 m before, are.within m before)

pub parts_count : (starts : List ℕ) (all : List (ℕ × ℕ)) → length (parts_by starts all) ≡ length starts - 1
parts_count starts all = length-map-range_with_len (part_at starts all) 0 (length starts - 1)

pub part_is : (starts : List ℕ) (all : List (ℕ × ℕ)) (m : ℕ) → m < length (parts_by starts all) → get_or (parts_by starts all) m [] ≡ part_at starts all m
part_is starts all m within =
    get_or-map-range_with_len (part_at starts all) 0 (length starts - 1) m m [] (omega (arith, within, parts_count starts all)) (omega arith)

-- the parts before stay as they are
part_kept : (starts : List ℕ) (all more : List (ℕ × ℕ)) (next m : ℕ) → AreStarts starts (length all) → m + 1 < length starts →
    part_at (starts ++ next ∷ []) (all ++ more) m ≡ part_at starts all m
part_kept starts all more next m are before =
    let from : get_or (starts ++ next ∷ []) m 0 ≡ get_or starts m 0 = get_or_append_left starts (next ∷ []) 0 m (omega arith) in
    let to : get_or (starts ++ next ∷ []) (m + 1) 0 ≡ get_or starts (m + 1) 0 = get_or_append_left starts (next ∷ []) 0 (m + 1) before in
    let within : get_or starts m 0 ≤ length all = are.within m (omega arith) in
    let further : get_or starts (m + 1) 0 ≤ length all = are.within (m + 1) before in
    ap (λ k. take (get_or (starts ++ next ∷ []) (m + 1) 0 - k) (drop k (all ++ more))) from
    ∙ ap (λ k. take (k - get_or starts m 0) (drop (get_or starts m 0) (all ++ more))) to
    ∙ ap (take (get_or starts (m + 1) 0 - get_or starts m 0)) (drop-append-le (get_or starts m 0) all more within)
    ∙ take-append-le (get_or starts (m + 1) 0 - get_or starts m 0) (drop (get_or starts m 0) all) more
    (omega (arith, within, further, length-drop (get_or starts m 0) all))

part_last : (starts : List ℕ) (all more : List (ℕ × ℕ)) (m : ℕ) → AreStarts starts (length all) → m + 1 ≡ length starts →
    part_at (starts ++ length (all ++ more) ∷ []) (all ++ more) m ≡ more
part_last starts all more m are last =
    let next = length (all ++ more) in
    let from : get_or (starts ++ next ∷ []) m 0 ≡ length all =
    get_or_append_left starts (next ∷ []) 0 m (omega arith) ∙ ap (λ k. get_or starts k 0) (omega arith) ∙ are.last in
    let to : get_or (starts ++ next ∷ []) (m + 1) 0 ≡ next = get_or_push starts next 0 (m + 1) (sym last) in
    ap (λ k. take (get_or (starts ++ next ∷ []) (m + 1) 0 - k) (drop k (all ++ more))) from
    ∙ ap (λ xs. take (get_or (starts ++ next ∷ []) (m + 1) 0 - length all) xs) (drop_at all more (length all) refl)
    ∙ take_all (get_or (starts ++ next ∷ []) (m + 1) 0 - length all) more (omega (arith, to, length-append all more))

pub parts_more : (starts : List ℕ) (all more : List (ℕ × ℕ)) → AreStarts starts (length all) →
    parts_by (starts ++ length (all ++ more) ∷ []) (all ++ more) ≡ parts_by starts all ++ more ∷ []
parts_more starts all more are =
    ext_get_or [] (parts_by new (all ++ more)) (parts_by starts all ++ more ∷ []) counts (λ m within. at m within (cases_eq (m + 1) (length starts)))
  where
    new : List ℕ
    new = starts ++ length (all ++ more) ∷ []

    count : length (parts_by new (all ++ more)) ≡ length starts
    count = parts_count new (all ++ more) ∙ omega (arith, length_push starts (length (all ++ more)))

    counts : length (parts_by new (all ++ more)) ≡ length (parts_by starts all ++ more ∷ [])
    counts = omega (arith, count, length_push (parts_by starts all) more, parts_count starts all, are.some)

    at : (m : ℕ) → m < length (parts_by new (all ++ more)) → (m + 1 ≡ length starts) ⊎ (m + 1 ≡ length starts → ⊥) →
        get_or (parts_by new (all ++ more)) m [] ≡ get_or (parts_by starts all ++ more ∷ []) m []
    at m within (inl same) =
        part_is new (all ++ more) m within ∙ part_last starts all more m are same
        ∙ sym (get_or_push (parts_by starts all) more [] m (omega (arith, parts_count starts all, same)))
    at m within (inr apart) =
        let before : m + 1 < length starts = omega (arith, within, count) in
        let inside : m < length (parts_by starts all) = omega (arith, before, parts_count starts all) in
        part_is new (all ++ more) m within ∙ part_kept starts all more (length (all ++ more)) m are before ∙ sym (part_is starts all m inside)
        ∙ sym (get_or_append_left (parts_by starts all) (more ∷ []) [] m inside)
