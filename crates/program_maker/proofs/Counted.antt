-- Lines that are counted from a number on, one after another.
use Rattle.std.proofs.Common.{◌≡◌, ℕ, ◌+◌, ◌-◌, ◌≤◌, List, [], ◌∷◌, ◌++◌, ap, sym, ◌∙◌, arith}
use Rattle.std.specs.List.{flat_map, range_with_len}
use Rattle.std.proofs.lemmas.List.{append_assoc, append-nil, map-id}
use Rattle.std.proofs.lemmas.List.Concat.{flat_map-append}
use Rattle.std.proofs.lemmas.List.FromFn.{map-range_with_len_more}

range_more : (a i : ℕ) → a ≤ i → range_with_len a (i + 1 - a) ≡ range_with_len a (i - a) ++ i ∷ []
range_more a i from =
    let count : i + 1 - a ≡ i - a + 1 = omega (arith, from) in
    ap (range_with_len a) count
    ∙ (sym (map-id (range_with_len a (i - a + 1)))
    ∙ (map-range_with_len_more (λ k. k) a (i - a) i (omega (arith, from))
    ∙ ap (λ xs. xs ++ i ∷ []) (map-id (range_with_len a (i - a)))))

-- one more line
pub lines_more : (f : ℕ → List ℕ) (a i : ℕ) (before now : List ℕ) → a ≤ i
    → now ≡ before ++ flat_map f (range_with_len a (i - a))
    → now ++ f i ≡ before ++ flat_map f (range_with_len a (i + 1 - a))
lines_more f a i before now from e =
    let so_far = flat_map f (range_with_len a (i - a)) in
    let more : flat_map f (range_with_len a (i + 1 - a)) ≡ so_far ++ f i =
    ap (flat_map f) (range_more a i from) ∙ (flat_map-append f (range_with_len a (i - a)) (i ∷ []) ∙ ap (λ xs. so_far ++ xs) (append-nil (f i))) in
    ap (λ xs. xs ++ f i) e ∙ (append_assoc before so_far (f i) ∙ ap (λ xs. before ++ xs) (sym more))
