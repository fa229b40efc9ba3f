-- A list of guards that is laid out from its front.
use Rattle.std.proofs.Common.{◌≡◌, ℕ, suc, ◌+◌, ◌-◌, ◌<◌, ◌≤◌, List, [], ◌∷◌, ◌++◌, length, set, map, replicate, ap, sym, ◌∙◌, arith, length-append}
use Rattle.std.specs.List.{range_with_len}
use Rattle.std.proofs.lemmas.List.{append_assoc, set_at, length-replicate}
use Rattle.std.proofs.lemmas.List.FromFn.{map-range_with_len_more, length-map-range_with_len}
use Rattle.prs_core.specs.Nets.{GuardValue}

-- the guards of the nodes below n, and none for the others
abbrev pub laid : (ℕ → GuardValue) → ℕ → ℕ → List GuardValue
laid f n total = map f (range_with_len 0 n) ++ replicate (total - n) []

pub laid_count : (f : ℕ → GuardValue) (n total : ℕ) → n ≤ total → length (laid f n total) ≡ total
laid_count f n total within = omega (
  arith,
  length-append (map f (range_with_len 0 n)) (replicate (total - n) []),
  length-map-range_with_len f 0 n,
  length-replicate {A = GuardValue} (total - n) [],
)

pub laid_more : (f : ℕ → GuardValue) (n total : ℕ) → n < total → set (laid f n total) n (f n) ≡ laid f (n + 1) total
laid_more f n total within =
    let left : total - n ≡ suc (total - (n + 1)) = omega arith in
    let one : laid f n total ≡ map f (range_with_len 0 n) ++ [] ∷ replicate (total - (n + 1)) [] =
    ap (λ k. map f (range_with_len 0 n) ++ replicate k []) left in
    ap (λ xs. set xs n (f n)) one
    ∙ set_at (map f (range_with_len 0 n)) [] (replicate (total - (n + 1)) []) (f n) n (length-map-range_with_len f 0 n)
    ∙ sym (append_assoc (map f (range_with_len 0 n)) (f n ∷ []) (replicate (total - (n + 1)) []))
    ∙ ap (λ xs. xs ++ replicate (total - (n + 1)) []) (sym (map-range_with_len_more f 0 n n (omega arith)))

pub laid_step : (f : ℕ → GuardValue) (n total : ℕ) (xs ys : List GuardValue) (g : GuardValue) → n < total → xs ≡ laid f n total → g ≡ f n → ys ≡ set xs n g →
    ys ≡ laid f (n + 1) total
laid_step f n total xs ys g within before new now = now ∙ ap (λ zs. set zs n g) before ∙ ap (set (laid f n total) n) new ∙ laid_more f n total within
