-- A list of numbers that grows by one.
use Rattle.std.proofs.Common.{◌≡◌, ℕ, ◌+◌, List, [], ◌∷◌, ◌++◌, map, sym, ap, ◌∙◌, arith}
use Rattle.std.specs.List.{range_with_len}
use Rattle.std.proofs.lemmas.List.FromFn.{map-range_with_len_more}

pub one_more : {X : Type 0} (f : ℕ → X) (made more : List X) (i : ℕ) (n : X) → made ≡ map f (range_with_len 0 i) → n ≡ f i → more ≡ made ++ n ∷ [] →
    more ≡ map f (range_with_len 0 (i + 1))
one_more f made more i n before is after =
    after ∙ (ap (λ xs. xs ++ n ∷ []) before ∙ (ap (λ x. map f (range_with_len 0 i) ++ x ∷ []) is ∙ sym (map-range_with_len_more f 0 i i (omega arith))))
