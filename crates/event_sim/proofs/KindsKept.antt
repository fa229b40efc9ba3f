-- In a list one element is put in the place of another of its kind.
use Rattle.std.proofs.Common.{◌≡◌, ◌∙◌, ℕ, zero, suc, ◌<◌, List, [], ◌∷◌, length, map, get_or, set, ap, arith}

pub kinds_kept : {X B : Type 0} (kind : X → B) (xs : List X) (k : ℕ) (was is : X) → k < length xs → was ≡ get_or xs k was → kind is ≡ kind was →
    map kind (set xs k is) ≡ map kind xs
kinds_kept kind [] k was is within here same = absurd (omega arith)
kinds_kept {B = B} kind (x ∷ xs) zero was is within here same = ap (λ (b : B). b ∷ map kind xs) (same ∙ ap kind here)
kinds_kept {B = B} kind (x ∷ xs) (suc k) was is within here same =
    ap (λ (bs : List B). kind x ∷ bs) (kinds_kept kind xs k was is (omega arith) here same)
