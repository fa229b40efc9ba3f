-- One element of a list that is put in the place of another.
use Rattle.std.proofs.Common.{◌≡◌, ◌≢◌, ℕ, zero, suc, ◌<◌, List, [], ◌∷◌, length, get_or, set, refl, sym, ap, subst, arith}
use Rattle.std.specs.Prelude.{slice_get, Option, Some, IfSome}
use Rattle.std.proofs.lemmas.Option.{slice_get_read}

set_there : {X : Type 0} (xs : List X) (k : ℕ) (x : X) → k < length xs → slice_get (set xs k x) k ≡ Some x
set_there [] k x within = absurd (omega arith)
set_there (y ∷ xs) zero x within = refl
set_there (y ∷ xs) (suc k) x within = set_there xs k x (omega arith)

pub set_apart : {X : Type 0} (xs : List X) (k j : ℕ) (x : X) → j ≢ k → slice_get (set xs k x) j ≡ slice_get xs j
set_apart [] k j x apart = refl
set_apart (y ∷ xs) zero zero x apart = absurd (apart refl)
set_apart (y ∷ xs) zero (suc j) x apart = refl
set_apart (y ∷ xs) (suc k) zero x apart = refl
set_apart (y ∷ xs) (suc k) (suc j) x apart = set_apart xs k j x (λ same. apart (ap suc same))

-- what holds of the element
pub there : {X : Type 0} (xs : List X) (k : ℕ) (x : X) (P : X → Type 0) → k < length xs → x ≡ get_or xs k x → IfSome (slice_get xs k) P → P x
there {X} xs k x P within here holds = subst (λ (o : Option X). IfSome o P) (slice_get_read xs (length xs) k x refl within here) holds

-- what holds of the two
pub both_there : {X : Type 0} (xs : List X) (k : ℕ) (was is : X) (Q : X → X → Type 0) → k < length xs → was ≡ get_or xs k was → Q was is →
    IfSome (slice_get xs k) (λ a. IfSome (slice_get (set xs k is) k) (λ b. Q a b))
both_there {X} xs k was is Q within here holds =
    subst (λ (o : Option X). IfSome o (λ a. IfSome (slice_get (set xs k is) k) (λ b. Q a b))) (sym (slice_get_read xs (length xs) k was refl within here))
    (subst (λ (o : Option X). IfSome o (λ b. Q was b)) (sym (set_there xs k is within)) holds)
