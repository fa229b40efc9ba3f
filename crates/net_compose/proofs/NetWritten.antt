-- Names and guards of a net, written one node after the other.
use Rattle.std.proofs.Common.{◌≡◌, ◌∙◌, ℕ, zero, suc, ◌+◌, ◌<◌, ◌≤◌, List, [], ◌∷◌, length, get_or, map, refl, ap, arith}
use Rattle.std.specs.Prelude.{replicate, slice_set}

-- a list of which so many entries are written, and all others still stand as at first
abbrev pub written : {X : Type 0} (first : X) → ℕ → List X → List X
written first zero xs = map (λ _. first) xs
written first (suc n) [] = []
written first (suc n) (x ∷ xs) = x ∷ written first n xs

module _ {X : Type 0} (first : X) where
  pub none_written : (xs : List X) (n : ℕ) → n ≡ length xs → replicate n first ≡ written first zero xs
  none_written [] zero e = refl
  none_written [] (suc n) e = absurd (omega (arith, e))
  none_written (x ∷ xs) zero e = absurd (omega (arith, e))
  none_written (x ∷ xs) (suc n) e = ap (λ ys. first ∷ ys) (none_written xs n (omega (arith, e)))

  pub written_length : (n : ℕ) (xs : List X) → length (written first n xs) ≡ length xs
  written_length zero [] = refl
  written_length zero (x ∷ xs) = ap suc (written_length zero xs)
  written_length (suc n) [] = refl
  written_length (suc n) (x ∷ xs) = ap suc (written_length n xs)

  written_next : (n : ℕ) (xs : List X) (x d : X) → n < length xs → x ≡ get_or xs n d → slice_set (written first n xs) n x ≡ written first (suc n) xs
  written_next zero [] x d l e = absurd (omega (arith, l))
  written_next zero (y ∷ ys) x d l e = ap (λ z. z ∷ written first zero ys) e
  written_next (suc n) [] x d l e = absurd (omega (arith, l))
  written_next (suc n) (y ∷ ys) x d l e = ap (λ zs. y ∷ zs) (written_next n ys x d (omega (arith, l)) e)

  pub written_more : (n : ℕ) (xs now new : List X) (x d : X) → n < length xs → x ≡ get_or xs n d → now ≡ written first n xs → new ≡ slice_set now n x
      → new ≡ written first (n + 1) xs
  written_more n xs now new x d l e before is =
      let next : suc n ≡ n + 1 = omega arith in
      is ∙ (ap (λ ys. slice_set ys n x) before ∙ (written_next n xs x d l e ∙ ap (λ m. written first m xs) next))

  pub all_written : (n : ℕ) (xs : List X) → length xs ≤ n → written first n xs ≡ xs
  all_written zero [] l = refl
  all_written zero (x ∷ xs) l = absurd (omega (arith, l))
  all_written (suc n) [] l = refl
  all_written (suc n) (x ∷ xs) l = ap (λ ys. x ∷ ys) (all_written n xs (omega (arith, l)))
