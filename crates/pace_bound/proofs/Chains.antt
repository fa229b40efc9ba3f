-- The parts of a join and the members of a chain, one after the other.
use Rattle.std.proofs.Common.{◌≡◌, ℕ, zero, suc, ◌+◌, ◌<◌, ◌≤◌, List, [], ◌∷◌, ◌++◌, length, take, drop, get_or, refl, ap, ◌∙◌, arith}
use Rattle.std.specs.Prelude.{max}
use Rattle.std.proofs.lemmas.List.{length-drop}
use Rattle.width_check.specs.declared.typed.TExpr.{TExpr}
use Rattle.width_check.specs.declared.typed.TLink.{TLink}
use Rattle.width_check.specs.Values.{AreWellFormed}
use Rattle.width_check.specs.View.{formula_of}
use Rattle.handshake_expand.proofs.Rows.{parts_of, no_more_parts}
use Rattle.pace_bound.specs.Bits.{bits, joined_bits}
use Rattle.pace_bound.proofs.Lengths.{bits_here, some_bits, parts_counted}

pub regrouped : (most r l u g m total : ℕ) → max most r ≡ total → r ≡ max l u → g ≡ u → m ≡ max most g → max m l ≡ total
regrouped most r l u g m total p q h k = omega arith

pub some_after : (es : List TExpr) (i : ℕ) → i + 1 < length es → AreWellFormed (parts_of (drop (i + 1) es))
    → 1 ≤ length (joined_bits (parts_of (drop (i + 1) es)))
some_after es i within h =
    let n = parts_counted (drop (i + 1) es) in let l = length-drop (i + 1) es in some_bits (parts_of (drop (i + 1) es)) (omega (arith, n, l)) h

pub last_bits : (es : List TExpr) (i : ℕ) (e : TExpr) → i + 1 ≡ length es → e ≡ get_or es i e → joined_bits (parts_of (drop i es)) ≡ bits (formula_of e)
last_bits es i e all is =
    bits_here es i e (omega arith) is ∙ ap (λ p. joined_bits p ++ bits (formula_of e)) (no_more_parts es (i + 1) (omega arith))

pub take_whole : (n : ℕ) (ls : List TLink) → length ls ≤ n → take n ls ≡ ls
take_whole zero [] h = refl
take_whole zero (l ∷ ls) h = absurd (omega arith)
take_whole (suc n) [] h = refl
take_whole (suc n) (l ∷ ls) h = ap (λ k. l ∷ k) (take_whole n ls (omega arith))

pub zero_max : (n : ℕ) → max 0 n ≡ n
zero_max n = omega arith
