-- A sign has one byte or two, so the longest that fits has two where any of two fits.
use Rattle.std.proofs.Common.{◌≡◌, ◌≢◌, ℕ, zero, suc, ◌≤◌, List, [], ◌∷◌, ◌++◌, length, get_or, sym, ap, ◌∙◌, arith, inl, inr, ◌⊎◌}
use Rattle.chp_syntax.specs.declared.token.Mark.{Mark}
use Rattle.chp_syntax.specs.declared.token.Mark.TheVariants as mark
use Rattle.chp_syntax.specs.Spelling.{sign_text}
use Rattle.chp_syntax.specs.Front.{LongestSign}

sign_most : (m : Mark) → length (sign_text m) ≤ 2
sign_most mark.BarBar = omega arith
sign_most _ = omega arith

two_long : (text s rest : List ℕ) (b c : ℕ) → text ≡ s ++ rest → length s ≡ 2 → get_or text 0 0 ≡ b → get_or text 1 0 ≡ c → b ∷ c ∷ [] ≡ s
two_long text [] rest b c e n x y = absurd (omega arith)
two_long text (p ∷ []) rest b c e n x y = absurd (omega arith)
two_long text (p ∷ q ∷ []) rest b c e n x y = cc (ap (λ t. get_or t 0 0) e, ap (λ t. get_or t 1 0) e)
two_long text (p ∷ q ∷ r ∷ s) rest b c e n x y = absurd (omega arith)

two_begin : (text : List ℕ) (b c : ℕ) → 2 ≤ length text → b ≡ get_or text 0 0 → c ≡ get_or text 1 0 → (rest : List ℕ) × (text ≡ b ∷ c ∷ rest)
two_begin [] b c n x y = absurd (omega arith)
two_begin (p ∷ []) b c n x y = absurd (omega arith)
two_begin (p ∷ q ∷ rest) b c n x y = (rest, cc)

-- a sign of two bytes is the longest
pub long_longest : (text : List ℕ) (m : Mark) (b c : ℕ) → 2 ≤ length text → b ≡ get_or text 0 0 → c ≡ get_or text 1 0 → b ∷ c ∷ [] ≡ sign_text m →
    LongestSign text m
long_longest text m b c n x y h =
    let t = two_begin text b c n x y in record {
      begins = (t.0, t.1 ∙ ap (λ s. s ++ t.0) h);
      longest = λ other begins. omega (arith, sign_most other, ap length h);
    }

-- a sign of one byte is, where it and the byte behind it are none
pub short_longest : (text : List ℕ) (m : Mark) (b c : ℕ) → 2 ≤ length text → b ≡ get_or text 0 0 → c ≡ get_or text 1 0 →
    ((l : Mark) → b ∷ c ∷ [] ≢ sign_text l) → b ∷ [] ≡ sign_text m → LongestSign text m
short_longest text m b c n x y none h =
    let t = two_begin text b c n x y in record {
      begins = (c ∷ t.0, t.1 ∙ ap (λ s. s ++ c ∷ t.0) h);
      longest = λ other begins. most other begins.0 begins.1 (few (length (sign_text other)) (sign_most other));
    }
  where
    few : (k : ℕ) → k ≤ 2 → (k ≤ 1) ⊎ (k ≡ 2)
    few zero le = inl (omega arith)
    few (suc zero) le = inl (omega arith)
    few (suc (suc k)) le = inr (omega arith)

    most : (other : Mark) (rest : List ℕ) → text ≡ sign_text other ++ rest → (length (sign_text other) ≤ 1) ⊎ (length (sign_text other) ≡ 2) →
        length (sign_text other) ≤ length (sign_text m)
    most other rest e (inl le) = omega (arith, ap length h)
    most other rest e (inr two) = absurd (none other (two_long text (sign_text other) rest b c e two (sym x) (sym y)))
