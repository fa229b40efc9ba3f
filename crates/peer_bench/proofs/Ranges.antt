-- Channels in a row.
use Rattle.std.proofs.Common.{◌≡◌, ℕ, zero, suc, ◌+◌, ◌-◌, ◌≤◌, [], ◌∷◌, ◌++◌, List, ap, ◌∙◌, arith}
use Rattle.std.specs.List.{range_with_len}

-- two rows of which one begins behind the other
range_both : (a m n : ℕ) → range_with_len a (m + n) ≡ range_with_len a m ++ range_with_len (a + m) n
range_both a zero n =
    let one : 0 + n ≡ n = omega arith in
    let two : a ≡ a + 0 = omega arith in
    ap (range_with_len a) one ∙ ap (λ (k : ℕ). range_with_len k n) two
range_both a (suc m) n =
    let one : suc m + n ≡ suc (m + n) = omega arith in
    let two : a + 1 + m ≡ a + suc m = omega arith in
    ap (range_with_len a) one
    ∙ ap (λ (xs : List ℕ). a ∷ xs) (range_both (a + 1) m n ∙ ap (λ (k : ℕ). range_with_len (a + 1) m ++ range_with_len k n) two)

-- up to one number, and on to another
pub range_on : (from mid end : ℕ) → from ≤ mid → mid ≤ end →
    range_with_len from (end - from) ≡ range_with_len from (mid - from) ++ range_with_len mid (end - mid)
range_on from mid end first last =
    let whole : end - from ≡ (mid - from) + (end - mid) = omega arith in
    let start : from + (mid - from) ≡ mid = omega arith in
    ap (range_with_len from) whole ∙ range_both from (mid - from) (end - mid)
    ∙ ap (λ (k : ℕ). range_with_len from (mid - from) ++ range_with_len k (end - mid)) start

-- with the next one
pub range_next : (from mid : ℕ) → from ≤ mid → range_with_len from (mid + 1 - from) ≡ range_with_len from (mid - from) ++ mid ∷ []
range_next from mid first =
    let one : mid + 1 - mid ≡ 1 = omega arith in
    range_on from mid (mid + 1) first (omega arith) ∙ ap (λ (k : ℕ). range_with_len from (mid - from) ++ range_with_len mid k) one
