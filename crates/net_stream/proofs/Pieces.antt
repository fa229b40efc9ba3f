-- Bytes that are given out piece by piece.
use Rattle.std.proofs.Common.{◌≡◌, ◌∙◌, ℕ, ◌+◌, ◌≤◌, List, ◌++◌, length, take, drop, sym, ap, arith, length-take, length-append}
use Rattle.std.proofs.Math.Seq.{take-append-add}
use Rattle.std.proofs.lemmas.List.{drop-drop, take-append-drop, take-append-le}
use borrow.Rule.Slice.PartMut.{put_mid, post_of}

-- the first n bytes of the rest, and the rest behind them
pub drop_on : (bytes piece : List ℕ) (done n : ℕ) → take n piece ≡ take n (drop done bytes) → drop done bytes ≡ take n piece ++ drop (done + n) bytes
drop_on bytes piece done n same =
    sym (take-append-drop n (drop done bytes)) ∙ (ap (λ xs. xs ++ drop n (drop done bytes)) (sym same) ∙ ap (λ xs. take n piece ++ xs) (drop-drop n done bytes))

-- n more bytes at the front, once they are written behind the first ones
pub front_on : (a k n : ℕ) (xs ys : List ℕ) → a ≤ length xs → n ≤ length ys → take (a + n) (put_mid a k xs ys) ≡ take a xs ++ take n ys
front_on a k n xs ys within few =
    let long : length (take a xs) ≡ a = omega (arith, length-take a xs, within) in
    ap (λ m. take (m + n) (take a xs ++ (ys ++ post_of a k xs))) (sym long)
    ∙ (take-append-add (take a xs) (ys ++ post_of a k xs) n ∙ ap (λ t. take a xs ++ t) (take-append-le n ys (post_of a k xs) few))

pub front_within : (a k n : ℕ) (xs ys : List ℕ) → a ≤ length xs → n ≤ length ys → a + n ≤ length (put_mid a k xs ys)
front_within a k n xs ys within few =
    omega (arith, length-append (take a xs) (ys ++ post_of a k xs), length-append ys (post_of a k xs), length-take a xs, within, few)
