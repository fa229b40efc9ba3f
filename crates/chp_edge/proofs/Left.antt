-- What is left of a file in memory once more of it is read.
use Rattle.std.proofs.Common.{◌≡◌, ℕ, ◌+◌, List, [], ◌++◌, take, drop, Option, Some, None, ap, sym, ◌∙◌}
use Rattle.std.proofs.Math.Seq.{take-nil}
use Rattle.std.proofs.lemmas.List.{drop-drop, take-append-drop}
use Rattle.std.specs.Prelude.{slice_get}
use Rattle.chp_edge.specs.Files.{File, bytes_of, left_at}

-- the first n bytes of the rest, and the rest behind them
pub drop_on : (bytes piece : List ℕ) (done n : ℕ) → take n piece ≡ take n (drop done bytes) → drop done bytes ≡ take n piece ++ drop (done + n) bytes
drop_on bytes piece done n same =
    sym (take-append-drop n (drop done bytes)) ∙ (ap (λ xs. xs ++ drop n (drop done bytes)) (sym same) ∙ ap (λ xs. take n piece ++ xs) (drop-drop n done bytes))

pub left_on : (files : List File) (begun : Option ℕ) (done n : ℕ) (piece : List ℕ) → take n piece ≡ take n (left_at files begun done) →
    left_at files begun done ≡ take n piece ++ left_at files begun (done + n)
left_on files None done n piece same = sym (ap (λ xs. let none : List ℕ = [] in xs ++ none) (same ∙ take-nil n))
left_on files (Some place) done n piece same = drop_on (bytes_of (slice_get files place)) piece done n same
