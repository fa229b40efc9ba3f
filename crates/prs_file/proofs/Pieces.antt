-- Pieces of a text, appended one after another.
use Rattle.std.proofs.Common.{◌≡◌, ℕ, ◌+◌, ◌<◌, List, [], length, get_or, drop, ap, ◌∙◌, length-append}
use Rattle.std.specs.List.{flat_map}
use Rattle.std.specs.Borrow.{Bor}
use Rattle.std.proofs.lemmas.List.{at_drop_more}

abbrev pub joined : List (Bor (List ℕ)) → List ℕ
joined pieces = flat_map (λ (piece : Bor (List ℕ)). piece.now) pieces

pub joined_front : (pieces : List (Bor (List ℕ))) (i : ℕ) (d : Bor (List ℕ)) → i < length pieces →
    length (joined (drop i pieces)) ≡ length (get_or pieces i d).now + length (joined (drop (i + 1) pieces))
joined_front pieces i d within = ap length (at_drop_more joined pieces i d within) ∙ length-append (get_or pieces i d).now (joined (drop (i + 1) pieces))

abbrev pub no_piece : Bor (List ℕ)
no_piece = record { ref_ptr = (0, 0); now = [] }
