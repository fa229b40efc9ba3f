-- Pieces that are put one behind the other.
use Rattle.std.proofs.Common.{◌≡◌, ◌∙◌, ℕ, ◌+◌, ◌≤◌, ◌<◌, List, ◌++◌, length, get_or, take, drop, Bool, true, Bor, Result, Ok, Err, OnOk, OnErr, refl, sym, ap, arith}
use Rattle.std.specs.List.{flat_map}
use Rattle.std.proofs.Math.Seq.{take-append-add}
use Rattle.std.proofs.lemmas.Grind.{flat_map-append}
use Rattle.std.proofs.lemmas.List.{append_assoc, append_cancel_right, drop_more, take-append-drop, take-append-le, take_all}
use Rattle.chp_edge.specs.Faults.{Rose}
use Rattle.chp_edge.specs.declared.sink.Failed.{Failed}
use Rattle.chp_edge.specs.declared.sink.Sink.{Ghosts as SinkMembers}
use Rattle.command_answers.specs.Saying.{IsSaid}

-- what was put, and what is still to come, is what was there before and all pieces
pub record PiecesSoFar (before now : ℕ) (tells tells_now : Bool) (written written_now : List ℕ) (pieces : List (Bor (List ℕ))) (done : ℕ) : Type 0 where
  pub faults : before ≤ now
  pub same : tells_now ≡ tells
  pub told : tells ≡ true → written_now ++ flat_map (λ (piece : Bor (List ℕ)). piece.now) (drop done pieces) ≡ written
      ++ flat_map (λ (piece : Bor (List ℕ)). piece.now) pieces

abbrev pub bytes_of : List (Bor (List ℕ)) → List ℕ
bytes_of = flat_map (λ (piece : Bor (List ℕ)). piece.now)

split : (k : ℕ) (pieces : List (Bor (List ℕ))) → bytes_of pieces ≡ bytes_of (take k pieces) ++ bytes_of (drop k pieces)
split k pieces =
    ap bytes_of (sym (take-append-drop k pieces)) ∙ flat_map-append (λ (piece : Bor (List ℕ)). piece.now) (take k pieces) (drop k pieces)

-- where some pieces were put, and then the beginning of the next one, this is the beginning of all of them
pub beginning : (written now after text : List ℕ) (pieces : List (Bor (List ℕ))) (k n : ℕ) (d : Bor (List ℕ)) → k < length pieces →
    text ≡ (get_or pieces k d).now → n < length text → now ++ bytes_of (drop k pieces) ≡ written ++ bytes_of pieces → after ≡ now ++ take n text →
    after ≡ written ++ take (length (bytes_of (take k pieces)) + n) (bytes_of pieces)
beginning written now after text pieces k n d within same short told more =
    more ∙ ap (λ (xs : List ℕ). xs ++ take n text) put ∙ append_assoc written (bytes_of (take k pieces)) (take n text)
    ∙ ap (λ (xs : List ℕ). written ++ xs) (sym front)
  where
    put : now ≡ written ++ bytes_of (take k pieces)
    put =
        append_cancel_right now (written ++ bytes_of (take k pieces)) (bytes_of (drop k pieces))
        (told ∙ ap (λ (xs : List ℕ). written ++ xs) (split k pieces)
        ∙ sym (append_assoc written (bytes_of (take k pieces)) (bytes_of (drop k pieces))))

    rest : bytes_of (drop k pieces) ≡ text ++ bytes_of (drop (k + 1) pieces)
    rest = ap bytes_of (drop_more pieces k d within) ∙ ap (λ (xs : List ℕ). xs ++ bytes_of (drop (k + 1) pieces)) (sym same)

    front : take (length (bytes_of (take k pieces)) + n) (bytes_of pieces) ≡ bytes_of (take k pieces) ++ take n text
    front =
        ap (take (length (bytes_of (take k pieces)) + n)) (split k pieces)
        ∙ take-append-add (bytes_of (take k pieces)) (bytes_of (drop k pieces)) n
        ∙ ap (λ (xs : List ℕ). bytes_of (take k pieces) ++ take n xs) rest
        ∙ ap (λ (xs : List ℕ). bytes_of (take k pieces) ++ xs) (take-append-le n text (bytes_of (drop (k + 1) pieces)) (omega (arith, short)))

pub on_err : {T E P : Type 0} (r : Result T E) → P → OnErr r P
on_err (Ok value) p = tt
on_err (Err e) p = p

-- what was put is said of the whole: all of it, or where the count rose a part
pub said : {W : Type 0} (sink : SinkMembers W) (before after : W) (line : List ℕ) (r : Result Unit Failed) →
    OnOk r (sink.tells before ≡ true → sink.written after ≡ sink.written before ++ line) →
    OnErr r (Rose (sink.faults before) (sink.faults after)) →
    OnErr r ((n : ℕ) × (sink.tells before ≡ true → sink.written after ≡ sink.written before ++ take n line)) → IsSaid sink before after line
said sink before after line (Ok value) whole rose part = record {
  taken = length line;
  prefix = λ told. whole told ∙ ap (λ (xs : List ℕ). sink.written before ++ xs) (sym (take_all (length line) line (omega arith)));
  whole = λ calm. refl;
}
said sink before after line (Err e) whole rose part =
    record { taken = part.0; prefix = part.1; whole = λ calm. absurd (calm rose) }
