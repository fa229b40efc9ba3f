-- A line against the pieces that it may be spelled of.
use Rattle.std.proofs.Common.{◌≡◌, ℕ, suc, Some, None, cond, inl, inr, ◌+◌, ◌<◌, ◌≤◌, Bool, true, false, List, [], ◌∷◌, ◌++◌, length, get_or, take, drop, refl, ap, sym, ◌∙◌, arith, length-append}
use Rattle.std.specs.Prelude.{bytes_eq, ◌==◌, ◌⊎◌, position, min}
use Rattle.std.specs.Borrow.{Bor}
use Rattle.std.specs.Cmp.Lexicographic.{bytes_decides}
use Rattle.std.proofs.lemmas.Bool.{cases_lt, false_from_ne_true, lt-ltb, ne_eqb}
use Rattle.std.proofs.lemmas.List.Quantifiers.{position-Some}
use Rattle.std.proofs.lemmas.List.Sums.{position_or_len_is}
use Rattle.std.specs.List.{position_or_len}
use Rattle.std.proofs.lemmas.List.{at_drop_more, take_more, take_all, take_at, append_assoc, append-nil, append_cancel_left, take-append-drop}
use Rattle.std.proofs.lemmas.List.Concat.{flat_map-append}
use Rattle.prs_file.proofs.Pieces.{joined, no_piece}

pub not_same : (xs ys : List ℕ) → (xs ≡ ys → ⊥) → false ≡ bytes_eq xs ys
not_same xs ys apart = sym (false_from_ne_true (bytes_eq xs ys) (λ e. apart ((bytes_decides xs ys).0 e)))

pub same : (xs ys : List ℕ) → xs ≡ ys → true ≡ bytes_eq xs ys
same xs ys e = sym ((bytes_decides xs ys).1 e)

joined_append : (xs ys : List (Bor (List ℕ))) → joined (xs ++ ys) ≡ joined xs ++ joined ys
joined_append xs ys = flat_map-append (λ (piece : Bor (List ℕ)). piece.now) xs ys

whole_at : (pieces : List (Bor (List ℕ))) (i : ℕ) → i < length pieces →
    joined pieces ≡ joined (take i pieces) ++ ((get_or pieces i no_piece).now ++ joined (drop (i + 1) pieces))
whole_at pieces i within =
    ap joined (sym (take-append-drop i pieces)) ∙ joined_append (take i pieces) (drop i pieces)
    ∙ ap (λ xs. joined (take i pieces) ++ xs) (at_drop_more joined pieces i no_piece within)

rest_is : (line rest : List ℕ) (pieces : List (Bor (List ℕ))) (i : ℕ) → i < length pieces → line ≡ joined (take i pieces) ++ rest → line ≡ joined pieces →
    rest ≡ (get_or pieces i no_piece).now ++ joined (drop (i + 1) pieces)
rest_is line rest pieces i within so_far whole =
    append_cancel_left (joined (take i pieces)) rest ((get_or pieces i no_piece).now ++ joined (drop (i + 1) pieces)) (sym so_far ∙ whole
    ∙ whole_at pieces i within)

pub too_short : (line rest : List ℕ) (pieces : List (Bor (List ℕ))) (i : ℕ) → i < length pieces → line ≡ joined (take i pieces) ++ rest →
    length rest < length (get_or pieces i no_piece).now → false ≡ bytes_eq line (joined pieces)
too_short line rest pieces i within so_far short =
    not_same line (joined pieces) (λ whole. omega (
      arith,
      ap length (rest_is line rest pieces i within so_far whole),
      length-append (get_or pieces i no_piece).now (joined (drop (i + 1) pieces)),
    ))

pub other_front : (line rest front : List ℕ) (pieces : List (Bor (List ℕ))) (i : ℕ) → i < length pieces → line ≡ joined (take i pieces) ++ rest →
    front ≡ take (length (get_or pieces i no_piece).now) rest → (front ≡ (get_or pieces i no_piece).now → ⊥) → false ≡ bytes_eq line (joined pieces)
other_front line rest front pieces i within so_far is apart =
    not_same line (joined pieces) (λ whole. apart (is ∙ ap (take (length (get_or pieces i no_piece).now)) (rest_is line rest pieces i within so_far whole)
    ∙ take_at (get_or pieces i no_piece).now (joined (drop (i + 1) pieces)) _ refl))

pub one_piece_more : (line rest front back : List ℕ) (pieces : List (Bor (List ℕ))) (i : ℕ) → i < length pieces → line ≡ joined (take i pieces) ++ rest →
    front ≡ take (length (get_or pieces i no_piece).now) rest → back ≡ drop (length (get_or pieces i no_piece).now) rest →
    front ≡ (get_or pieces i no_piece).now → line ≡ joined (take (i + 1) pieces) ++ back
one_piece_more line rest front back pieces i within so_far front_is back_is same_front =
    let piece = (get_or pieces i no_piece).now in
    let parts : rest ≡ piece ++ back = sym (take-append-drop (length piece) rest) ∙ ap (λ xs. xs ++ drop (length piece) rest) (sym front_is ∙ same_front)
    ∙ ap (λ xs. piece ++ xs) (sym back_is) in
    let more : joined (take (i + 1) pieces) ≡ joined (take i pieces) ++ piece = ap joined (take_more pieces i no_piece within)
    ∙ joined_append (take i pieces) (get_or pieces i no_piece ∷ []) ∙ ap (λ xs. joined (take i pieces) ++ xs) (append-nil piece) in
    so_far ∙ ap (λ xs. joined (take i pieces) ++ xs) parts ∙ sym (append_assoc (joined (take i pieces)) piece back) ∙ ap (λ xs. xs ++ back) (sym more)

pub nothing_more : (line rest : List ℕ) (pieces : List (Bor (List ℕ))) (i : ℕ) → length pieces ≤ i → line ≡ joined (take i pieces) ++ rest →
    (length rest == 0) ≡ bytes_eq line (joined pieces)
nothing_more line [] pieces i over so_far =
    same line (joined pieces) (so_far ∙ append-nil (joined (take i pieces)) ∙ ap joined (take_all i pieces over))
nothing_more line (b ∷ rest) pieces i over so_far =
    eqb_suc (length rest) ∙ not_same line (joined pieces) (λ whole. omega (
      arith,
      ap length (sym so_far ∙ whole),
      ap (λ xs. length (joined xs)) (take_all i pieces over),
      length-append (joined (take i pieces)) (b ∷ rest),
    ))
  where
    eqb_suc : (n : ℕ) → (suc n == 0) ≡ false
    eqb_suc n = ne_eqb (suc n) 0 (omega arith)

pub same_front : (xs ys : List ℕ) → bytes_eq xs ys ≡ true → xs ≡ ys
same_front xs ys e = (bytes_decides xs ys).0 e

pub other : (xs ys : List ℕ) → bytes_eq xs ys ≡ false → xs ≡ ys → ⊥
other xs ys e is = absurd (cc (e, (bytes_decides xs ys).1 is))

-- where the first end of a line stands
pub line_ends : (p : ℕ → Bool) (text : List ℕ) (at : ℕ) → position p text ≡ Some at → at + 1 ≡ min (position_or_len p text + 1) (length text)
line_ends p text at e =
    let is = position-Some p text at 0 e in
    let first : position_or_len p text ≡ at = position_or_len_is p text at 0 (omega (arith, is.0)) is.2 (λ h. is.1) in
    omega (arith, is.0)

pub no_line_ends : (p : ℕ → Bool) (text : List ℕ) → position p text ≡ None → length text ≡ min (position_or_len p text + 1) (length text)
no_line_ends p text e = by_place (cases_lt (position_or_len p text) (length text))
  where
    by_place : (position_or_len p text < length text) ⊎ (length text ≤ position_or_len p text) → length text ≡ min (position_or_len p text + 1) (length text)
    by_place (inl within) = absurd (cc (e, ap (λ b. cond b (Some (position_or_len p text)) None) (lt-ltb _ _ within)))
    by_place (inr past) = omega arith
