-- How much of a text that is made piece by piece a sink has taken.
use Rattle.std.proofs.Common.{◌≡◌, ◌∙◌, ◌↔◌, ℕ, ◌+◌, ◌<◌, ◌≤◌, List, [], ◌++◌, length, take, Bool, true, sym, ap, append_assoc, arith, length-append}
use Rattle.std.specs.Prelude.{Result, Ok, Err, OnErr}
use Rattle.std.proofs.Math.Seq.{take-append-add}
use Rattle.std.proofs.lemmas.List.{take-append-le, append-nil}

-- what was taken is a front of the text, behind which the piece and what is left stand
pub record PouredSoFar (before now : ℕ) (tells tells_now : Bool) (written written_now text left piece : List ℕ) (n : ℕ) : Type 0 where
  pub faults : before ≤ now
  pub same : tells_now ≡ tells
  pub within : n ≤ length piece
  pub gone : List ℕ
  pub rest : text ≡ gone ++ (take n piece ++ left)
  pub told : tells ≡ true → written_now ≡ written ++ gone
  pub over : n ≡ 0 → left ≡ []

-- an empty piece stands at the end alone
pub none_left : (piece : List ℕ) {old left : List ℕ} {n : ℕ} → (n ≡ 0 ↔ old ≡ []) → old ≡ take n piece ++ left → n ≡ 0 → left ≡ []
none_left piece {left = left} ends text none = sym (sym (ends.0 none) ∙ (text ∙ ap (λ m. take m piece ++ left) none))

-- the piece was taken too, and the next one is made
pub poured_more : {before now after : ℕ} {tells tells_now tells_after : Bool} {written written_now written_after text left later piece next : List ℕ} {n m : ℕ}
    → PouredSoFar before now tells tells_now written written_now text left piece n → now ≤ after → tells_after ≡ tells_now
    → (tells_now ≡ true → written_after ≡ written_now ++ take n piece) → left ≡ take m next ++ later → m ≤ length next → (m ≡ 0 ↔ left ≡ [])
    → PouredSoFar before after tells tells_after written written_after text later next m
poured_more {written = written} {left = left} {later = later} {piece = piece} {next = next} {n = n} {m = m} so more same put made within ends = record {
  faults = omega (arith, so.faults, more);
  same = same ∙ so.same;
  within = within;
  gone = so.gone ++ take n piece;
  rest = so.rest ∙ (sym (append_assoc so.gone (take n piece) left) ∙ ap (λ l. (so.gone ++ take n piece) ++ l) made);
  told = λ t. put (so.same ∙ t) ∙ (ap (λ w. w ++ take n piece) (so.told t) ∙ append_assoc written so.gone (take n piece));
  over = none_left next ends made;
}

-- a front of the piece was taken, and so a front of the text
pub poured_front : {before now : ℕ} {tells tells_now : Bool} {written written_now written_after text left piece : List ℕ} {n : ℕ}
    → PouredSoFar before now tells tells_now written written_now text left piece n
    → (k : ℕ) × (k < length (take n piece)) × (tells_now ≡ true → written_after ≡ written_now ++ take k (take n piece))
    → (k : ℕ) × (k < length text) × (tells ≡ true → written_after ≡ written ++ take k text)
poured_front {written = written} {written_after = written_after} {text = text} {left = left} {piece = piece} {n = n} so (k, less, wrote) =
    let few : k ≤ length (take n piece) = omega (arith, less) in
    let long : length text ≡ length so.gone + (length (take n piece) + length left) =
    ap length so.rest ∙ (length-append so.gone (take n piece ++ left) ∙ ap (λ m. length so.gone + m) (length-append (take n piece) left)) in
    let taken : take (length so.gone + k) text ≡ so.gone ++ take k (take n piece) =
    ap (take (length so.gone + k)) so.rest ∙ (take-append-add so.gone (take n piece ++ left) k
    ∙ ap (λ l. so.gone ++ l) (take-append-le k (take n piece) left few)) in (
      length so.gone + k,
      omega (arith, long, less),
      λ t. wrote (so.same ∙ t) ∙ (ap (λ w. w ++ take k (take n piece)) (so.told t)
          ∙ (append_assoc written so.gone (take k (take n piece)) ∙ ap (λ l. written ++ l) (sym taken))),
    )

-- nothing is left
pub poured_all : {before now : ℕ} {tells tells_now : Bool} {written written_now text left piece : List ℕ} {n : ℕ}
    → PouredSoFar before now tells tells_now written written_now text left piece n → n ≡ 0 → tells ≡ true → written_now ≡ written ++ text
poured_all {written = written} {text = text} {left = left} {piece = piece} {n = n} so none t =
    let all : text ≡ so.gone =
    so.rest ∙ (ap (λ l. so.gone ++ (take n piece ++ l)) (so.over none) ∙ (ap (λ m. so.gone ++ (take m piece ++ [])) none ∙ append-nil so.gone)) in
    so.told t ∙ ap (λ l. written ++ l) (sym all)

pub on_err : {A E : Type 0} {P : Type 0} (r : Result A E) → P → OnErr r P
on_err (Ok a) p = tt
on_err (Err e) p = p
