-- How far a loop over a shelf or a sink has come.
use Rattle.std.proofs.Common.{◌≡◌, ℕ, ◌+◌, ◌-◌, ◌≤◌, min, List, ◌++◌, length, take, drop, [], Option, Some, Bool, true, inl, inr, ap, sym, ◌∙◌, append_assoc, append-nil, arith, length-append, length-drop, length-take}
use Rattle.std.proofs.Math.Seq.{take-add}
use Rattle.chp_edge.specs.Faults.{Rose}
use Rattle.std.proofs.lemmas.List.{take-append-le, take_rest}

-- what was read so far is the front of the file, and what is left is the rest of it
pub record ReadSoFar (before now : ℕ) (tells tells_now : Bool) (holds holds_now : List ℕ → Option (List ℕ)) (name all rest : List ℕ) (limit : ℕ) : Type 0 where
  pub faults : before ≤ now
  pub same : tells_now ≡ tells
  pub kept : holds_now ≡ holds
  pub told : tells ≡ true → holds name ≡ Some (all ++ rest)
  pub within : length all ≤ limit + 1

-- nothing is left: what was read is the file
pub read_whole : {before now : ℕ} {tells tells_now : Bool} {holds holds_now : List ℕ → Option (List ℕ)} {name all rest : List ℕ} {limit : ℕ} →
    ReadSoFar before now tells tells_now holds holds_now name all rest limit → (tells_now ≡ true → rest ≡ []) → tells ≡ true → holds name ≡ Some all
read_whole {all = all} so end t = so.told t ∙ (ap (λ xs. Some (all ++ xs)) (end (so.same ∙ t)) ∙ ap Some (append-nil all))

-- a piece of what is left goes over to what was read
pub moved_on : {held : Option (List ℕ)} {rest : List ℕ} (all piece rest_after : List ℕ) → held ≡ Some (all ++ rest) → rest ≡ piece ++ rest_after
    → held ≡ Some ((all ++ piece) ++ rest_after)
moved_on all piece rest_after is read = is ∙ ap Some (ap (λ xs. all ++ xs) read ∙ sym (append_assoc all piece rest_after))

-- n more bytes of the rest were read into a piece, and added
pub read_more : {before now after : ℕ} {tells tells_now tells_after : Bool} {holds holds_now holds_after : List ℕ → Option (List ℕ)}
    {name all rest all_after rest_after : List ℕ} {limit : ℕ} (n : ℕ) (piece behind : List ℕ)
    → ReadSoFar before now tells tells_now holds holds_now name all rest limit
    → now ≤ after → tells_after ≡ tells_now → holds_after ≡ holds_now → n ≤ length piece → length all + length piece ≤ limit + 1
    → (tells_now ≡ true → rest ≡ take n piece ++ rest_after) → all_after ≡ all ++ take n (piece ++ behind)
    → ReadSoFar before after tells tells_after holds holds_after name all_after rest_after limit
read_more {all = all} {rest_after = rest_after} n piece behind so more same kept within room read is =
    let added = is ∙ ap (λ xs. all ++ xs) (take-append-le n piece behind within) in
    record {
      faults = omega (arith, so.faults, more);
      same = same ∙ so.same;
      kept = kept ∙ so.kept;
      told = λ t. moved_on all (take n piece) rest_after (so.told t) (read (so.same ∙ t)) ∙ ap (λ xs. Some (xs ++ rest_after)) (sym added);
      within = rw added (omega (arith, room, length-append all (take n piece), length-take n piece));
    }

-- a call that read nothing at the file's end leaves nothing
pub none_left : {tells_now tells : Bool} {rest rest_after : List ℕ} (n : ℕ) (piece : List ℕ) → tells_now ≡ tells → n ≡ 0
    → (tells_now ≡ true → rest ≡ []) → (tells_now ≡ true → rest ≡ take n piece ++ rest_after) → tells ≡ true → rest_after ≡ []
none_left n piece same none end read t = grind (arith, same ∙ t, none, end (same ∙ t), read (same ∙ t))

-- a piece of at most so many bytes as are missing to one more than the limit; the vector's length is asked for twice
pub room_left : {all held before again want piece : ℕ} (limit most whole : ℕ) → held ≡ all → before ≡ held → before ≤ limit → again ≡ held
    → want ≡ min most (limit + 1 - again) → piece ≡ min want whole → all + piece ≤ limit + 1
room_left limit most whole is one below other wanted got = omega (arith, is, one, below, other, wanted, got)

-- a count that rose later rose since the beginning
pub rose_since : {before now after : ℕ} → before ≤ now → Rose now after → Rose before after
rose_since more (inl rose) = inl (omega (arith, more, rose))
rose_since more (inr most) = inr most

-- the sink took the first bytes of the text
pub record PutSoFar (before now : ℕ) (tells tells_now : Bool) (written written_now text : List ℕ) (done : ℕ) : Type 0 where
  pub faults : before ≤ now
  pub same : tells_now ≡ tells
  pub told : tells ≡ true → written_now ≡ written ++ take done text
  pub within : done ≤ length text

-- n more bytes were taken of what is left
pub put_more : {before now after : ℕ} {tells tells_now tells_after : Bool} {written written_now written_after text : List ℕ} {done : ℕ} (n : ℕ) →
    PutSoFar before now tells tells_now written written_now text done
    → now ≤ after → tells_after ≡ tells_now → n ≤ length (take (length text - done) (drop done text))
    → (tells_now ≡ true → written_after ≡ written_now ++ take n (take (length text - done) (drop done text)))
    → PutSoFar before after tells tells_after written written_after text (done + n)
put_more {written = written} {text = text} {done = done} n so more same within put = record {
  faults = omega (arith, so.faults, more);
  same = same ∙ so.same;
  told = λ t.
      put (so.same ∙ t) ∙ (ap (λ xs. xs ++ take n (take (length text - done) (drop done text))) (so.told t)
      ∙ (append_assoc written (take done text) (take n (take (length text - done) (drop done text)))
      ∙ ap (λ xs. written ++ xs) (ap (λ xs. take done text ++ take n xs) (take_rest text done) ∙ sym (take-add done n text))));
  within = omega (arith, so.within, within, length-take (length text - done) (drop done text), length-drop done text);
}
