-- One more note of an echo.
use Rattle.std.proofs.Common.{◌≡◌, ℕ, ◌+◌, ◌%◌, ◌^◌, Bool, List, [], ◌∷◌, ◌++◌, length, filter, refl, sym, ap, ◌∙◌, arith}
use Rattle.std.specs.Prelude.{count_by, Option, Some, None}
use Rattle.std.proofs.lemmas.List.{length-append}
use Rattle.std.proofs.lemmas.List.Sums.{length-filter}
use Rattle.std.proofs.lemmas.List.Elements.{filter-append}
use Rattle.peer_bench.specs.declared.note.Note.{Note}
use Rattle.peer_bench.specs.declared.note.Note.TheVariants.{Offered, Ready, Took}
use Rattle.peer_bench.specs.Notes.{is_offer}
use Rattle.peer_bench.specs.Devices.{held_after, IsEcho}

held_more : (held : Option ℕ) (xs : List Note) (n : Note) → held_after held (xs ++ n ∷ []) ≡ held_after (held_after held xs) (n ∷ [])
held_more held [] n = refl
held_more held (Offered at chan value ∷ xs) n = held_more None xs n
held_more held (Ready at chan ∷ xs) n = held_more held xs n
held_more held (Took at chan value ∷ xs) n = held_more (Some ((value + 1) % 2 ^ 64)) xs n

pub count_more : {A : Type 0} (p : A → Bool) (xs ys : List A) → count_by p (xs ++ ys) ≡ count_by p xs + count_by p ys
count_more p xs ys =
    sym (length-filter p (xs ++ ys)) ∙ ap length (filter-append p xs ys) ∙ length-append (filter p xs) (filter p ys)
    ∙ ap (λ (k : ℕ). k + length (filter p ys)) (length-filter p xs) ∙ ap (λ (k : ℕ). count_by p xs + k) (length-filter p ys)

-- after one more note it holds what that note leaves it with
noted : (log later : List Note) (held : Option ℕ) (offers : ℕ) (note : Note) → IsEcho log held offers → later ≡ log ++ note ∷ [] →
    IsEcho later (held_after held (note ∷ [])) (offers + count_by is_offer (note ∷ []))
noted log later held offers note is more = record {
  held_is = ap (λ (h : Option ℕ). held_after h (note ∷ [])) is.held_is ∙ sym (held_more (Some 0) log note) ∙ ap (held_after (Some 0)) (sym more);
  offers_are = ap (λ (k : ℕ). k + count_by is_offer (note ∷ [])) is.offers_are ∙ sym (count_more is_offer log (note ∷ []))
      ∙ ap (count_by is_offer) (sym more);
}

pub echo_offered : (log later : List Note) (held : Option ℕ) (offers at chan value : ℕ) → IsEcho log held offers →
    later ≡ log ++ Offered at chan value ∷ [] → IsEcho later None (offers + 1)
echo_offered log later held offers at chan value is more = noted log later held offers (Offered at chan value) is more

pub echo_ready : (log later : List Note) (held : Option ℕ) (offers at chan : ℕ) → IsEcho log held offers → later ≡ log ++ Ready at chan ∷ [] →
    IsEcho later held offers
echo_ready log later held offers at chan is more =
    let i = noted log later held offers (Ready at chan) is more in
    record { held_is = i.held_is; offers_are = omega (arith, i.offers_are) }

pub echo_took : (log later : List Note) (held : Option ℕ) (offers at chan value : ℕ) → IsEcho log held offers →
    later ≡ log ++ Took at chan value ∷ [] → IsEcho later (Some ((value + 1) % 2 ^ 64)) offers
echo_took log later held offers at chan value is more =
    let i = noted log later held offers (Took at chan value) is more in
    record { held_is = i.held_is; offers_are = omega (arith, i.offers_are) }
