-- How many values a ramp has offered on each channel, after one more note.
use Rattle.std.proofs.Common.{◌≡◌, ℕ, ◌+◌, ◌<◌, ◌≤◌, Bool, false, cond, List, [], ◌∷◌, ◌++◌, length, get_or, set, take, filter, refl, sym, ap, ◌∙◌, inl, inr, arith}
use Rattle.std.specs.Prelude.{◌⊎◌}
use Rattle.std.proofs.lemmas.Bool.{cases_eq, cases_lt, eq-eqb, ne_eqb}
use Rattle.std.proofs.lemmas.List.{append-nil, length-set, length_push, length-take-le, take_all, get_or-set_same, get_or-set_other, get_or_append_left, get_or_at}
use Rattle.std.proofs.lemmas.List.Elements.{filter-append}
use Rattle.std.proofs.lemmas.Option.{slice_get_within, slice_get-get_or, get_or_from_slice_get}
use Rattle.peer_bench.specs.declared.note.Note.{Note}
use Rattle.peer_bench.specs.declared.note.Note.TheVariants.{Offered}
use Rattle.peer_bench.specs.Notes.{is_offer_on}
use Rattle.peer_bench.specs.Devices.{up_to_ten, AreCounts}

-- on each channel that is counted

counted : (log : List Note) (counts : List ℕ) → AreCounts log counts → (chan : ℕ) → chan < length counts → get_or counts chan 0 ≡ up_to_ten chan log
counted log counts are chan within = are chan (get_or counts chan 0) (slice_get-get_or counts chan 0 within)

are_counts : (log : List Note) (counts : List ℕ) → ((chan : ℕ) → chan < length counts → get_or counts chan 0 ≡ up_to_ten chan log) → AreCounts log counts
are_counts log counts each = λ chan n here. sym (get_or_from_slice_get counts chan n 0 here) ∙ each chan (slice_get_within counts chan n here)

-- one more channel is counted
pub counts_pushed : (log : List Note) (counts : List ℕ) (n chan : ℕ) → AreCounts log counts → length counts ≡ chan → n ≡ up_to_ten chan log →
    AreCounts log (counts ++ n ∷ [])
counts_pushed log counts n chan are all is = are_counts log (counts ++ n ∷ []) (λ c within. by_place c within (cases_lt c (length counts)))
  where
    by_place : (c : ℕ) → c < length (counts ++ n ∷ []) → (c < length counts) ⊎ (length counts ≤ c) → get_or (counts ++ n ∷ []) c 0 ≡ up_to_ten c log
    by_place c within (inl less) = get_or_append_left counts (n ∷ []) 0 c less ∙ counted log counts are c less
    by_place c within (inr past) =
        let last : length counts ≡ c = omega (arith, length_push counts n) in
        let same : chan ≡ c = omega (arith, all, last) in
        get_or_at counts n [] 0 c last ∙ is ∙ ap (λ (k : ℕ). up_to_ten k log) same

-- a note that is no offer on the channel
unchanged : (log : List Note) (note : Note) (chan : ℕ) → is_offer_on chan note ≡ false → up_to_ten chan (log ++ note ∷ []) ≡ up_to_ten chan log
unchanged log note chan off =
    ap (λ (xs : List Note). length (take 10 xs)) (filter-append (is_offer_on chan) log (note ∷ [])
    ∙ ap (λ (b : Bool). filter (is_offer_on chan) log ++ cond b (note ∷ []) []) off ∙ append-nil (filter (is_offer_on chan) log))

one_more : (xs : List Note) (note : Note) → (length (take 10 xs) ≡ 10 → ⊥) → length (take 10 (xs ++ note ∷ [])) ≡ length (take 10 xs) + 1
one_more xs note few = by_length (cases_lt (length xs) 10)
  where
    by_length : (length xs < 10) ⊎ (10 ≤ length xs) → length (take 10 (xs ++ note ∷ [])) ≡ length (take 10 xs) + 1
    by_length (inl less) =
        ap length (take_all 10 (xs ++ note ∷ []) (omega (arith, length_push xs note))) ∙ length_push xs note
        ∙ ap (λ (ys : List Note). length ys + 1) (sym (take_all 10 xs (omega arith)))
    by_length (inr more) = absurd (few (length-take-le 10 xs more))

offered_here : (log : List Note) (at chan value : ℕ) → (up_to_ten chan log ≡ 10 → ⊥) →
    up_to_ten chan (log ++ Offered at chan value ∷ []) ≡ up_to_ten chan log + 1
offered_here log at chan value few =
    ap (λ (xs : List Note). length (take 10 xs)) (filter-append (is_offer_on chan) log (Offered at chan value ∷ [])
    ∙ ap (λ (b : Bool). filter (is_offer_on chan) log ++ cond b (Offered at chan value ∷ []) []) (eq-eqb chan chan refl))
    ∙ one_more (filter (is_offer_on chan) log) (Offered at chan value) few

pub counts_offered : (log later : List Note) (counts : List ℕ) (offers at chan value : ℕ) → AreCounts log counts → offers ≡ up_to_ten chan log →
    (offers ≡ 10 → ⊥) → later ≡ log ++ Offered at chan value ∷ [] → AreCounts later (set counts chan (offers + 1))
counts_offered log later counts offers at chan value are is few more =
    rw more (are_counts (log ++ Offered at chan value ∷ []) (set counts chan (offers + 1)) (λ c within. by_place c within (cases_eq c chan)))
  where
    by_place : (c : ℕ) → c < length (set counts chan (offers + 1)) → (c ≡ chan) ⊎ (c ≡ chan → ⊥) →
        get_or (set counts chan (offers + 1)) c 0 ≡ up_to_ten c (log ++ Offered at chan value ∷ [])
    by_place c within (inl same) =
        ap (λ (k : ℕ). get_or (set counts chan (offers + 1)) k 0) same
        ∙ get_or-set_same counts chan (offers + 1) 0 (omega (arith, within, same, length-set counts chan (offers + 1)))
        ∙ ap (λ (k : ℕ). k + 1) is ∙ sym (offered_here log at chan value (λ ten. few (is ∙ ten)))
        ∙ ap (λ (k : ℕ). up_to_ten k (log ++ Offered at chan value ∷ [])) (sym same)
    by_place c within (inr apart) =
        get_or-set_other counts chan c (offers + 1) 0 apart ∙ counted log counts are c (omega (arith, within, length-set counts chan (offers + 1)))
        ∙ sym (unchanged log (Offered at chan value) c (ne_eqb chan c (λ e. apart (sym e))))
