-- Along a run on a bench each note stands at a move that lets the device be asked, or tells what a move completed.
use Rattle.std.proofs.Common.{◌≡◌, ℕ, zero, suc, ◌+◌, ◌≤◌, Bool, true, false, List, [], ◌∷◌, ◌++◌, length, take, filter, refl, sym, ap, subst, ◌∙◌, arith}
use Rattle.std.specs.Prelude.{if◌then◌else◌, slice_get, slice_index, Option, Some, None, IfSome}
use Rattle.std.specs.List.{range_with_len}
use Rattle.std.proofs.lemmas.List.{append-nil, append_assoc, length_push, take-append-le, take_all, get_or_append_left}
use Rattle.std.proofs.lemmas.List.Elements.{filter-append}
use Rattle.chp_base.specs.declared.channel.Kind.{Kind}
use Rattle.chp_base.specs.declared.channel.Kind.TheVariants.{In, Out, Chan}
use Rattle.prs_core.specs.declared.wires.Wires.{Wires}
use Rattle.prs_core.specs.Nets.{NetValue}
use Rattle.prs_core.specs.Moves.{high}
use Rattle.env_script.specs.Runs.{RunState, moved, after}
use Rattle.event_sim.specs.Passing.{completion}
use Rattle.event_sim.specs.Standings.{is_idle}
use Rattle.peer_bench.specs.declared.note.Note.{Note}
use Rattle.peer_bench.specs.declared.note.Note.TheVariants.{Offered, Ready, Took}
use Rattle.peer_bench.specs.Growing.{script_by}
use Rattle.peer_bench.specs.Asking.{PeerValue, offer_note, ready_note, answer, answer_on, asked_on, IsPassOver, ArePasses, no_pass, and_pass}
use Rattle.peer_bench.specs.Along.{is_out, chan_is, low_reset, lets_ask, told_passed, IsAskedIf, IsNotedAlong, at_first, behind_move}
use Rattle.peer_bench.specs.Instants.{may_ask_after, IsAnswerAt, IsNoteAt, AreNotesAt, is_took, taken_in}

-- one more move leaves what was noted before it as it is

same_front : (moves : List ℕ) (n k : ℕ) → k ≤ length moves → take k (moves ++ n ∷ []) ≡ take k moves
same_front moves n k less = take-append-le k moves (n ∷ []) less

ask_same : (net : NetValue) (start : RunState) (moves : List ℕ) (n at : ℕ) → at ≤ length moves →
    may_ask_after net start (moves ++ n ∷ []) at ≡ may_ask_after net start moves at
ask_same net start moves n zero less = refl
ask_same net start moves n (suc k) less =
    ap (λ (xs : List ℕ). lets_ask net (after net start xs) (after net start (take (suc k) (moves ++ n ∷ []))) (slice_index (moves ++ n ∷ []) k))
    (same_front moves n k (omega arith))
    ∙ ap (λ (xs : List ℕ). lets_ask net (after net start (take k moves)) (after net start xs) (slice_index (moves ++ n ∷ []) k))
    (same_front moves n (suc k) less)
    ∙ ap (lets_ask net (after net start (take k moves)) (after net start (take (suc k) moves))) (get_or_append_left moves (n ∷ []) 0 k (omega arith))

answer_on_later : (net : NetValue) (start : RunState) (moves : List ℕ) (n : ℕ) (before : List Note) (kind : Kind) (at chan : ℕ) →
    IsAnswerAt net start moves before kind at chan → IsAnswerAt net start (moves ++ n ∷ []) before kind at chan
answer_on_later net start moves n before kind at chan is = record {
  within = omega (arith, is.within, length_push moves n);
  asked = ask_same net start moves n at is.within ∙ is.asked;
  channel = is.channel;
  idle = ap (λ (xs : List ℕ). is_idle net (script_by net before) (after net start xs) chan) (same_front moves n at is.within) ∙ is.idle;
}

note_later : (net : NetValue) (start : RunState) (moves : List ℕ) (n : ℕ) (before : List Note) (note : Note) → IsNoteAt net start moves before note →
    IsNoteAt net start (moves ++ n ∷ []) before note
note_later net start moves n before (Offered at chan value) is = answer_on_later net start moves n before In at chan is
note_later net start moves n before (Ready at chan) is = answer_on_later net start moves n before Out at chan is
note_later net start moves n before (Took at chan value) is = omega (arith, is, length_push moves n)

notes_later : (net : NetValue) (start : RunState) (moves : List ℕ) (n : ℕ) (before notes : List Note) → AreNotesAt net start moves before notes →
    AreNotesAt net start (moves ++ n ∷ []) before notes
notes_later net start moves n before [] are = tt
notes_later net start moves n before (note ∷ notes) are =
    (note_later net start moves n before note are.0, notes_later net start moves n (before ++ note ∷ []) notes are.1)

notes_both : (net : NetValue) (start : RunState) (moves : List ℕ) (before xs ys : List Note) → AreNotesAt net start moves before xs →
    AreNotesAt net start moves (before ++ xs) ys → AreNotesAt net start moves before (xs ++ ys)
notes_both net start moves before [] ys one two = subst (λ (zs : List Note). AreNotesAt net start moves zs ys) (append-nil before) two
notes_both net start moves before (x ∷ xs) ys one two = (
  one.0,
  notes_both net start moves (before ++ x ∷ []) xs ys one.1
      (subst (λ (zs : List Note). AreNotesAt net start moves zs ys) (sym (append_assoc before (x ∷ []) xs)) two),
)

-- answers of one moment
pub record AreAnswers (net : NetValue) (start : RunState) (moves : List ℕ) (before more : List Note) : Type 0 where
  pub placed : AreNotesAt net start moves before more
  pub no_took : filter is_took more ≡ []

no_answers : (net : NetValue) (start : RunState) (moves : List ℕ) (before : List Note) → AreAnswers net start moves before []
no_answers net start moves before = record { placed = tt; no_took = refl }

answers_both : (net : NetValue) (start : RunState) (moves : List ℕ) (before xs ys : List Note) → AreAnswers net start moves before xs →
    AreAnswers net start moves (before ++ xs) ys → AreAnswers net start moves before (xs ++ ys)
answers_both net start moves before xs ys one two = record {
  placed = notes_both net start moves before xs ys one.placed two.placed;
  no_took = filter-append is_took xs ys ∙ ap (λ (zs : List Note). zs ++ filter is_took ys) one.no_took ∙ two.no_took;
}

one_asked : (net : NetValue) (start : RunState) (moves : List ℕ) (notes : List Note) (p : PeerValue) (at chan : ℕ) → at ≤ length moves →
    may_ask_after net start moves at ≡ true → AreAnswers net start moves notes (asked_on net notes (after net start (take at moves)) p at chan)
one_asked net start moves notes p at chan within asks = by_idle (is_idle net (script_by net notes) (after net start (take at moves)) chan) refl
  where
    answered : (w : Wires) (kind : Kind) → slice_get net.channels chan ≡ Some w → w.channel.kind ≡ kind →
        is_idle net (script_by net notes) (after net start (take at moves)) chan ≡ true → IsAnswerAt net start moves notes kind at chan
    answered w kind here is idle = record {
      within = within;
      asked = asks;
      channel = subst (λ (o : Option Wires). IfSome o (λ (x : Wires). x.channel.kind ≡ kind)) (sym here) is;
      idle = idle;
    }

    by_kind : (w : Wires) → slice_get net.channels chan ≡ Some w → is_idle net (script_by net notes) (after net start (take at moves)) chan ≡ true →
        (kind : Kind) → w.channel.kind ≡ kind → AreAnswers net start moves notes (answer p kind w.channel.width at chan)
    by_kind w here idle In is = by_due (p.due chan w.channel.width)
      where
        by_due : (o : Option ℕ) → AreAnswers net start moves notes (offer_note at chan o)
        by_due None = no_answers net start moves notes
        by_due (Some value) = record { placed = (answered w In here is idle, tt); no_took = refl }
    by_kind w here idle Out is = by_willing (p.willing chan)
      where
        by_willing : (b : Bool) → AreAnswers net start moves notes (ready_note at chan b)
        by_willing true = record { placed = (answered w Out here is idle, tt); no_took = refl }
        by_willing false = no_answers net start moves notes
    by_kind w here idle Chan is = no_answers net start moves notes

    by_channel : (o : Option Wires) → slice_get net.channels chan ≡ o →
        is_idle net (script_by net notes) (after net start (take at moves)) chan ≡ true → AreAnswers net start moves notes (answer_on p o at chan)
    by_channel None here idle = no_answers net start moves notes
    by_channel (Some w) here idle = by_kind w here idle w.channel.kind refl

    by_idle : (b : Bool) → is_idle net (script_by net notes) (after net start (take at moves)) chan ≡ b →
        AreAnswers net start moves notes (if b then answer_on p (slice_get net.channels chan) at chan else [])
    by_idle true idle = by_channel (slice_get net.channels chan) refl idle
    by_idle false idle = no_answers net start moves notes

pass_placed : {P : Type 0} (known : P → PeerValue) (net : NetValue) (start : RunState) (moves : List ℕ) (at : ℕ) (cs : List ℕ) (notes more : List Note)
    (was is : P) → at ≤ length moves → may_ask_after net start moves at ≡ true →
    IsPassOver known net (after net start (take at moves)) at cs notes more was is → AreAnswers net start moves notes more
pass_placed known net start moves at [] notes more was is within asks by =
    subst (λ (xs : List Note). AreAnswers net start moves notes xs) (sym by.0) (no_answers net start moves notes)
pass_placed known net start moves at (c ∷ cs) notes more was is within asks by =
    let given : List Note = asked_on net notes (after net start (take at moves)) (known was) at c in
    subst (λ (xs : List Note). AreAnswers net start moves notes xs) (sym by.1.1)
    (answers_both net start moves notes given by.1.0 (one_asked net start moves notes (known was) at c within asks)
    (pass_placed known net start moves at cs (notes ++ given) by.1.0 by.0 is within asks by.1.3))

passes_placed : {P : Type 0} (known : P → PeerValue) (net : NetValue) (start : RunState) (moves : List ℕ) (at : ℕ) (notes : List Note) (was : P)
    {more : List Note} {is : P} → at ≤ length moves → may_ask_after net start moves at ≡ true →
    ArePasses known net (after net start (take at moves)) at notes was more is → AreAnswers net start moves notes more
passes_placed known net start moves at notes was within asks no_pass = no_answers net start moves notes
passes_placed known net start moves at notes was within asks (and_pass more last mid is before pass) =
    answers_both net start moves notes more last (passes_placed known net start moves at notes was within asks before)
    (pass_placed known net start moves at (range_with_len 0 (length net.channels)) (notes ++ more) last mid is within asks pass)

-- asked at this moment, if it may be
asked_placed : {P : Type 0} (known : P → PeerValue) (b : Bool) (net : NetValue) (start : RunState) (moves : List ℕ) (at : ℕ) (notes more : List Note)
    (was is : P) → at ≤ length moves → may_ask_after net start moves at ≡ b →
    IsAskedIf b known net (after net start (take at moves)) at notes more was is → AreAnswers net start moves notes more
asked_placed known true net start moves at notes more was is within asks asked =
    passes_placed known net start moves at notes was within asks asked.passes
asked_placed known false net start moves at notes more was is within asks asked =
    subst (λ (xs : List Note). AreAnswers net start moves notes xs) (sym asked.0) (no_answers net start moves notes)

-- what a device is told

told_placed : (net : NetValue) (start : RunState) (moves : List ℕ) (before : List Note) (at : ℕ) (o : Option (ℕ × ℕ)) → at ≤ length moves →
    AreNotesAt net start moves before (told_passed net at o) × (filter is_took (told_passed net at o) ≡ told_passed net at o)
told_placed net start moves before at None within = (tt, refl)
told_placed net start moves before at (Some p) within = by_kind (chan_is is_out net (Some p.0))
  where
    news : Bool → List Note
    news b = if b then Took at p.0 p.1 ∷ [] else []

    by_kind : (b : Bool) → AreNotesAt net start moves before (news b) × (filter is_took (news b) ≡ news b)
    by_kind true = ((within, tt), refl)
    by_kind false = (tt, refl)

taken_more : (net : NetValue) (st : RunState) (count : ℕ) (ns : List ℕ) (n : ℕ) → taken_in net st count (ns ++ n ∷ []) ≡ taken_in net st count ns
    ++ told_passed net (count + length ns + 1) (completion net (high (after net st ns).values) n)
taken_more net st count [] n =
    let same : count + 1 ≡ count + 0 + 1 = omega arith in
    append-nil (told_passed net (count + 1) (completion net (high st.values) n)) ∙ ap (λ k. told_passed net k (completion net (high st.values) n)) same
taken_more net st count (m ∷ ns) n =
    let same : count + 1 + length ns + 1 ≡ count + length (m ∷ ns) + 1 = omega arith in
    let first : List Note = told_passed net (count + 1) (completion net (high st.values) m) in
    ap (λ (xs : List Note). first ++ xs) (taken_more net (moved net st m) (count + 1) ns n
    ∙ ap (λ k. taken_in net (moved net st m) (count + 1) ns ++ told_passed net k (completion net (high (after net st (m ∷ ns)).values) n)) same)
    ∙ sym (append_assoc first (taken_in net (moved net st m) (count + 1) ns) _)

-- all notes

pub record ArePlaced (net : NetValue) (start : RunState) (moves : List ℕ) (notes : List Note) : Type 0 where
  pub placed : AreNotesAt net start moves [] notes
  pub took : filter is_took notes ≡ taken_in net start 0 moves

last_get : (xs : List ℕ) (n : ℕ) → slice_index (xs ++ n ∷ []) (length xs) ≡ n
last_get [] n = refl
last_get (x ∷ xs) n = last_get xs n

ask_last : (net : NetValue) (start : RunState) (ns : List ℕ) (n : ℕ) →
    may_ask_after net start (ns ++ n ∷ []) (length ns + 1) ≡ lets_ask net (after net start ns) (after net start (ns ++ n ∷ [])) n
ask_last net start ns n =
    let next : length ns + 1 ≡ suc (length ns) = omega arith in
    let front : take (length ns) (ns ++ n ∷ []) ≡ ns = same_front ns n (length ns) (omega arith) ∙ take_all (length ns) ns (omega arith) in
    let whole : take (suc (length ns)) (ns ++ n ∷ []) ≡ ns ++ n ∷ [] = take_all (suc (length ns)) (ns ++ n ∷ []) (omega (arith, length_push ns n)) in
    ap (may_ask_after net start (ns ++ n ∷ [])) next
    ∙ ap (λ (xs : List ℕ). lets_ask net (after net start xs) (after net start (take (suc (length ns)) (ns ++ n ∷ [])))
    (slice_index (ns ++ n ∷ []) (length ns))) front
    ∙ ap (λ (xs : List ℕ). lets_ask net (after net start ns) (after net start xs) (slice_index (ns ++ n ∷ []) (length ns))) whole
    ∙ ap (lets_ask net (after net start ns) (after net start (ns ++ n ∷ []))) (last_get ns n)

pub along_placed : {P : Type 0} (known : P → PeerValue) (net : NetValue) (start : RunState) (was : P) {moves : List ℕ} {notes : List Note} {is : P} →
    IsNotedAlong known net start was moves notes is → ArePlaced net start moves notes
along_placed known net start was (at_first more is asked) =
    let answers = asked_placed known (low_reset net start) net start [] 0 [] more was is (omega arith) refl asked in
    record { placed = answers.placed; took = answers.no_took }
along_placed {P} known net start was (behind_move ns n notes more mid late is before noted asked) =
    let one = along_placed known net start was before in
    let at : ℕ = length ns + 1 in
    let news : List Note = told_passed net at (completion net (high (after net start ns).values) n) in
    let within : at ≤ length (ns ++ n ∷ []) = omega (arith, length_push ns n) in
    let whole : take at (ns ++ n ∷ []) ≡ ns ++ n ∷ [] = take_all at (ns ++ n ∷ []) (omega (arith, length_push ns n)) in
    let heard = told_placed net start (ns ++ n ∷ []) notes at (completion net (high (after net start ns).values) n) within in
    let answers : AreAnswers net start (ns ++ n ∷ []) (notes ++ news) more =
    asked_placed known (lets_ask net (after net start ns) (after net start (ns ++ n ∷ [])) n) net start (ns ++ n ∷ []) at (notes ++ news) more late is within
    (ask_last net start ns n) (subst (λ (xs : List ℕ). IsAskedIf (lets_ask net (after net start ns) (after net start (ns ++ n ∷ [])) n) known net
    (after net start xs) at (notes ++ news) more late is) (sym whole) asked) in
    record {
      placed = notes_both net start (ns ++ n ∷ []) [] (notes ++ news) more
          (notes_both net start (ns ++ n ∷ []) [] notes news (notes_later net start ns n [] notes one.placed) heard.0) answers.placed;
      took = filter-append is_took (notes ++ news) more ∙ ap (λ (xs : List Note). filter is_took (notes ++ news) ++ xs) answers.no_took
          ∙ append-nil (filter is_took (notes ++ news)) ∙ filter-append is_took notes news ∙ ap (λ (xs : List Note). xs ++ filter is_took news) one.took
          ∙ ap (λ (xs : List Note). taken_in net start 0 ns ++ xs) heard.1
          ∙ ap (λ k. taken_in net start 0 ns ++ told_passed net k (completion net (high (after net start ns).values) n))
          (let same : at ≡ 0 + length ns + 1 = omega arith in same) ∙ sym (taken_more net start 0 ns n);
    }
