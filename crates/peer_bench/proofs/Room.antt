-- On how many channels all that is offered has completed, and how that count changes.
use Rattle.std.proofs.Common.{◌≡◌, ℕ, ◌+◌, ◌<◌, ◌≤◌, Bool, true, false, List, [], ◌∷◌, length, refl, sym, ap, subst, ◌∙◌, inl, inr, arith}
use Rattle.std.specs.Prelude.{◌⊎◌, if◌then◌else◌, slice_get, Option, Some, None}
use Rattle.std.proofs.lemmas.Bool.{cases_eq, cases_lt, lt-leb, le-leb}
use Rattle.std.proofs.lemmas.List.{length-replicate, get_or_past, get_or-set_same, get_or-set_other}
use Rattle.prs_core.specs.declared.wires.Wires.{Wires}
use Rattle.prs_core.specs.Nets.{NetValue, IsNet}
use Rattle.prs_core.specs.Moves.{high}
use Rattle.env_script.specs.declared.script.Count.{Count}
use Rattle.env_script.specs.declared.script.Count.TheVariants.{Times}
use Rattle.env_script.specs.Scripts.{OfferValue, gives, takes, nothing, offer_at}
use Rattle.env_script.specs.Runs.{RunState, completed, moved}
use Rattle.event_sim.specs.Passing.{completion}
use Rattle.event_sim.specs.Stages.{StageValue, now_of}
use Rattle.event_sim.specs.Standings.{offered_count, is_done, one_more, script_and, is_idle}
use Rattle.event_sim.proofs.Added.{idle_number}
use Rattle.chp_base.specs.declared.channel.Kind.{Kind}
use Rattle.chp_base.specs.declared.channel.Kind.TheVariants.{In, Out, Chan}
use Rattle.peer_bench.specs.declared.note.Note.{Note}
use Rattle.peer_bench.specs.declared.note.Note.TheVariants.{Took}
use Rattle.peer_bench.specs.Asking.{PeerValue, offer_note, ready_note, answer, answer_on}
use Rattle.peer_bench.specs.Along.{is_out, chan_is, told_passed}
use Rattle.peer_bench.specs.Steps.{script_noting, asked_under, AreOffered, free_from, free_on}
use Rattle.peer_bench.proofs.Counting.{counts_none, counts_elsewhere, channel_of}

abbrev pub bit_at : (ℕ → OfferValue) → (ℕ → ℕ) → ℕ → Bool
bit_at script done c = is_done (offered_count (script c)) (done c)

abbrev pub weight : Bool → ℕ
weight b = if b then 1 else 0

-- where nothing changes
pub free_same : (script behind : ℕ → OfferValue) (done later : ℕ → ℕ) (c : ℕ) (ws : List Wires) →
    ((i : ℕ) → c ≤ i → bit_at behind later i ≡ bit_at script done i) → free_from behind later c ws ≡ free_from script done c ws
free_same script behind done later c [] same = refl
free_same script behind done later c (w ∷ ws) same =
    ap (λ (b : Bool). weight b + free_from behind later (c + 1) ws) (same c (omega arith))
    ∙ ap (λ (n : ℕ). weight (bit_at script done c) + n) (free_same script behind done later (c + 1) ws (λ i past. same i (omega arith)))

-- where one channel changes
pub free_swap : (script behind : ℕ → OfferValue) (done later : ℕ → ℕ) (k c : ℕ) (ws : List Wires) → c ≤ k → k < c + length ws →
    ((i : ℕ) → (i ≡ k → ⊥) → bit_at behind later i ≡ bit_at script done i) →
    free_from behind later c ws + weight (bit_at script done k) ≡ free_from script done c ws + weight (bit_at behind later k)
free_swap script behind done later k c [] from within same = absurd (omega arith)
free_swap script behind done later k c (w ∷ ws) from within same =
    by_place (λ next inside. free_swap script behind done later k (c + 1) ws next inside same) (cases_eq c k)
  where
    by_place : (c + 1 ≤ k → k < c + 1 + length ws → free_from behind later (c + 1) ws + weight (bit_at script done k) ≡
        free_from script done (c + 1) ws + weight (bit_at behind later k)) → (c ≡ k) ⊎ (c ≡ k → ⊥) →
        free_from behind later c (w ∷ ws) + weight (bit_at script done k) ≡ free_from script done c (w ∷ ws) + weight (bit_at behind later k)
    by_place others (inl e) =
        let one : weight (bit_at behind later c) ≡ weight (bit_at behind later k) = ap (λ (i : ℕ). weight (bit_at behind later i)) e in
        let two : weight (bit_at script done c) ≡ weight (bit_at script done k) = ap (λ (i : ℕ). weight (bit_at script done i)) e in
        let rest : free_from behind later (c + 1) ws ≡ free_from script done (c + 1) ws =
        free_same script behind done later (c + 1) ws (λ i past. same i (λ at. absurd (omega arith))) in
        omega arith
    by_place others (inr apart) =
        let one : weight (bit_at behind later c) ≡ weight (bit_at script done c) = ap weight (same c apart) in
        let rest = others (omega arith) (omega arith) in
        omega arith

-- one more on an idle channel

number_more : (value n : ℕ) (o : OfferValue) → offered_count o ≡ Some n → offered_count (one_more value o) ≡ Some (n + 1)
number_more value n (gives xs) e = ap Some (length-replicate (length xs + 1) value) ∙ ap (λ (k : ℕ). Some (k + 1)) (same_some (length xs) n e)
  where
    same_some : (a b : ℕ) → Some a ≡ Some b → a ≡ b
    same_some a b e = cc
number_more value n (takes Count.All) e = absurd (cc e)
number_more value n (takes (Times k)) e = ap (λ (j : ℕ). Some (j + 1)) (same_some k n e)
  where
    same_some : (a b : ℕ) → Some a ≡ Some b → a ≡ b
    same_some a b e = cc
number_more value n nothing e = absurd (cc e)

within_script : (script : List OfferValue) (chan n : ℕ) → offered_count (offer_at script chan) ≡ Some n → chan < length script
within_script script chan n e = by_place (cases_lt chan (length script))
  where
    by_place : (chan < length script) ⊎ (length script ≤ chan) → chan < length script
    by_place (inl less) = less
    by_place (inr past) = absurd (cc (ap offered_count (sym (get_or_past script chan nothing past)) ∙ e))

pub record HasRoom (net : NetValue) (st : RunState) (script behind : List OfferValue) (more : List Note) : Type 0 where
  pub free : free_on net behind st + length more ≡ free_on net script st
  pub offered : AreOffered behind st

add_room : (net : NetValue) (st : RunState) (script : List OfferValue) (chan value : ℕ) (note : Note) → is_idle net script st chan ≡ true →
    chan < length net.channels → AreOffered script st → HasRoom net st script (script_and chan value script) (note ∷ [])
add_room net st script chan value note idle within offered = record {
  free = let swapped = free_swap (offer_at script) (offer_at (script_and chan value script)) (completed st.histories) (completed st.histories) chan 0
      net.channels (omega arith) (omega arith) others in
      let first : weight (bit_at (offer_at script) (completed st.histories) chan) ≡ 1 = ap weight was_done in
      let last : weight (bit_at (offer_at (script_and chan value script)) (completed st.histories) chan) ≡ 0 = ap weight not_done in
      omega arith;
  offered = λ c n e. by_place c n e (cases_eq c chan);
}
  where
    counted : (n : ℕ) × (offered_count (offer_at script chan) ≡ Some n) × (n ≤ completed st.histories chan)
    counted = idle_number net script st chan idle

    most : completed st.histories chan ≤ counted.0
    most = offered chan counted.0 counted.1

    here : offer_at (script_and chan value script) chan ≡ one_more value (offer_at script chan)
    here = get_or-set_same script chan (one_more value (offer_at script chan)) nothing (within_script script chan counted.0 counted.1)

    there : (c : ℕ) → (c ≡ chan → ⊥) → offer_at (script_and chan value script) c ≡ offer_at script c
    there c apart = get_or-set_other script chan c (one_more value (offer_at script chan)) nothing apart

    others : (i : ℕ) → (i ≡ chan → ⊥) → bit_at (offer_at (script_and chan value script)) (completed st.histories) i ≡
        bit_at (offer_at script) (completed st.histories) i
    others i apart = ap (λ (o : OfferValue). is_done (offered_count o) (completed st.histories i)) (there i apart)

    number_now : offered_count (offer_at (script_and chan value script) chan) ≡ Some (counted.0 + 1)
    number_now = ap offered_count here ∙ number_more value counted.0 (offer_at script chan) counted.1

    was_done : bit_at (offer_at script) (completed st.histories) chan ≡ true
    was_done = ap (λ (o : Option ℕ). is_done o (completed st.histories chan)) counted.1 ∙ le-leb counted.0 (completed st.histories chan) counted.2

    not_done : bit_at (offer_at (script_and chan value script)) (completed st.histories) chan ≡ false
    not_done = ap (λ (o : Option ℕ). is_done o (completed st.histories chan)) number_now
        ∙ lt-leb (counted.0 + 1) (completed st.histories chan) (let few = most in omega arith)

    same_some : (a b : ℕ) → Some a ≡ Some b → a ≡ b
    same_some a b e = cc

    by_place : (c n : ℕ) → offered_count (offer_at (script_and chan value script) c) ≡ Some n → (c ≡ chan) ⊎ (c ≡ chan → ⊥) → completed st.histories c ≤ n
    by_place c n e (inl same) =
        let now : n ≡ counted.0 + 1 = same_some n (counted.0 + 1)
        (sym e ∙ ap (λ (d : ℕ). offered_count (offer_at (script_and chan value script) d)) same ∙ number_now) in
        let few = most in
        let moved : completed st.histories c ≡ completed st.histories chan = ap (completed st.histories) same in
        omega arith
    by_place c n e (inr apart) = offered c n (ap offered_count (sym (there c apart)) ∙ e)

-- an answer

pub asked_room : (net : NetValue) (st : RunState) (script : List OfferValue) (p : PeerValue) (at chan : ℕ) → chan < length net.channels →
    AreOffered script st → HasRoom net st script (script_noting (asked_under net script st p at chan) script) (asked_under net script st p at chan)
asked_room net st script p at chan within offered = by_idle (is_idle net script st chan) refl
  where
    unchanged : HasRoom net st script script []
    unchanged = record { free = omega arith; offered = offered }

    by_idle : (b : Bool) → is_idle net script st chan ≡ b → HasRoom net st script
        (script_noting (if is_idle net script st chan then answer_on p (slice_get net.channels chan) at chan else []) script)
        (if is_idle net script st chan then answer_on p (slice_get net.channels chan) at chan else [])
    by_idle false e =
        subst (λ (b : Bool). HasRoom net st script (script_noting (if b then answer_on p (slice_get net.channels chan) at chan else []) script)
        (if b then answer_on p (slice_get net.channels chan) at chan else [])) (sym e) unchanged
    by_idle true e =
        subst (λ (b : Bool). HasRoom net st script (script_noting (if b then answer_on p (slice_get net.channels chan) at chan else []) script)
        (if b then answer_on p (slice_get net.channels chan) at chan else [])) (sym e) (by_channel (slice_get net.channels chan))
      where
        by_due : (o : Option ℕ) → HasRoom net st script (script_noting (offer_note at chan o) script) (offer_note at chan o)
        by_due None = unchanged
        by_due (Some value) = add_room net st script chan value _ e within offered

        by_willing : (b : Bool) → HasRoom net st script (script_noting (ready_note at chan b) script) (ready_note at chan b)
        by_willing false = unchanged
        by_willing true = add_room net st script chan 0 _ e within offered

        by_kind : (kind : Kind) (width : ℕ) → HasRoom net st script (script_noting (answer p kind width at chan) script) (answer p kind width at chan)
        by_kind In width = by_due (p.due chan width)
        by_kind Out width = by_willing (p.willing chan)
        by_kind Chan width = unchanged

        by_channel : (o : Option Wires) → HasRoom net st script (script_noting (answer_on p o at chan) script) (answer_on p o at chan)
        by_channel None = unchanged
        by_channel (Some w) = by_kind w.channel.kind w.channel.width

-- through a move at most one more channel has no more to complete
pub free_moved : (s : StageValue) (n : ℕ) (script : List OfferValue) → IsNet s.net →
    free_on s.net script (moved s.net (now_of s) n) ≤ free_on s.net script (now_of s) + 1
free_moved s n script net = by_completion (completion s.net (high s.values) n) refl
  where
    few : (b : Bool) → weight b ≤ 1
    few true = omega arith
    few false = omega arith

    done : ℕ → ℕ
    done = completed (now_of s).histories

    later : ℕ → ℕ
    later = completed (moved s.net (now_of s) n).histories

    bit_same : (c : ℕ) → later c ≡ done c → bit_at (offer_at script) later c ≡ bit_at (offer_at script) done c
    bit_same c same = ap (is_done (offered_count (offer_at script c))) same

    by_completion : (o : Option (ℕ × ℕ)) → completion s.net (high s.values) n ≡ o →
        free_on s.net script (moved s.net (now_of s) n) ≤ free_on s.net script (now_of s) + 1
    by_completion None none =
        let same : free_on s.net script (moved s.net (now_of s) n) ≡ free_on s.net script (now_of s) =
        free_same (offer_at script) (offer_at script) done later 0 s.net.channels (λ c past. bit_same c (counts_none s n net none c)) in
        omega arith
    by_completion (Some p) some =
        let within = channel_of s n p some in
        let swapped = free_swap (offer_at script) (offer_at script) done later p.0 0 s.net.channels (omega arith) (omega arith)
        (λ c apart. bit_same c (counts_elsewhere s n p net some c (λ e. apart (sym e)))) in
        let most = few (bit_at (offer_at script) later p.0) in
        omega arith

pub told_few : (net : NetValue) (at : ℕ) (o : Option (ℕ × ℕ)) → length (told_passed net at o) ≤ 1
told_few net at None = omega arith
told_few net at (Some p) = by_kind (chan_is is_out net (Some p.0))
  where
    by_kind : (b : Bool) → length (if b then Took at p.0 p.1 ∷ [] else []) ≤ 1
    by_kind true = omega arith
    by_kind false = omega arith
