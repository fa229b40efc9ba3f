-- What one more note adds to a script.
use Rattle.std.proofs.Common.{◌≡◌, ℕ, ◌+◌, ◌<◌, ◌≤◌, Bool, true, false, cond, List, [], ◌∷◌, ◌++◌, length, map, filter, refl, sym, ap, subst, ◌∙◌, inl, inr, arith}
use Rattle.std.specs.Prelude.{◌⊎◌, if◌then◌else◌, slice_get, count_by, Option, Some, None}
use Rattle.std.proofs.lemmas.Bool.{eq-eqb, ne_eqb, cases_eq, leb-true, and_parts}
use Rattle.std.proofs.lemmas.List.{append-nil, length-set, get_or-set_same, get_or-set_other, map-append}
use Rattle.std.proofs.lemmas.List.Elements.{filter-append}
use Rattle.std.proofs.lemmas.Option.{slice_get_within}
use Rattle.chp_base.specs.declared.channel.Kind.{Kind}
use Rattle.chp_base.specs.declared.channel.Kind.TheVariants.{In, Out, Chan}
use Rattle.prs_core.specs.declared.wires.Wires.{Wires}
use Rattle.prs_core.specs.Nets.{NetValue}
use Rattle.prs_core.specs.Moves.{high}
use Rattle.env_script.specs.declared.script.Count.{Count}
use Rattle.env_script.specs.declared.script.Count.TheVariants.{Times}
use Rattle.env_script.specs.Scripts.{OfferValue, gives, takes, nothing, offer_at}
use Rattle.env_script.specs.Runs.{RunState, completed}
use Rattle.event_sim.specs.Standings.{offered_count, one_more, script_and, is_done, is_low_ack, is_idle}
use Rattle.peer_bench.specs.declared.note.Note.{Note}
use Rattle.peer_bench.specs.declared.note.Note.TheVariants.{Offered, Ready, Took}
use Rattle.peer_bench.specs.Notes.{is_offer_on, is_ready_on, value_of, offered_on, times_ready}
use Rattle.peer_bench.specs.Growing.{offer_by, offer_on, script_by}
use Rattle.peer_bench.specs.Asking.{PeerValue, offer_note, ready_note, answer, answer_on, asked_on}
use Rattle.peer_bench.specs.Steps.{script_noting, asked_under}
use Rattle.peer_bench.proofs.Holding.{count_more}
use Rattle.peer_bench.proofs.Liking.{IsLike, like_given, script_at, StandsFor, idle_like}

-- what a note says of a channel

pub offered_more : (c : ℕ) (notes more : List Note) → offered_on c (notes ++ more) ≡ offered_on c notes ++ offered_on c more
offered_more c notes more =
    ap (map value_of) (filter-append (is_offer_on c) notes more) ∙ map-append value_of (filter (is_offer_on c) notes) (filter (is_offer_on c) more)

pub ready_more : (c : ℕ) (notes more : List Note) → times_ready c (notes ++ more) ≡ times_ready c notes + times_ready c more
ready_more c notes more = count_more (is_ready_on c) notes more

-- notes that say nothing of a channel

pub record IsSilentOn (c : ℕ) (more : List Note) : Type 0 where
  pub offered : offered_on c more ≡ []
  pub ready : times_ready c more ≡ 0

pub silent_offer : (o : Option Wires) (c : ℕ) (notes more : List Note) → IsSilentOn c more → offer_on o c (notes ++ more) ≡ offer_on o c notes
silent_offer None c notes more silent = refl
silent_offer (Some w) c notes more silent = by_kind w.channel.kind
  where
    by_kind : (kind : Kind) → offer_by kind c (notes ++ more) ≡ offer_by kind c notes
    by_kind In = ap gives (offered_more c notes more ∙ ap (λ (xs : List ℕ). offered_on c notes ++ xs) silent.offered ∙ append-nil (offered_on c notes))
    by_kind Out =
        let same : times_ready c (notes ++ more) ≡ times_ready c notes = omega (arith, ready_more c notes more, silent.ready) in
        ap (λ (n : ℕ). takes (Times n)) same
    by_kind Chan = refl

-- a note of another channel says nothing of this one
offered_elsewhere : (at chan value c : ℕ) → (chan ≡ c → ⊥) → IsSilentOn c (Offered at chan value ∷ [])
offered_elsewhere at chan value c apart = record {
  offered = ap (λ (b : Bool). map value_of (cond b (Offered at chan value ∷ []) [])) (ne_eqb chan c apart);
  ready = refl;
}

ready_elsewhere : (at chan c : ℕ) → (chan ≡ c → ⊥) → IsSilentOn c (Ready at chan ∷ [])
ready_elsewhere at chan c apart = record {
  offered = refl;
  ready = ap (λ (b : Bool). count_of b) (ne_eqb chan c apart);
}
  where
    count_of : Bool → ℕ
    count_of b = count_by (λ (x : Note). b) (Ready at chan ∷ [])

took_silent : (at chan value c : ℕ) → IsSilentOn c (Took at chan value ∷ [])
took_silent at chan value c = record { offered = refl; ready = refl }

-- the offer on the channel itself

offer_in : (w : Wires) (c : ℕ) (notes : List Note) → w.channel.kind ≡ In → offer_by w.channel.kind c notes ≡ gives (offered_on c notes)
offer_in w c notes kind = ap (λ (k : Kind). offer_by k c notes) kind

offer_out : (w : Wires) (c : ℕ) (notes : List Note) → w.channel.kind ≡ Out → offer_by w.channel.kind c notes ≡ takes (Times (times_ready c notes))
offer_out w c notes kind = ap (λ (k : Kind). offer_by k c notes) kind

offered_here : (at c value : ℕ) (notes : List Note) → offered_on c (notes ++ Offered at c value ∷ []) ≡ offered_on c notes ++ value ∷ []
offered_here at c value notes =
    offered_more c notes (Offered at c value ∷ [])
    ∙ ap (λ (b : Bool). offered_on c notes ++ map value_of (cond b (Offered at c value ∷ []) [])) (eq-eqb c c refl)

ready_here : (at c : ℕ) (notes : List Note) → times_ready c (notes ++ Ready at c ∷ []) ≡ times_ready c notes + 1
ready_here at c notes = ready_more c notes (Ready at c ∷ []) ∙ ap (λ (b : Bool). times_ready c notes + count_of b) (eq-eqb c c refl)
  where
    count_of : Bool → ℕ
    count_of b = count_by (λ (x : Note). b) (Ready at c ∷ [])

like_one_given : (k value : ℕ) (xs : List ℕ) (p : OfferValue) → length xs ≤ k → IsLike k (gives xs) p → IsLike k (gives (xs ++ value ∷ [])) (one_more value p)
like_one_given k value xs (gives ys) done is = like_given k value xs ys done is
like_one_given k value xs (takes count) done is = absurd is
like_one_given k value xs nothing done is = absurd is

like_one_taken : (k value n : ℕ) (p : OfferValue) → IsLike k (takes (Times n)) p → IsLike k (takes (Times (n + 1))) (one_more value p)
like_one_taken k value n (gives ys) is = absurd is
like_one_taken k value n (takes count) is = subst (λ (c : Count). IsLike k (takes (Times (n + 1))) (one_more value (takes c))) (sym is) refl
like_one_taken k value n nothing is = absurd is

-- one more value

pub offered_stands : (net : NetValue) (st : RunState) (notes : List Note) (script : List OfferValue) (at c value : ℕ) (w : Wires) →
    slice_get net.channels c ≡ Some w → w.channel.kind ≡ In → is_done (offered_count (offer_at (script_by net notes) c)) (completed st.histories c) ≡ true →
    StandsFor net st notes script → StandsFor net st (notes ++ Offered at c value ∷ []) (script_and c value script)
offered_stands net st notes script at c value w here kind done stands = record {
  count = length-set script c (one_more value (offer_at script c)) ∙ stands.count;
  each = λ d. by_place d (cases_eq c d);
}
  where
    more : List Note
    more = Offered at c value ∷ []

    within : c < length script
    within = let less = slice_get_within net.channels c w here in omega (arith, stands.count)

    is_given : (more : List Note) → offer_at (script_by net more) c ≡ gives (offered_on c more)
    is_given more = script_at net more c ∙ ap (λ (o : Option Wires). offer_on o c more) here ∙ offer_in w c more kind

    few : length (offered_on c notes) ≤ completed st.histories c
    few = leb-true _ _ (ap (λ (o : OfferValue). is_done (offered_count o) (completed st.histories c)) (sym (is_given notes)) ∙ done)

    by_place : (d : ℕ) → (c ≡ d) ⊎ (c ≡ d → ⊥) →
        IsLike (completed st.histories d) (offer_at (script_by net (notes ++ more)) d) (offer_at (script_and c value script) d)
    by_place d (inl same) =
        subst (λ (e : ℕ). IsLike (completed st.histories e) (offer_at (script_by net (notes ++ more)) e) (offer_at (script_and c value script) e)) same
        (subst (λ (o : OfferValue). IsLike (completed st.histories c) o (offer_at (script_and c value script) c))
        (sym (is_given (notes ++ more) ∙ ap gives (offered_here at c value notes)))
        (subst (λ (o : OfferValue). IsLike (completed st.histories c) (gives (offered_on c notes ++ value ∷ [])) o)
        (sym (get_or-set_same script c (one_more value (offer_at script c)) nothing within))
        (like_one_given (completed st.histories c) value (offered_on c notes) (offer_at script c) few
        (subst (λ (o : OfferValue). IsLike (completed st.histories c) o (offer_at script c)) (is_given notes) (stands.each c)))))
    by_place d (inr apart) =
        subst (λ (o : OfferValue). IsLike (completed st.histories d) o (offer_at (script_and c value script) d))
        (sym (script_at net (notes ++ more) d ∙ silent_offer (slice_get net.channels d) d notes more (offered_elsewhere at c value d apart)
        ∙ sym (script_at net notes d)))
        (subst (λ (o : OfferValue). IsLike (completed st.histories d) (offer_at (script_by net notes) d) o)
        (sym (get_or-set_other script c d (one_more value (offer_at script c)) nothing (λ e. apart (sym e)))) (stands.each d))

-- one more acceptance

pub ready_stands : (net : NetValue) (st : RunState) (notes : List Note) (script : List OfferValue) (at c : ℕ) (w : Wires) →
    slice_get net.channels c ≡ Some w → w.channel.kind ≡ Out → StandsFor net st notes script →
    StandsFor net st (notes ++ Ready at c ∷ []) (script_and c 0 script)
ready_stands net st notes script at c w here kind stands = record {
  count = length-set script c (one_more 0 (offer_at script c)) ∙ stands.count;
  each = λ d. by_place d (cases_eq c d);
}
  where
    more : List Note
    more = Ready at c ∷ []

    within : c < length script
    within = let less = slice_get_within net.channels c w here in omega (arith, stands.count)

    is_taken : (more : List Note) → offer_at (script_by net more) c ≡ takes (Times (times_ready c more))
    is_taken more = script_at net more c ∙ ap (λ (o : Option Wires). offer_on o c more) here ∙ offer_out w c more kind

    by_place : (d : ℕ) → (c ≡ d) ⊎ (c ≡ d → ⊥) →
        IsLike (completed st.histories d) (offer_at (script_by net (notes ++ more)) d) (offer_at (script_and c 0 script) d)
    by_place d (inl same) =
        subst (λ (e : ℕ). IsLike (completed st.histories e) (offer_at (script_by net (notes ++ more)) e) (offer_at (script_and c 0 script) e)) same
        (subst (λ (o : OfferValue). IsLike (completed st.histories c) o (offer_at (script_and c 0 script) c))
        (sym (is_taken (notes ++ more) ∙ ap (λ (n : ℕ). takes (Times n)) (ready_here at c notes)))
        (subst (λ (o : OfferValue). IsLike (completed st.histories c) (takes (Times (times_ready c notes + 1))) o)
        (sym (get_or-set_same script c (one_more 0 (offer_at script c)) nothing within))
        (like_one_taken (completed st.histories c) 0 (times_ready c notes) (offer_at script c)
        (subst (λ (o : OfferValue). IsLike (completed st.histories c) o (offer_at script c)) (is_taken notes) (stands.each c)))))
    by_place d (inr apart) =
        subst (λ (o : OfferValue). IsLike (completed st.histories d) o (offer_at (script_and c 0 script) d))
        (sym (script_at net (notes ++ more) d ∙ silent_offer (slice_get net.channels d) d notes more (ready_elsewhere at c d apart)
        ∙ sym (script_at net notes d)))
        (subst (λ (o : OfferValue). IsLike (completed st.histories d) (offer_at (script_by net notes) d) o)
        (sym (get_or-set_other script c d (one_more 0 (offer_at script c)) nothing (λ e. apart (sym e)))) (stands.each d))

-- what was taken adds nothing
pub took_stands : (net : NetValue) (st : RunState) (notes : List Note) (script : List OfferValue) (at c value : ℕ) → StandsFor net st notes script →
    StandsFor net st (notes ++ Took at c value ∷ []) script
took_stands net st notes script at c value stands = record {
  count = stands.count;
  each = λ d. subst (λ (o : OfferValue). IsLike (completed st.histories d) o (offer_at script d))
      (sym (script_at net (notes ++ Took at c value ∷ []) d
      ∙ silent_offer (slice_get net.channels d) d notes (Took at c value ∷ []) (took_silent at c value d) ∙ sym (script_at net notes d))) (stands.each d);
}

-- an answer

pub asked_same : (net : NetValue) (st : RunState) (notes : List Note) (script : List OfferValue) (p : PeerValue) (at c : ℕ) → StandsFor net st notes script →
    asked_under net script st p at c ≡ asked_on net notes st p at c
asked_same net st notes script p at c stands =
    ap (λ (b : Bool). if b then answer_on p (slice_get net.channels c) at c else []) (idle_like net st notes script c stands)

pub answer_stands : (net : NetValue) (st : RunState) (notes : List Note) (script : List OfferValue) (p : PeerValue) (at c : ℕ) → StandsFor net st notes script →
    StandsFor net st (notes ++ asked_under net script st p at c) (script_noting (asked_under net script st p at c) script)
answer_stands net st notes script p at c stands = by_idle (is_idle net script st c) refl
  where
    asked : Bool → List Note
    asked b = if b then answer_on p (slice_get net.channels c) at c else []

    unchanged : StandsFor net st (notes ++ []) script
    unchanged = subst (λ (xs : List Note). StandsFor net st xs script) (sym (append-nil notes)) stands

    by_idle : (b : Bool) → is_idle net script st c ≡ b → StandsFor net st (notes ++ asked (is_idle net script st c))
        (script_noting (asked (is_idle net script st c)) script)
    by_idle false e = subst (λ (b : Bool). StandsFor net st (notes ++ asked b) (script_noting (asked b) script)) (sym e) unchanged
    by_idle true e =
        subst (λ (b : Bool). StandsFor net st (notes ++ asked b) (script_noting (asked b) script)) (sym e) (by_channel (slice_get net.channels c) refl)
      where
        done : is_done (offered_count (offer_at (script_by net notes) c)) (completed st.histories c) ≡ true
        done = (and_parts (is_low_ack (high st.values) (slice_get net.channels c))
            (is_done (offered_count (offer_at (script_by net notes) c)) (completed st.histories c)) (sym (idle_like net st notes script c stands) ∙ e)).1

        by_channel : (o : Option Wires) → slice_get net.channels c ≡ o →
            StandsFor net st (notes ++ answer_on p (slice_get net.channels c) at c) (script_noting (answer_on p (slice_get net.channels c) at c) script)
        by_channel None here =
            subst (λ (o : Option Wires). StandsFor net st (notes ++ answer_on p o at c) (script_noting (answer_on p o at c) script)) (sym here) unchanged
        by_channel (Some w) here =
            subst (λ (o : Option Wires). StandsFor net st (notes ++ answer_on p o at c) (script_noting (answer_on p o at c) script)) (sym here)
            (by_kind w.channel.kind refl)
          where
            by_kind : (kind : Kind) → w.channel.kind ≡ kind →
                StandsFor net st (notes ++ answer p w.channel.kind w.channel.width at c) (script_noting (answer p w.channel.kind w.channel.width at c) script)
            by_kind In kind =
                subst (λ (k : Kind). StandsFor net st (notes ++ answer p k w.channel.width at c) (script_noting (answer p k w.channel.width at c) script))
                (sym kind)
                (by_due (p.due c w.channel.width))
              where
                by_due : (o : Option ℕ) → StandsFor net st (notes ++ offer_note at c o) (script_noting (offer_note at c o) script)
                by_due None = unchanged
                by_due (Some value) = offered_stands net st notes script at c value w here kind done stands
            by_kind Out kind =
                subst (λ (k : Kind). StandsFor net st (notes ++ answer p k w.channel.width at c) (script_noting (answer p k w.channel.width at c) script))
                (sym kind)
                (by_willing (p.willing c))
              where
                by_willing : (b : Bool) → StandsFor net st (notes ++ ready_note at c b) (script_noting (ready_note at c b) script)
                by_willing false = unchanged
                by_willing true = ready_stands net st notes script at c w here kind stands
            by_kind Chan kind =
                subst (λ (k : Kind). StandsFor net st (notes ++ answer p k w.channel.width at c) (script_noting (answer p k w.channel.width at c) script))
                (sym kind)
                unchanged
