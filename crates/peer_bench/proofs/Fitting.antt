-- What a device offers fits its channels, so the script of its notes is one of the net's channels.
use Rattle.std.proofs.Common.{◌≡◌, ℕ, suc, ◌+◌, ◌^◌, ◌<◌, ◌≤◌, List, [], ◌∷◌, ◌++◌, length, get_or, map, refl, sym, ap, subst, ◌∙◌, inl, inr, arith}
use Rattle.std.specs.Prelude.{◌⊎◌, All, slice_get, Option, Some}
use Rattle.std.specs.List.{range_with_len}
use Rattle.std.proofs.lemmas.Bool.{cases_lt}
use Rattle.std.proofs.lemmas.List.{get_or_append_left}
use Rattle.std.proofs.lemmas.Option.{slice_get-get_or}
use Rattle.chp_base.specs.declared.channel.Kind.{Kind}
use Rattle.chp_base.specs.declared.channel.Kind.TheVariants.{In, Out, Chan}
use Rattle.prs_core.specs.declared.wires.Wires.{Wires}
use Rattle.prs_core.specs.Nets.{NetValue}
use Rattle.env_script.specs.Environment.{net_channels}
use Rattle.env_script.specs.Runs.{RunState, completed}
use Rattle.env_script.specs.Scripts.{OfferValue, gives, takes, nothing, offer_at, Suits, IsScript}
use Rattle.event_sim.specs.Standings.{offered_count}
use Rattle.peer_bench.specs.declared.note.Note.{Note}
use Rattle.peer_bench.specs.Growing.{offer_by, offer_on, script_by}
use Rattle.peer_bench.specs.Notes.{offered_on}
use Rattle.peer_bench.proofs.Liking.{IsLike, IsLikeGiven, StandsFor, script_at}
use Rattle.peer_bench.proofs.Noting.{offered_more}
use Rattle.peer_bench.proofs.Rails.{suits_at}

-- a script that is made channel by channel
made_script : (ws : List Wires) (f : ℕ → OfferValue) (k : ℕ) →
    ((i : ℕ) (w : Wires) → slice_get ws i ≡ Some w → Suits w.channel.kind w.channel.width (f (k + i))) →
    IsScript (map (λ (x : Wires). x.channel) ws) (map f (range_with_len k (length ws)))
made_script [] f k each = tt
made_script (w ∷ ws) f k each =
    let first : k + 0 ≡ k = omega arith in (
      subst (λ (j : ℕ). Suits w.channel.kind w.channel.width (f j)) first (each 0 w refl),
      made_script ws f (k + 1) (λ i x here. let next : k + suc i ≡ k + 1 + i = omega arith in
          subst (λ (j : ℕ). Suits x.channel.kind x.channel.width (f j)) next (each (suc i) x here)),
    )

made_by_notes : (net : NetValue) (notes : List Note) →
    ((c : ℕ) (w : Wires) → slice_get net.channels c ≡ Some w → Suits w.channel.kind w.channel.width (offer_by w.channel.kind c notes)) →
    IsScript (net_channels net) (script_by net notes)
made_by_notes net notes each =
    made_script net.channels (λ c. offer_on (slice_get net.channels c) c notes) 0
    (λ i w here. let same : i ≡ 0 + i = omega arith in
    subst (λ (o : OfferValue). Suits w.channel.kind w.channel.width o)
    (sym (ap (λ (j : ℕ). offer_on (slice_get net.channels j) j notes) (sym same) ∙ ap (λ (o : Option Wires). offer_on o i notes) here)) (each i w here))

pub none_fit : (net : NetValue) → IsScript (net_channels net) (script_by net [])
none_fit net = made_by_notes net [] (λ c w here. by_kind w.channel.kind w.channel.width c)
  where
    by_kind : (kind : Kind) (width c : ℕ) → Suits kind width (offer_by kind c [])
    by_kind In width c = λ i d within. absurd (omega arith)
    by_kind Out width c = tt
    by_kind Chan width c = tt

-- values behind all that have completed are those of the script that is kept
all_given : (k bound : ℕ) (old new ys : List ℕ) → k ≤ length old → All (λ v. v < bound) old → IsLikeGiven k (old ++ new) ys → All (λ v. v < bound) ys →
    All (λ v. v < bound) (old ++ new)
all_given k bound old new ys few fit like fits = λ i d within. by_place i d within (cases_lt i (length old))
  where
    one_value : (a b : ℕ) (o p : Option ℕ) → o ≡ Some a → p ≡ Some b → o ≡ p → a ≡ b
    one_value a b o p e f same = cc (e, f, same)

    by_place : (i d : ℕ) → i < length (old ++ new) → (i < length old) ⊎ (length old ≤ i) → get_or (old ++ new) i d < bound
    by_place i d within (inl less) = subst (λ (v : ℕ). v < bound) (sym (get_or_append_left old new d i less)) (fit i d less)
    by_place i d within (inr past) =
        let inside : i < length ys = omega (arith, like.count) in
        let same : get_or ys i d ≡ get_or (old ++ new) i d = one_value (get_or ys i d) (get_or (old ++ new) i d) (slice_get ys i) (slice_get (old ++ new) i)
        (slice_get-get_or ys i d inside) (slice_get-get_or (old ++ new) i d within) (like.rest i (omega arith)) in
        subst (λ (v : ℕ). v < bound) same (fits i d inside)

fits_given : (k width : ℕ) (old new : List ℕ) (o : OfferValue) → k ≤ length old → All (λ v. v < 2 ^ width) old → IsLike k (gives (old ++ new)) o →
    Suits In width o → All (λ v. v < 2 ^ width) (old ++ new)
fits_given k width old new (gives ys) few fit like suits = all_given k (2 ^ width) old new ys few fit like suits
fits_given k width old new (takes count) few fit like suits = absurd like
fits_given k width old new nothing few fit like suits = absurd like

-- more notes, behind as many values on each channel as have completed
pub more_fit : (net : NetValue) (st : RunState) (notes extra : List Note) (script : List OfferValue) → IsScript (net_channels net) (script_by net notes) →
    IsScript (net_channels net) script → StandsFor net st (notes ++ extra) script →
    ((c n : ℕ) → offered_count (offer_at (script_by net notes) c) ≡ Some n → completed st.histories c ≤ n) →
    IsScript (net_channels net) (script_by net (notes ++ extra))
more_fit net st notes extra script fit suits stands offered = made_by_notes net (notes ++ extra) each
  where
    offer_here : (c : ℕ) (w : Wires) (all : List Note) → slice_get net.channels c ≡ Some w → offer_at (script_by net all) c ≡ offer_by w.channel.kind c all
    offer_here c w all here = script_at net all c ∙ ap (λ (o : Option Wires). offer_on o c all) here

    by_kind : (c : ℕ) (w : Wires) (kind : Kind) → slice_get net.channels c ≡ Some w → w.channel.kind ≡ kind →
        Suits kind w.channel.width (offer_by kind c (notes ++ extra))
    by_kind c w Out here is = tt
    by_kind c w Chan here is = tt
    by_kind c w In here is =
        let old : offer_at (script_by net notes) c ≡ gives (offered_on c notes) = offer_here c w notes here ∙ ap (λ (k : Kind). offer_by k c notes) is in
        let all : offer_at (script_by net (notes ++ extra)) c ≡ gives (offered_on c notes ++ offered_on c extra) =
        offer_here c w (notes ++ extra) here ∙ ap (λ (k : Kind). offer_by k c (notes ++ extra)) is ∙ ap gives (offered_more c notes extra) in
        let few = offered c (length (offered_on c notes)) (ap offered_count old) in
        let was : Suits In w.channel.width (gives (offered_on c notes)) =
        subst (λ (o : OfferValue). Suits In w.channel.width o) old
        (subst (λ (k : Kind). Suits k w.channel.width (offer_at (script_by net notes) c)) is (suits_at net.channels (script_by net notes) c w fit here)) in
        let kept : Suits In w.channel.width (offer_at script c) =
        subst (λ (k : Kind). Suits k w.channel.width (offer_at script c)) is (suits_at net.channels script c w suits here) in
        subst (λ (xs : List ℕ). All (λ v. v < 2 ^ w.channel.width) xs) (sym (offered_more c notes extra))
        (fits_given (completed st.histories c) w.channel.width (offered_on c notes) (offered_on c extra) (offer_at script c) few was
        (subst (λ (o : OfferValue). IsLike (completed st.histories c) o (offer_at script c)) all (stands.each c)) kept)

    each : (c : ℕ) (w : Wires) → slice_get net.channels c ≡ Some w → Suits w.channel.kind w.channel.width (offer_by w.channel.kind c (notes ++ extra))
    each c w here = by_kind c w w.channel.kind here refl
