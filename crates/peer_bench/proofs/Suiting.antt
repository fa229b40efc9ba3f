-- One more value that fits its channel keeps a script; and what is asked for on a channel of each kind.
use Rattle.std.proofs.Common.{◌≡◌, ℕ, zero, suc, ◌+◌, ◌^◌, ◌<◌, Bool, true, false, List, [], ◌∷◌, length, get_or, map, replicate, refl, ap, ◌∙◌, arith, sym}
use Rattle.std.specs.Prelude.{All, if◌then◌else◌, nat_lt, is_some, slice_get, Option, Some, None}
use Rattle.std.proofs.lemmas.List.{length-replicate, get_or-replicate, get_or_default}
use Rattle.std.proofs.lemmas.Option.{slice_get_read}
use Rattle.chp_base.specs.declared.channel.Kind.{Kind}
use Rattle.chp_base.specs.declared.channel.Kind.TheVariants.{In, Out, Chan}
use Rattle.prs_core.specs.declared.wires.Wires.{Wires}
use Rattle.prs_core.specs.Nets.{NetValue}
use Rattle.env_script.specs.declared.script.Count.{Count}
use Rattle.env_script.specs.declared.script.Count.TheVariants.{Times}
use Rattle.env_script.specs.Scripts.{OfferValue, gives, takes, nothing, Suits, IsScript}
use Rattle.env_script.specs.Runs.{RunState}
use Rattle.event_sim.specs.Standings.{one_more, script_and, is_idle}
use Rattle.peer_bench.specs.Asking.{PeerValue, offer_note, ready_note, answer, answer_on}
use Rattle.peer_bench.specs.Along.{kind_passes, chan_is}
use Rattle.peer_bench.specs.Steps.{asked_under}

all_same : (n value bound : ℕ) → value < bound → All (λ v. v < bound) (replicate n value)
all_same n value bound less = λ i d within. let e = get_or-replicate n i value d (omega (arith, length-replicate n value)) in omega arith

suits_more : (kind : Kind) (width value : ℕ) (o : OfferValue) → Suits kind width o → (kind ≡ In → value < 2 ^ width) → Suits kind width (one_more value o)
suits_more In width value (gives values) suits less = all_same (length values + 1) value (2 ^ width) (less refl)
suits_more In width value (takes count) suits less = absurd suits
suits_more In width value nothing suits less = absurd suits
suits_more Out width value (gives values) suits less = absurd suits
suits_more Out width value (takes Count.All) suits less = tt
suits_more Out width value (takes (Times k)) suits less = tt
suits_more Out width value nothing suits less = absurd suits
suits_more Chan width value (gives values) suits less = absurd suits
suits_more Chan width value (takes count) suits less = absurd suits
suits_more Chan width value nothing suits less = tt

pub script_adds : (ws : List Wires) (script : List OfferValue) (k value : ℕ) (w : Wires) → k < length ws → w ≡ get_or ws k w →
    (w.channel.kind ≡ In → value < 2 ^ w.channel.width) → IsScript (map (λ (x : Wires). x.channel) ws) script →
    IsScript (map (λ (x : Wires). x.channel) ws) (script_and k value script)
script_adds [] script k value w within here less is = absurd (omega arith)
script_adds (x ∷ ws) [] k value w within here less is = absurd is
script_adds (x ∷ ws) (o ∷ os) zero value w within here less is = (
  suits_more x.channel.kind x.channel.width value o is.0
      (λ kind. subst_width (less (ap (λ (y : Wires). y.channel.kind) here ∙ kind))),
  is.1,
)
  where
    subst_width : value < 2 ^ w.channel.width → value < 2 ^ x.channel.width
    subst_width fits = let same : 2 ^ w.channel.width ≡ 2 ^ x.channel.width = ap (λ (y : Wires). 2 ^ y.channel.width) here in omega arith
script_adds (x ∷ ws) (o ∷ os) (suc k) value w within here less is = (is.0, script_adds ws os k value w (omega arith) here less is.1)

-- the wires that are read at a place
pub read_at : (ws all : List Wires) (k : ℕ) (d : Wires) → all ≡ ws → k < length ws → get_or all k d ≡ get_or ws k (get_or all k d)
read_at ws all k d same within = ap (λ (xs : List Wires). get_or xs k d) same ∙ get_or_default ws k d (get_or all k d) within

-- what comes of asking on a channel

pub asked_is : (net : NetValue) (script : List OfferValue) (st : RunState) (p : PeerValue) (at chan : ℕ) (w : Wires) (kind : Kind) →
    is_idle net script st chan ≡ true → chan < length net.channels → w ≡ get_or net.channels chan w → w.channel.kind ≡ kind →
    asked_under net script st p at chan ≡ answer p kind w.channel.width at chan
asked_is net script st p at chan w kind idle within here is =
    ap (λ (b : Bool). if b then answer_on p (slice_get net.channels chan) at chan else []) idle
    ∙ ap (λ (o : Option Wires). answer_on p o at chan) (slice_get_read net.channels (length net.channels) chan w refl within here)
    ∙ ap (λ (k : Kind). answer p k w.channel.width at chan) is

-- whether an answer came

pub came_offer : (at chan : ℕ) (o : Option ℕ) → is_some o ≡ nat_lt 0 (length (offer_note at chan o))
came_offer at chan None = refl
came_offer at chan (Some value) = refl

pub came_ready : (at chan : ℕ) (b : Bool) → b ≡ nat_lt 0 (length (ready_note at chan b))
came_ready at chan false = refl
came_ready at chan true = refl

-- the kind of the channel at a place
pub kind_at : (net : NetValue) (p : Kind → Bool) (chan : ℕ) (w : Wires) → chan < length net.channels → w ≡ get_or net.channels chan w →
    p w.channel.kind ≡ chan_is p net (Some chan)
kind_at net p chan w within here = sym (ap (kind_passes p) (slice_get_read net.channels (length net.channels) chan w refl within here))
