-- A set that has each idle channel, and where no answer would come.
use Rattle.std.proofs.Common.{◌≡◌, ◌≢◌, ℕ, ◌<◌, ◌≤◌, ◌^◌, Bool, true, false, List, [], length, replicate, refl, sym, ap, subst, ◌∙◌, arith}
use Rattle.std.specs.Prelude.{if◌then◌else◌, not, ◌&&◌, ◌==◌, slice_get, Option, Some, None}
use Rattle.std.proofs.lemmas.Bool.{eq-eqb, both_ways}
use Rattle.std.proofs.lemmas.List.{length-replicate, get_or-replicate}
use Rattle.std.proofs.lemmas.Option.{slice_get_within}
use Rattle.chp_base.specs.declared.channel.Kind.{Kind}
use Rattle.chp_base.specs.declared.channel.Kind.TheVariants.{In, Out, Chan}
use Rattle.prs_core.specs.declared.wires.Wires.{Wires}
use Rattle.prs_core.specs.Nets.{NetValue, IsNet, most_nodes}
use Rattle.prs_core.specs.Moves.{high, fired}
use Rattle.env_script.specs.Scripts.{OfferValue, offer_at}
use Rattle.env_script.specs.Runs.{RunState, completed, moved}
use Rattle.env_script.proofs.Wires.{few_channels}
use Rattle.event_sim.specs.Locality.{is_member}
use Rattle.event_sim.specs.Passing.{channel_acknowledged}
use Rattle.event_sim.specs.Stages.{StageValue, now_of}
use Rattle.event_sim.specs.Standings.{offered_count, is_low_ack, is_done, is_idle}
use Rattle.event_sim.proofs.HomeLemmas.{found_there, no_ack}
use Rattle.event_sim.proofs.Near.{fired_agree}
use Rattle.peer_bench.specs.declared.note.Note.{Note}
use Rattle.peer_bench.specs.Asking.{PeerValue, offer_note, ready_note, answer, answer_on, asked_on}
use Rattle.peer_bench.specs.Along.{IsSilent, NothingComes}
use Rattle.peer_bench.specs.Growing.{script_by}
use Rattle.peer_bench.specs.Steps.{asked_under}
use Rattle.peer_bench.specs.Sets.{HasIdle, IsQuiet, IsQuietBut}
use Rattle.peer_bench.proofs.Liking.{StandsFor}
use Rattle.peer_bench.proofs.Noting.{asked_same}
use Rattle.peer_bench.proofs.Outside.{home_of}
use Rattle.peer_bench.proofs.Rails.{count_stays, at_place, ack_wire}

pub idle_within : (net : NetValue) (script : List OfferValue) (st : RunState) (c : ℕ) → is_idle net script st c ≡ true → c < length net.channels
idle_within net script st c idle = by_channel (slice_get net.channels c) refl
  where
    by_channel : (o : Option Wires) → slice_get net.channels c ≡ o → c < length net.channels
    by_channel None none =
        absurd (both_ways _ (ap (λ (o : Option Wires). is_low_ack (high st.values) o && is_done (offered_count (offer_at script c))
        (completed st.histories c)) none) idle)
    by_channel (Some w) here = slice_get_within net.channels c w here

unasked_on : (net : NetValue) (script : List OfferValue) (st : RunState) (p : PeerValue) (at c : ℕ) → is_idle net script st c ≡ false →
    asked_under net script st p at c ≡ []
unasked_on net script st p at c busy = ap (λ (b : Bool). if b then answer_on p (slice_get net.channels c) at c else []) busy

-- none comes on a channel that isn't in the set
pub not_listed : (net : NetValue) (script : List OfferValue) (st : RunState) (p : PeerValue) (marks : List Bool) (at c : ℕ) →
    HasIdle net script st marks → is_member marks c ≡ false → asked_under net script st p at c ≡ []
not_listed net script st p marks at c has out = unasked_on net script st p at c (by_idle (is_idle net script st c) refl)
  where
    by_idle : (b : Bool) → is_idle net script st c ≡ b → is_idle net script st c ≡ false
    by_idle false e = e
    by_idle true e = absurd (both_ways _ out (has.each c e))

few_nodes : (reset : Option ℕ) → most_nodes reset ≤ 65537
few_nodes None = omega arith
few_nodes (Some node) = omega arith

pub channels_fit : (net : NetValue) → IsNet net → length net.channels < 2 ^ 32
channels_fit net is =
    let few = few_channels net is in
    let most = few_nodes net.reset in
    omega (arith, is.most)

-- the set of all channels
pub all_idle : (net : NetValue) (script : List OfferValue) (st : RunState) → HasIdle net script st (replicate (length net.channels) true)
all_idle net script st = record {
  count = length-replicate (length net.channels) true;
  each = λ c idle. get_or-replicate (length net.channels) c true false
      (let within = idle_within net script st c idle in omega (arith, length-replicate (length net.channels) true));
}

-- where nothing comes, no answer would

silent_answer : (p : PeerValue) (kind : Kind) (width at c : ℕ) → IsSilent p kind width c → answer p kind width at c ≡ []
silent_answer p In width at c silent = ap (offer_note at c) silent
silent_answer p Out width at c silent = ap (ready_note at c) silent
silent_answer p Chan width at c silent = refl

pub quiet_under : (net : NetValue) (st : RunState) (notes : List Note) (script : List OfferValue) (p : PeerValue) → StandsFor net st notes script →
    NothingComes net notes st p → IsQuiet net script st p
quiet_under net st notes script p stands silent = λ c at.
    asked_same net st notes script p at c stands ∙ by_idle c at (is_idle net (script_by net notes) st c) refl
  where
    by_channel : (c at : ℕ) → is_idle net (script_by net notes) st c ≡ true → (o : Option Wires) → slice_get net.channels c ≡ o → answer_on p o at c ≡ []
    by_channel c at idle None here = refl
    by_channel c at idle (Some w) here = silent_answer p w.channel.kind w.channel.width at c (silent c w here idle)

    by_idle : (c at : ℕ) → (b : Bool) → is_idle net (script_by net notes) st c ≡ b → asked_on net notes st p at c ≡ []
    by_idle c at false e = ap (λ (b : Bool). if b then answer_on p (slice_get net.channels c) at c else []) e
    by_idle c at true e =
        ap (λ (b : Bool). if b then answer_on p (slice_get net.channels c) at c else []) e ∙ by_channel c at e (slice_get net.channels c) refl

-- a move changes whether a channel is idle only where it moves its acknowledge

ack_found : (net : NetValue) (n c : ℕ) (w : Wires) → IsNet net → slice_get net.channels c ≡ Some w → n ≡ w.ack → channel_acknowledged net.channels n ≡ Some c
ack_found net n c w is here same =
    found_there net n c w (Some c) (λ (x : Wires). n == x.ack) (home_of net n c w is within (at_place net.channels c w here) (ack_wire w n same))
    (λ x apart. no_ack n x apart) refl within
    (ap (λ (x : Wires). n == x.ack) (sym (at_place net.channels c w here)) ∙ eq-eqb n w.ack same)
  where
    within : c < length net.channels
    within = slice_get_within net.channels c w here

pub idle_moved : (s : StageValue) (n c : ℕ) (script : List OfferValue) → IsNet s.net → channel_acknowledged s.net.channels n ≢ Some c →
    is_idle s.net script (moved s.net (now_of s) n) c ≡ true → is_idle s.net script (now_of s) c ≡ true
idle_moved s n c script net apart idle = by_channel (slice_get s.net.channels c) refl
  where
    done : Bool → ℕ → Bool
    done low k = low && is_done (offered_count (offer_at script c)) k

    by_channel : (o : Option Wires) → slice_get s.net.channels c ≡ o → is_idle s.net script (now_of s) c ≡ true
    by_channel None none =
        absurd (both_ways _ (ap (λ (o : Option Wires). is_low_ack (high (fired s.values n)) o && is_done (offered_count (offer_at script c))
        (completed (moved s.net (now_of s) n).histories c)) none) idle)
    by_channel (Some w) here =
        let other : n ≡ w.ack → ⊥ = λ same. apart (ack_found s.net n c w net here same) in
        let low : is_low_ack (high s.values) (slice_get s.net.channels c) ≡ is_low_ack (high (fired s.values n)) (slice_get s.net.channels c) =
        ap (is_low_ack (high s.values)) here ∙ ap not (sym (fired_agree s.values n w.ack (λ e. other (sym e))))
        ∙ sym (ap (is_low_ack (high (fired s.values n))) here) in
        ap (λ (b : Bool). done b (completed (now_of s).histories c)) low
        ∙ ap (done (is_low_ack (high (fired s.values n)) (slice_get s.net.channels c))) (sym (count_stays s n c w net here other)) ∙ idle

-- the stage behind the move
pub record IsBehind (s l : StageValue) (n : ℕ) : Type 0 where
  pub net : l.net ≡ s.net
  pub script : l.script ≡ s.script
  pub now : now_of l ≡ moved s.net (now_of s) n

behind_is : (s l : StageValue) (n : ℕ) → IsBehind s l n → (P : NetValue → List OfferValue → RunState → Type 0) →
    P s.net s.script (moved s.net (now_of s) n) → P l.net l.script (now_of l)
behind_is s l n is P holds =
    subst (λ (w : NetValue). P w l.script (now_of l)) (sym is.net)
    (subst (λ (x : List OfferValue). P s.net x (now_of l)) (sym is.script) (subst (λ (r : RunState). P s.net s.script r) (sym is.now) holds))

pub listed_behind : (s l : StageValue) (n : ℕ) (marks : List Bool) → IsNet s.net → IsBehind s l n → HasIdle s.net s.script (now_of s) marks →
    (c : ℕ) → channel_acknowledged s.net.channels n ≢ Some c → is_idle l.net l.script (now_of l) c ≡ true → is_member marks c ≡ true
listed_behind s l n marks net is has c apart =
    behind_is s l n is (λ w x r. is_idle w x r c ≡ true → is_member marks c ≡ true) (λ idle. has.each c (idle_moved s n c s.script net apart idle))

pub quiet_behind : (s l : StageValue) (n k : ℕ) (p q : PeerValue) → IsNet s.net → IsBehind s l n → q ≡ p → channel_acknowledged s.net.channels n ≡ Some k →
    IsQuiet s.net s.script (now_of s) p → IsQuietBut l.net l.script (now_of l) q k
quiet_behind s l n k p q net is same acked quiet =
    subst (λ (x : PeerValue). IsQuietBut l.net l.script (now_of l) x k) (sym same)
    (behind_is s l n is (λ w x r. IsQuietBut w x r p k) (λ c at apart. by_idle c at apart (is_idle s.net s.script (moved s.net (now_of s) n) c) refl))
  where
    same_some : (a b : ℕ) → Some a ≡ Some b → a ≡ b
    same_some a b e = cc

    asked : ℕ → ℕ → Bool → List Note
    asked c at b = if b then answer_on p (slice_get s.net.channels c) at c else []

    by_idle : (c at : ℕ) → c ≢ k → (b : Bool) → is_idle s.net s.script (moved s.net (now_of s) n) c ≡ b →
        asked_under s.net s.script (moved s.net (now_of s) n) p at c ≡ []
    by_idle c at apart false e = ap (asked c at) e
    by_idle c at apart true e =
        let was = idle_moved s n c s.script net (λ found. apart (same_some c k (sym found ∙ acked))) e in
        ap (asked c at) (e ∙ sym was) ∙ quiet c at
