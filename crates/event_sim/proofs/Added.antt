-- A stage on which one more value is offered, or one more acceptance made.
use Rattle.std.proofs.Common.{◌≡◌, ℕ, ◌<◌, ◌≤◌, Bool, true, false, cond, List, ◌∷◌, [], ◌++◌, length, get_or, map, refl, sym, ap, ◌∙◌, arith}
use Rattle.std.specs.Prelude.{Option, Some, None, not, ◌&&◌, nat_le, slice_get, if◌then◌else◌}
use Rattle.std.proofs.lemmas.Bool.{leb-true, and_parts}
use Rattle.std.proofs.lemmas.List.{get_or_default}
use Rattle.std.proofs.lemmas.Option.{slice_get_read}
use Rattle.prs_core.specs.declared.wires.Wires.{Wires}
use Rattle.prs_core.specs.Nets.{NetValue}
use Rattle.prs_core.specs.Moves.{high}
use Rattle.env_script.specs.Scripts.{OfferValue, offer_at}
use Rattle.env_script.specs.Environment.{in_reset}
use Rattle.env_script.specs.Runs.{RunState, completed, move_enabled}
use Rattle.event_sim.specs.Locality.{IndexedValue, has_move, is_ready, is_among, is_member, IsPassing}
use Rattle.event_sim.specs.Standings.{offered_count, is_done, is_low_ack, is_idle, script_and, IsRetestedOn}
use Rattle.event_sim.proofs.Behind.{ready_off, reset_low}
use Rattle.event_sim.proofs.Staged.{passing_same, passing_back}
use Rattle.event_sim.proofs.Asked.{ready_apart}

-- the set of the enabled moves, where the wires of the channel were tested again
pub passing_added : (net : NetValue) (script : List OfferValue) (st : RunState) (done : List ℕ) (chan value : ℕ) (old new : List Bool) →
    done ≡ map (λ (h : List ℕ). length h) st.histories → in_reset net.reset (high st.values) ≡ false → chan < length net.channels →
    IsPassing (length net.first) (move_enabled net script st) old →
    IsRetestedOn (record { net = net; script = script_and chan value script }) done st.values chan old new →
    IsPassing (length net.first) (move_enabled net (script_and chan value script) st) new
passing_added net script st done chan value old new counted off within was is =
    passing_same net (script_and chan value script) st done new counted (reset_low later done st.values new off (record {
      count_is = is.retested.count_is ∙ was.count_is;
      each = λ n less. is.retested.each n (omega (arith, was.count_is)) ∙ by_test n less (is_among (is.wires.rails ++ is.wires.ack ∷ []) n) refl;
    }))
  where
    before : IndexedValue
    before = record { net = net; script = script }

    later : IndexedValue
    later = record { net = net; script = script_and chan value script }

    earlier : IsPassing (length net.first) (has_move net script done st.values) old
    earlier = passing_back net script st done old counted was

    by_test : (n : ℕ) → n < length net.first → (b : Bool) → is_among (is.wires.rails ++ is.wires.ack ∷ []) n ≡ b →
        (if is_among (is.wires.rails ++ is.wires.ack ∷ []) n then is_ready later done st.values n else is_member old n) ≡ is_ready later done st.values n
    by_test n less true e = ap (λ b. cond b (is_ready later done st.values n) (is_member old n)) e
    by_test n less false e =
        ap (λ b. cond b (is_ready later done st.values n) (is_member old n)) e ∙ earlier.each n less ∙ ready_off before done st.values n off
        ∙ sym (ready_apart net script done st.values chan value n is.wires (λ d. get_or_default net.channels chan d is.wires within ∙ sym is.here) e)

-- whether a channel is idle

low_at : (net : NetValue) (v : ℕ → Bool) (chan : ℕ) (w : Wires) → chan < length net.channels → w ≡ get_or net.channels chan w →
    is_low_ack v (slice_get net.channels chan) ≡ not (v w.ack)
low_at net v chan w within here = ap (is_low_ack v) (slice_get_read net.channels (length net.channels) chan w refl within here)

pub idle_some : (net : NetValue) (script : List OfferValue) (st : RunState) (chan k done : ℕ) (w : Wires) → chan < length net.channels →
    w ≡ get_or net.channels chan w → high st.values w.ack ≡ false → Some k ≡ offered_count (offer_at script chan) → done ≡ completed st.histories chan →
    nat_le k done ≡ is_idle net script st chan
idle_some net script st chan k done w within here off some counted =
    ap (nat_le k) counted ∙ ap (λ (o : Option ℕ). is_done o (completed st.histories chan)) some
    ∙ sym (ap (λ (b : Bool). b && is_done (offered_count (offer_at script chan)) (completed st.histories chan))
    (low_at net (high st.values) chan w within here ∙ ap not off))

pub idle_number : (net : NetValue) (script : List OfferValue) (st : RunState) (chan : ℕ) → is_idle net script st chan ≡ true →
    (k : ℕ) × (offered_count (offer_at script chan) ≡ Some k) × (k ≤ completed st.histories chan)
idle_number net script st chan idle = by_number (offered_count (offer_at script chan)) refl (and_parts _ _ idle).1
  where
    by_number : (o : Option ℕ) → offered_count (offer_at script chan) ≡ o
        → is_done (offered_count (offer_at script chan)) (completed st.histories chan) ≡ true →
        (k : ℕ) × (offered_count (offer_at script chan) ≡ Some k) × (k ≤ completed st.histories chan)
    by_number None e d = absurd (cc (ap (λ (o : Option ℕ). is_done o (completed st.histories chan)) (sym e) ∙ d))
    by_number (Some k) e d = (k, e, leb-true k (completed st.histories chan) (ap (λ (o : Option ℕ). is_done o (completed st.histories chan)) (sym e) ∙ d))
