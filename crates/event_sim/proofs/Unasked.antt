-- The environment moves no node that reads another one.
use Rattle.std.proofs.Common.{◌≡◌, ℕ, zero, suc, ◌+◌, ◌<◌, Bool, true, false, List, [], ◌∷◌, length, get_or, map, refl, sym, ap, subst, inl, inr, arith}
use Rattle.std.specs.Prelude.{◌⊎◌, ◌==◌, All, slice_index}
use Rattle.std.specs.List.{list_any, range_with_len}
use Rattle.std.proofs.lemmas.Bool.{eqb-true, or_cases, or_from, and_left, and_right, both_ways}
use Rattle.std.proofs.lemmas.List.Elements.{All-tail, All-head, filter_passes}
use Rattle.chp_base.specs.declared.channel.Kind.{Kind}
use Rattle.chp_base.specs.declared.channel.Kind.TheVariants.{In, Out, Chan}
use Rattle.prs_core.specs.declared.wires.Wires.{Wires}
use Rattle.prs_core.specs.Nets.{NetValue, IsNet, IsChannel, IsUndriven, wires_from_outside}
use Rattle.prs_core.specs.Moves.{high}
use Rattle.prs_core.specs.Fans.{guard_names, is_reader, readers_below}
use Rattle.env_script.specs.Scripts.{OfferValue, gives, takes, nothing, offer_at, Suits, IsScript}
use Rattle.env_script.specs.Environment.{net_channels, raises_go, offer_moves}
use Rattle.event_sim.specs.Locality.{IndexedValue, is_asked}
use Rattle.event_sim.proofs.Near.{not_sent}
use Rattle.event_sim.proofs.HomeLemmas.{channels_none}

reader_driven : (net : NetValue) (n m : ℕ) → is_reader net n m ≡ true → IsUndriven net m → ⊥
reader_driven net n m reads undriven =
    both_ways (is_reader net n m) (or_from _ _ (ap (guard_names n) undriven.up) (ap (guard_names n) undriven.down)) reads

suits_at : (ws : List Wires) (script : List OfferValue) → IsScript (map (λ (w : Wires). w.channel) ws) script → (k : ℕ) (d : Wires) → k < length ws →
    Suits (get_or ws k d).channel.kind (get_or ws k d).channel.width (offer_at script k)
suits_at [] script is k d within = absurd (omega arith)
suits_at (w ∷ ws) [] is k d within = absurd is
suits_at (w ∷ ws) (o ∷ os) is zero d within = is.0
suits_at (w ∷ ws) (o ∷ os) is (suc k) d within = suits_at ws os is.1 k d (omega arith)

rail_undriven : (net : NetValue) (m : ℕ) (rails : List ℕ) → All (IsUndriven net) rails → list_any (λ rail. m == rail) rails ≡ true → IsUndriven net m
rail_undriven net m [] all among = absurd (cc among)
rail_undriven net m (r ∷ rails) all among =
    by_case (or_cases (m == r) (list_any (λ rail. m == rail) rails) among)
    (λ later. rail_undriven net m rails (All-tail (IsUndriven net) r rails all) later)
  where
    by_case : ((m == r) ≡ true) ⊎ (list_any (λ rail. m == rail) rails ≡ true) → (list_any (λ rail. m == rail) rails ≡ true → IsUndriven net m) →
        IsUndriven net m
    by_case (inl here) later = subst (IsUndriven net) (sym (eqb-true m r here)) (All-head (IsUndriven net) r rails all)
    by_case (inr there) later = later there

-- no channel's offer does
not_by : (net : NetValue) (v : ℕ → Bool) (w : Wires) (offer : OfferValue) (done m : ℕ) → IsChannel net w → Suits w.channel.kind w.channel.width offer →
    (IsUndriven net m → ⊥) → offer_moves v w offer done m ≡ false
not_by net v w offer done m is suits driven = by_kind w.channel.kind offer is.outside suits
  where
    given : (values : List ℕ) → All (IsUndriven net) w.rails → (b : Bool) → list_any (λ rail. m == rail) w.rails ≡ b →
        offer_moves v w (gives values) done m ≡ false
    given values outside true among = absurd (driven (rail_undriven net m w.rails outside among))
    given values outside false apart = not_sent v w values done m apart

    by_kind : (kind : Kind) (o : OfferValue) → All (IsUndriven net) (wires_from_outside kind w.rails w.ack) → Suits kind w.channel.width o →
        offer_moves v w o done m ≡ false
    by_kind In (gives values) outside fits = given values outside (list_any (λ rail. m == rail) w.rails) refl
    by_kind In (takes count) outside fits = absurd fits
    by_kind In nothing outside fits = refl
    by_kind Out (gives values) outside fits = absurd fits
    by_kind Out (takes count) outside fits = by_ack (m == w.ack) refl
      where
        by_ack : (b : Bool) → (m == w.ack) ≡ b → offer_moves v w (takes count) done m ≡ false
        by_ack true here = absurd (driven (subst (IsUndriven net) (sym (eqb-true m w.ack here)) (All-head (IsUndriven net) w.ack [] outside)))
        by_ack false apart = and_left _ _ apart
    by_kind Out nothing outside fits = refl
    by_kind Chan (gives values) outside fits = absurd fits
    by_kind Chan (takes count) outside fits = absurd fits
    by_kind Chan nothing outside fits = refl

unasked : (x : IndexedValue) (done : List ℕ) (values : List Bool) (n m : ℕ) → IsNet x.net → IsScript (net_channels x.net) x.script →
    is_reader x.net n m ≡ true → is_asked x done values m ≡ false
unasked x done values n m is script reads =
    and_right _ _ (or_from _ _ (not_go (m == 0) refl)
    (channels_none (high values) (offer_at x.script) (slice_index done) m 0 x.net.channels each))
  where
    not_go : (b : Bool) → (m == 0) ≡ b → raises_go (high values) m ≡ false
    not_go true here = absurd (reader_driven x.net n m reads (subst (IsUndriven x.net) (sym (eqb-true m 0 here)) is.go_undriven))
    not_go false apart = and_left _ _ apart

    each : (k : ℕ) (d : Wires) → k < length x.net.channels →
        offer_moves (high values) (get_or x.net.channels k d) (offer_at x.script (0 + k)) (slice_index done (0 + k)) m ≡ false
    each k d less =
        let same : 0 + k ≡ k = omega arith in
        not_by x.net (high values) (get_or x.net.channels k d) (offer_at x.script (0 + k)) (slice_index done (0 + k)) m (is.channels k d less)
        (subst (λ i. Suits (get_or x.net.channels k d).channel.kind (get_or x.net.channels k d).channel.width (offer_at x.script i)) (sym same)
        (suits_at x.net.channels x.script script k d less))
        (reader_driven x.net n m reads)

pub readers_unasked : (x : IndexedValue) (done : List ℕ) (values : List Bool) (n : ℕ) → IsNet x.net → IsScript (net_channels x.net) x.script →
    All (λ m. is_asked x done values m ≡ false) (readers_below x.net (length x.net.first) n)
readers_unasked x done values n is script = λ k d within.
    unasked x done values n _ is script (filter_passes (is_reader x.net n) (range_with_len 0 (length x.net.first)) k d within)
