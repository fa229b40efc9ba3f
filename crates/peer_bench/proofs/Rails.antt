-- The rails that are high on an `in` channel bring a value that was offered, as long as the phases are kept; so no channel
-- completes more than was offered.
use Rattle.std.proofs.Common.{◌≡◌, ℕ, zero, suc, ◌<◌, ◌≤◌, Bool, true, false, List, [], ◌∷◌, length, get_or, map, refl, sym, ap, subst, ◌∙◌, inl, inr, arith}
use Rattle.std.specs.Prelude.{◌⊎◌, not, ◌&&◌, ◌||◌, ◌==◌, if◌then◌else◌, All, slice_get, Option, Some, None, option_map, option_and_then, is_some}
use Rattle.std.specs.List.{list_any, list_all, range_with_len}
use Rattle.std.proofs.lemmas.Bool.{eqb-true, eq-eqb, cases_eq, cases_lt, or_cases, or_left, or_right, and_parts, not-true, both_ways, ltb-true}
use Rattle.std.proofs.lemmas.List.{get_or_past, get_or-set_same}
use Rattle.std.proofs.lemmas.List.FromFn.{get_or-map-range_with_len, length-map-range_with_len}
use Rattle.std.proofs.lemmas.Option.{slice_get_within, slice_get_past, get_or_from_slice_get}
use Rattle.chp_base.specs.declared.channel.Kind.{Kind}
use Rattle.chp_base.specs.declared.channel.Kind.TheVariants.{In, Out, Chan}
use Rattle.prs_core.specs.declared.wires.Wires.{Wires}
use Rattle.prs_core.specs.Nets.{NetValue, IsNet, IsChannel, IsUndriven, first_at, up_of, down_of, wires_from_outside}
use Rattle.prs_core.specs.Moves.{high, fired, bit_value, with_bit, rail_value_of, neutral}
use Rattle.reset_net.specs.Resets.{has_rules}
use Rattle.env_script.specs.declared.script.Count.{Count}
use Rattle.env_script.specs.declared.script.Count.TheVariants.{Times}
use Rattle.env_script.specs.Scripts.{OfferValue, gives, takes, nothing, offer_at, is_over, Suits, IsScript}
use Rattle.env_script.specs.Environment.{net_channels, in_reset, offer_moves, raises_next, lowers, valid}
use Rattle.env_script.specs.Phases.{rails_keep, ack_keeps, phases_keep, phase_fault}
use Rattle.env_script.specs.Runs.{RunState, completed, completes, move_enabled, moved}
use Rattle.event_sim.specs.Following.{power_value, power_of}
use Rattle.event_sim.specs.Locality.{is_wire}
use Rattle.event_sim.specs.Passing.{channel_acknowledged, completed_on, completion}
use Rattle.event_sim.specs.Stages.{StageValue, now_of}
use Rattle.event_sim.specs.Standings.{offered_count}
use Rattle.event_sim.proofs.HomeLemmas.{breaks_there}
use Rattle.event_sim.proofs.Near.{fired_agree}
use Rattle.peer_bench.specs.Steps.{AreOffered, AreRailsHeld}
use Rattle.peer_bench.proofs.Counting.{counts_none, counts_here, counts_elsewhere}
use Rattle.peer_bench.proofs.Outside.{IsFromOutside, among, wire_low, home_of, from_outside, reset_stays_low}

-- the wires at a place

pub at_place : (ws : List Wires) (c : ℕ) (w : Wires) → slice_get ws c ≡ Some w → w ≡ get_or ws c w
at_place ws c w here = sym (get_or_from_slice_get ws c w w here)

pub channel_at : (net : NetValue) (c : ℕ) (w : Wires) → IsNet net → slice_get net.channels c ≡ Some w → IsChannel net w
channel_at net c w is here =
    subst (λ (x : Wires). IsChannel net x) (sym (at_place net.channels c w here)) (is.channels c w (slice_get_within net.channels c w here))

pub rail_wire : (w : Wires) (r : ℕ) → list_any (λ rail. r == rail) w.rails ≡ true → is_wire w r ≡ true
rail_wire w r found = or_right (r == w.ack) _ found

pub ack_wire : (w : Wires) (n : ℕ) → n ≡ w.ack → is_wire w n ≡ true
ack_wire w n same = or_left (n == w.ack) _ (eq-eqb n w.ack same)

pub rail_undriven : (net : NetValue) (w : Wires) (r : ℕ) → IsChannel net w → w.channel.kind ≡ In →
    list_any (λ rail. r == rail) w.rails ≡ true → IsUndriven net r
rail_undriven net w r is kind found =
    among (IsUndriven net) r w.rails (subst (λ (k : Kind). All (IsUndriven net) (wires_from_outside k w.rails w.ack)) kind is.outside) found

pub ack_undriven : (net : NetValue) (w : Wires) → IsChannel net w → w.channel.kind ≡ Out → IsUndriven net w.ack
ack_undriven net w is kind =
    subst (λ (k : Kind). All (IsUndriven net) (wires_from_outside k w.rails w.ack)) kind is.outside 0 0 (omega arith)

-- the environment moves a rail of an `in` channel only outside of a reset, as the offer says
rail_moves : (net : NetValue) (script : List OfferValue) (st : RunState) (n c : ℕ) (w : Wires) → IsNet net → slice_get net.channels c ≡ Some w →
    w.channel.kind ≡ In → list_any (λ rail. n == rail) w.rails ≡ true → move_enabled net script st n ≡ true → IsFromOutside net script st n c w
rail_moves net script st n c w is here kind found enabled =
    from_outside net script st n c w is (slice_get_within net.channels c w here) (at_place net.channels c w here) (rail_wire w n found)
    (rail_undriven net w n (channel_at net c w is here) kind found) enabled

-- a rail rises only for a value that is next

pub next_value : (v : ℕ → Bool) (xs : List ℕ) (done n : ℕ) (rails : List ℕ) → raises_next v (slice_get xs done) rails n ≡ true → done < length xs
next_value v xs done n rails raises = by_order (cases_lt done (length xs))
  where
    by_order : (done < length xs) ⊎ (length xs ≤ done) → done < length xs
    by_order (inl less) = less
    by_order (inr past) = absurd (cc (sym (ap (λ (o : Option ℕ). raises_next v o rails n) (slice_get_past xs done past)) ∙ raises))

pub when_low : {A : Type 0} (b : Bool) (x y : A) → b ≡ false → (if b then x else y) ≡ y
when_low true x y low = absurd (cc low)
when_low false x y low = refl

when_high : {A : Type 0} (b : Bool) (x y : A) → b ≡ true → (if b then x else y) ≡ x
when_high true x y up = refl
when_high false x y up = absurd (cc up)

same_number : (a b : ℕ) → Some a ≡ Some b → a ≡ b
same_number a b e = cc

rises_for : (v : ℕ → Bool) (w : Wires) (o : OfferValue) (done n m : ℕ) → v w.ack ≡ false → (n ≡ w.ack → ⊥) → offer_moves v w o done n ≡ true →
    offered_count o ≡ Some m → done < m
rises_for v w (gives xs) done n m low apart moves number =
    let less = next_value v xs done n w.rails (sym (when_low (v w.ack) (lowers v w.rails n) (raises_next v (slice_get xs done) w.rails n) low) ∙ moves) in
    let same = same_number (length xs) m number in
    omega arith
rises_for v w (takes count) done n m low apart moves number = absurd (apart (eqb-true n w.ack (and_parts (n == w.ack) _ moves).0))
rises_for v w nothing done n m low apart moves number = absurd (cc number)

neutral_low : (v : ℕ → Bool) (rails : List ℕ) (r : ℕ) → neutral v rails ≡ true → list_any (λ rail. r == rail) rails ≡ true → v r ≡ false
neutral_low v [] r all found = absurd (cc found)
neutral_low v (t ∷ rails) r all found =
    by_case (or_cases (r == t) (list_any (λ rail. r == rail) rails) found) (λ there. neutral_low v rails r parts.1 there)
  where
    parts : (not (v t) ≡ true) × (list_all (λ rail. not (v rail)) rails ≡ true)
    parts = and_parts (not (v t)) (list_all (λ rail. not (v rail)) rails) all

    by_case : ((r == t) ≡ true) ⊎ (list_any (λ rail. r == rail) rails ≡ true) → (list_any (λ rail. r == rail) rails ≡ true → v r ≡ false) → v r ≡ false
    by_case (inl here) later = ap v (eqb-true r t here) ∙ not-true (v t) parts.0
    by_case (inr there) later = later there

-- a move that breaks no phases, on a channel of which the node is the acknowledge, which falls
falls_neutral : (net : NetValue) (v : ℕ → Bool) (n c : ℕ) (w : Wires) → IsNet net → slice_get net.channels c ≡ Some w → in_reset net.reset v ≡ false →
    phase_fault net v n ≡ None → n ≡ w.ack → v w.ack ≡ true → neutral v w.rails ≡ true
falls_neutral net v n c w is here off calm same up = by_keeps (phases_keep v w n) refl
  where
    keeps_ack : phases_keep v w n ≡ true → neutral v w.rails ≡ true
    keeps_ack keeps =
        by_either (or_cases (not (n == w.ack)) (ack_keeps v w.ack w.rails)
        (and_parts (rails_keep v w.ack w.rails n) (not (n == w.ack) || ack_keeps v w.ack w.rails) keeps).1)
      where
        by_either : (not (n == w.ack) ≡ true) ⊎ (ack_keeps v w.ack w.rails ≡ true) → neutral v w.rails ≡ true
        by_either (inl other) = absurd (both_ways (n == w.ack) (not-true (n == w.ack) other) (eq-eqb n w.ack same))
        by_either (inr ack) = sym (when_high (v w.ack) (neutral v w.rails) (valid v w.rails) up) ∙ ack

    by_keeps : (b : Bool) → phases_keep v w n ≡ b → neutral v w.rails ≡ true
    by_keeps true keeps = keeps_ack keeps
    by_keeps false breaks =
        let fault : Some c ≡ phase_fault net v n = breaks_there net v n c w
        (home_of net n c w is (slice_get_within net.channels c w here) (at_place net.channels c w here) (ack_wire w n same)) off
        (at_place net.channels c w here) breaks in
        absurd (cc (fault ∙ calm))

-- what a move completes

pub record CompletesOn (net : NetValue) (v : ℕ → Bool) (n : ℕ) (p : ℕ × ℕ) : Type 0 where
  pub wires : Wires
  pub here : slice_get net.channels p.0 ≡ Some wires
  pub found : channel_acknowledged net.channels n ≡ Some p.0
  pub off : in_reset net.reset v ≡ false
  pub ack : n ≡ wires.ack
  pub low : v n ≡ false
  pub value : rail_value_of v wires.rails ≡ Some p.1

pub completes_on : (net : NetValue) (v : ℕ → Bool) (n : ℕ) (p : ℕ × ℕ) → completion net v n ≡ Some p → CompletesOn net v n p
completes_on net v n p some = by_reset (in_reset net.reset v) refl (channel_acknowledged net.channels n) refl some
  where
    same_pair : (a b : ℕ × ℕ) → Some a ≡ Some b → a ≡ b
    same_pair a b e = cc

    by_wires : (k : ℕ) → in_reset net.reset v ≡ false → channel_acknowledged net.channels n ≡ Some k → (o : Option Wires) → slice_get net.channels k ≡ o →
        option_map (λ value. (k, value)) (option_and_then (λ (w : Wires). completes v w n) o) ≡ Some p → CompletesOn net v n p
    by_wires k off found None here e = absurd (cc e)
    by_wires k off found (Some w) here e = by_test ((n == w.ack) && not (v n)) refl (rail_value_of v w.rails) refl e
      where
        by_test : (b : Bool) → ((n == w.ack) && not (v n)) ≡ b → (o : Option ℕ) → rail_value_of v w.rails ≡ o →
            option_map (λ value. (k, value)) (if b then o else None) ≡ Some p → CompletesOn net v n p
        by_test false test o is e = absurd (cc e)
        by_test true test None is e = absurd (cc e)
        by_test true test (Some value) is e =
            let pair : (k, value) ≡ p = same_pair (k, value) p e in
            let parts = and_parts (n == w.ack) (not (v n)) test in
            record {
              wires = w;
              here = ap (slice_get net.channels) (sym (ap (λ (q : ℕ × ℕ). q.0) pair)) ∙ here;
              found = found ∙ ap (λ (q : ℕ × ℕ). Some q.0) pair;
              off = off;
              ack = eqb-true n w.ack parts.0;
              low = not-true (v n) parts.1;
              value = is ∙ ap (λ (q : ℕ × ℕ). Some q.1) pair;
            }

    by_reset : (b : Bool) → in_reset net.reset v ≡ b → (o : Option ℕ) → channel_acknowledged net.channels n ≡ o →
        (if b then None else option_and_then (λ c. option_map (λ value. (c, value)) (completed_on v net.channels n c)) o) ≡ Some p → CompletesOn net v n p
    by_reset true on o found e = absurd (cc e)
    by_reset false off None found e = absurd (cc e)
    by_reset false off (Some k) found e = by_wires k off found (slice_get net.channels k) refl e

-- the count of a channel whose acknowledge isn't the node stays
pub count_stays : (s : StageValue) (n c : ℕ) (w : Wires) → IsNet s.net → slice_get s.net.channels c ≡ Some w → (n ≡ w.ack → ⊥) →
    completed (moved s.net (now_of s) n).histories c ≡ completed (now_of s).histories c
count_stays s n c w net here apart = by_completion (completion s.net (high s.values) n) refl
  where
    same_wires : (a b : Wires) → Some a ≡ Some b → a ≡ b
    same_wires a b e = cc

    by_place : (p : ℕ × ℕ) → completion s.net (high s.values) n ≡ Some p → (p.0 ≡ c) ⊎ (p.0 ≡ c → ⊥) →
        completed (moved s.net (now_of s) n).histories c ≡ completed (now_of s).histories c
    by_place p some (inl same) =
        let on = completes_on s.net (high s.values) n p some in
        let wires : on.wires ≡ w = same_wires on.wires w (sym on.here ∙ ap (slice_get s.net.channels) same ∙ here) in
        absurd (apart (on.ack ∙ ap (λ (x : Wires). x.ack) wires))
    by_place p some (inr other) = counts_elsewhere s n p net some c other

    by_completion : (o : Option (ℕ × ℕ)) → completion s.net (high s.values) n ≡ o →
        completed (moved s.net (now_of s) n).histories c ≡ completed (now_of s).histories c
    by_completion None none = counts_none s n net none c
    by_completion (Some p) some = by_place p some (cases_eq p.0 c)

-- through a move that keeps the phases

pub turned : (values : List Bool) (n : ℕ) → n < length values → high (fired values n) n ≡ not (high values n)
turned values n within = get_or-set_same values n (not (high values n)) false within

pub rails_moved : (s : StageValue) (n : ℕ) (script : List OfferValue) → IsNet s.net → length s.values ≡ length s.net.first →
    move_enabled s.net script (now_of s) n ≡ true → phase_fault s.net (high s.values) n ≡ None → AreRailsHeld s.net script (now_of s) →
    AreRailsHeld s.net script (moved s.net (now_of s) n)
rails_moved s n script net whole enabled calm held = record {
  low = λ on c r w here kind found. low_behind on c r w here kind found (cases_eq r n) (in_reset s.net.reset v) refl;
  brings = λ c m r w here kind low found up number. by_reset c m r w here kind low found up number (in_reset s.net.reset v) refl;
}
  where
    v : ℕ → Bool
    v = high s.values

    u : ℕ → Bool
    u = high (fired s.values n)

    outside : (c r : ℕ) (w : Wires) → slice_get s.net.channels c ≡ Some w → w.channel.kind ≡ In → list_any (λ rail. r == rail) w.rails ≡ true → r ≡ n →
        IsFromOutside s.net script (now_of s) n c w
    outside c r w here kind found same =
        rail_moves s.net script (now_of s) n c w net here kind (subst (λ k. list_any (λ rail. k == rail) w.rails ≡ true) same found) enabled

    low_behind : in_reset s.net.reset u ≡ true → (c r : ℕ) (w : Wires) → slice_get s.net.channels c ≡ Some w → w.channel.kind ≡ In →
        list_any (λ rail. r == rail) w.rails ≡ true → (r ≡ n) ⊎ (r ≡ n → ⊥) → (b : Bool) → in_reset s.net.reset v ≡ b → u r ≡ false
    low_behind on c r w here kind found place false off =
        absurd (both_ways (in_reset s.net.reset u) (reset_stays_low s.net script (now_of s) n net enabled off) on)
    low_behind on c r w here kind found (inl same) true was =
        absurd (both_ways (in_reset s.net.reset v) (outside c r w here kind found same).low was)
    low_behind on c r w here kind found (inr apart) true was = fired_agree s.values n r apart ∙ held.low was c r w here kind found

    by_reset : (c m r : ℕ) (w : Wires) → slice_get s.net.channels c ≡ Some w → w.channel.kind ≡ In → u w.ack ≡ false →
        list_any (λ rail. r == rail) w.rails ≡ true → u r ≡ true → offered_count (offer_at script c) ≡ Some m → (b : Bool) → in_reset s.net.reset v ≡ b →
        completed (moved s.net (now_of s) n).histories c < m
    by_reset c m r w here kind low found up number true on = by_place (cases_eq r n)
      where
        by_place : (r ≡ n) ⊎ (r ≡ n → ⊥) → completed (moved s.net (now_of s) n).histories c < m
        by_place (inl same) = absurd (both_ways (in_reset s.net.reset v) (outside c r w here kind found same).low on)
        by_place (inr apart) = absurd (both_ways (u r) (fired_agree s.values n r apart ∙ held.low on c r w here kind found) up)
    by_reset c m r w here kind low found up number false off = by_ack (cases_eq n w.ack)
      where
        was_low : v r ≡ false → u r ≡ true → r ≡ n
        was_low down risen = by_place (cases_eq r n)
          where
            by_place : (r ≡ n) ⊎ (r ≡ n → ⊥) → r ≡ n
            by_place (inl same) = same
            by_place (inr apart) = absurd (both_ways (u r) (fired_agree s.values n r apart ∙ down) risen)

        ack_falls : n ≡ w.ack → (b : Bool) → v w.ack ≡ b → completed (moved s.net (now_of s) n).histories c < m
        ack_falls same false down =
            let within : n < length s.values = omega (arith, (channel_at s.net c w net here).ack_within) in
            absurd (both_ways (u n) (ap u same ∙ low) (turned s.values n within ∙ ap not (ap v same ∙ down)))
        ack_falls same true was_up =
            let down = neutral_low v w.rails r (falls_neutral s.net v n c w net here off calm same was_up) found in
            absurd (both_ways (v r) down (ap v (was_low down up ∙ same) ∙ was_up))

        others : (n ≡ w.ack → ⊥) → completed (now_of s).histories c < m
        others apart = by_place (cases_eq r n)
          where
            ack_low : v w.ack ≡ false
            ack_low = sym (fired_agree s.values n w.ack (λ e. apart (sym e))) ∙ low

            by_place : (r ≡ n) ⊎ (r ≡ n → ⊥) → completed (now_of s).histories c < m
            by_place (inl same) =
                rises_for v w (offer_at script c) (completed (now_of s).histories c) n m ack_low apart (outside c r w here kind found same).offers number
            by_place (inr other) = held.brings c m r w here kind ack_low found (sym (fired_agree s.values n r other) ∙ up) number

        by_ack : (n ≡ w.ack) ⊎ (n ≡ w.ack → ⊥) → completed (moved s.net (now_of s) n).histories c < m
        by_ack (inl same) = ack_falls same (v w.ack) refl
        by_ack (inr apart) = let less = others apart in let same = count_stays s n c w net here apart in omega arith

-- no channel completes more than was offered

some_high : (v : ℕ → Bool) (value : ℕ) (rails : List ℕ) → 1 ≤ length rails → rail_value_of v rails ≡ Some value →
    (r : ℕ) × (list_any (λ rail. r == rail) rails ≡ true) × (v r ≡ true)
some_high v value [] some is = absurd (omega arith)
some_high v value (t ∷ []) some is = absurd (cc is)
some_high v value (t ∷ f ∷ rest) some is = by_bits (v t) (v f) refl refl is
  where
    by_bits : (a b : Bool) → v t ≡ a → v f ≡ b → with_bit (bit_value a b) (rail_value_of v rest) ≡ Some value →
        (r : ℕ) × (list_any (λ rail. r == rail) (t ∷ f ∷ rest) ≡ true) × (v r ≡ true)
    by_bits true b one two e = (t, or_left (t == t) _ (eq-eqb t t refl), one)
    by_bits false true one two e = (f, or_right (f == t) _ (or_left (f == f) _ (eq-eqb f f refl)), two)
    by_bits false false one two e = absurd (cc e)

pub suits_at : (ws : List Wires) (script : List OfferValue) (c : ℕ) (w : Wires) → IsScript (map (λ (x : Wires). x.channel) ws) script →
    slice_get ws c ≡ Some w → Suits w.channel.kind w.channel.width (offer_at script c)
suits_at [] script c w is here = absurd (cc here)
suits_at (x ∷ ws) [] c w is here = absurd is
suits_at (x ∷ ws) (o ∷ os) zero w is here = subst (λ (y : Wires). Suits y.channel.kind y.channel.width o) (same_wires x w here) is.0
  where
    same_wires : (a b : Wires) → Some a ≡ Some b → a ≡ b
    same_wires a b e = cc
suits_at (x ∷ ws) (o ∷ os) (suc c) w is here = suits_at ws os c w is.1 here

no_number : (o : OfferValue) (width m : ℕ) → Suits Chan width o → offered_count o ≡ Some m → ⊥
no_number (gives xs) width m suits number = suits
no_number (takes count) width m suits number = suits
no_number nothing width m suits number = cc number

receives_for : (v : ℕ → Bool) (w : Wires) (o : OfferValue) (done n m : ℕ) → v w.ack ≡ false → offer_moves v w o done n ≡ true →
    offered_count o ≡ Some m → done < m
receives_for v w (gives xs) done n m low moves number =
    let less = next_value v xs done n w.rails (sym (when_low (v w.ack) (lowers v w.rails n) (raises_next v (slice_get xs done) w.rails n) low) ∙ moves) in
    let same = same_number (length xs) m number in
    omega arith
receives_for v w (takes Count.All) done n m low moves number = absurd (cc number)
receives_for v w (takes (Times k)) done n m low moves number =
    let more = (and_parts (n == w.ack) (if v w.ack then neutral v w.rails else valid v w.rails && is_over (Times k) done) moves).1 in
    let less = ltb-true done k (and_parts (valid v w.rails) (is_over (Times k) done)
    (sym (when_low (v w.ack) (neutral v w.rails) (valid v w.rails && is_over (Times k) done) low) ∙ more)).1 in
    let same = same_number k m number in
    omega arith
receives_for v w nothing done n m low moves number = absurd (cc number)

completes_next : (s : StageValue) (n m : ℕ) (script : List OfferValue) (p : ℕ × ℕ) → IsNet s.net → IsScript (net_channels s.net) script →
    move_enabled s.net script (now_of s) n ≡ true → AreRailsHeld s.net script (now_of s) → CompletesOn s.net (high s.values) n p →
    offered_count (offer_at script p.0) ≡ Some m → completed (now_of s).histories p.0 < m
completes_next s n m script p net suits enabled held on number = by_kind w.channel.kind refl
  where
    w : Wires
    w = on.wires

    channel : IsChannel s.net w
    channel = channel_at s.net p.0 w net on.here

    ack_low : high s.values w.ack ≡ false
    ack_low = sym (ap (high s.values) on.ack) ∙ on.low

    by_kind : (kind : Kind) → w.channel.kind ≡ kind → completed (now_of s).histories p.0 < m
    by_kind In kind =
        let rail = some_high (high s.values) p.1 w.rails (omega (arith, channel.count, channel.some)) on.value in
        held.brings p.0 m rail.0 w on.here kind ack_low rail.1 rail.2 number
    by_kind Out kind =
        let moves = from_outside s.net script (now_of s) n p.0 w net (slice_get_within s.net.channels p.0 w on.here) (at_place s.net.channels p.0 w on.here)
        (ack_wire w n on.ack) (subst (λ k. IsUndriven s.net k) (sym on.ack) (ack_undriven s.net w channel kind)) enabled in
        receives_for (high s.values) w (offer_at script p.0) (completed (now_of s).histories p.0) n m ack_low moves.offers number
    by_kind Chan kind =
        absurd (no_number (offer_at script p.0) w.channel.width m
        (subst (λ (k : Kind). Suits k w.channel.width (offer_at script p.0)) kind (suits_at s.net.channels script p.0 w suits on.here)) number)

pub offered_moved : (s : StageValue) (n : ℕ) (script : List OfferValue) → IsNet s.net → IsScript (net_channels s.net) script →
    move_enabled s.net script (now_of s) n ≡ true → AreRailsHeld s.net script (now_of s) → AreOffered script (now_of s) →
    AreOffered script (moved s.net (now_of s) n)
offered_moved s n script net suits enabled held offered = λ c m number. by_completion c m number (completion s.net (high s.values) n) refl
  where
    by_place : (c m : ℕ) (p : ℕ × ℕ) → offered_count (offer_at script c) ≡ Some m → completion s.net (high s.values) n ≡ Some p → (p.0 ≡ c) ⊎ (p.0 ≡ c → ⊥) →
        completed (moved s.net (now_of s) n).histories c ≤ m
    by_place c m p number some (inl same) =
        let next = completes_next s n m script p net suits enabled held (completes_on s.net (high s.values) n p some)
        (ap (λ k. offered_count (offer_at script k)) same ∙ number) in
        let one = counts_here s n p net some in
        let behind : completed (moved s.net (now_of s) n).histories p.0 ≡ completed (moved s.net (now_of s) n).histories c =
        ap (completed (moved s.net (now_of s) n).histories) same in
        omega arith
    by_place c m p number some (inr apart) =
        let few = offered c m number in
        let same = counts_elsewhere s n p net some c apart in
        omega arith

    by_completion : (c m : ℕ) → offered_count (offer_at script c) ≡ Some m → (o : Option (ℕ × ℕ)) → completion s.net (high s.values) n ≡ o →
        completed (moved s.net (now_of s) n).histories c ≤ m
    by_completion c m number None none =
        let few = offered c m number in
        let same = counts_none s n net none c in
        omega arith
    by_completion c m number (Some p) some = by_place c m p number some (cases_eq p.0 c)

-- where a bench begins the rails are low

power_low : (net : NetValue) (r : ℕ) → first_at net r ≡ false → high (power_of net false) r ≡ false
power_low net r low = by_reset (is_some net.reset)
  where
    with_rules : (b : Bool) → (if b then false else first_at net r) ≡ false
    with_rules true = refl
    with_rules false = low

    by_place : (r < length net.first) ⊎ (length net.first ≤ r) → high (map (power_value net false) (range_with_len 0 (length net.first))) r ≡ false
    by_place (inl within) =
        get_or-map-range_with_len (power_value net false) 0 (length net.first) r r false within (omega arith)
        ∙ with_rules (has_rules (up_of net r) (down_of net r))
    by_place (inr past) =
        get_or_past (map (power_value net false) (range_with_len 0 (length net.first))) r false
        (omega (arith, length-map-range_with_len (power_value net false) 0 (length net.first)))

    by_reset : (b : Bool) → high (if b then map (power_value net false) (range_with_len 0 (length net.first)) else net.first) r ≡ false
    by_reset true = by_place (cases_lt r (length net.first))
    by_reset false = low

pub rails_first : (net : NetValue) (script : List OfferValue) (st : RunState) → IsNet net → st.values ≡ power_of net false → AreRailsHeld net script st
rails_first net script st is begun = record {
  low = λ on c r w here kind found. down c r w here found;
  brings = λ c m r w here kind low found up number. absurd (both_ways (high st.values r) (down c r w here found) up);
}
  where
    down : (c r : ℕ) (w : Wires) → slice_get net.channels c ≡ Some w → list_any (λ rail. r == rail) w.rails ≡ true → high st.values r ≡ false
    down c r w here found =
        ap (λ (vs : List Bool). high vs r) begun ∙ power_low net r (wire_low net w r (channel_at net c w is here) (rail_wire w r found))

-- a script of which the numbers are at least as large
pub rails_grow : (net : NetValue) (script later : List OfferValue) (st : RunState) →
    ((c n : ℕ) → offered_count (offer_at later c) ≡ Some n → (k : ℕ) × (offered_count (offer_at script c) ≡ Some k) × (k ≤ n)) → AreRailsHeld net script st →
    AreRailsHeld net later st
rails_grow net script later st grows held = record {
  low = held.low;
  brings = λ c n r w here kind low found up number. let was = grows c n number in
      let less = held.brings c was.0 r w here kind low found up was.1 in omega arith;
}
