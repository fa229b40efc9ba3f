-- A move that is safe under the script of all notes is safe under the script of its moment.
use Rattle.std.proofs.Common.{◌≡◌, ◌≢◌, ℕ, suc, ◌+◌, ◌/◌, ◌<◌, Bool, true, false, List, [], ◌∷◌, ◌++◌, length, refl, sym, ap, subst, ◌∙◌, inl, inr, arith}
use Rattle.std.specs.Prelude.{◌⊎◌, not, ◌&&◌, ◌||◌, ◌==◌, if◌then◌else◌, slice_get, Option, Some, None}
use Rattle.std.specs.List.{list_any}
use Rattle.std.proofs.lemmas.Bool.{eqb-true, ne_eqb, cases_eq, or_cases, or_left, or_right, and_parts, and_from, not-true, both_ways}
use Rattle.std.proofs.lemmas.List.{length-set}
use Rattle.std.proofs.lemmas.Option.{slice_get_within}
use Rattle.chp_base.specs.declared.channel.Kind.{Kind}
use Rattle.chp_base.specs.declared.channel.Kind.TheVariants.{In, Out, Chan}
use Rattle.prs_core.specs.declared.wires.Wires.{Wires}
use Rattle.prs_core.specs.Nets.{NetValue, IsNet, IsUndriven}
use Rattle.prs_core.specs.Moves.{high, fired, rule_enabled, neutral}
use Rattle.env_script.specs.Scripts.{OfferValue, gives, takes, nothing, offer_at, is_over}
use Rattle.env_script.specs.Environment.{in_reset, is_reset, rules_rest, is_odd, raises_bit, raises_value, raises_next, lowers, valid, raises_go, offer_moves, channels_move}
use Rattle.env_script.specs.Runs.{RunState, IsSafeMove, moved, after, move_enabled, completed, with_values}
use Rattle.event_sim.specs.Locality.{is_wire}
use Rattle.event_sim.proofs.HomeLemmas.{offered_there}
use Rattle.event_sim.proofs.Near.{counts_kept, fired_agree}
use Rattle.peer_bench.specs.declared.note.Note.{Note}
use Rattle.peer_bench.specs.Growing.{offer_by, offer_on, script_by}
use Rattle.peer_bench.proofs.Liking.{script_at}
use Rattle.peer_bench.proofs.Outside.{home_of, from_outside}
use Rattle.peer_bench.proofs.Rails.{at_place, channel_at, rail_wire, ack_wire, rail_undriven, ack_undriven, next_value, turned}
use Rattle.peer_bench.proofs.Rising.{Grows, script_grows, front_get, enabled_grows}

-- a state has a value for each node and a history for each channel

pub record IsWhole (net : NetValue) (st : RunState) : Type 0 where
  pub values : length st.values ≡ length net.first
  pub histories : length st.histories ≡ length net.channels

with_length : (v : ℕ → Bool) (n : ℕ) (ws : List Wires) (hs : List (List ℕ)) → length hs ≡ length ws → length (with_values v n ws hs) ≡ length ws
with_length v n [] hs same = same
with_length v n (w ∷ ws) [] same = same
with_length v n (w ∷ ws) (h ∷ hs) same = ap suc (with_length v n ws hs (omega arith))

pub whole_moved : (net : NetValue) (st : RunState) (n : ℕ) → IsWhole net st → IsWhole net (moved net st n)
whole_moved net st n is = record {
  values = length-set st.values n (not (high st.values n)) ∙ is.values;
  histories = by_reset (in_reset net.reset (high st.values));
}
  where
    by_reset : (b : Bool) → length (if b then st.histories else with_values (high st.values) n net.channels st.histories) ≡ length net.channels
    by_reset true = is.histories
    by_reset false = with_length (high st.values) n net.channels st.histories is.histories

pub whole_after : (net : NetValue) (st : RunState) (ns : List ℕ) → IsWhole net st → IsWhole net (after net st ns)
whole_after net st [] is = is
whole_after net st (n ∷ ns) is = whole_after net (moved net st n) ns (whole_moved net st n is)

-- who moves a wire for a channel

some_channel : (v : ℕ → Bool) (script : ℕ → OfferValue) (done : ℕ → ℕ) (c : ℕ) (ws : List Wires) (m : ℕ) → channels_move v script done c ws m ≡ true →
    (i : ℕ) × ((w : Wires) × (slice_get ws i ≡ Some w) × (offer_moves v w (script (c + i)) (done (c + i)) m ≡ true))
some_channel v script done c [] m moves = absurd (cc moves)
some_channel v script done c (w ∷ ws) m moves =
    by_case (or_cases (offer_moves v w (script c) (done c) m) (channels_move v script done (suc c) ws m) moves)
    (λ there. some_channel v script done (suc c) ws m there)
  where
    by_case : (offer_moves v w (script c) (done c) m ≡ true) ⊎ (channels_move v script done (suc c) ws m ≡ true) →
        (channels_move v script done (suc c) ws m ≡ true →
        (i : ℕ) × ((x : Wires) × (slice_get ws i ≡ Some x) × (offer_moves v x (script (suc c + i)) (done (suc c + i)) m ≡ true))) →
        (i : ℕ) × ((x : Wires) × (slice_get (w ∷ ws) i ≡ Some x) × (offer_moves v x (script (c + i)) (done (c + i)) m ≡ true))
    by_case (inl here) later =
        let start : c ≡ c + 0 = omega arith in
        (0, (w, refl, subst (λ (k : ℕ). offer_moves v w (script k) (done k) m ≡ true) start here))
    by_case (inr there) later =
        let rest = later there in
        let same : suc c + rest.0 ≡ c + suc rest.0 = omega arith in
        (suc rest.0, (rest.1.0, rest.1.1, subst (λ (k : ℕ). offer_moves v rest.1.0 (script k) (done k) m ≡ true) same rest.1.2))

raised_rail : (v : ℕ → Bool) (value m : ℕ) (rails : List ℕ) → raises_value v value rails m ≡ true → list_any (λ rail. m == rail) rails ≡ true
raised_rail v value m [] raises = absurd (cc raises)
raised_rail v value m (t ∷ []) raises = absurd (cc raises)
raised_rail v value m (t ∷ f ∷ rest) raises =
    by_case (or_cases (raises_bit v (is_odd value) t f m) (raises_value v (value / 2) rest m) raises) (λ there. raised_rail v (value / 2) m rest there)
  where
    by_bit : (bit : Bool) → raises_bit v bit t f m ≡ true → list_any (λ rail. m == rail) (t ∷ f ∷ rest) ≡ true
    by_bit true here = or_left (m == t) _ (and_parts (m == t) _ here).0
    by_bit false here = or_right (m == t) _ (or_left (m == f) _ (and_parts (m == f) _ here).0)

    by_case : (raises_bit v (is_odd value) t f m ≡ true) ⊎ (raises_value v (value / 2) rest m ≡ true) →
        (raises_value v (value / 2) rest m ≡ true → list_any (λ rail. m == rail) rest ≡ true) → list_any (λ rail. m == rail) (t ∷ f ∷ rest) ≡ true
    by_case (inl here) later = by_bit (is_odd value) here
    by_case (inr there) later = or_right (m == t) _ (or_right (m == f) _ (later there))

raised_low : (v : ℕ → Bool) (value m : ℕ) (rails : List ℕ) → raises_value v value rails m ≡ true → v m ≡ false
raised_low v value m [] raises = absurd (cc raises)
raised_low v value m (t ∷ []) raises = absurd (cc raises)
raised_low v value m (t ∷ f ∷ rest) raises =
    by_case (or_cases (raises_bit v (is_odd value) t f m) (raises_value v (value / 2) rest m) raises) (λ there. raised_low v (value / 2) m rest there)
  where
    by_bit : (bit : Bool) → raises_bit v bit t f m ≡ true → v m ≡ false
    by_bit true here =
        let parts = and_parts (m == t) (not (v t) && not (v f)) here in
        ap v (eqb-true m t parts.0) ∙ not-true (v t) (and_parts (not (v t)) (not (v f)) parts.1).0
    by_bit false here =
        let parts = and_parts (m == f) (not (v t) && not (v f)) here in
        ap v (eqb-true m f parts.0) ∙ not-true (v f) (and_parts (not (v t)) (not (v f)) parts.1).1

    by_case : (raises_bit v (is_odd value) t f m ≡ true) ⊎ (raises_value v (value / 2) rest m ≡ true) →
        (raises_value v (value / 2) rest m ≡ true → v m ≡ false) →
        v m ≡ false
    by_case (inl here) later = by_bit (is_odd value) here
    by_case (inr there) later = later there

next_rail : (v : ℕ → Bool) (next : Option ℕ) (m : ℕ) (rails : List ℕ) → raises_next v next rails m ≡ true →
    (list_any (λ rail. m == rail) rails ≡ true) × (v m ≡ false)
next_rail v None m rails raises = absurd (cc raises)
next_rail v (Some value) m rails raises = (raised_rail v value m rails raises, raised_low v value m rails raises)

sent_rail : (v : ℕ → Bool) (w : Wires) (xs : List ℕ) (done m : ℕ) → offer_moves v w (gives xs) done m ≡ true → list_any (λ rail. m == rail) w.rails ≡ true
sent_rail v w xs done m moves = by_ack (v w.ack) moves
  where
    by_ack : (b : Bool) → (if b then lowers v w.rails m else raises_next v (slice_get xs done) w.rails m) ≡ true → list_any (λ rail. m == rail) w.rails ≡ true
    by_ack true e = (and_parts (v m) _ e).1
    by_ack false e = (next_rail v (slice_get xs done) m w.rails e).0

-- the wire has no rules

pub record IsOutsideWire (net : NetValue) (m : ℕ) (w : Wires) : Type 0 where
  pub wire : is_wire w m ≡ true
  pub undriven : IsUndriven net m

outside_wire : (net : NetValue) (notes : List Note) (v : ℕ → Bool) (c done m : ℕ) (w : Wires) → IsNet net → slice_get net.channels c ≡ Some w →
    offer_moves v w (offer_at (script_by net notes) c) done m ≡ true → IsOutsideWire net m w
outside_wire net notes v c done m w is here moves =
    by_kind w.channel.kind refl
    (sym (ap (λ (o : OfferValue). offer_moves v w o done m) (script_at net notes c ∙ ap (λ (o : Option Wires). offer_on o c notes) here)) ∙ moves)
  where
    by_kind : (kind : Kind) → w.channel.kind ≡ kind → offer_moves v w (offer_by w.channel.kind c notes) done m ≡ true → IsOutsideWire net m w
    by_kind In kind e =
        let rail = sent_rail v w _ done m (sym (ap (λ (k : Kind). offer_moves v w (offer_by k c notes) done m) kind) ∙ e) in
        record { wire = rail_wire w m rail; undriven = rail_undriven net w m (channel_at net c w is here) kind rail }
    by_kind Out kind e =
        let same = eqb-true m w.ack (and_parts (m == w.ack) _ (sym (ap (λ (k : Kind). offer_moves v w (offer_by k c notes) done m) kind) ∙ e)).0 in
        record {
          wire = ack_wire w m same;
          undriven = subst (λ k. IsUndriven net k) (sym same) (ack_undriven net w (channel_at net c w is here) kind);
        }
    by_kind Chan kind e = absurd (cc (sym (ap (λ (k : Kind). offer_moves v w (offer_by k c notes) done m) kind) ∙ e))

-- where it moves before a move under the lesser script, and behind it under the greater one, it moves behind it under the lesser one too
pub still_moves : (v u : ℕ → Bool) (w : Wires) (o p : OfferValue) (done later n m : ℕ) → Grows o p → m ≢ n → ((r : ℕ) → r ≢ n → u r ≡ v r) →
    (n ≡ w.ack → u w.ack ≡ not (v w.ack)) → ((n ≡ w.ack → ⊥) → later ≡ done) → offer_moves v w o done m ≡ true → offer_moves u w p later m ≡ true →
    offer_moves u w o later m ≡ true
still_moves v u w (gives xs) (gives ys) done later n m grows apart agree turns counts was is = by_ack (u w.ack) refl is
  where
    within : u w.ack ≡ false → (b : Bool) → v w.ack ≡ b → (if b then lowers v w.rails m else raises_next v (slice_get xs done) w.rails m) ≡ true →
        raises_next u (slice_get ys later) w.rails m ≡ true → later < length xs
    within low true up before behind =
        absurd (both_ways (v m) (sym (agree m apart) ∙ (next_rail u (slice_get ys later) m w.rails behind).1) (and_parts (v m) _ before).0)
    within low false down before behind = by_node (cases_eq n w.ack)
      where
        by_node : (n ≡ w.ack) ⊎ (n ≡ w.ack → ⊥) → later < length xs
        by_node (inl same) = absurd (both_ways (u w.ack) low (turns same ∙ ap not down))
        by_node (inr other) = let less = next_value v xs done m w.rails before in let still = counts other in omega arith

    by_ack : (b : Bool) → u w.ack ≡ b → (if b then lowers u w.rails m else raises_next u (slice_get ys later) w.rails m) ≡ true →
        (if b then lowers u w.rails m else raises_next u (slice_get xs later) w.rails m) ≡ true
    by_ack true up e = e
    by_ack false low e =
        ap (λ (next : Option ℕ). raises_next u next w.rails m)
        (sym (ap (λ (zs : List ℕ). slice_get zs later) grows.1 ∙ front_get xs grows.0 later (within low (v w.ack) refl was e))) ∙ e
still_moves v u w (gives xs) (takes b) done later n m grows apart agree turns counts was is = absurd grows
still_moves v u w (gives xs) nothing done later n m grows apart agree turns counts was is = absurd grows
still_moves v u w (takes a) (gives ys) done later n m grows apart agree turns counts was is = absurd grows
still_moves v u w (takes a) (takes b) done later n m grows apart agree turns counts was is =
    let before = and_parts (m == w.ack) (if v w.ack then neutral v w.rails else valid v w.rails && is_over a done) was in
    let behind = and_parts (m == w.ack) (if u w.ack then neutral u w.rails else valid u w.rails && is_over b later) is in
    let same : m ≡ w.ack = eqb-true m w.ack before.0 in
    let other : n ≡ w.ack → ⊥ = λ e. apart (same ∙ sym e) in
    and_from (m == w.ack) _ before.0 (by_ack (u w.ack) (v w.ack) refl refl (agree w.ack (λ e. other (sym e))) (counts other) before.1 behind.1)
  where
    by_ack : (t s : Bool) → u w.ack ≡ t → v w.ack ≡ s → u w.ack ≡ v w.ack → later ≡ done →
        (if s then neutral v w.rails else valid v w.rails && is_over a done) ≡ true →
        (if t then neutral u w.rails else valid u w.rails && is_over b later) ≡ true →
        (if t then neutral u w.rails else valid u w.rails && is_over a later) ≡ true
    by_ack true s up was_up same still before behind = behind
    by_ack false true low up same still before behind = absurd (both_ways (v w.ack) (sym same ∙ low) up)
    by_ack false false low down same still before behind =
        and_from (valid u w.rails) (is_over a later) (and_parts (valid u w.rails) (is_over b later) behind).0
        (ap (is_over a) still ∙ (and_parts (valid v w.rails) (is_over a done) before).1)
still_moves v u w (takes a) nothing done later n m grows apart agree turns counts was is = absurd grows
still_moves v u w nothing (gives ys) done later n m grows apart agree turns counts was is = absurd grows
still_moves v u w nothing (takes b) done later n m grows apart agree turns counts was is = absurd grows
still_moves v u w nothing nothing done later n m grows apart agree turns counts was is = is

-- a move that takes away nothing under the script of more notes takes away nothing under that of fewer
pub steady : (net : NetValue) (notes more : List Note) (st : RunState) (n m : ℕ) → IsNet net → IsWhole net st → m ≢ n →
    move_enabled net (script_by net notes) st m ≡ true → move_enabled net (script_by net (notes ++ more)) (moved net st n) m ≡ true →
    move_enabled net (script_by net notes) (moved net st n) m ≡ true
steady net notes more st n m is whole apart was behind = by_rule (or_cases (rule_enabled net u m) _ behind)
  where
    v : ℕ → Bool
    v = high st.values

    u : ℕ → Bool
    u = high (fired st.values n)

    done : ℕ → ℕ
    done = completed (moved net st n).histories

    moves : List Note → Bool
    moves xs = channels_move u (offer_at (script_by net xs)) done 0 net.channels m

    on_channel : (i : ℕ) × ((w : Wires) × (slice_get net.channels i ≡ Some w)
        × (offer_moves u w (offer_at (script_by net (notes ++ more)) (0 + i)) (done (0 + i)) m ≡ true)) → moves notes ≡ true
    on_channel found =
        let start : 0 + found.0 ≡ found.0 = omega arith in
        let w : Wires = found.1.0 in
        let here : slice_get net.channels found.0 ≡ Some w = found.1.1 in
        let now : offer_moves u w (offer_at (script_by net (notes ++ more)) found.0) (done found.0) m ≡ true =
        subst (λ (k : ℕ). offer_moves u w (offer_at (script_by net (notes ++ more)) k) (done k) m ≡ true) start found.1.2 in
        let wire = outside_wire net (notes ++ more) u found.0 (done found.0) m w is here now in
        let within : found.0 < length net.channels = slice_get_within net.channels found.0 w here in
        let before = from_outside net (script_by net notes) st m found.0 w is within (at_place net.channels found.0 w here) wire.wire wire.undriven was in
        sym (offered_there net (script_by net notes) done u m found.0 w (Some found.0)
        (home_of net m found.0 w is within (at_place net.channels found.0 w here) wire.wire) refl (at_place net.channels found.0 w here))
        ∙ still_moves v u w (offer_at (script_by net notes) found.0) (offer_at (script_by net (notes ++ more)) found.0) (completed st.histories found.0)
        (done found.0) n m (script_grows net notes more found.0) apart (λ r other. fired_agree st.values n r other)
        (λ same. let inside : n < length st.values = omega (arith, (channel_at net found.0 w is here).ack_within, whole.values) in
        ap u (sym same) ∙ turned st.values n inside ∙ ap (λ k. not (v k)) same)
        (λ other. counts_kept net st n found.0 w whole.histories within
        (ap (λ (x : Wires). n == x.ack) (sym (at_place net.channels found.0 w here)) ∙ ne_eqb n w.ack other)) before.offers now

    by_go : (raises_go u m ≡ true) ⊎ (moves (notes ++ more) ≡ true) → (raises_go u m || moves notes) ≡ true
    by_go (inl go) = or_left (raises_go u m) (moves notes) go
    by_go (inr wire) =
        or_right (raises_go u m) (moves notes) (on_channel (some_channel u (offer_at (script_by net (notes ++ more))) done 0 net.channels m wire))

    by_reset : (b : Bool) → (if b then is_reset net.reset m && rules_rest net u else raises_go u m || moves (notes ++ more)) ≡ true →
        (if b then is_reset net.reset m && rules_rest net u else raises_go u m || moves notes) ≡ true
    by_reset true e = e
    by_reset false e = by_go (or_cases (raises_go u m) (moves (notes ++ more)) e)

    by_rule : (rule_enabled net u m ≡ true) ⊎ ((if in_reset net.reset u then is_reset net.reset m && rules_rest net u else raises_go u m
        || moves (notes ++ more)) ≡ true) → move_enabled net (script_by net notes) (moved net st n) m ≡ true
    by_rule (inl rule) = or_left (rule_enabled net u m) _ rule
    by_rule (inr env) = or_right (rule_enabled net u m) _ (by_reset (in_reset net.reset u) env)

pub safe_sooner : (net : NetValue) (notes more : List Note) (st : RunState) (n : ℕ) → IsNet net → IsWhole net st →
    IsSafeMove net (script_by net (notes ++ more)) st n → IsSafeMove net (script_by net notes) st n
safe_sooner net notes more st n is whole safe = record {
  stable = λ m apart enabled. steady net notes more st n m is whole apart enabled (safe.stable m apart (enabled_grows net notes more st m enabled));
  phases = safe.phases;
}
