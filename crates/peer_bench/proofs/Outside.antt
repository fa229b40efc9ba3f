-- A wire without rules is moved by the environment alone, outside of a reset, as the offer on its channel says.
use Rattle.std.proofs.Common.{◌≡◌, ℕ, ◌<◌, Bool, true, false, List, [], ◌∷◌, ◌++◌, length, get_or, map, refl, sym, ap, subst, ◌∙◌, inl, inr}
use Rattle.std.specs.Prelude.{◌⊎◌, ◌&&◌, ◌||◌, ◌==◌, if◌then◌else◌, All, codes, decimal, Option, Some, None}
use Rattle.std.specs.List.{list_any, flat_map, range_with_len}
use Rattle.std.proofs.lemmas.Bool.{eqb-true, or_cases, or_left, or_right, and_parts, both_ways}
use Rattle.std.proofs.lemmas.List.{get_or_default}
use Rattle.std.proofs.lemmas.List.Elements.{All-cons, All-nil, All-tail, All-head}
use Rattle.prs_core.specs.declared.wires.Wires.{Wires}
use Rattle.prs_core.specs.Nets.{NetValue, IsNet, IsChannel, IsReset, IsUndriven, name_at, first_at, up_of, down_of, true_rail, false_rail}
use Rattle.prs_core.specs.Moves.{high, fired, rule_enabled, guard_holds}
use Rattle.env_script.specs.Scripts.{OfferValue, offer_at}
use Rattle.env_script.specs.Environment.{in_reset, is_reset, rules_rest, offer_moves, channels_move, raises_go}
use Rattle.env_script.specs.Runs.{RunState, completed, move_enabled, moved}
use Rattle.event_sim.specs.Locality.{is_wire, IsHome}
use Rattle.event_sim.proofs.HomeLemmas.{one_home, offered_there, offered_nowhere}
use Rattle.event_sim.proofs.Near.{fired_agree}

-- a wire's name has a dot, and go's has none

abbrev HasDot : List ℕ → Type 0
HasDot name = list_any (λ b. b == 46) name ≡ true

dot_here : (xs ys : List ℕ) → HasDot (xs ++ 46 ∷ ys)
dot_here [] ys = refl
dot_here (x ∷ xs) ys = or_right (x == 46) _ (dot_here xs ys)

dot_front : (xs ys : List ℕ) → HasDot xs → HasDot (xs ++ ys)
dot_front [] ys dot = absurd (cc dot)
dot_front (x ∷ xs) ys dot = by_case (or_cases (x == 46) _ dot) (λ there. dot_front xs ys there)
  where
    by_case : ((x == 46) ≡ true) ⊎ (list_any (λ b. b == 46) xs ≡ true) → (HasDot xs → HasDot (xs ++ ys)) → HasDot ((x ∷ xs) ++ ys)
    by_case (inl here) later = or_left (x == 46) _ here
    by_case (inr there) later = or_right (x == 46) _ (later there)

rail_dots : (channel : List ℕ) (bits : List ℕ) → All HasDot (flat_map (λ bit. true_rail channel bit ∷ false_rail channel bit ∷ []) bits)
rail_dots channel [] = All-nil HasDot
rail_dots channel (bit ∷ bits) =
    let rest : List (List ℕ) = flat_map (λ b. true_rail channel b ∷ false_rail channel b ∷ []) bits in
    let front : HasDot ((channel ++ codes ".") ++ decimal bit) = dot_front (channel ++ codes ".") (decimal bit) (dot_here channel []) in
    All-cons HasDot (true_rail channel bit) (false_rail channel bit ∷ rest) (dot_front ((channel ++ codes ".") ++ decimal bit) (codes ".t") front)
    (All-cons HasDot (false_rail channel bit) rest (dot_front ((channel ++ codes ".") ++ decimal bit) (codes ".f") front) (rail_dots channel bits))

-- what holds of each rail, where the node is one of them
pub among : (Q : ℕ → Type 0) (n : ℕ) (rails : List ℕ) → All Q rails → list_any (λ rail. n == rail) rails ≡ true → Q n
among Q n [] all found = absurd (cc found)
among Q n (r ∷ rails) all found =
    by_case (or_cases (n == r) (list_any (λ rail. n == rail) rails) found) (λ there. among Q n rails (All-tail Q r rails all) there)
  where
    by_case : ((n == r) ≡ true) ⊎ (list_any (λ rail. n == rail) rails ≡ true) → (list_any (λ rail. n == rail) rails ≡ true → Q n) → Q n
    by_case (inl here) later = subst Q (sym (eqb-true n r here)) (All-head Q r rails all)
    by_case (inr there) later = later there

names_back : (net : NetValue) (rails : List ℕ) → All HasDot (map (name_at net) rails) → All (λ rail. HasDot (name_at net rail)) rails
names_back net [] all = All-nil (λ rail. HasDot (name_at net rail))
names_back net (r ∷ rails) all =
    All-cons (λ rail. HasDot (name_at net rail)) r rails (All-head HasDot (name_at net r) (map (name_at net) rails) all)
    (names_back net rails (All-tail HasDot (name_at net r) (map (name_at net) rails) all))

wire_dot : (net : NetValue) (w : Wires) (n : ℕ) → IsChannel net w → is_wire w n ≡ true → HasDot (name_at net n)
wire_dot net w n is wire = by_case (or_cases (n == w.ack) (list_any (λ rail. n == rail) w.rails) wire)
  where
    by_case : ((n == w.ack) ≡ true) ⊎ (list_any (λ rail. n == rail) w.rails ≡ true) → HasDot (name_at net n)
    by_case (inl ack) =
        subst (λ (name : List ℕ). HasDot name) (sym (ap (name_at net) (eqb-true n w.ack ack) ∙ is.ack)) (dot_here w.channel.name (codes "a"))
    by_case (inr rail) =
        among (λ r. HasDot (name_at net r)) n w.rails
        (names_back net w.rails (subst (λ (names : List (List ℕ)). All HasDot names) (sym is.rails)
        (rail_dots w.channel.name (range_with_len 0 w.channel.width)))) rail

-- a wire is low at first
pub wire_low : (net : NetValue) (w : Wires) (n : ℕ) → IsChannel net w → is_wire w n ≡ true → first_at net n ≡ false
wire_low net w n is wire = by_case (or_cases (n == w.ack) (list_any (λ rail. n == rail) w.rails) wire)
  where
    by_case : ((n == w.ack) ≡ true) ⊎ (list_any (λ rail. n == rail) w.rails ≡ true) → first_at net n ≡ false
    by_case (inl ack) = ap (first_at net) (eqb-true n w.ack ack) ∙ is.ack_low
    by_case (inr rail) = among (λ r. first_at net r ≡ false) n w.rails is.rails_low rail

pub record IsFromOutside (net : NetValue) (script : List OfferValue) (st : RunState) (n c : ℕ) (w : Wires) : Type 0 where
  pub low : in_reset net.reset (high st.values) ≡ false
  pub offers : offer_moves (high st.values) w (offer_at script c) (completed st.histories c) n ≡ true

pub home_of : (net : NetValue) (n c : ℕ) (w : Wires) → IsNet net → c < length net.channels → w ≡ get_or net.channels c w → is_wire w n ≡ true →
    IsHome net n (Some c)
home_of net n c w is within here wire = record {
  within = within;
  only = λ e d less other. ap Some (one_home net is c e n d within less
      (subst (λ (x : Wires). is_wire x n ≡ true) (here ∙ get_or_default net.channels c w d within) wire) other);
}

not_ruled : (net : NetValue) (v : ℕ → Bool) (n : ℕ) → IsUndriven net n → rule_enabled net v n ≡ false
not_ruled net v n undriven = by_value (v n)
  where
    by_value : (b : Bool) → (if b then guard_holds v (down_of net n) else guard_holds v (up_of net n)) ≡ false
    by_value true = ap (guard_holds v) undriven.down
    by_value false = ap (guard_holds v) undriven.up

no_reset_wire : (net : NetValue) (w : Wires) (n : ℕ) → IsNet net → IsChannel net w → is_wire w n ≡ true → is_reset net.reset n ≡ true → ⊥
no_reset_wire net w n is channel wire same = by_reset net.reset is.reset same
  where
    by_reset : (o : Option ℕ) → IsReset net o → is_reset o n ≡ true → ⊥
    by_reset None reset e = cc e
    by_reset (Some r) reset e = both_ways (first_at net n) (wire_low net w n channel wire) (ap (first_at net) (eqb-true n r e) ∙ reset.high)

pub from_outside : (net : NetValue) (script : List OfferValue) (st : RunState) (n c : ℕ) (w : Wires) → IsNet net → c < length net.channels →
    w ≡ get_or net.channels c w → is_wire w n ≡ true → IsUndriven net n → move_enabled net script st n ≡ true → IsFromOutside net script st n c w
from_outside net script st n c w is within here wire undriven enabled = by_rule (or_cases (rule_enabled net v n) _ enabled)
  where
    v : ℕ → Bool
    v = high st.values

    channel : IsChannel net w
    channel = subst (λ (x : Wires). IsChannel net x) (sym here) (is.channels c w within)

    by_go : in_reset net.reset v ≡ false → (raises_go v n ≡ true) ⊎ (channels_move v (offer_at script) (completed st.histories) 0 net.channels n ≡ true) →
        IsFromOutside net script st n c w
    by_go off (inl go) =
        let zero_is : n ≡ 0 = eqb-true n 0 (and_parts (n == 0) _ go).0 in
        let name : name_at net n ≡ codes "go" = ap (name_at net) zero_is ∙ is.go in
        let none : list_any (λ b. b == 46) (codes "go") ≡ false = refl in
        absurd (both_ways (list_any (λ b. b == 46) (codes "go")) none (subst (λ (xs : List ℕ). HasDot xs) name (wire_dot net w n channel wire)))
    by_go off (inr moves) = record {
      low = off;
      offers = offered_there net script (completed st.histories) v n c w (Some c) (home_of net n c w is within here wire) refl here ∙ moves;
    }

    by_reset : (b : Bool) → in_reset net.reset v ≡ b → (if b then is_reset net.reset n && rules_rest net v else raises_go v n
        || channels_move v (offer_at script) (completed st.histories) 0 net.channels n) ≡ true → IsFromOutside net script st n c w
    by_reset true on falls = absurd (no_reset_wire net w n is channel wire (and_parts (is_reset net.reset n) _ falls).0)
    by_reset false off moves = by_go off (or_cases (raises_go v n) _ moves)

    by_rule : (rule_enabled net v n ≡ true) ⊎ ((if in_reset net.reset v then is_reset net.reset n && rules_rest net v else raises_go v n
        || channels_move v (offer_at script) (completed st.histories) 0 net.channels n) ≡ true) → IsFromOutside net script st n c w
    by_rule (inl rule) = absurd (both_ways (rule_enabled net v n) (not_ruled net v n undriven) rule)
    by_rule (inr env) = by_reset (in_reset net.reset v) refl env

-- the reset node never rises

pub reset_stays_low : (net : NetValue) (script : List OfferValue) (st : RunState) (n : ℕ) → IsNet net → move_enabled net script st n ≡ true →
    in_reset net.reset (high st.values) ≡ false → in_reset net.reset (high (moved net st n).values) ≡ false
reset_stays_low net script st n is enabled off = by_reset net.reset is.reset refl off
  where
    v : ℕ → Bool
    v = high st.values

    still : (r : ℕ) → IsReset net (Some r) → net.reset ≡ Some r → v r ≡ false → n ≡ r → ⊥
    still r reset at low same = by_rule (or_cases (rule_enabled net v n) _ enabled)
      where
        risen : first_at net n ≡ true
        risen = ap (first_at net) same ∙ reset.high

        nowhere : IsHome net n None
        nowhere = record {
          within = tt;
          only = λ c d less wire. absurd (both_ways (first_at net n) (wire_low net _ n (is.channels c d less) wire) risen);
        }

        by_go : (raises_go v n ≡ true) ⊎ (channels_move v (offer_at script) (completed st.histories) 0 net.channels n ≡ true) → ⊥
        by_go (inl go) =
            both_ways (first_at net n) (ap (first_at net) (eqb-true n 0 (and_parts (n == 0) _ go).0) ∙ is.go_low) risen
        by_go (inr moves) =
            both_ways (channels_move v (offer_at script) (completed st.histories) 0 net.channels n)
            (offered_nowhere net script (completed st.histories) v n None nowhere refl) moves

        by_off : (b : Bool) → in_reset net.reset v ≡ b → (if b then is_reset net.reset n && rules_rest net v else raises_go v n
            || channels_move v (offer_at script) (completed st.histories) 0 net.channels n) ≡ true → ⊥
        by_off true on moves = both_ways (in_reset net.reset v) off on
        by_off false e moves = by_go (or_cases (raises_go v n) _ moves)

        by_rule : (rule_enabled net v n ≡ true) ⊎ ((if in_reset net.reset v then is_reset net.reset n && rules_rest net v else raises_go v n
            || channels_move v (offer_at script) (completed st.histories) 0 net.channels n) ≡ true) → ⊥
        by_rule (inl rule) =
            both_ways (rule_enabled net v n) (not_ruled net v n (subst (λ k. IsUndriven net k) (sym same) reset.undriven)) rule
        by_rule (inr env) = by_off (in_reset net.reset v) refl env

    by_reset : (o : Option ℕ) → IsReset net o → net.reset ≡ o → in_reset o v ≡ false → in_reset net.reset (high (fired st.values n)) ≡ false
    by_reset None reset at low = ap (λ (o : Option ℕ). in_reset o (high (fired st.values n))) at
    by_reset (Some r) reset at low =
        ap (λ (o : Option ℕ). in_reset o (high (fired st.values n))) at
        ∙ fired_agree st.values n r (λ same. still r reset at low (sym same)) ∙ low
