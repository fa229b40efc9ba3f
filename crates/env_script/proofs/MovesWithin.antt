-- A move's node is one of the net's.
use Rattle.std.proofs.Common.{◌≡◌, ℕ, suc, ◌/◌, ◌<◌, ◌≤◌, Bool, true, false, List, [], ◌∷◌, length, ap, inl, inr, arith}
use Rattle.std.specs.Prelude.{◌⊎◌, ◌&&◌, ◌||◌, ◌==◌, if◌then◌else◌, slice_get, Option, Some, None, All}
use Rattle.std.specs.List.{list_any}
use Rattle.std.proofs.lemmas.Bool.{eqb-true, or_cases, and_parts, cases_lt, both_ways}
use Rattle.std.proofs.lemmas.List.{get_or_past}
use Rattle.prs_core.specs.declared.wires.Wires.{Wires}
use Rattle.prs_core.specs.Nets.{NetValue, IsNet, IsChannel, IsReset, up_of, down_of}
use Rattle.prs_core.specs.Moves.{high, rule_enabled, guard_holds}
use Rattle.env_script.specs.Scripts.{OfferValue, gives, takes, nothing, offer_at}
use Rattle.env_script.specs.Environment.{in_reset, is_reset, rules_rest, is_odd, raises_bit, raises_value, raises_next, lowers, offer_moves, channels_move, raises_go}
use Rattle.env_script.specs.Runs.{RunState, completed, move_enabled}

raises_in : (v : ℕ → Bool) (value count n : ℕ) (rails : List ℕ) → All (λ rail. rail < count) rails → raises_value v value rails n ≡ true → n < count
raises_in v value count n [] within moves = absurd (cc moves)
raises_in v value count n (t ∷ []) within moves = absurd (cc moves)
raises_in v value count n (t ∷ f ∷ rest) within moves =
    by_case (or_cases (raises_bit v (is_odd value) t f n) (raises_value v (value / 2) rest n) moves)
    (λ later. raises_in v (value / 2) count n rest (λ k d less. within (suc (suc k)) d (omega arith)) later)
  where
    by_bit : (bit : Bool) → raises_bit v bit t f n ≡ true → n < count
    by_bit true here = let same = eqb-true n t (and_parts (n == t) _ here).0 in let less = within 0 0 (omega arith) in omega arith
    by_bit false here = let same = eqb-true n f (and_parts (n == f) _ here).0 in let less = within 1 0 (omega arith) in omega arith

    by_case : (raises_bit v (is_odd value) t f n ≡ true) ⊎ (raises_value v (value / 2) rest n ≡ true) → (raises_value v (value / 2) rest n ≡ true → n < count) →
        n < count
    by_case (inl here) later = by_bit (is_odd value) here
    by_case (inr there) later = later there

next_in : (v : ℕ → Bool) (next : Option ℕ) (count n : ℕ) (rails : List ℕ) → All (λ rail. rail < count) rails → raises_next v next rails n ≡ true → n < count
next_in v None count n rails within moves = absurd (cc moves)
next_in v (Some value) count n rails within moves = raises_in v value count n rails within moves

among_in : (count n : ℕ) (rails : List ℕ) → All (λ rail. rail < count) rails → list_any (λ rail. n == rail) rails ≡ true → n < count
among_in count n [] within among = absurd (cc among)
among_in count n (r ∷ rest) within among =
    by_case (or_cases (n == r) (list_any (λ rail. n == rail) rest) among) (λ later. among_in count n rest (λ k d less. within (suc k) d (omega arith)) later)
  where
    by_case : ((n == r) ≡ true) ⊎ (list_any (λ rail. n == rail) rest ≡ true) → (list_any (λ rail. n == rail) rest ≡ true → n < count) → n < count
    by_case (inl here) later = let same = eqb-true n r here in let less = within 0 0 (omega arith) in omega arith
    by_case (inr there) later = later there

offer_in : (v : ℕ → Bool) (w : Wires) (offer : OfferValue) (done count n : ℕ) → All (λ rail. rail < count) w.rails → w.ack < count →
    offer_moves v w offer done n ≡ true → n < count
offer_in v w (gives values) done count n rails ack moves = by_ack (slice_get values done) (v w.ack) moves
  where
    by_ack : (next : Option ℕ) (b : Bool) → (if b then lowers v w.rails n else raises_next v next w.rails n) ≡ true → n < count
    by_ack next true falls = among_in count n w.rails rails (and_parts (v n) _ falls).1
    by_ack next false rises = next_in v next count n w.rails rails rises
offer_in v w (takes c) done count n rails ack moves =
    let same = eqb-true n w.ack (and_parts (n == w.ack) _ moves).0 in
    omega arith
offer_in v w nothing done count n rails ack moves = absurd (cc moves)

channels_in : (net : NetValue) (v : ℕ → Bool) (script : ℕ → OfferValue) (done : ℕ → ℕ) (c n : ℕ) (ws : List Wires) → All (IsChannel net) ws →
    channels_move v script done c ws n ≡ true → n < length net.first
channels_in net v script done c n [] are moves = absurd (cc moves)
channels_in net v script done c n (w ∷ ws) are moves =
    by_case (or_cases (offer_moves v w (script c) (done c) n) (channels_move v script done (suc c) ws n) moves)
    (λ later. channels_in net v script done (suc c) n ws (λ k d less. are (suc k) d (omega arith)) later)
  where
    by_case : (offer_moves v w (script c) (done c) n ≡ true) ⊎ (channels_move v script done (suc c) ws n ≡ true) →
        (channels_move v script done (suc c) ws n ≡ true → n < length net.first) → n < length net.first
    by_case (inl here) later =
        let is : IsChannel net w = are 0 w (omega arith) in
        offer_in v w (script c) (done c) (length net.first) n is.rails_within is.ack_within here
    by_case (inr there) later = later there

rule_in : (net : NetValue) → IsNet net → (v : ℕ → Bool) (n : ℕ) → rule_enabled net v n ≡ true → n < length net.first
rule_in net is v n enabled = by_place (cases_lt n (length net.first))
  where
    no_rule : (b : Bool) → up_of net n ≡ [] → down_of net n ≡ [] → (if b then guard_holds v (down_of net n) else guard_holds v (up_of net n)) ≡ false
    no_rule true up down = ap (guard_holds v) down
    no_rule false up down = ap (guard_holds v) up

    by_place : (n < length net.first) ⊎ (length net.first ≤ n) → n < length net.first
    by_place (inl within) = within
    by_place (inr past) =
        let ups : length net.up ≤ n = omega (arith, is.ups) in
        let downs : length net.down ≤ n = omega (arith, is.downs) in
        absurd (both_ways _ (no_rule (v n) (get_or_past net.up n [] ups) (get_or_past net.down n [] downs)) enabled)

reset_in : (net : NetValue) → IsNet net → (n : ℕ) → is_reset net.reset n ≡ true → n < length net.first
reset_in net is n same = by_reset net.reset is.reset same
  where
    by_reset : (o : Option ℕ) → IsReset net o → is_reset o n ≡ true → n < length net.first
    by_reset None reset same = absurd (cc same)
    by_reset (Some r) reset same = let e = eqb-true n r same in omega (arith, reset.last)

-- a move's node is in range
pub move_in : (net : NetValue) (script : List OfferValue) (st : RunState) (n : ℕ) → IsNet net → move_enabled net script st n ≡ true → n < length net.first
move_in net script st n is enabled =
    by_rule (or_cases (rule_enabled net v n) _ enabled)
  where
    v : ℕ → Bool
    v = high st.values

    by_go : (raises_go v n ≡ true) ⊎ (channels_move v (offer_at script) (completed st.histories) 0 net.channels n ≡ true) → n < length net.first
    by_go (inl go) = let same = eqb-true n 0 (and_parts (n == 0) _ go).0 in omega (arith, is.some)
    by_go (inr wire) = channels_in net v (offer_at script) (completed st.histories) 0 n net.channels is.channels wire

    by_reset : (b : Bool) → (if b then is_reset net.reset n && rules_rest net v else raises_go v n
        || channels_move v (offer_at script) (completed st.histories) 0 net.channels n) ≡ true → n < length net.first
    by_reset true falls = reset_in net is n (and_parts (is_reset net.reset n) _ falls).0
    by_reset false moves = by_go (or_cases (raises_go v n) _ moves)

    by_rule : (rule_enabled net v n ≡ true) ⊎ ((if in_reset net.reset v then is_reset net.reset n && rules_rest net v else raises_go v n
        || channels_move v (offer_at script) (completed st.histories) 0 net.channels n) ≡ true) → n < length net.first
    by_rule (inl rule) = rule_in net is v n rule
    by_rule (inr env) = by_reset (in_reset net.reset v) env
