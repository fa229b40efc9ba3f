-- Two moves that are enabled in one state, neither of which is a hazard, lead to the same state in either order.
use Rattle.std.proofs.Common.{◌≡◌, ◌≢◌, ℕ, zero, suc, ◌+◌, ◌/◌, ◌<◌, ◌≤◌, Bool, true, false, cond, List, [], ◌∷◌, length, refl, sym, ap, ◌∙◌, subst, inl, inr, arith}
use Rattle.std.specs.Prelude.{◌⊎◌, not, ◌&&◌, ◌||◌, ◌==◌, if◌then◌else◌, Option, Some, None, is_some, position, slice_get, All}
use Rattle.std.specs.List.{position_or_len}
use Rattle.std.proofs.lemmas.Bool.{and_parts, and_left, or_from, ne_eqb, eqb-false, eq-eqb, cases_lt, cases_eq, lt-ltb, le-ltb, both_ways, not-true, not-false}
use Rattle.std.proofs.lemmas.List.{get_or-set_other, set_comm, get_or_past}
use Rattle.prs_core.specs.declared.wires.Wires.{Wires}
use Rattle.prs_core.specs.Nets.{NetValue, IsNet, IsReset, IsResetNode, IsChannel, first_at, up_of, down_of}
use Rattle.prs_core.specs.Moves.{high, fired, rule_enabled, guard_holds, bit_value, with_bit, rail_value_of, neutral}
use Rattle.env_script.specs.Scripts.{OfferValue, gives, takes, nothing, offer_at}
use Rattle.env_script.specs.Environment.{all_below, in_reset, is_reset, rules_rest, is_odd, raises_bit, raises_value, raises_next, lowers, offer_moves, channels_move, raises_go, valid}
use Rattle.env_script.specs.Phases.{pair_keeps, rails_keep, ack_keeps, phases_keep, phase_fault}
use Rattle.env_script.specs.Runs.{RunState, completed, move_enabled, completes, with_value, with_values, histories_after, moved}

-- the value of a node is kept by the moves of others
pub kept : (values : List Bool) (n m : ℕ) → m ≢ n → high (fired values n) m ≡ high values m
kept values n m apart = get_or-set_other values n m (not (high values n)) false apart

fired_both : (values : List Bool) (a b : ℕ) → a ≢ b → fired (fired values a) b ≡ fired (fired values b) a
fired_both values a b apart =
    let one : high (fired values a) b ≡ high values b = kept values a b (λ e. apart (sym e)) in
    let two : high (fired values b) a ≡ high values a = kept values b a apart in
    rw (one, two) (set_comm values a b (not (high values a)) (not (high values b)) apart)

-- The reset node: no rule turns it over, no wire of a channel is it, and while it is high nothing else moves together
-- with it.

reset_node : (net : NetValue) → IsNet net → (r : ℕ) → net.reset ≡ Some r → IsResetNode net r
reset_node net is r e = subst (λ (o : Option ℕ). IsReset net o) e is.reset

no_rule : (net : NetValue) (v : ℕ → Bool) (n : ℕ) → up_of net n ≡ [] → down_of net n ≡ [] → rule_enabled net v n ≡ false
no_rule net v n up down = by_value (v n)
  where
    by_value : (b : Bool) → (if b then guard_holds v (down_of net n) else guard_holds v (up_of net n)) ≡ false
    by_value true = ap (guard_holds v) down
    by_value false = ap (guard_holds v) up

low_at_first : (net : NetValue) (r : ℕ) → first_at net r ≡ true → (rails : List ℕ) → All (λ rail. first_at net rail ≡ false) rails →
    All (λ rail. r ≢ rail) rails
low_at_first net r up rails low k d within same = both_ways (first_at net r) (ap (first_at net) same ∙ low k d within) up

not_raised : (v : ℕ → Bool) (value r : ℕ) (rails : List ℕ) → All (λ rail. r ≢ rail) rails → raises_value v value rails r ≡ false
not_raised v value r [] apart = refl
not_raised v value r (t ∷ []) apart = refl
not_raised v value r (t ∷ f ∷ rest) apart =
    or_from _ _ (by_bit (is_odd value)) (not_raised v (value / 2) r rest (λ k d within. apart (suc (suc k)) d (omega arith)))
  where
    by_bit : (bit : Bool) → raises_bit v bit t f r ≡ false
    by_bit true = and_left _ _ (ne_eqb r t (apart 0 0 (omega arith)))
    by_bit false = and_left _ _ (ne_eqb r f (apart 1 0 (omega arith)))

not_next : (v : ℕ → Bool) (next : Option ℕ) (r : ℕ) (rails : List ℕ) → All (λ rail. r ≢ rail) rails → raises_next v next rails r ≡ false
not_next v None r rails apart = refl
not_next v (Some value) r rails apart = not_raised v value r rails apart

not_offered : (v : ℕ → Bool) (w : Wires) (offer : OfferValue) (done r : ℕ) → v r ≡ false → All (λ rail. r ≢ rail) w.rails → r ≢ w.ack →
    offer_moves v w offer done r ≡ false
not_offered v w (gives values) done r low apart no_ack = by_ack (slice_get values done) (v w.ack)
  where
    by_ack : (next : Option ℕ) (b : Bool) → (if b then lowers v w.rails r else raises_next v next w.rails r) ≡ false
    by_ack next true = and_left _ _ low
    by_ack next false = not_next v next r w.rails apart
not_offered v w (takes count) done r low apart no_ack = and_left _ _ (ne_eqb r w.ack no_ack)
not_offered v w nothing done r low apart no_ack = refl

no_channel : (net : NetValue) (v : ℕ → Bool) (script : ℕ → OfferValue) (done : ℕ → ℕ) (r : ℕ) → v r ≡ false → first_at net r ≡ true →
    (c : ℕ) (ws : List Wires) → All (IsChannel net) ws → channels_move v script done c ws r ≡ false
no_channel net v script done r low up c [] are = refl
no_channel net v script done r low up c (w ∷ ws) are =
    let is : IsChannel net w = are 0 w (omega arith) in
    or_from _ _ (not_offered v w (script c) (done c) r low (low_at_first net r up w.rails is.rails_low)
    (λ same. both_ways (first_at net r) (ap (first_at net) same ∙ is.ack_low) up))
    (no_channel net v script done r low up (suc c) ws (λ k d within. are (suc k) d (omega arith)))

-- the reset node never rises
not_risen : (net : NetValue) (script : List OfferValue) (st : RunState) (r : ℕ) → IsNet net → net.reset ≡ Some r → high st.values r ≡ false →
    move_enabled net script st r ≡ false
not_risen net script st r is e low =
    let reset = reset_node net is r e in
    let v : ℕ → Bool = high st.values in
    or_from _ _ (no_rule net v r reset.undriven.up reset.undriven.down)
    (by_reset (in_reset net.reset v) _ _ (ap (λ (o : Option ℕ). in_reset o v) e ∙ low)
    (or_from _ _ (and_left _ _ (ne_eqb r 0 (λ same. both_ways (first_at net r) (ap (first_at net) same ∙ is.go_low) reset.high)))
    (no_channel net v (offer_at script) (completed st.histories) r low reset.high 0 net.channels is.channels)))
  where
    by_reset : (b x y : Bool) → b ≡ false → y ≡ false → (if b then x else y) ≡ false
    by_reset true x y off other = absurd (cc off)
    by_reset false x y off other = other

all_below_at : (count n : ℕ) (p : ℕ → Bool) → all_below count p ≡ true → n < count → p n ≡ true
all_below_at zero n p all within = absurd (omega arith)
all_below_at (suc count) n p all within = by_place (cases_eq n count) (λ less. all_below_at count n p (and_parts _ _ all).0 less)
  where
    by_place : (n ≡ count) ⊎ (n ≡ count → ⊥) → (n < count → p n ≡ true) → p n ≡ true
    by_place (inl same) below = ap p same ∙ (and_parts (all_below count p) (p count) all).1
    by_place (inr apart) below = below (omega arith)

no_rule_rests : (net : NetValue) (v : ℕ → Bool) (n : ℕ) → IsNet net → rules_rest net v ≡ true → rule_enabled net v n ≡ false
no_rule_rests net v n is rest = by_place (cases_lt n (length net.first))
  where
    by_place : (n < length net.first) ⊎ (length net.first ≤ n) → rule_enabled net v n ≡ false
    by_place (inl within) = not-true _ (all_below_at (length net.first) n (λ m. not (rule_enabled net v m)) rest within)
    by_place (inr past) =
        let ups : length net.up ≤ n = omega (arith, is.ups) in
        let downs : length net.down ≤ n = omega (arith, is.downs) in
        no_rule net v n (get_or_past net.up n [] ups) (get_or_past net.down n [] downs)

-- where the reset node may fall, no other node may move
alone : (net : NetValue) (script : List OfferValue) (st : RunState) (r m : ℕ) → IsNet net → net.reset ≡ Some r → high st.values r ≡ true →
    move_enabled net script st r ≡ true → m ≢ r → move_enabled net script st m ≡ false
alone net script st r m is e up enabled apart =
    let v : ℕ → Bool = high st.values in
    let reset = reset_node net is r e in
    let held : in_reset net.reset v ≡ true = ap (λ (o : Option ℕ). in_reset o v) e ∙ up in
    let rests : rules_rest net v ≡ true = falls (rule_enabled net v r) (in_reset net.reset v) (is_reset net.reset r) (rules_rest net v) (raises_go v r
    || channels_move v (offer_at script) (completed st.histories) 0 net.channels r) (no_rule net v r reset.undriven.up reset.undriven.down) held enabled in
    or_from _ _ (no_rule_rests net v m is rests)
    (other (in_reset net.reset v) _ _ held (and_left _ _ (ap (λ (o : Option ℕ). is_reset o m) e ∙ ne_eqb m r apart)))
  where
    falls : (a b x y z : Bool) → a ≡ false → b ≡ true → (a || (if b then x && y else z)) ≡ true → y ≡ true
    falls true b x y z off on enabled = absurd (cc off)
    falls false false x y z off on enabled = absurd (cc on)
    falls false true x y z off on enabled = (and_parts x y enabled).1

    other : (b x y : Bool) → b ≡ true → x ≡ false → (if b then x else y) ≡ false
    other true x y on none = none
    other false x y on none = absurd (cc on)

-- of two enabled moves neither is that of the reset node
not_reset : (net : NetValue) (script : List OfferValue) (st : RunState) (a b : ℕ) → IsNet net → a ≢ b → move_enabled net script st a ≡ true →
    move_enabled net script st b ≡ true → (r : ℕ) → net.reset ≡ Some r → r ≢ a
not_reset net script st a b is apart first second r e same = by_value (high st.values r) refl
  where
    here : move_enabled net script st r ≡ true
    here = ap (move_enabled net script st) same ∙ first

    by_value : (t : Bool) → high st.values r ≡ t → ⊥
    by_value true up = both_ways _ (alone net script st r b is e up here (λ other. apart (sym same ∙ sym other))) second
    by_value false low = both_ways _ (not_risen net script st r is e low) here

in_reset_kept : (reset : Option ℕ) (v u : ℕ → Bool) → ((r : ℕ) → reset ≡ Some r → u r ≡ v r) → in_reset reset u ≡ in_reset reset v
in_reset_kept None v u agree = refl
in_reset_kept (Some r) v u agree = agree r refl

-- What passes on a channel. Where its acknowledge may rise, no rail of it moves.

pair_apart : (vt vf va bt bf : Bool) → va ≡ false → ((not bt || (if vt then va else not va && not vf)) && (not bf || (if vf then va else not va && not vt))) ≡
    true → is_some (bit_value vt vf) ≡ true → (bt ≡ false) × (bf ≡ false)
pair_apart vt vf true bt bf low keeps one = absurd (cc low)
pair_apart true true false bt bf low keeps one = absurd (cc one)
pair_apart false false false bt bf low keeps one = absurd (cc one)
pair_apart true false false false false low keeps one = (refl, refl)
pair_apart true false false true bf low keeps one = absurd (cc keeps)
pair_apart true false false false true low keeps one = absurd (cc keeps)
pair_apart false true false false false low keeps one = (refl, refl)
pair_apart false true false true bf low keeps one = absurd (cc keeps)
pair_apart false true false false true low keeps one = absurd (cc keeps)

both_some : (x y : Option ℕ) → is_some (with_bit x y) ≡ true → (is_some x ≡ true) × (is_some y ≡ true)
both_some None y some = absurd (cc some)
both_some (Some x) None some = absurd (cc some)
both_some (Some x) (Some y) some = (refl, refl)

rails_still : (v u : ℕ → Bool) (ack b : ℕ) (rails : List ℕ) → v ack ≡ false → rails_keep v ack rails b ≡ true → valid v rails ≡ true →
    ((m : ℕ) → m ≢ b → u m ≡ v m) → rail_value_of u rails ≡ rail_value_of v rails
rails_still v u ack b [] low keeps one agree = refl
rails_still v u ack b (t ∷ []) low keeps one agree = refl
rails_still v u ack b (t ∷ f ∷ rest) low keeps one agree =
    let some = both_some (bit_value (v t) (v f)) (rail_value_of v rest) one in
    let keep = and_parts (pair_keeps v ack t f b) (rails_keep v ack rest b) keeps in
    let apart = pair_apart (v t) (v f) (v ack) (b == t) (b == f) low keep.0 some.0 in
    let same_t : u t ≡ v t = agree t (λ e. eqb-false b t apart.0 (sym e)) in
    let same_f : u f ≡ v f = agree f (λ e. eqb-false b f apart.1 (sym e)) in
    rw (same_t, same_f, rails_still v u ack b rest low keep.1 some.1 agree) refl

completes_none : (v : ℕ → Bool) (w : Wires) (n : ℕ) → n ≢ w.ack → completes v w n ≡ None
completes_none v w n apart = rw (ne_eqb n w.ack apart) refl

-- the value that a move completes is the same behind another move
completes_kept : (v u : ℕ → Bool) (w : Wires) (a b : ℕ) → a ≢ b → a ≡ w.ack → phases_keep v w a ≡ true → phases_keep v w b ≡ true →
    ((m : ℕ) → m ≢ b → u m ≡ v m) → completes u w a ≡ completes v w a
completes_kept v u w a b apart same keeps_a keeps_b agree = rw (eq-eqb a w.ack same, agree a apart) (by_value (v a) refl)
  where
    told : (t x : Bool) → t ≡ true → (not t || x) ≡ true → x ≡ true
    told true x on keeps = keeps
    told false x on keeps = absurd (cc on)

    when_low : (t x y : Bool) → t ≡ false → (if t then x else y) ≡ true → y ≡ true
    when_low true x y off keeps = absurd (cc off)
    when_low false x y off keeps = keeps

    by_value : (t : Bool) → v a ≡ t → (if not t then rail_value_of u w.rails else None) ≡ (if not t then rail_value_of v w.rails else None)
    by_value true is_up = refl
    by_value false is_low =
        let low : v w.ack ≡ false = ap v (sym same) ∙ is_low in
        let rises : ack_keeps v w.ack w.rails ≡ true =
        told (a == w.ack) (ack_keeps v w.ack w.rails) (eq-eqb a w.ack same) (and_parts (rails_keep v w.ack w.rails a) _ keeps_a).1 in
        rails_still v u w.ack b w.rails low (and_parts (rails_keep v w.ack w.rails b) _ keeps_b).0
        (when_low (v w.ack) (neutral v w.rails) (valid v w.rails) low rises) agree

one_channel : (v va vb : ℕ → Bool) (w : Wires) (a b : ℕ) (h : List ℕ) → a ≢ b → phases_keep v w a ≡ true → phases_keep v w b ≡ true →
    ((m : ℕ) → m ≢ a → va m ≡ v m) → ((m : ℕ) → m ≢ b → vb m ≡ v m) →
    with_value (completes va w b) (with_value (completes v w a) h) ≡ with_value (completes vb w a) (with_value (completes v w b) h)
one_channel v va vb w a b h apart keeps_a keeps_b agree_a agree_b = by_ack (cases_eq a w.ack) (cases_eq b w.ack)
  where
    by_ack : (a ≡ w.ack) ⊎ (a ≡ w.ack → ⊥) → (b ≡ w.ack) ⊎ (b ≡ w.ack → ⊥) →
        with_value (completes va w b) (with_value (completes v w a) h) ≡ with_value (completes vb w a) (with_value (completes v w b) h)
    by_ack (inl one) (inl two) = absurd (apart (one ∙ sym two))
    by_ack (inl one) (inr two) =
        rw (completes_none va w b two, completes_none v w b two, completes_kept v vb w a b apart one keeps_a keeps_b agree_b) refl
    by_ack (inr one) (inl two) =
        rw (completes_none vb w a one, completes_none v w a one, completes_kept v va w b a (λ e. apart (sym e)) two keeps_b keeps_a agree_a) refl
    by_ack (inr one) (inr two) = rw (completes_none va w b two, completes_none v w b two, completes_none vb w a one, completes_none v w a one) refl

keeps_each : (p : Wires → Bool) (w : Wires) (ws : List Wires) → position p (w ∷ ws) ≡ None → (p w ≡ false) × (position p ws ≡ None)
keeps_each p w ws none = by_first (p w) refl
  where
    by_first : (b : Bool) → p w ≡ b → (p w ≡ false) × (position p ws ≡ None)
    by_first true is = absurd (cc (none, first))
      where
        first : position p (w ∷ ws) ≡ Some 0
        first = rw is (ap (λ t. cond t (Some 0) None) (lt-ltb 0 (suc (length ws)) (omega arith)))
    by_first false is = (is, by_order (cases_lt (position_or_len p ws) (length ws)))
      where
        by_order : (position_or_len p ws < length ws) ⊎ (length ws ≤ position_or_len p ws) → position p ws ≡ None
        by_order (inl below) = absurd (cc (none, later))
          where
            later : position p (w ∷ ws) ≡ Some (1 + position_or_len p ws)
            later = rw is (ap (λ t. cond t (Some (1 + position_or_len p ws)) None) (lt-ltb (1 + position_or_len p ws) (suc (length ws)) (omega arith)))
        by_order (inr past) = ap (λ t. cond t (Some (position_or_len p ws)) None) (le-ltb (position_or_len p ws) (length ws) past)

each_channel : (v va vb : ℕ → Bool) (a b : ℕ) → a ≢ b → ((m : ℕ) → m ≢ a → va m ≡ v m) → ((m : ℕ) → m ≢ b → vb m ≡ v m) →
    (ws : List Wires) (hs : List (List ℕ)) → position (λ (w : Wires). not (phases_keep v w a)) ws ≡ None →
    position (λ (w : Wires). not (phases_keep v w b)) ws ≡ None → with_values va b ws (with_values v a ws hs) ≡ with_values vb a ws (with_values v b ws hs)
each_channel v va vb a b apart agree_a agree_b [] hs none_a none_b = refl
each_channel v va vb a b apart agree_a agree_b (w ∷ ws) [] none_a none_b = refl
each_channel v va vb a b apart agree_a agree_b (w ∷ ws) (h ∷ hs) none_a none_b =
    let keep_a = keeps_each (λ (x : Wires). not (phases_keep v x a)) w ws none_a in
    let keep_b = keeps_each (λ (x : Wires). not (phases_keep v x b)) w ws none_b in
    rw (
      one_channel v va vb w a b h apart (not-false _ keep_a.0) (not-false _ keep_b.0) agree_a agree_b,
      each_channel v va vb a b apart agree_a agree_b ws hs keep_a.1 keep_b.1,
    ) refl

-- in either order the two moves lead to one state
pub commute : (net : NetValue) (script : List OfferValue) (st : RunState) (a b : ℕ) → IsNet net → a ≢ b → move_enabled net script st a ≡ true →
    move_enabled net script st b ≡ true → phase_fault net (high st.values) a ≡ None → phase_fault net (high st.values) b ≡ None →
    moved net (moved net st a) b ≡ moved net (moved net st b) a
commute net script st a b is apart first second phases_a phases_b =
    let v : ℕ → Bool = high st.values in
    let va : ℕ → Bool = high (fired st.values a) in
    let vb : ℕ → Bool = high (fired st.values b) in
    let back : b ≢ a = λ e. apart (sym e) in
    let held_a : in_reset net.reset va ≡ in_reset net.reset v =
    in_reset_kept net.reset v va (λ r e. kept st.values a r (not_reset net script st a b is apart first second r e)) in
    let held_b : in_reset net.reset vb ≡ in_reset net.reset v =
    in_reset_kept net.reset v vb (λ r e. kept st.values b r (not_reset net script st b a is back second first r e)) in
    let values : fired (fired st.values a) b ≡ fired (fired st.values b) a = fired_both st.values a b apart in
    let meet : in_reset net.reset v ≡ false →
    with_values va b net.channels (with_values v a net.channels st.histories) ≡ with_values vb a net.channels (with_values v b net.channels st.histories) =
    λ free. each_channel v va vb a b apart (kept st.values a) (kept st.values b) net.channels st.histories (sym (freed (in_reset net.reset v) _ free)
    ∙ phases_a) (sym (freed (in_reset net.reset v) _ free) ∙ phases_b) in
    let histories : histories_after net (moved net st a) b ≡ histories_after net (moved net st b) a =
    by_reset (in_reset net.reset v) (in_reset net.reset va) (in_reset net.reset vb) held_a held_b (with_values va b net.channels)
    (with_values vb a net.channels) st.histories (with_values v a net.channels st.histories) (with_values v b net.channels st.histories) meet in
    cc
  where
    freed : (t : Bool) (p : Option ℕ) → t ≡ false → (if t then None else p) ≡ p
    freed true p off = absurd (cc off)
    freed false p off = refl

    by_reset : (t ta tb : Bool) → ta ≡ t → tb ≡ t → (fb fa : List (List ℕ) → List (List ℕ)) (hs ha hb : List (List ℕ)) → (t ≡ false → fb ha ≡ fa hb) →
        (if ta then (if t then hs else ha) else fb (if t then hs else ha)) ≡ (if tb then (if t then hs else hb) else fa (if t then hs else hb))
    by_reset true true true one two fb fa hs ha hb meet = refl
    by_reset true false tb one two fb fa hs ha hb meet = absurd (cc one)
    by_reset true true false one two fb fa hs ha hb meet = absurd (cc two)
    by_reset false true tb one two fb fa hs ha hb meet = absurd (cc one)
    by_reset false false true one two fb fa hs ha hb meet = absurd (cc two)
    by_reset false false false one two fb fa hs ha hb meet = meet refl
