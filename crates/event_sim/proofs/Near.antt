-- A move concerns its own node, the readers of it, and the wires of the channels that it belongs to.
use Rattle.std.proofs.Common.{◌≡◌, ◌≢◌, ℕ, zero, suc, ◌+◌, ◌/◌, ◌<◌, Bool, true, false, cond, List, [], ◌∷◌, length, get_or, refl, sym, ap, ◌∙◌, inl, inr, arith}
use Rattle.std.specs.Prelude.{◌⊎◌, not, ◌&&◌, ◌||◌, ◌==◌, if◌then◌else◌, slice_get, slice_index, slice_index_or, Option, Some, None, Contains}
use Rattle.std.specs.List.{list_any}
use Rattle.std.proofs.lemmas.Bool.{eqb-true, eqb-false, eq-eqb, or_parts, or_from, or_left, or_right, and_left, and_right, both_ways as clash}
use Rattle.std.proofs.lemmas.List.{get_or-set_other}
use Rattle.prs_core.specs.declared.rule.Literal.{Literal}
use Rattle.prs_core.specs.declared.wires.Wires.{Wires}
use Rattle.prs_core.specs.Nets.{GuardValue, NetValue, up_of, down_of}
use Rattle.prs_core.specs.Moves.{high, fired, literal_holds, term_holds, guard_holds, rule_enabled, both_ways, rail_value_of, neutral}
use Rattle.prs_core.specs.Fans.{term_names, guard_names, is_reader, fan_value}
use Rattle.env_script.specs.Scripts.{OfferValue, gives, takes, nothing, offer_at}
use Rattle.env_script.specs.Environment.{in_reset, is_reset, is_odd, raises_bit, raises_value, raises_next, lowers, offer_moves, channels_move, raises_go}
use Rattle.env_script.specs.Runs.{RunState, move_enabled, moved, completed, history_at, histories_after, with_values}
use Rattle.event_sim.specs.Locality.{is_wire, share_channel, IndexedValue, is_ready, is_among, IsNear}

-- a node that the environment may move for a channel is a wire of it

raises_among : (v : ℕ → Bool) (value m : ℕ) (rails : List ℕ) → list_any (λ rail. m == rail) rails ≡ false → raises_value v value rails m ≡ false
raises_among v value m [] apart = refl
raises_among v value m (t ∷ []) apart = refl
raises_among v value m (t ∷ f ∷ rest) apart =
    let one = or_parts (m == t) (list_any (λ rail. m == rail) (f ∷ rest)) apart in
    let two = or_parts (m == f) (list_any (λ rail. m == rail) rest) one.1 in
    or_from _ _ (by_bit (is_odd value) one.0 two.0) (raises_among v (value / 2) m rest two.1)
  where
    by_bit : (bit : Bool) → (m == t) ≡ false → (m == f) ≡ false → raises_bit v bit t f m ≡ false
    by_bit true no_t no_f = and_left _ _ no_t
    by_bit false no_t no_f = and_left _ _ no_f

pub not_sent : (v : ℕ → Bool) (w : Wires) (values : List ℕ) (done m : ℕ) → list_any (λ rail. m == rail) w.rails ≡ false →
    offer_moves v w (gives values) done m ≡ false
not_sent v w values done m apart = by_ack (slice_get values done) (v w.ack)
  where
    by_ack : (next : Option ℕ) (b : Bool) → (if b then lowers v w.rails m else raises_next v next w.rails m) ≡ false
    by_ack next true = and_right (v m) _ apart
    by_ack None false = refl
    by_ack (Some value) false = raises_among v value m w.rails apart

pub not_offered : (v : ℕ → Bool) (w : Wires) (offer : OfferValue) (done m : ℕ) → is_wire w m ≡ false → offer_moves v w offer done m ≡ false
not_offered v w (gives values) done m apart = not_sent v w values done m (or_parts (m == w.ack) (list_any (λ rail. m == rail) w.rails) apart).1
not_offered v w (takes count) done m apart = and_left _ _ (or_parts (m == w.ack) (list_any (λ rail. m == rail) w.rails) apart).0
not_offered v w nothing done m apart = refl

-- the test for a channel looks at its wires, at the node, and at the count of the channel

raises_agree : (v u : ℕ → Bool) (value m : ℕ) (rails : List ℕ) → ((r : ℕ) → list_any (λ rail. r == rail) rails ≡ true → u r ≡ v r) →
    raises_value u value rails m ≡ raises_value v value rails m
raises_agree v u value m [] agree = refl
raises_agree v u value m (t ∷ []) agree = refl
raises_agree v u value m (t ∷ f ∷ rest) agree =
    let same_t : u t ≡ v t = agree t (or_left _ _ (eq-eqb t t refl)) in
    let same_f : u f ≡ v f = agree f (or_right (f == t) _ (or_left _ _ (eq-eqb f f refl))) in
    rw (same_t, same_f, raises_agree v u (value / 2) m rest (λ r among. agree r (or_right (r == t) _ (or_right (r == f) _ among)))) refl

value_agree : (v u : ℕ → Bool) (rails : List ℕ) → ((r : ℕ) → list_any (λ rail. r == rail) rails ≡ true → u r ≡ v r) →
    rail_value_of u rails ≡ rail_value_of v rails
value_agree v u [] agree = refl
value_agree v u (t ∷ []) agree = refl
value_agree v u (t ∷ f ∷ rest) agree =
    let same_t : u t ≡ v t = agree t (or_left _ _ (eq-eqb t t refl)) in
    let same_f : u f ≡ v f = agree f (or_right (f == t) _ (or_left _ _ (eq-eqb f f refl))) in
    rw (same_t, same_f, value_agree v u rest (λ r among. agree r (or_right (r == t) _ (or_right (r == f) _ among)))) refl

neutral_agree : (v u : ℕ → Bool) (rails : List ℕ) → ((r : ℕ) → list_any (λ rail. r == rail) rails ≡ true → u r ≡ v r) → neutral u rails ≡ neutral v rails
neutral_agree v u [] agree = refl
neutral_agree v u (t ∷ rest) agree =
    let same_t : u t ≡ v t = agree t (or_left _ _ (eq-eqb t t refl)) in
    rw (same_t, neutral_agree v u rest (λ r among. agree r (or_right (r == t) _ among))) refl

offer_agree : (v u : ℕ → Bool) (w : Wires) (offer : OfferValue) (done m : ℕ) → u m ≡ v m → ((r : ℕ) → is_wire w r ≡ true → u r ≡ v r) →
    offer_moves u w offer done m ≡ offer_moves v w offer done m
offer_agree v u w (gives values) done m own agree =
    rw (agree w.ack (or_left _ _ (eq-eqb w.ack w.ack refl))) (by_ack (slice_get values done) (v w.ack))
  where
    by_ack : (next : Option ℕ) (b : Bool) → (if b then lowers u w.rails m else raises_next u next w.rails m) ≡
        (if b then lowers v w.rails m else raises_next v next w.rails m)
    by_ack next true = ap (λ (b : Bool). b && list_any (λ rail. m == rail) w.rails) own
    by_ack None false = refl
    by_ack (Some value) false = raises_agree v u value m w.rails (λ r among. agree r (or_right (r == w.ack) _ among))
offer_agree v u w (takes count) done m own agree =
    rw (
      agree w.ack (or_left _ _ (eq-eqb w.ack w.ack refl)),
      value_agree v u w.rails (λ r among. agree r (or_right (r == w.ack) _ among)),
      neutral_agree v u w.rails (λ r among. agree r (or_right (r == w.ack) _ among)),
    ) refl
offer_agree v u w nothing done m own agree = refl

-- the count of a channel whose acknowledge isn't the node stays
count_kept : (v : ℕ → Bool) (n c : ℕ) (ws : List Wires) (hs : List (List ℕ)) (k : ℕ) (w : Wires) → k < length ws → length hs ≡ length ws →
    (n == (get_or ws k w).ack) ≡ false → history_at (with_values v n ws hs) k ≡ history_at hs k
count_kept v n c [] hs k w within same apart = absurd (omega arith)
count_kept v n c (x ∷ ws) [] k w within same apart = absurd (omega arith)
count_kept v n c (x ∷ ws) (h ∷ hs) zero w within same apart = rw apart refl
count_kept v n c (x ∷ ws) (h ∷ hs) (suc k) w within same apart = count_kept v n c ws hs k w (omega arith) (omega arith) apart

-- so is that of each channel in the state behind the move
pub counts_kept : (net : NetValue) (st : RunState) (n i : ℕ) (d : Wires) → length st.histories ≡ length net.channels → i < length net.channels →
    (n == (get_or net.channels i d).ack) ≡ false → completed (histories_after net st n) i ≡ completed st.histories i
counts_kept net st n i d whole less ack = by_reset (in_reset net.reset (high st.values)) refl
  where
    by_reset : (b : Bool) → in_reset net.reset (high st.values) ≡ b →
        length (history_at (if in_reset net.reset (high st.values) then st.histories else with_values (high st.values) n net.channels st.histories) i) ≡
        length (history_at st.histories i)
    by_reset true on = rw on refl
    by_reset false off = rw off (ap length (count_kept (high st.values) n 0 net.channels st.histories i d less whole ack))

either_same : (a b c d : Bool) → a ≡ c → b ≡ d → (a || b) ≡ (c || d)
either_same a b c d x y = ap (λ (e : Bool). e || b) x ∙ ap (λ (e : Bool). c || e) y

-- whether the environment moves m is the same where only the node n and the count of its own channel change
channels_near : (v u : ℕ → Bool) (n m : ℕ) (script : ℕ → OfferValue) (done later : ℕ → ℕ) → m ≢ n → ((r : ℕ) → r ≢ n → u r ≡ v r) → (c : ℕ) (ws : List Wires) →
    ((i : ℕ) (d : Wires) → i < length ws → is_wire (get_or ws i d) n ≡ true → (script (c + i) ≡ nothing) ⊎ (is_wire (get_or ws i d) m ≡ false)) →
    ((i : ℕ) (d : Wires) → i < length ws → (n == (get_or ws i d).ack) ≡ false → later (c + i) ≡ done (c + i)) →
    channels_move u script later c ws m ≡ channels_move v script done c ws m
channels_near v u n m script done later apart agree c [] shares counts = refl
channels_near v u n m script done later apart agree c (w ∷ ws) shares counts =
    let start : c + 0 ≡ c = omega arith in
    let share : is_wire w n ≡ true → (script c ≡ nothing) ⊎ (is_wire w m ≡ false) = rw start at (shares 0 w (omega arith)) in
    let count : (n == w.ack) ≡ false → later c ≡ done c = rw start at (counts 0 w (omega arith)) in
    either_same _ _ _ _ (here (is_wire w n) refl share count)
    (channels_near v u n m script done later apart agree (suc c) ws
    (λ i d less is. let same : suc c + i ≡ c + suc i = omega arith in rw same (shares (suc i) d (omega arith) is))
    (λ i d less ack. let same : suc c + i ≡ c + suc i = omega arith in rw same (counts (suc i) d (omega arith) ack)))
  where
    apart_wire : (r : ℕ) → is_wire w n ≡ false → is_wire w r ≡ true → r ≢ n
    apart_wire r off is same = clash (is_wire w n) off (ap (is_wire w) (sym same) ∙ is)

    alone : (script c ≡ nothing) ⊎ (is_wire w m ≡ false) → offer_moves u w (script c) (later c) m ≡ offer_moves v w (script c) (done c) m
    alone (inl none) = ap (λ o. offer_moves u w o (later c) m) none ∙ sym (ap (λ o. offer_moves v w o (done c) m) none)
    alone (inr none) = not_offered u w (script c) (later c) m none ∙ sym (not_offered v w (script c) (done c) m none)

    here : (b : Bool) → is_wire w n ≡ b → (is_wire w n ≡ true → (script c ≡ nothing) ⊎ (is_wire w m ≡ false)) → ((n == w.ack) ≡ false → later c ≡ done c) →
        offer_moves u w (script c) (later c) m ≡ offer_moves v w (script c) (done c) m
    here true is share count = alone (share is)
    here false is share count =
        ap (λ (k : ℕ). offer_moves u w (script c) k m) (count (or_parts (n == w.ack) (list_any (λ rail. n == rail) w.rails) is).0)
        ∙ offer_agree v u w (script c) (done c) m (agree m apart) (λ r among. agree r (apart_wire r is among))

go_near : (v u : ℕ → Bool) (n m : ℕ) → m ≢ n → ((r : ℕ) → r ≢ n → u r ≡ v r) → raises_go u m ≡ raises_go v m
go_near v u n m apart agree = by_zero (m == 0) refl
  where
    by_zero : (b : Bool) → (m == 0) ≡ b → ((m == 0) && not (u 0)) ≡ ((m == 0) && not (v 0))
    by_zero true is = ap (λ (b : Bool). (m == 0) && not b) (agree 0 (λ same. apart (eqb-true m 0 is ∙ same)))
    by_zero false is = rw is refl

reset_near : (reset : Option ℕ) (v u : ℕ → Bool) (n : ℕ) → ((r : ℕ) → r ≢ n → u r ≡ v r) → is_reset reset n ≡ false → in_reset reset u ≡ in_reset reset v
reset_near None v u n agree other = refl
reset_near (Some r) v u n agree other = agree r (λ same. clash (n == r) other (eq-eqb n r (sym same)))

-- a rule is enabled as before where it doesn't read the node

pub fired_agree : (state : List Bool) (n r : ℕ) → r ≢ n → high (fired state n) r ≡ high state r
fired_agree state n r apart = get_or-set_other state n r (not (high state n)) false apart

both_same : (a b c d : Bool) → a ≡ c → b ≡ d → (a && b) ≡ (c && d)
both_same a b c d x y = ap (λ e. e && b) x ∙ ap (λ e. c && e) y

literal_same : (state : List Bool) (n : ℕ) (l : Literal) → (l.node == n) ≡ false → literal_holds (high (fired state n)) l ≡ literal_holds (high state) l
literal_same state n l apart = ap (λ v. cond l.high v (not v)) (fired_agree state n l.node (eqb-false l.node n apart))

term_same : (state : List Bool) (n : ℕ) (t : List Literal) → term_names n t ≡ false → term_holds (high (fired state n)) t ≡ term_holds (high state) t
term_same state n [] apart = refl
term_same state n (l ∷ t) apart =
    let parts = or_parts (l.node == n) (term_names n t) apart in
    both_same _ _ _ _ (literal_same state n l parts.0) (term_same state n t parts.1)

guard_same : (state : List Bool) (n : ℕ) (g : GuardValue) → guard_names n g ≡ false → guard_holds (high (fired state n)) g ≡ guard_holds (high state) g
guard_same state n [] apart = refl
guard_same state n (t ∷ g) apart =
    let parts = or_parts (term_names n t) (guard_names n g) apart in
    either_same _ _ _ _ (term_same state n t parts.0) (guard_same state n g parts.1)

rule_near : (net : NetValue) (state : List Bool) (n m : ℕ) → m ≢ n → is_reader net n m ≡ false →
    rule_enabled net (high (fired state n)) m ≡ rule_enabled net (high state) m
rule_near net state n m apart unread =
    let parts = or_parts (guard_names n (up_of net m)) (guard_names n (down_of net m)) unread in
    rw (fired_agree state n m apart, guard_same state n (up_of net m) parts.0, guard_same state n (down_of net m) parts.1) refl

pub pulled_near : (net : NetValue) (state : List Bool) (n m : ℕ) → is_reader net n m ≡ false →
    both_ways net (high (fired state n)) m ≡ both_ways net (high state) m
pulled_near net state n m unread =
    let parts = or_parts (guard_names n (up_of net m)) (guard_names n (down_of net m)) unread in
    rw (guard_same state n (up_of net m) parts.0, guard_same state n (down_of net m) parts.1) refl

-- a node that doesn't read the moved one, and shares no channel with it in which the environment has a part
pub ready_near : (x : IndexedValue) (was done : List ℕ) (before : List Bool) (n m : ℕ) → is_reset x.net.reset n ≡ false → m ≢ n → is_reader x.net n m ≡ false →
    ((c : ℕ) (d : Wires) → c < length x.net.channels → is_wire (get_or x.net.channels c d) n ≡ true →
    (offer_at x.script c ≡ nothing) ⊎ (is_wire (get_or x.net.channels c d) m ≡ false)) →
    ((c : ℕ) (d : Wires) → c < length x.net.channels → (n == (get_or x.net.channels c d).ack) ≡ false → slice_index done c ≡ slice_index was c) →
    is_ready x done (fired before n) m ≡ is_ready x was before m
ready_near x was done before n m other apart unread shares counts =
    let agree : (r : ℕ) → r ≢ n → high (fired before n) r ≡ high before r = fired_agree before n in
    either_same _ _ _ _ (rule_near x.net before n m apart unread)
    (both_same _ _ _ _ (ap not (reset_near x.net.reset (high before) (high (fired before n)) n agree other))
    (either_same _ _ _ _ (go_near (high before) (high (fired before n)) n m apart agree)
    (channels_near (high before) (high (fired before n)) n m (offer_at x.script) (slice_index was) (slice_index done) apart agree 0 x.net.channels
    (λ i d less is. let same : 0 + i ≡ i = omega arith in rw same (shares i d less is))
    (λ i d less ack. let same : 0 + i ≡ i = omega arith in rw same (counts i d less ack)))))

pub reset_kept : (reset : Option ℕ) (before : List Bool) (n : ℕ) → is_reset reset n ≡ false →
    in_reset reset (high (fired before n)) ≡ in_reset reset (high before)
reset_kept reset before n other = reset_near reset (high before) (high (fired before n)) n (fired_agree before n) other

-- the law

no_share : (a b : Bool) → (a && b) ≡ false → a ≡ true → b ≡ false
no_share true b apart on = apart
no_share false b apart on = absurd (cc on)

unshared : (n m : ℕ) (ws : List Wires) → list_any (λ (w : Wires). is_wire w n && is_wire w m) ws ≡ false → (i : ℕ) (d : Wires) → i < length ws →
    is_wire (get_or ws i d) n ≡ true → is_wire (get_or ws i d) m ≡ false
unshared n m [] shares i d within is = absurd (omega arith)
unshared n m (w ∷ ws) shares zero d within is =
    no_share (is_wire w n) (is_wire w m) (or_parts (is_wire w n && is_wire w m) (list_any (λ (x : Wires). is_wire x n && is_wire x m) ws) shares).0 is
unshared n m (w ∷ ws) shares (suc i) d within is =
    unshared n m ws (or_parts (is_wire w n && is_wire w m) (list_any (λ (x : Wires). is_wire x n && is_wire x m) ws) shares).1 i d (omega arith) is

when_off : (b x y : Bool) → b ≡ false → (if b then x else y) ≡ y
when_off true x y off = absurd (cc off)
when_off false x y off = refl

-- what the index of readers says
abbrev pub OnlyReaders : Type 0
OnlyReaders = (net : NetValue) (state : List Bool) (n m : ℕ) → n < length net.first → m < length net.first → m ≢ n →
    ¬ Contains (slice_index_or (fan_value net) n []) m → rule_enabled net (high (fired state n)) m ≡ rule_enabled net (high state) m

-- where no reset is on, a move that makes none come on
pub near : OnlyReaders → (net : NetValue) (script : List OfferValue) (st : RunState) (n m : ℕ) → in_reset net.reset (high st.values) ≡ false →
    is_reset net.reset n ≡ false → length st.histories ≡ length net.channels → n < length net.first → m < length net.first → m ≢ n →
    ¬ Contains (slice_index_or (fan_value net) n []) m → share_channel net n m ≡ false →
    move_enabled net script (moved net st n) m ≡ move_enabled net script st m
near only net script st n m off other whole n_in m_in apart unread shares =
    either_same _ _ _ _ (only net st.values n m n_in m_in apart unread)
    (when_off (in_reset net.reset u) _ _ (reset_near net.reset v u n agree other ∙ off)
    ∙ either_same _ _ _ _ (go_near v u n m apart agree)
    (channels_near v u n m (offer_at script) (completed st.histories) (completed (histories_after net st n)) apart agree 0 net.channels
    (λ i d less is. inr (unshared n m net.channels shares i d less is)) counts) ∙ sym (when_off (in_reset net.reset v) _ _ off))
  where
    v : ℕ → Bool
    v = high st.values

    u : ℕ → Bool
    u = high (fired st.values n)

    agree : (r : ℕ) → r ≢ n → u r ≡ v r
    agree r r_apart = fired_agree st.values n r r_apart

    counts : (i : ℕ) (d : Wires) → i < length net.channels → (n == (get_or net.channels i d).ack) ≡ false →
        completed (histories_after net st n) (0 + i) ≡ completed st.histories (0 + i)
    counts i d less ack = let same : 0 + i ≡ i = omega arith in rw same (counts_kept net st n i d whole less ack)

env_same : (b c x y z w r : Bool) → b ≡ c → r ≡ false → y ≡ w → (if b then r && x else y) ≡ (if c then r && z else w)
env_same true true x y z w false same off e = refl
env_same false false x y z w false same off e = e
env_same b c x y z w true same off e = absurd (cc off)
env_same true false x y z w r same off e = absurd (cc same)
env_same false true x y z w r same off e = absurd (cc same)

-- with a reset on too, but for the reset node
pub near_state : (x : IndexedValue) (st : RunState) (n m : ℕ) (nodes : List ℕ) → IsNear x n nodes → is_reset x.net.reset n ≡ false →
    is_reset x.net.reset m ≡ false → length st.histories ≡ length x.net.channels → m < length x.net.first → m ≢ n → is_among nodes m ≡ false →
    move_enabled x.net x.script (moved x.net st n) m ≡ move_enabled x.net x.script st m
near_state x st n m nodes is other apart_reset whole within apart unnamed =
    either_same _ _ _ _ (rule_near x.net st.values n m apart (is.readers m within unnamed))
    (env_same _ _ _ _ _ _ _ (reset_near x.net.reset v u n agree other) apart_reset
    (either_same _ _ _ _ (go_near v u n m apart agree)
    (channels_near v u n m (offer_at x.script) (completed st.histories) (completed (histories_after x.net st n)) apart agree 0 x.net.channels
    (λ i d less wire. let same : 0 + i ≡ i = omega arith in rw same (is.wires m i d unnamed less wire)) counts)))
  where
    v : ℕ → Bool
    v = high st.values

    u : ℕ → Bool
    u = high (fired st.values n)

    agree : (r : ℕ) → r ≢ n → u r ≡ v r
    agree r r_apart = fired_agree st.values n r r_apart

    counts : (i : ℕ) (d : Wires) → i < length x.net.channels → (n == (get_or x.net.channels i d).ack) ≡ false →
        completed (histories_after x.net st n) (0 + i) ≡ completed st.histories (0 + i)
    counts i d less ack = let same : 0 + i ≡ i = omega arith in rw same (counts_kept x.net st n i d whole less ack)
