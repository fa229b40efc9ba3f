-- What stands on a channel in place of what a script lists.
use Rattle.std.proofs.Common.{◌≡◌, ℕ, zero, suc, ◌+◌, ◌<◌, ◌≤◌, Bool, true, false, List, [], ◌∷◌, ◌++◌, length, get_or, set, map, replicate, refl, sym, ap, ◌∙◌, inl, inr, arith}
use Rattle.std.specs.Prelude.{◌⊎◌, not, ◌&&◌, ◌||◌, ◌==◌, nat_lt, if◌then◌else◌, slice_get, slice_index, Option, Some, None}
use Rattle.std.proofs.lemmas.Bool.{eqb-true, eqb-false, ne_eqb, or_parts, or_from, and_parts, and_from, cases_lt, cases_eq, lt-ltb, le-ltb}
use Rattle.std.proofs.lemmas.List.{length-replicate, get_or-replicate, get_or-set_other}
use Rattle.std.proofs.lemmas.List.Folds.{list_any-append}
use Rattle.std.proofs.lemmas.Option.{slice_get-get_or, slice_get_past}
use Rattle.prs_core.specs.declared.wires.Wires.{Wires}
use Rattle.prs_core.specs.Nets.{NetValue}
use Rattle.prs_core.specs.Moves.{high, rule_enabled}
use Rattle.env_script.specs.declared.script.Count.{Count}
use Rattle.env_script.specs.declared.script.Count.TheVariants.{Times}
use Rattle.env_script.specs.declared.script.Offer.{Offer}
use Rattle.env_script.specs.Scripts.{OfferValue, gives, takes, nothing, offer_at}
use Rattle.env_script.specs.Offers.{offered}
use Rattle.env_script.specs.Environment.{sender_moves, receiver_moves, offer_moves, channels_move, in_reset, raises_go}
use Rattle.event_sim.specs.Locality.{is_wire, is_ready, is_among}
use Rattle.event_sim.specs.Standings.{StandingValue, standing_of, is_one, one_like, one_now, is_alike, times_over, stands, script_with, are_alike, offered_count, one_more, script_and}
use Rattle.event_sim.proofs.Near.{not_offered}
use Rattle.event_sim.proofs.Behind.{turned}

-- one value or one acceptance, so many times

next_over : (v done k : ℕ) → slice_get (v ∷ []) (if nat_lt done k then 0 else 1) ≡ slice_get (replicate k v) done
next_over v done k = by_order (cases_lt done k)
  where
    by_order : (done < k) ⊎ (k ≤ done) → slice_get (v ∷ []) (if nat_lt done k then 0 else 1) ≡ slice_get (replicate k v) done
    by_order (inl less) =
        ap (λ b. slice_get (v ∷ []) (if b then 0 else 1)) (lt-ltb done k less)
        ∙ sym (slice_get-get_or (replicate k v) done v (omega (arith, length-replicate k v)) ∙ ap Some (get_or-replicate k done v v less))
    by_order (inr past) =
        ap (λ b. slice_get (v ∷ []) (if b then 0 else 1)) (le-ltb done k past) ∙ sym (slice_get_past (replicate k v) done (omega (arith, length-replicate k v)))

more_over : (done k : ℕ) → nat_lt (if nat_lt done k then 0 else 1) 1 ≡ nat_lt done k
more_over done k = by_test (nat_lt done k)
  where
    by_test : (b : Bool) → nat_lt (if b then 0 else 1) 1 ≡ b
    by_test true = refl
    by_test false = refl

pub moves_over : (v : ℕ → Bool) (w : Wires) (one : OfferValue) (k done n : ℕ) → is_one one ≡ true →
    offer_moves v w one (if nat_lt done k then 0 else 1) n ≡ offer_moves v w (times_over k one) done n
moves_over v w (gives []) k done n is = absurd (cc is)
moves_over v w (gives (x ∷ [])) k done n is = ap (λ next. sender_moves v w next n) (next_over x done k)
moves_over v w (gives (x ∷ y ∷ xs)) k done n is = absurd (cc is)
moves_over v w (takes Count.All) k done n is = absurd (cc is)
moves_over v w (takes (Times j)) k done n is =
    ap (λ (m : ℕ). receiver_moves v w (nat_lt (if nat_lt done k then 0 else 1) m) n) (eqb-true j 1 is)
    ∙ ap (λ more. receiver_moves v w more n) (more_over done k)
moves_over v w nothing k done n is = refl

-- with another value

alike_now : (value : ℕ) (one listed : OfferValue) → is_alike (one_now value one) listed ≡ is_alike one listed
alike_now value (gives xs) (gives ys) = refl
alike_now value (gives xs) (takes count) = refl
alike_now value (gives xs) nothing = refl
alike_now value (takes count) listed = refl
alike_now value nothing listed = refl

alike_over : (k : ℕ) (one : OfferValue) → is_alike one (times_over k one) ≡ true
alike_over k (gives []) = refl
alike_over k (gives (v ∷ vs)) = refl
alike_over k (takes count) = refl
alike_over k nothing = refl

alike_stands : (times : Option ℕ) (one listed : OfferValue) → is_alike one listed ≡ true → is_alike one (stands times one listed) ≡ true
alike_stands None one listed like = like
alike_stands (Some k) one listed like = alike_over k one

-- one more time
more_stands : (one offer : OfferValue) (k value : ℕ) → is_alike one offer ≡ true → offered_count offer ≡ Some k →
    times_over (k + 1) (one_now value one) ≡ one_more value offer
more_stands (gives xs) (gives ys) k value like counted = ap (λ (n : ℕ). gives (replicate (n + 1) value)) (sym (same_some _ _ counted))
  where
    same_some : (a b : ℕ) → Some a ≡ Some b → a ≡ b
    same_some a b e = cc
more_stands (gives xs) (takes count) k value like counted = absurd (cc like)
more_stands (gives xs) nothing k value like counted = absurd (cc like)
more_stands (takes count) (gives ys) k value like counted = absurd (cc like)
more_stands (takes count) (takes Count.All) k value like counted = absurd (cc counted)
more_stands (takes count) (takes (Times j)) k value like counted = ap (λ (n : ℕ). takes (Times (n + 1))) (sym (same_some _ _ counted))
  where
    same_some : (a b : ℕ) → Some a ≡ Some b → a ≡ b
    same_some a b e = cc
more_stands (takes count) nothing k value like counted = absurd (cc like)
more_stands nothing (gives ys) k value like counted = absurd (cc like)
more_stands nothing (takes count) k value like counted = absurd (cc like)
more_stands nothing nothing k value like counted = absurd (cc counted)

-- the offers of all channels

pub with_none : (xs : List Offer) → script_with (map (λ (o : Offer). standing_of (one_like (offered o)) None) xs) (map offered xs) ≡ map offered xs
with_none [] = refl
with_none (x ∷ xs) = ap (λ (ys : List OfferValue). offered x ∷ ys) (with_none xs)

like_one : (o : OfferValue) → is_alike (one_like o) o ≡ true
like_one (gives values) = refl
like_one (takes count) = refl
like_one nothing = refl

pub none_alike : (xs : List Offer) → are_alike (map (λ (o : Offer). standing_of (one_like (offered o)) None) xs) (map offered xs) ≡ true
none_alike [] = refl
none_alike (x ∷ xs) = and_from _ _ (like_one (offered x)) (none_alike xs)

pub lengths : (ss : List StandingValue) (os : List OfferValue) → are_alike ss os ≡ true →
    (length (script_with ss os) ≡ length ss) × (length os ≡ length ss)
lengths [] [] like = (refl, refl)
lengths [] (o ∷ os) like = absurd (cc like)
lengths (s ∷ ss) [] like = absurd (cc like)
lengths (s ∷ ss) (o ∷ os) like =
    let rest = lengths ss os (and_parts (is_alike s.one o) (are_alike ss os) like).1 in
    (ap suc rest.0, ap suc rest.1)

pub with_at : (ss : List StandingValue) (os : List OfferValue) (k : ℕ) (d : StandingValue) → are_alike ss os ≡ true → k < length ss →
    offer_at (script_with ss os) k ≡ stands (get_or ss k d).times (get_or ss k d).one (offer_at os k)
with_at [] os k d like within = absurd (omega arith)
with_at (s ∷ ss) [] k d like within = absurd (cc like)
with_at (s ∷ ss) (o ∷ os) zero d like within = refl
with_at (s ∷ ss) (o ∷ os) (suc k) d like within = with_at ss os k d (and_parts (is_alike s.one o) (are_alike ss os) like).1 (omega arith)

pub alike_at : (ss : List StandingValue) (os : List OfferValue) (k : ℕ) (d : StandingValue) → are_alike ss os ≡ true → k < length ss →
    is_alike (get_or ss k d).one (offer_at os k) ≡ true
alike_at [] os k d like within = absurd (omega arith)
alike_at (s ∷ ss) [] k d like within = absurd (cc like)
alike_at (s ∷ ss) (o ∷ os) zero d like within = (and_parts (is_alike s.one o) (are_alike ss os) like).0
alike_at (s ∷ ss) (o ∷ os) (suc k) d like within = alike_at ss os k d (and_parts (is_alike s.one o) (are_alike ss os) like).1 (omega arith)

with_set : (ss : List StandingValue) (os : List OfferValue) (k : ℕ) (s : StandingValue) → are_alike ss os ≡ true → k < length ss →
    script_with (set ss k s) os ≡ set (script_with ss os) k (stands s.times s.one (offer_at os k))
with_set [] os k s like within = absurd (omega arith)
with_set (t ∷ ss) [] k s like within = absurd (cc like)
with_set (t ∷ ss) (o ∷ os) zero s like within = refl
with_set (t ∷ ss) (o ∷ os) (suc k) s like within =
    ap (λ (xs : List OfferValue). stands t.times t.one o ∷ xs) (with_set ss os k s (and_parts (is_alike t.one o) (are_alike ss os) like).1 (omega arith))

alike_set : (ss : List StandingValue) (os : List OfferValue) (k : ℕ) (s : StandingValue) → are_alike ss os ≡ true → k < length ss →
    is_alike s.one (offer_at os k) ≡ true → are_alike (set ss k s) os ≡ true
alike_set [] os k s like within here = absurd (omega arith)
alike_set (t ∷ ss) [] k s like within here = absurd (cc like)
alike_set (t ∷ ss) (o ∷ os) zero s like within here = and_from _ _ here (and_parts (is_alike t.one o) (are_alike ss os) like).1
alike_set (t ∷ ss) (o ∷ os) (suc k) s like within here =
    let parts = and_parts (is_alike t.one o) (are_alike ss os) like in
    and_from _ _ parts.0 (alike_set ss os k s parts.1 (omega arith) here)

-- what is offered on a channel, by what is kept of it
pub stands_at : (ss : List StandingValue) (os now : List OfferValue) (k : ℕ) (s : StandingValue) (o : OfferValue) → are_alike ss os ≡ true →
    k < length ss → script_with ss os ≡ now → s ≡ get_or ss k s → o ≡ offer_at os k → stands s.times s.one o ≡ offer_at now k
stands_at ss os now k s o like within seen at listed =
    ap (λ (t : StandingValue). stands t.times t.one o) at
    ∙ ap (stands (get_or ss k s).times (get_or ss k s).one) listed
    ∙ sym (with_at ss os k s like within) ∙ ap (λ (xs : List OfferValue). offer_at xs k) seen

pub stands_within : (ss : List StandingValue) (os now : List OfferValue) (k : ℕ) → are_alike ss os ≡ true → script_with ss os ≡ now → k < length now →
    (k < length ss) × (k < length os)
stands_within ss os now k like seen within =
    let both = lengths ss os like in
    (omega (arith, both.0, ap length seen), omega (arith, both.0, both.1, ap length seen))

-- one more on one channel
pub add_alike : (ss : List StandingValue) (os : List OfferValue) (k value n : ℕ) (d : StandingValue) → are_alike ss os ≡ true → k < length ss →
    are_alike (set ss k (standing_of (one_now value (get_or ss k d).one) (Some n))) os ≡ true
add_alike ss os k value n d like within =
    alike_set ss os k (standing_of (one_now value (get_or ss k d).one) (Some n)) like within
    (alike_now value (get_or ss k d).one (offer_at os k) ∙ alike_at ss os k d like within)

pub add_is : (ss : List StandingValue) (os : List OfferValue) (k value n : ℕ) (d : StandingValue) → are_alike ss os ≡ true → k < length ss →
    offered_count (offer_at (script_with ss os) k) ≡ Some n →
    script_with (set ss k (standing_of (one_now value (get_or ss k d).one) (Some (n + 1)))) os ≡ script_and k value (script_with ss os)
add_is ss os k value n d like within counted =
    with_set ss os k (standing_of (one_now value (get_or ss k d).one) (Some (n + 1))) like within
    ∙ ap (set (script_with ss os) k) (more_stands (get_or ss k d).one (stands (get_or ss k d).times (get_or ss k d).one (offer_at os k)) n value
    (alike_stands (get_or ss k d).times (get_or ss k d).one (offer_at os k) (alike_at ss os k d like within))
    (ap offered_count (sym (with_at ss os k d like within)) ∙ counted) ∙ ap (one_more value) (sym (with_at ss os k d like within)))

-- what one more on a channel enables: at most its own wires

unwired : (w : Wires) (n : ℕ) → is_among (w.rails ++ w.ack ∷ []) n ≡ false → is_wire w n ≡ false
unwired w n apart =
    let parts = or_parts _ _ (sym (list_any-append (λ k. k == n) w.rails (w.ack ∷ [])) ∙ apart) in
    or_from _ _ (ne_eqb n w.ack (λ same. eqb-false w.ack n (or_parts (w.ack == n) false parts.1).0 (sym same))) (turned n w.rails parts.0)

channels_apart : (v : ℕ → Bool) (script later : ℕ → OfferValue) (done : ℕ → ℕ) (n c : ℕ) (ws : List Wires) →
    ((i : ℕ) (d : Wires) → i < length ws → (later (c + i) ≡ script (c + i)) ⊎ (is_wire (get_or ws i d) n ≡ false)) →
    channels_move v later done c ws n ≡ channels_move v script done c ws n
channels_apart v script later done n c [] each = refl
channels_apart v script later done n c (w ∷ ws) each =
    let start : c + 0 ≡ c = omega arith in
    let first : (later c ≡ script c) ⊎ (is_wire w n ≡ false) = rw start at (each 0 w (omega arith)) in
    ap (λ (b : Bool). b || channels_move v later done (suc c) ws n) (here first)
    ∙ ap (λ (b : Bool). offer_moves v w (script c) (done c) n || b) (channels_apart v script later done n (suc c) ws
    (λ i d less. let same : suc c + i ≡ c + suc i = omega arith in rw same (each (suc i) d (omega arith))))
  where
    here : (later c ≡ script c) ⊎ (is_wire w n ≡ false) → offer_moves v w (later c) (done c) n ≡ offer_moves v w (script c) (done c) n
    here (inl same) = ap (λ o. offer_moves v w o (done c) n) same
    here (inr none) = not_offered v w (later c) (done c) n none ∙ sym (not_offered v w (script c) (done c) n none)

pub ready_apart : (net : NetValue) (script : List OfferValue) (done : List ℕ) (values : List Bool) (chan value n : ℕ) (w : Wires) →
    ((d : Wires) → get_or net.channels chan d ≡ w) → is_among (w.rails ++ w.ack ∷ []) n ≡ false →
    is_ready (record { net = net; script = script_and chan value script }) done values n ≡ is_ready (record { net = net; script = script }) done values n
ready_apart net script done values chan value n w here apart =
    ap (λ (b : Bool). rule_enabled net (high values) n || (not (in_reset net.reset (high values)) && (raises_go (high values) n || b)))
    (channels_apart (high values) (offer_at script) (offer_at (script_and chan value script)) (slice_index done) n 0 net.channels each)
  where
    by_place : (i : ℕ) (d : Wires) → (i ≡ chan) ⊎ (i ≡ chan → ⊥) →
        (offer_at (script_and chan value script) i ≡ offer_at script i) ⊎ (is_wire (get_or net.channels i d) n ≡ false)
    by_place i d (inl same) =
        inr (ap (λ (k : ℕ). is_wire (get_or net.channels k d) n) same ∙ ap (λ (x : Wires). is_wire x n) (here d) ∙ unwired w n apart)
    by_place i d (inr other) = inl (get_or-set_other script chan i (one_more value (offer_at script chan)) nothing other)

    each : (i : ℕ) (d : Wires) → i < length net.channels →
        (offer_at (script_and chan value script) (0 + i) ≡ offer_at script (0 + i)) ⊎ (is_wire (get_or net.channels i d) n ≡ false)
    each i d less = let same : 0 + i ≡ i = omega arith in rw same (by_place i d (cases_eq i chan))
