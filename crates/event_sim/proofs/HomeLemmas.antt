-- A node is a wire of one channel at most, and that channel alone tells what the environment may do with it.
use Rattle.std.proofs.Common.{◌≡◌, ◌≢◌, ℕ, zero, suc, ◌+◌, ◌<◌, ◌≤◌, Bool, true, false, cond, ltb, List, [], ◌∷◌, ◌++◌, length, get_or, map, refl, sym, ap, subst, ◌∙◌, inl, inr, arith}
use Rattle.std.specs.Prelude.{◌⊎◌, not, ◌&&◌, ◌||◌, ◌==◌, All, position, codes, decimal, Option, Some, None, IfSome}
use Rattle.std.specs.List.{list_any, list_all, flat_map, range_with_len, position_or_len}
use Rattle.std.proofs.lemmas.Bool.{eqb-true, or_cases, and_parts, or_from, cases_eq, cases_lt, lt-ltb, le-ltb, both_ways, not_from_true, not_from_false, or_parts, or_left, and_from}
use Rattle.std.proofs.lemmas.List.{append_assoc, get_or_default}
use Rattle.std.proofs.lemmas.List.Elements.{All-cons, All-nil, All-tail, All-head}
use Rattle.std.proofs.lemmas.List.Sums.{prefix_len_is}
use Rattle.prs_core.specs.declared.wires.Wires.{Wires}
use Rattle.prs_core.specs.Nets.{NetValue, IsNet, IsChannel, name_at, true_rail, false_rail}
use Rattle.prs_core.specs.Moves.{rail_value_of}
use Rattle.chp_base.specs.Names.{word_part}
use Rattle.env_script.specs.Scripts.{OfferValue, offer_at}
use Rattle.env_script.specs.Environment.{in_reset, offer_moves, channels_move}
use Rattle.env_script.specs.Phases.{rails_keep, phases_keep, phase_fault}
use Rattle.env_script.specs.Runs.{completes}
use Rattle.event_sim.specs.Passing.{completion}
use Rattle.event_sim.specs.Locality.{is_wire, IsHome}
use Rattle.event_sim.proofs.Near.{not_offered}
use Rattle.event_sim.proofs.Passed.{none_unknown, completion_is, paired}

-- the name goes on with a dot behind that of the channel
pub record IsOf (channel name : List ℕ) : Type 0 where
  pub rest : List ℕ
  pub is : name ≡ channel ++ 46 ∷ rest

of_rail : (channel : List ℕ) (bit : ℕ) → IsOf channel (true_rail channel bit)
of_rail channel bit = record {
  rest = decimal bit ++ codes ".t";
  is = ap (λ (xs : List ℕ). xs ++ codes ".t") (append_assoc channel (codes ".") (decimal bit)) ∙ append_assoc channel (46 ∷ decimal bit) (codes ".t");
}

of_other : (channel : List ℕ) (bit : ℕ) → IsOf channel (false_rail channel bit)
of_other channel bit = record {
  rest = decimal bit ++ codes ".f";
  is = ap (λ (xs : List ℕ). xs ++ codes ".f") (append_assoc channel (codes ".") (decimal bit)) ∙ append_assoc channel (46 ∷ decimal bit) (codes ".f");
}

rails_of : (channel : List ℕ) (bits : List ℕ) → All (IsOf channel) (flat_map (λ bit. true_rail channel bit ∷ false_rail channel bit ∷ []) bits)
rails_of channel [] = All-nil (IsOf channel)
rails_of channel (bit ∷ bits) =
    let rest : List (List ℕ) = flat_map (λ b. true_rail channel b ∷ false_rail channel b ∷ []) bits in
    All-cons (IsOf channel) (true_rail channel bit) (false_rail channel bit ∷ rest) (of_rail channel bit)
    (All-cons (IsOf channel) (false_rail channel bit) rest (of_other channel bit) (rails_of channel bits))

among_of : (net : NetValue) (channel : List ℕ) (n : ℕ) (rails : List ℕ) → All (IsOf channel) (map (name_at net) rails) →
    list_any (λ rail. n == rail) rails ≡ true → IsOf channel (name_at net n)
among_of net channel n [] all among = absurd (cc among)
among_of net channel n (r ∷ rails) all among =
    by_case (or_cases (n == r) (list_any (λ rail. n == rail) rails) among)
    (λ later. among_of net channel n rails (All-tail (IsOf channel) (name_at net r) (map (name_at net) rails) all) later)
  where
    by_case : ((n == r) ≡ true) ⊎ (list_any (λ rail. n == rail) rails ≡ true) → (list_any (λ rail. n == rail) rails ≡ true → IsOf channel (name_at net n)) →
        IsOf channel (name_at net n)
    by_case (inl here) later =
        subst (λ k. IsOf channel (name_at net k)) (sym (eqb-true n r here)) (All-head (IsOf channel) (name_at net r) (map (name_at net) rails) all)
    by_case (inr there) later = later there

wire_of : (net : NetValue) (w : Wires) (n : ℕ) → IsChannel net w → is_wire w n ≡ true → IsOf w.channel.name (name_at net n)
wire_of net w n is wire = by_case (or_cases (n == w.ack) (list_any (λ rail. n == rail) w.rails) wire)
  where
    by_case : ((n == w.ack) ≡ true) ⊎ (list_any (λ rail. n == rail) w.rails ≡ true) → IsOf w.channel.name (name_at net n)
    by_case (inl ack) = record { rest = codes "a"; is = ap (name_at net) (eqb-true n w.ack ack) ∙ is.ack }
    by_case (inr rail) =
        among_of net w.channel.name n w.rails (subst (λ (names : List (List ℕ)). All (IsOf w.channel.name) names) (sym is.rails)
        (rails_of w.channel.name (range_with_len 0 w.channel.width))) rail

-- a name without a dot is what stands before the first one
same_front : (xs ys rest more : List ℕ) → list_all word_part xs ≡ true → list_all word_part ys ≡ true → xs ++ 46 ∷ rest ≡ ys ++ 46 ∷ more → xs ≡ ys
same_front [] [] rest more one two same = refl
same_front [] (y ∷ ys) rest more one two same =
    let dot : 46 ≡ y = ap (λ (zs : List ℕ). get_or zs 0 0) same in
    absurd (both_ways (word_part 46) refl (ap word_part dot ∙ (and_parts (word_part y) (list_all word_part ys) two).0))
same_front (x ∷ xs) [] rest more one two same =
    let dot : x ≡ 46 = ap (λ (zs : List ℕ). get_or zs 0 0) same in
    absurd (both_ways (word_part 46) refl (ap word_part (sym dot) ∙ (and_parts (word_part x) (list_all word_part xs) one).0))
same_front (x ∷ xs) (y ∷ ys) rest more one two same =
    let first : x ≡ y = ap (λ (zs : List ℕ). get_or zs 0 0) same in
    let others : xs ≡ ys = same_front xs ys rest more (and_parts (word_part x) (list_all word_part xs) one).1
    (and_parts (word_part y) (list_all word_part ys) two).1 (ap tail same) in
    ap (λ k. k ∷ xs) first ∙ ap (λ (zs : List ℕ). y ∷ zs) others
  where
    tail : List ℕ → List ℕ
    tail [] = []
    tail (z ∷ zs) = zs

wire_apart : (net : NetValue) → IsNet net → (i j n : ℕ) (d : Wires) → i < j → j < length net.channels → is_wire (get_or net.channels i d) n ≡ true →
    is_wire (get_or net.channels j d) n ≡ true → ⊥
wire_apart net is i j n d less within one two =
    let v : Wires = get_or net.channels i d in
    let w : Wires = get_or net.channels j d in
    let is_v : IsChannel net v = is.channels i d (omega arith) in
    let is_w : IsChannel net w = is.channels j d within in
    let of_v : IsOf v.channel.name (name_at net n) = wire_of net v n is_v one in
    let of_w : IsOf w.channel.name (name_at net n) = wire_of net w n is_w two in
    is.channels_distinct i j d less within
    (same_front v.channel.name w.channel.name of_v.rest of_w.rest is_v.name.parts is_w.name.parts (sym of_v.is ∙ of_w.is))

-- a node is a wire of one channel at most
pub one_home : (net : NetValue) → IsNet net → (i j n : ℕ) (d : Wires) → i < length net.channels → j < length net.channels →
    is_wire (get_or net.channels i d) n ≡ true → is_wire (get_or net.channels j d) n ≡ true → i ≡ j
one_home net is i j n d first second one two = by_order (cases_lt i j)
  where
    by_order : (i < j) ⊎ (j ≤ i) → i ≡ j
    by_order (inl less) = absurd (wire_apart net is i j n d less second one two)
    by_order (inr past) = by_place (cases_eq i j)
      where
        by_place : (i ≡ j) ⊎ (i ≡ j → ⊥) → i ≡ j
        by_place (inl same) = same
        by_place (inr apart) = absurd (wire_apart net is j i n d (omega arith) first two one)

-- what no channel but its own tells

pub not_other : (net : NetValue) (n c k : ℕ) (d : Wires) (home : Option ℕ) → IsHome net n home → home ≡ Some c → k < length net.channels → k ≢ c →
    is_wire (get_or net.channels k d) n ≡ false
not_other net n c k d home is at within apart = by_test (is_wire (get_or net.channels k d) n) refl
  where
    same_of : Some k ≡ Some c → k ≡ c
    same_of e = cc

    by_test : (b : Bool) → is_wire (get_or net.channels k d) n ≡ b → b ≡ false
    by_test false e = refl
    by_test true e = absurd (apart (same_of (sym (is.only k d within e) ∙ at)))

pub not_any : (net : NetValue) (n k : ℕ) (d : Wires) (home : Option ℕ) → IsHome net n home → home ≡ None → k < length net.channels →
    is_wire (get_or net.channels k d) n ≡ false
not_any net n k d home is none within = by_test (is_wire (get_or net.channels k d) n) refl
  where
    by_test : (b : Bool) → is_wire (get_or net.channels k d) n ≡ b → b ≡ false
    by_test false e = refl
    by_test true e = let some : home ≡ Some k = is.only k d within e in absurd (cc (some, none))

-- the first channel that passes, where only its own can

pub position_none : (p : Wires → Bool) (ws : List Wires) → ((k : ℕ) (d : Wires) → k < length ws → p (get_or ws k d) ≡ false) → position p ws ≡ None
position_none p [] none = refl
position_none p (w ∷ ws) none =
    let past : position_or_len p (w ∷ ws) ≡ length (w ∷ ws) = prefix_len_is (λ x. not (p x)) (w ∷ ws) (length (w ∷ ws)) w (omega arith)
    (λ k less. not_from_false (p (get_or (w ∷ ws) k w)) (none k w less)) (λ less. absurd (omega arith)) in
    ap (λ k. cond (ltb k (length (w ∷ ws))) (Some k) None) past
    ∙ ap (λ t. cond t (Some (length (w ∷ ws))) None) (le-ltb (length (w ∷ ws)) (length (w ∷ ws)) (omega arith))

pub position_some : (p : Wires → Bool) (ws : List Wires) (c : ℕ) (d : Wires) → c < length ws → p (get_or ws c d) ≡ true →
    ((k : ℕ) → k < c → p (get_or ws k d) ≡ false) → position p ws ≡ Some c
position_some p ws c d within passes before =
    let at : position_or_len p ws ≡ c = prefix_len_is (λ x. not (p x)) ws c d (omega arith) (λ k less. not_from_false (p (get_or ws k d)) (before k less))
    (λ less. not_from_true (p (get_or ws c d)) passes) in
    ap (λ k. cond (ltb k (length ws)) (Some k) None) at ∙ ap (λ t. cond t (Some c) None) (lt-ltb c (length ws) within)

-- a test that fails at channels of which the node is no wire is settled by its own channel

pub unfound : (net : NetValue) (n : ℕ) (home : Option ℕ) (p : Wires → Bool) → IsHome net n home → ((w : Wires) → is_wire w n ≡ false → p w ≡ false) →
    home ≡ None → position p net.channels ≡ None
unfound net n home p is other none = position_none p net.channels (λ k d within. other _ (not_any net n k d home is none within))

pub unfound_there : (net : NetValue) (n c : ℕ) (d : Wires) (home : Option ℕ) (p : Wires → Bool) → IsHome net n home →
    ((w : Wires) → is_wire w n ≡ false → p w ≡ false) → home ≡ Some c → ((d : Wires) → p (get_or net.channels c d) ≡ false) → position p net.channels ≡ None
unfound_there net n c d home p is other at fails = position_none p net.channels (λ k e within. by_place k e within (cases_eq k c))
  where
    by_place : (k : ℕ) (e : Wires) → k < length net.channels → (k ≡ c) ⊎ (k ≡ c → ⊥) → p (get_or net.channels k e) ≡ false
    by_place k e within (inl same) = ap (λ j. p (get_or net.channels j e)) same ∙ fails e
    by_place k e within (inr apart) = other _ (not_other net n c k e home is at within apart)

pub found_there : (net : NetValue) (n c : ℕ) (d : Wires) (home : Option ℕ) (p : Wires → Bool) → IsHome net n home →
    ((w : Wires) → is_wire w n ≡ false → p w ≡ false) → home ≡ Some c → c < length net.channels → p (get_or net.channels c d) ≡ true →
    position p net.channels ≡ Some c
found_there net n c d home p is other at within passes =
    position_some p net.channels c d within passes (λ k less. other _ (not_other net n c k d home is at (omega arith) (omega arith)))

-- the channel of a home is one of the net's
pub home_within : (net : NetValue) (n c : ℕ) (home : Option ℕ) → IsHome net n home → home ≡ Some c → c < length net.channels
home_within net n c home is at = subst (λ (o : Option ℕ). IfSome o (λ k. k < length net.channels)) at is.within

-- a change of a node that is no wire keeps the phases

keeps_rails : (v : ℕ → Bool) (ack n : ℕ) (rails : List ℕ) → list_any (λ rail. n == rail) rails ≡ false → rails_keep v ack rails n ≡ true
keeps_rails v ack n [] apart = refl
keeps_rails v ack n (t ∷ []) apart = refl
keeps_rails v ack n (t ∷ f ∷ rest) apart =
    let one = or_parts (n == t) (list_any (λ rail. n == rail) (f ∷ rest)) apart in
    let two = or_parts (n == f) (list_any (λ rail. n == rail) rest) one.1 in
    and_from _ _ (and_from _ _ (or_left _ _ (not_from_false (n == t) one.0)) (or_left _ _ (not_from_false (n == f) two.0))) (keeps_rails v ack n rest two.1)

pub no_fault : (v : ℕ → Bool) (n : ℕ) (w : Wires) → is_wire w n ≡ false → not (phases_keep v w n) ≡ false
no_fault v n w apart =
    let parts = or_parts (n == w.ack) (list_any (λ rail. n == rail) w.rails) apart in
    not_from_true (phases_keep v w n) (and_from _ _ (keeps_rails v w.ack n w.rails parts.1) (or_left _ _ (not_from_false (n == w.ack) parts.0)))

pub no_ack : (n : ℕ) (w : Wires) → is_wire w n ≡ false → (n == w.ack) ≡ false
no_ack n w apart = (or_parts (n == w.ack) (list_any (λ rail. n == rail) w.rails) apart).0

-- the environment moves a node as a wire of its own channel

pub channels_none : (v : ℕ → Bool) (script : ℕ → OfferValue) (done : ℕ → ℕ) (n c : ℕ) (ws : List Wires) →
    ((k : ℕ) (d : Wires) → k < length ws → offer_moves v (get_or ws k d) (script (c + k)) (done (c + k)) n ≡ false) → channels_move v script done c ws n ≡ false
channels_none v script done n c [] none = refl
channels_none v script done n c (w ∷ ws) none =
    let start : c + 0 ≡ c = omega arith in
    or_from _ _ (rw start at (none 0 w (omega arith))) (channels_none v script done n (suc c) ws (λ k d less. let same : suc c + k ≡ c + suc k = omega arith in
    rw same (none (suc k) d (omega arith))))

channels_one : (v : ℕ → Bool) (script : ℕ → OfferValue) (done : ℕ → ℕ) (n c : ℕ) (ws : List Wires) (j : ℕ) (e : Wires) → j < length ws →
    ((k : ℕ) (d : Wires) → k < length ws → k ≢ j → offer_moves v (get_or ws k d) (script (c + k)) (done (c + k)) n ≡ false) →
    offer_moves v (get_or ws j e) (script (c + j)) (done (c + j)) n ≡ channels_move v script done c ws n
channels_one v script done n c [] j e within none = absurd (omega arith)
channels_one v script done n c (w ∷ ws) zero e within none =
    let start : c + 0 ≡ c = omega arith in
    let rest = channels_none v script done n (suc c) ws (λ k d less. let same : suc c + k ≡ c + suc k = omega arith in
    rw same (none (suc k) d (omega arith) (omega arith))) in
    rw start (sym (or_none _ _ rest))
  where
    or_none : (x y : Bool) → y ≡ false → (x || y) ≡ x
    or_none true y off = refl
    or_none false y off = off
channels_one v script done n c (w ∷ ws) (suc j) e within none =
    let start : c + 0 ≡ c = omega arith in
    let first : offer_moves v w (script c) (done c) n ≡ false = rw start at (none 0 w (omega arith) (omega arith)) in
    let rest = channels_one v script done n (suc c) ws j e (omega arith) (λ k d less apart. let same : suc c + k ≡ c + suc k = omega arith in
    rw same (none (suc k) d (omega arith) (omega arith))) in
    let same : suc c + j ≡ c + suc j = omega arith in
    rw (← same) (rest ∙ sym (ap (λ b. b || channels_move v script done (suc c) ws n) first))

pub offered_nowhere : (net : NetValue) (script : List OfferValue) (done : ℕ → ℕ) (v : ℕ → Bool) (n : ℕ) (home : Option ℕ) → IsHome net n home → home ≡ None →
    channels_move v (offer_at script) done 0 net.channels n ≡ false
offered_nowhere net script done v n home is none =
    channels_none v (offer_at script) done n 0 net.channels (λ k d less. not_offered v (get_or net.channels k d) _ _ n (not_any net n k d home is none less))

pub offered_there : (net : NetValue) (script : List OfferValue) (done : ℕ → ℕ) (v : ℕ → Bool) (n c : ℕ) (w : Wires) (home : Option ℕ) → IsHome net n home →
    home ≡ Some c → w ≡ get_or net.channels c w →
    offer_moves v w (offer_at script c) (done c) n ≡ channels_move v (offer_at script) done 0 net.channels n
offered_there net script done v n c w home is at here =
    let start : 0 + c ≡ c = omega arith in
    let there = channels_one v (offer_at script) done n 0 net.channels c w (home_within net n c home is at)
    (λ k d less apart. not_offered v (get_or net.channels k d) _ _ n (not_other net n c k d home is at less apart)) in
    ap (λ (x : Wires). offer_moves v x (offer_at script c) (done c) n) here ∙ rw start at there

-- what a move completes, and whose phases it breaks

when_off : {A : Type 0} (b : Bool) (x y : A) → b ≡ false → cond b x y ≡ y
when_off true x y off = absurd (cc off)
when_off false x y off = refl

same_there : (ws : List Wires) (c : ℕ) (w d : Wires) → c < length ws → w ≡ get_or ws c w → get_or ws c d ≡ w
same_there ws c w d within here = get_or_default ws c d w within ∙ sym here

pub completes_nothing : (net : NetValue) (v : ℕ → Bool) (n : ℕ) → IsHome net n None → None ≡ completion net v n
completes_nothing net v n is = sym (none_unknown net v n (sym (unfound net n None (λ (w : Wires). n == w.ack) is (λ w apart. no_ack n w apart) refl)))

pub completes_there : (net : NetValue) (v : ℕ → Bool) (n c : ℕ) (w : Wires) (o : Option ℕ) → IsHome net n (Some c) → in_reset net.reset v ≡ false →
    w ≡ get_or net.channels c w → o ≡ completes v w n → paired c o ≡ completion net v n
completes_there net v n c w o is off here told = by_ack (n == w.ack) refl
  where
    within : c < length net.channels
    within = home_within net n c (Some c) is refl

    by_ack : (b : Bool) → (n == w.ack) ≡ b → paired c o ≡ completion net v n
    by_ack true e =
        completion_is net v n c w o off (sym (found_there net n c w (Some c) (λ (x : Wires). n == x.ack) is (λ x apart. no_ack n x apart) refl within
        (ap (λ (x : Wires). n == x.ack) (same_there net.channels c w w within here) ∙ e))) here told
    by_ack false e =
        ap (paired c) (told ∙ ap (λ b. cond (b && not (v n)) (rail_value_of v w.rails) None) e)
        ∙ sym (none_unknown net v n (sym (unfound_there net n c w (Some c) (λ (x : Wires). n == x.ack) is (λ x apart. no_ack n x apart) refl
        (λ d. ap (λ (x : Wires). n == x.ack) (same_there net.channels c w d within here) ∙ e))))

pub breaks_nothing : (net : NetValue) (v : ℕ → Bool) (n : ℕ) → IsHome net n None → in_reset net.reset v ≡ false → None ≡ phase_fault net v n
breaks_nothing net v n is off =
    sym (when_off (in_reset net.reset v) None (position (λ w. not (phases_keep v w n)) net.channels) off
    ∙ unfound net n None (λ w. not (phases_keep v w n)) is (λ w apart. no_fault v n w apart) refl)

pub keeps_there : (net : NetValue) (v : ℕ → Bool) (n c : ℕ) (w : Wires) → IsHome net n (Some c) → in_reset net.reset v ≡ false →
    w ≡ get_or net.channels c w → phases_keep v w n ≡ true → None ≡ phase_fault net v n
keeps_there net v n c w is off here keeps =
    let within = home_within net n c (Some c) is refl in
    sym (when_off (in_reset net.reset v) None (position (λ x. not (phases_keep v x n)) net.channels) off
    ∙ unfound_there net n c w (Some c) (λ x. not (phases_keep v x n)) is (λ x apart. no_fault v n x apart) refl
    (λ d. ap (λ (x : Wires). not (phases_keep v x n)) (same_there net.channels c w d within here) ∙ not_from_true _ keeps))

pub breaks_there : (net : NetValue) (v : ℕ → Bool) (n c : ℕ) (w : Wires) → IsHome net n (Some c) → in_reset net.reset v ≡ false →
    w ≡ get_or net.channels c w → phases_keep v w n ≡ false → Some c ≡ phase_fault net v n
breaks_there net v n c w is off here breaks =
    let within = home_within net n c (Some c) is refl in
    sym (when_off (in_reset net.reset v) None (position (λ x. not (phases_keep v x n)) net.channels) off
    ∙ found_there net n c w (Some c) (λ x. not (phases_keep v x n)) is (λ x apart. no_fault v n x apart) refl within
    (ap (λ (x : Wires). not (phases_keep v x n)) (same_there net.channels c w w within here) ∙ not_from_false _ breaks))
