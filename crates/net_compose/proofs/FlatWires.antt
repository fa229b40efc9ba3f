-- The wires of channels: where they are numbered, their rules, what the environment may move, and what passes.
use Rattle.std.proofs.Common.{◌≡◌, ◌≢◌, ℕ, zero, suc, ◌+◌, ◌-◌, ◌*◌, ◌/◌, ◌<◌, ◌≤◌, ◌==◌, Bool, true, false, List, [], ◌∷◌, ◌++◌, map, length, get_or, replicate, Option, Some, None, refl, sym, ap, ◌∙◌, arith, length-append, append_assoc, get_or-append-add, ⊎_elim, cond}
use Rattle.std.specs.Prelude.{not, ◌&&◌, ◌||◌, if◌then◌else◌, position, nat_lt, slice_get}
use Rattle.std.specs.List.{list_any, position_or_len}
use Rattle.std.proofs.lemmas.Bool.{cases_lt, cases_eq, eqb-true, eq-eqb, ne_eqb}
use Rattle.std.proofs.lemmas.Bool.Decides.{nat_tests}
use Rattle.std.proofs.lemmas.List.{get_or_append_left, length-replicate}
use Rattle.std.proofs.lemmas.List.Sums.{position_or_len_is}
use Rattle.chp_base.specs.declared.channel.Channel.{Channel}
use Rattle.chp_base.specs.declared.channel.Kind.{Kind}
use Rattle.chp_base.specs.declared.channel.Kind.TheVariants.{In, Out, Chan}
use Rattle.prs_core.specs.Nets.{NodeRules}
use Rattle.prs_core.specs.Moves.{bit_value, with_bit, rail_value_of, neutral}
use Rattle.prs_core.specs.Pairs.{Pair, pairs_from, rails_of, no_rules, or_of}
use Rattle.env_script.specs.Scripts.{OfferValue, gives, takes, nothing, offer_at, is_over}
use Rattle.env_script.specs.Environment.{is_odd, raises_value, raises_next, lowers, offer_moves, channels_move, valid}
use Rattle.env_script.specs.Phases.{rail_keeps, rails_keep}
use Rattle.env_script.specs.Runs.{completes, with_value, with_values}
use Rattle.width_check.specs.Processes.{TypedProgram}
use Rattle.width_check.specs.Typing.{kind_at, channel_width}
use Rattle.handshake_expand.specs.Layout.{wires_size, wires_before, channel_from}
use Rattle.circuit_places.specs.Whole.{number_rail, value_on, neutral_on, cells_passed}
use Rattle.circuit_places.specs.Circuit.{same_bit}
use Rattle.handshake_expand.specs.Sites.{in_body}
use Rattle.net_compose.specs.Translation.{rails_at, ack_at, send_site, receive_site, rail_rules, channel_rules, channels_rules, wires_from}
use Rattle.net_compose.proofs.FlatCells.{rail_place_lt, rail_of, rail_place}
use Rattle.net_compose.proofs.FlatSites.{at_site}
use Rattle.prs_core.specs.declared.wires.Wires.{Wires as NetWires}

-- where the wires of channels begin

pub wires_below : (cs : List Channel) (j : ℕ) → j < length cs → wires_before cs j + wires_size (channel_width cs j) ≤ wires_before cs (length cs)
wires_below [] j h = absurd (omega arith)
wires_below (c ∷ cs) zero h = omega arith
wires_below (c ∷ cs) (suc j) h = let e = wires_below cs j (omega arith) in omega (arith, e)

pub wires_apart : (cs : List Channel) (i j : ℕ) → i < j → j ≤ length cs → wires_before cs i + wires_size (channel_width cs i) ≤ wires_before cs j
wires_apart [] i j h w = absurd (omega arith)
wires_apart (c ∷ cs) i zero h w = absurd (omega arith)
wires_apart (c ∷ cs) zero (suc j) h w = omega arith
wires_apart (c ∷ cs) (suc i) (suc j) h w = let e = wires_apart cs i j (omega arith) (omega arith) in omega (arith, e)

-- which wire a number is
pub data Wire (P : TypedProgram) : ℕ → Type 0 where
  a_rail : {n : ℕ} (k i : ℕ) (one : Bool) → k < length P.channels → i < channel_width P.channels k → channel_from P k + rail_place i one ≡ n → Wire P n
  an_ack : {n : ℕ} (k : ℕ) → k < length P.channels → ack_at P k ≡ n → Wire P n

pub record Within (cs : List Channel) (n : ℕ) : Type 0 where
  pub channel : ℕ
  pub offset : ℕ
  pub some : channel < length cs
  pub below : offset < wires_size (channel_width cs channel)
  pub is : wires_before cs channel + offset ≡ n

pub wire_within : (cs : List Channel) (n : ℕ) → n < wires_before cs (length cs) → Within cs n
wire_within [] n h = absurd (omega arith)
wire_within (c ∷ cs) n h =
    ⊎_elim
    (λ (lt : n < wires_size c.width). let here : Within (c ∷ cs) n =
    record { channel = zero; offset = n; some = omega arith; below = lt; is = omega arith } in here)
    (λ (le : wires_size c.width ≤ n).
    let r = wire_within cs (n - wires_size c.width) (omega arith) in
    let here : Within (c ∷ cs) n = record {
      channel = suc r.channel;
      offset = r.offset;
      some = omega (arith, r.some);
      below = r.below;
      is = omega
          (arith, r.is);
    } in
    here)
    (cases_lt n (wires_size c.width))

pub wire_of : (P : TypedProgram) (n : ℕ) → n < wires_before P.channels (length P.channels) → Wire P (2 + n)
wire_of P n h = by_offset (wire_within P.channels n h)
  where
    by_offset : Within P.channels n → Wire P (2 + n)
    by_offset r =
        let w = channel_width P.channels r.channel in
        ⊎_elim
        (λ (lt : r.offset < 2 * w).
        let q = rail_of w r.offset lt in
        let here : Wire P (2 + n) = a_rail r.channel q.bit q.one r.some q.below (omega (arith, r.is, q.is)) in
        here)
        (λ (le : 2 * w ≤ r.offset). let here : Wire P (2 + n) = an_ack r.channel r.some (omega (arith, r.is, r.below, le)) in here)
        (cases_lt r.offset (2 * w))

-- rails and acknowledges are distinct

pub place_same : (i j : ℕ) (one side : Bool) → rail_place i one ≡ rail_place j side → (i ≡ j) × (one ≡ side)
place_same zero zero true true e = (refl, refl)
place_same zero zero true false e = absurd (cc e)
place_same zero zero false true e = absurd (cc e)
place_same zero zero false false e = (refl, refl)
place_same zero (suc j) true side e = absurd (omega (arith, e))
place_same zero (suc j) false side e = absurd (omega (arith, e))
place_same (suc i) zero one true e = absurd (omega (arith, e))
place_same (suc i) zero one false e = absurd (omega (arith, e))
place_same (suc i) (suc j) one side e = let r = place_same i j one side (omega (arith, e)) in (ap suc r.0, r.1)

-- two offsets at one number are of one channel
pub same_channel : (P : TypedProgram) (k j a b : ℕ) → k < length P.channels → j < length P.channels → a < wires_size (channel_width P.channels k)
    → b < wires_size (channel_width P.channels j) → channel_from P k + a ≡ channel_from P j + b → k ≡ j
same_channel P k j a b hk hj ha hb e =
    ⊎_elim
    (λ (lt : k < j). let w = wires_apart P.channels k j lt (omega arith) in absurd (omega (arith, e, w, ha)))
    (λ (le : j ≤ k).
    ⊎_elim
    (λ (lt : j < k). let w = wires_apart P.channels j k lt (omega arith) in absurd (omega (arith, e, w, hb)))
    (λ (ge : k ≤ j). let here : k ≡ j = omega arith in here)
    (cases_lt j k))
    (cases_lt k j)

pub rail_same : (P : TypedProgram) (k j i l : ℕ) (one side : Bool) → k < length P.channels → j < length P.channels → i < channel_width P.channels k
    → l < channel_width P.channels j → channel_from P k + rail_place i one ≡ channel_from P j + rail_place l side → (k ≡ j) × (i ≡ l) × (one ≡ side)
rail_same P k j i l one side hk hj hi hl e =
    let a = rail_place_lt i (channel_width P.channels k) one hi in
    let b = rail_place_lt l (channel_width P.channels j) side hl in
    let c = same_channel P k j (rail_place i one) (rail_place l side) hk hj (omega (arith, a)) (omega (arith, b)) e in
    let f : channel_from P k ≡ channel_from P j = ap (channel_from P) c in
    let r = place_same i l one side (omega (arith, e, f)) in
    (c, r.0, r.1)

pub ack_same : (P : TypedProgram) (k j : ℕ) → k < length P.channels → j < length P.channels → ack_at P k ≡ ack_at P j → k ≡ j
ack_same P k j hk hj e = same_channel P k j (2 * channel_width P.channels k) (2 * channel_width P.channels j) hk hj (omega arith) (omega arith) e

pub rail_no_ack : (P : TypedProgram) (k j i : ℕ) (one : Bool) → k < length P.channels → j < length P.channels → i < channel_width P.channels k
    → channel_from P k + rail_place i one ≢ ack_at P j
rail_no_ack P k j i one hk hj hi e =
    let a = rail_place_lt i (channel_width P.channels k) one hi in
    let c = same_channel P k j (rail_place i one) (2 * channel_width P.channels j) hk hj (omega (arith, a)) (omega arith) e in
    let f : channel_from P k ≡ channel_from P j = ap (channel_from P) c in
    let g : channel_width P.channels k ≡ channel_width P.channels j = ap (channel_width P.channels) c in
    absurd (omega (arith, e, f, g, a))

-- the wires stand between done and the root
pub rail_bounds : (P : TypedProgram) (k i : ℕ) (one : Bool) → k < length P.channels → i < channel_width P.channels k
    → (2 ≤ channel_from P k + rail_place i one) × (channel_from P k + rail_place i one < 2 + wires_before P.channels (length P.channels))
rail_bounds P k i one hk hi =
    let a = rail_place_lt i (channel_width P.channels k) one hi in
    let w = wires_below P.channels k hk in
    (omega arith, omega (arith, a, w))

pub ack_bounds : (P : TypedProgram) (k : ℕ) → k < length P.channels → (2 ≤ ack_at P k) × (ack_at P k < 2 + wires_before P.channels (length P.channels))
ack_bounds P k hk = let w = wires_below P.channels k hk in (omega arith, omega (arith, w))

-- their rules

length-rail_rules : (sites : List (List Pair)) (i w : ℕ) → length (rail_rules sites i w) ≡ 2 * w
length-rail_rules sites i zero = refl
length-rail_rules sites i (suc w) = omega (arith, length-rail_rules sites (suc i) w)

rail_rule : (sites : List (List Pair)) (j w i : ℕ) (one : Bool) → i < w → get_or (rail_rules sites j w) (rail_place i one) no_rules ≡ or_of
    (map (at_site (j + i) one) sites)
rail_rule sites j zero i one h = absurd (omega arith)
rail_rule sites j (suc w) zero true h = let e : j ≡ j + 0 = omega arith in ap (λ n. or_of (map (at_site n true) sites)) e
rail_rule sites j (suc w) zero false h = let e : j ≡ j + 0 = omega arith in ap (λ n. or_of (map (at_site n false) sites)) e
rail_rule sites j (suc w) (suc i) one h = let e : suc j + i ≡ j + suc i = omega arith in rail_rule sites (suc j) w i one (omega arith)
    ∙ ap (λ n. or_of (map (at_site n one) sites)) e

-- of each kind of channel
pub length-channel_rules : (P : TypedProgram) (k w : ℕ) (kind : Kind) → length (channel_rules P k w kind) ≡ wires_size w
length-channel_rules P k w Out = omega (
  arith,
  length-append (rail_rules (in_body P (send_site k)) 0 w) (no_rules ∷ []),
  length-rail_rules (in_body P (send_site k)) 0 w,
)
length-channel_rules P k w In =
    omega (arith, length-append (replicate (2 * w) no_rules) (or_of (in_body P (receive_site k)) ∷ []), length-replicate (2 * w) no_rules)
length-channel_rules P k w Chan =
    omega (
      arith,
      length-append (rail_rules (in_body P (send_site k)) 0 w) (or_of (in_body P (receive_site k)) ∷ []),
      length-rail_rules (in_body P (send_site k)) 0 w,
    )

-- the rails of a channel merge the sites of sends, and its acknowledge those of receives, but where the environment moves them
abbrev pub rail_guards : TypedProgram → Kind → (k i : ℕ) → Bool → NodeRules
rail_guards P In k i one = no_rules
rail_guards P _ k i one = or_of (map (at_site i one) (in_body P (send_site k)))

abbrev pub ack_guards : TypedProgram → Kind → (k : ℕ) → NodeRules
ack_guards P Out k = no_rules
ack_guards P _ k = or_of (in_body P (receive_site k))

merged_rail : (P : TypedProgram) (k w i : ℕ) (one : Bool) (last : NodeRules) → i < w
    → get_or (rail_rules (in_body P (send_site k)) 0 w ++ last ∷ []) (rail_place i one) no_rules ≡ or_of (map (at_site i one) (in_body P (send_site k)))
merged_rail P k w i one last h =
    let e : 0 + i ≡ i = omega arith in
    get_or_append_left (rail_rules (in_body P (send_site k)) 0 w) (last ∷ []) no_rules (rail_place i one)
    (omega (arith, length-rail_rules (in_body P (send_site k)) 0 w, rail_place_lt i w one h))
    ∙ (rail_rule (in_body P (send_site k)) 0 w i one h ∙ ap (λ n. or_of (map (at_site n one) (in_body P (send_site k)))) e)

none_at : (n m : ℕ) → get_or (replicate n no_rules) m no_rules ≡ no_rules
none_at zero m = refl
none_at (suc n) zero = refl
none_at (suc n) (suc m) = none_at n m

kind_rail : (P : TypedProgram) (k w : ℕ) (kind : Kind) (i : ℕ) (one : Bool) → i < w
    → get_or (channel_rules P k w kind) (rail_place i one) no_rules ≡ rail_guards P kind k i one
kind_rail P k w Out i one h = merged_rail P k w i one no_rules h
kind_rail P k w Chan i one h = merged_rail P k w i one (or_of (in_body P (receive_site k))) h
kind_rail P k w In i one h =
    get_or_append_left (replicate (2 * w) no_rules) (or_of (in_body P (receive_site k)) ∷ []) no_rules (rail_place i one)
    (omega (arith, length-replicate (2 * w) no_rules, rail_place_lt i w one h))
    ∙ none_at (2 * w) (rail_place i one)

last_at : (xs : List NodeRules) (last : NodeRules) (n : ℕ) → length xs ≡ n → get_or (xs ++ last ∷ []) n no_rules ≡ last
last_at xs last n e =
    let z : n ≡ length xs + 0 = omega (arith, e) in
    ap (λ m. get_or (xs ++ last ∷ []) m no_rules) z ∙ get_or-append-add xs (last ∷ []) 0 no_rules

kind_ack : (P : TypedProgram) (k w : ℕ) (kind : Kind) → get_or (channel_rules P k w kind) (2 * w) no_rules ≡ ack_guards P kind k
kind_ack P k w Out = last_at (rail_rules (in_body P (send_site k)) 0 w) no_rules (2 * w) (length-rail_rules (in_body P (send_site k)) 0 w)
kind_ack P k w Chan = last_at (rail_rules (in_body P (send_site k)) 0 w) (or_of (in_body P (receive_site k))) (2 * w)
    (length-rail_rules (in_body P (send_site k)) 0 w)
kind_ack P k w In = last_at (replicate (2 * w) no_rules) (or_of (in_body P (receive_site k))) (2 * w) (length-replicate (2 * w) no_rules)

pub length-channels_rules : (P : TypedProgram) (k : ℕ) (cs : List Channel) → length (channels_rules P k cs) ≡ wires_before cs (length cs)
length-channels_rules P k [] = refl
length-channels_rules P k (c ∷ cs) =
    omega (
      arith,
      length-append (channel_rules P k c.width c.kind) (channels_rules P (suc k) cs),
      length-channel_rules P k c.width c.kind,
      length-channels_rules P (suc k) cs,
    )

channel_rule : (P : TypedProgram) (k : ℕ) (cs : List Channel) (tail : List NodeRules) (j m : ℕ) → j < length cs → m < wires_size (channel_width cs j)
    → get_or (channels_rules P k cs ++ tail) (wires_before cs j + m) no_rules ≡ get_or (channel_rules P (k + j) (channel_width cs j) (kind_at cs j)) m no_rules
channel_rule P k [] tail j m h below = absurd (omega arith)
channel_rule P k (c ∷ cs) tail zero m h below =
    let first = channel_rules P k c.width c.kind in
    let rest = channels_rules P (suc k) cs in
    let e : length first ≡ wires_size c.width = length-channel_rules P k c.width c.kind in
    let n : k ≡ k + 0 = omega arith in
    let o : 0 + m ≡ m = omega arith in
    ap (λ i. get_or ((first ++ rest) ++ tail) i no_rules) o
    ∙ (ap (λ l. get_or l m no_rules) (append_assoc first rest tail)
    ∙ (get_or_append_left first (rest ++ tail) no_rules m (omega (arith, e, below))
    ∙ ap (λ i. get_or (channel_rules P i c.width c.kind) m no_rules) n))
channel_rule P k (c ∷ cs) tail (suc j) m h below =
    let first = channel_rules P k c.width c.kind in
    let rest = channels_rules P (suc k) cs in
    let e : length first ≡ wires_size c.width = length-channel_rules P k c.width c.kind in
    let o : wires_size c.width + wires_before cs j + m ≡ length first + (wires_before cs j + m) = omega (arith, e) in
    let n : suc k + j ≡ k + suc j = omega arith in
    ap (λ l. get_or l (wires_size c.width + wires_before cs j + m) no_rules) (append_assoc first rest tail)
    ∙ (ap (λ i. get_or (first ++ (rest ++ tail)) i no_rules) o
    ∙ (get_or-append-add first (rest ++ tail) (wires_before cs j + m) no_rules
    ∙ (channel_rule P (suc k) cs tail j m (omega arith) below
    ∙ ap (λ i. get_or (channel_rules P i (channel_width cs j) (kind_at cs j)) m no_rules) n)))

module _ (P : TypedProgram) (tail : List NodeRules) where
  pub rail_rules_at : (k i : ℕ) (one : Bool) → k < length P.channels → i < channel_width P.channels k
      → get_or (channels_rules P 0 P.channels ++ tail) (wires_before P.channels k + rail_place i one) no_rules ≡ rail_guards P (kind_at P.channels k) k i one
  rail_rules_at k i one hk hi =
      let e : 0 + k ≡ k = omega arith in
      channel_rule P 0 P.channels tail k (rail_place i one) hk (omega (arith, rail_place_lt i (channel_width P.channels k) one hi))
      ∙ (ap (λ n. get_or (channel_rules P n (channel_width P.channels k) (kind_at P.channels k)) (rail_place i one) no_rules) e
      ∙ kind_rail P k (channel_width P.channels k) (kind_at P.channels k) i one hi)

  pub ack_rules_at : (k : ℕ) → k < length P.channels → get_or (channels_rules P 0 P.channels ++ tail)
      (wires_before P.channels k + 2 * channel_width P.channels k) no_rules ≡ ack_guards P (kind_at P.channels k) k
  ack_rules_at k hk =
      let e : 0 + k ≡ k = omega arith in
      channel_rule P 0 P.channels tail k (2 * channel_width P.channels k) hk (omega arith)
      ∙ (ap (λ n. get_or (channel_rules P n (channel_width P.channels k) (kind_at P.channels k)) (2 * channel_width P.channels k) no_rules) e
      ∙ kind_ack P k (channel_width P.channels k) (kind_at P.channels k))

-- what stands on rails

or_nothing : (b : Bool) → (b || false) ≡ b
or_nothing true = refl
or_nothing false = refl

module _ (v : ℕ → Bool) where
  pub value_is : (w from : ℕ) (rail : ℕ → Bool → Bool) → ((i : ℕ) (one : Bool) → i < w → v (from + rail_place i one) ≡ rail i one)
      → rail_value_of v (rails_of (pairs_from w from)) ≡ value_on w rail
  value_is zero from rail h = refl
  value_is (suc w) from rail h =
      let t : v from ≡ rail zero true = let n : from ≡ from + 0 = omega arith in ap v n ∙ h zero true (omega arith) in
      let f : v (from + 1) ≡ rail zero false = h zero false (omega arith) in
      let r = value_is w (from + 2) (λ i. rail (suc i)) (λ i one lt. let n : from + 2 + rail_place i one ≡ from + suc
      (suc (rail_place i one)) = omega arith in ap v n ∙ h (suc i) one (omega arith)) in
      ap (λ b. with_bit (bit_value b (v (from + 1))) (rail_value_of v (rails_of (pairs_from w (from + 2))))) t
      ∙ (ap (λ b. with_bit (bit_value (rail zero true) b) (rail_value_of v (rails_of (pairs_from w (from + 2))))) f
      ∙ ap (with_bit (bit_value (rail zero true) (rail zero false))) r)

  and_apart : (a b c : Bool) → (a && (b && c)) ≡ ((a && b) && c)
  and_apart true b c = refl
  and_apart false b c = refl

  pub neutral_is : (w from : ℕ) (rail : ℕ → Bool → Bool) → ((i : ℕ) (one : Bool) → i < w → v (from + rail_place i one) ≡ rail i one)
      → neutral v (rails_of (pairs_from w from)) ≡ neutral_on w rail
  neutral_is zero from rail h = refl
  neutral_is (suc w) from rail h =
      let t : v from ≡ rail zero true = let n : from ≡ from + 0 = omega arith in ap v n ∙ h zero true (omega arith) in
      let f : v (from + 1) ≡ rail zero false = h zero false (omega arith) in
      let r = neutral_is w (from + 2) (λ i. rail (suc i)) (λ i one lt. let n : from + 2 + rail_place i one ≡ from + suc
      (suc (rail_place i one)) = omega arith in ap v n ∙ h (suc i) one (omega arith)) in
      and_apart (not (v from)) (not (v (from + 1))) (neutral v (rails_of (pairs_from w (from + 2))))
      ∙ (ap (λ b. (not b && not (v (from + 1))) && neutral v (rails_of (pairs_from w (from + 2)))) t
      ∙ (ap (λ b. (not (rail zero true) && not b) && neutral v (rails_of (pairs_from w (from + 2)))) f
      ∙ ap (λ b. (not (rail zero true) && not (rail zero false)) && b) r))

  -- the rails keep their phases where each one that moves does
  pub rails_kept : (w from ack n : ℕ) → ((i : ℕ) (one : Bool) → i < w → n ≡ from + rail_place i one
      → rail_keeps v ack (from + rail_place i one) (from + rail_place i (not one)) ≡ true) → rails_keep v ack (rails_of (pairs_from w from)) n ≡ true
  rails_kept zero from ack n h = refl
  rails_kept (suc w) from ack n h =
      let z : from + 0 ≡ from = omega arith in
      let t : n ≡ from → rail_keeps v ack from (from + 1) ≡ true = λ e. ap (λ m. rail_keeps v ack m (from + 1)) (sym z)
      ∙ h zero true (omega arith) (e ∙ sym z) in
      let f : n ≡ from + 1 → rail_keeps v ack (from + 1) from ≡ true = λ e. ap (λ m. rail_keeps v ack (from + 1) m) (sym z) ∙ h zero false (omega arith) e in
      let more = rails_kept w (from + 2) ack n (λ i one lt e.
      let a : from + suc (suc (rail_place i one)) ≡ from + 2 + rail_place i one = omega arith in
      let b : from + suc (suc (rail_place i (not one))) ≡ from + 2 + rail_place i (not one) = omega arith in
      ap (λ m. rail_keeps v ack m (from + 2 + rail_place i (not one))) (sym a)
      ∙ (ap (λ m. rail_keeps v ack (from + suc (suc (rail_place i one))) m) (sym b) ∙ h (suc i) one (omega arith) (e ∙ sym a))) in
      all_three (not (n == from) || rail_keeps v ack from (from + 1)) (not (n == from + 1) || rail_keeps v ack (from + 1) from)
      (rails_keep v ack (rails_of (pairs_from w (from + 2))) n)
      (if_there from (rail_keeps v ack from (from + 1)) t) (if_there (from + 1) (rail_keeps v ack (from + 1) from) f) more
    where
      all_three : (a b c : Bool) → a ≡ true → b ≡ true → c ≡ true → ((a && b) && c) ≡ true
      all_three true true true ea eb ec = refl
      all_three true true false ea eb ec = absurd (cc ec)
      all_three true false c ea eb ec = absurd (cc eb)
      all_three false b c ea eb ec = absurd (cc ea)

      by_test : (b k : Bool) → (b ≡ true → k ≡ true) → (not b || k) ≡ true
      by_test true k g = g refl
      by_test false k g = refl

      if_there : (m : ℕ) (k : Bool) → (n ≡ m → k ≡ true) → (not (n == m) || k) ≡ true
      if_there m k g = by_test (n == m) k (λ e. g (eqb-true n m e))

-- the environment's moves

-- a node that is none of the rails isn't moved as one
module _ (v : ℕ → Bool) where
  pub not_listed : (w from n : ℕ) → ((i : ℕ) (one : Bool) → i < w → n ≢ from + rail_place i one)
      → list_any (λ rail. n == rail) (rails_of (pairs_from w from)) ≡ false
  not_listed zero from n far = refl
  not_listed (suc w) from n far =
      let rest = not_listed w (from + 2) n (λ i one lt e. far (suc i) one (omega (arith, lt))
      (let z : n ≡ from + suc (suc (rail_place i one)) = omega (arith, e) in z)) in
      ap (λ b. b || ((n == from + 1) || list_any (λ rail. n == rail) (rails_of (pairs_from w (from + 2)))))
      (ne_eqb n from (λ e. far zero true (omega arith) (let z : n ≡ from + 0 = omega (arith, e) in z)))
      ∙ (ap (λ b. b || list_any (λ rail. n == rail) (rails_of (pairs_from w (from + 2)))) (ne_eqb n (from + 1) (λ e. far zero false (omega arith) e)) ∙ rest)

  pub is_listed : (w from i : ℕ) (one : Bool) → i < w → list_any (λ rail. from + rail_place i one == rail) (rails_of (pairs_from w from)) ≡ true
  is_listed zero from i one h = absurd (omega arith)
  is_listed (suc w) from zero true h = ap (λ b. b || ((from + 0 == from + 1) || list_any (λ rail. from + 0 == rail) (rails_of (pairs_from w (from + 2)))))
      (eq-eqb (from + 0) from (omega arith))
  is_listed (suc w) from zero false h =
      ap (λ b. b || ((from + 1 == from + 1) || list_any (λ rail. from + 1 == rail) (rails_of (pairs_from w (from + 2)))))
      (ne_eqb (from + 1) from (λ e. absurd (omega (arith, e))))
      ∙ ap (λ b. b || list_any (λ rail. from + 1 == rail) (rails_of (pairs_from w (from + 2)))) (eq-eqb (from + 1) (from + 1) refl)
  is_listed (suc w) from (suc i) one h =
      let e : from + suc (suc (rail_place i one)) ≡ from + 2 + rail_place i one = omega arith in
      ap (λ b. b || ((from + suc (suc (rail_place i one)) == from + 1) || list_any (λ rail. from + suc (suc (rail_place i one)) == rail)
      (rails_of (pairs_from w (from + 2))))) (ne_eqb (from + suc (suc (rail_place i one))) from (λ z. absurd (omega (arith, z))))
      ∙ (ap (λ b. b || list_any (λ rail. from + suc (suc (rail_place i one)) == rail) (rails_of (pairs_from w (from + 2))))
      (ne_eqb (from + suc (suc (rail_place i one))) (from + 1) (λ z. absurd (omega (arith, z))))
      ∙ (ap (λ n. list_any (λ rail. n == rail) (rails_of (pairs_from w (from + 2)))) e ∙ is_listed w (from + 2) i one (omega arith)))

  -- which rail stands for a bit
  side_ne : (o : Bool) (from n : ℕ) → n ≢ from → n ≢ from + 1 → (n == (if o then from else from + 1)) ≡ false
  side_ne true from n a b = ne_eqb n from a
  side_ne false from n a b = ne_eqb n (from + 1) b

  pub not_raised : (w from n value : ℕ) → ((i : ℕ) (one : Bool) → i < w → n ≢ from + rail_place i one)
      → raises_value v value (rails_of (pairs_from w from)) n ≡ false
  not_raised zero from n value far = refl
  not_raised (suc w) from n value far =
      let rest = not_raised w (from + 2) n (value / 2) (λ i one lt e. far (suc i) one (omega (arith, lt))
      (let z : n ≡ from + suc (suc (rail_place i one)) = omega (arith, e) in z)) in
      ap (λ b. (b && (not (v from) && not (v (from + 1)))) || raises_value v (value / 2) (rails_of (pairs_from w (from + 2))) n)
      (side_ne (is_odd value) from n (λ e. far zero true (omega arith) (let z : n ≡ from + 0 = omega (arith, e) in z)) (λ e. far zero false (omega arith) e))
      ∙ rest

  here_true : (o : Bool) (from : ℕ) → (from + 0 == (if o then from else from + 1)) ≡ same_bit o true
  here_true true from = eq-eqb (from + 0) from (omega arith)
  here_true false from = ne_eqb (from + 0) (from + 1) (λ e. absurd (omega (arith, e)))

  here_false : (o : Bool) (from : ℕ) → (from + 1 == (if o then from else from + 1)) ≡ same_bit o false
  here_false true from = ne_eqb (from + 1) from (λ e. absurd (omega (arith, e)))
  here_false false from = eq-eqb (from + 1) (from + 1) refl

  pub raised_is : (w from value i : ℕ) (one : Bool) → i < w
      → raises_value v value (rails_of (pairs_from w from)) (from + rail_place i one) ≡
      (number_rail w value i one && (not (v (from + rail_place i true)) && not (v (from + rail_place i false))))
  raised_is zero from value i one h = absurd (omega arith)
  raised_is (suc w) from value zero true h =
      ap (λ b. b || raises_value v (value / 2) (rails_of (pairs_from w (from + 2))) (from + 0))
      (ap (λ b. b && (not (v from) && not (v (from + 1)))) (here_true (is_odd value) from))
      ∙ (ap (λ b. (same_bit (is_odd value) true && (not (v from) && not (v (from + 1)))) || b)
      (not_raised w (from + 2) (from + 0) (value / 2) (λ i one lt e. absurd (omega (arith, e))))
      ∙ (or_nothing (same_bit (is_odd value) true && (not (v from) && not (v (from + 1))))
      ∙ ap (λ n. same_bit (is_odd value) true && (not (v n) && not (v (from + 1)))) (let e : from ≡ from + 0 = omega arith in e)))
  raised_is (suc w) from value zero false h =
      ap (λ b. b || raises_value v (value / 2) (rails_of (pairs_from w (from + 2))) (from + 1))
      (ap (λ b. b && (not (v from) && not (v (from + 1)))) (here_false (is_odd value) from))
      ∙ (ap (λ b. (same_bit (is_odd value) false && (not (v from) && not (v (from + 1)))) || b)
      (not_raised w (from + 2) (from + 1) (value / 2) (λ i one lt e. absurd (omega (arith, e))))
      ∙ (or_nothing (same_bit (is_odd value) false && (not (v from) && not (v (from + 1))))
      ∙ ap (λ n. same_bit (is_odd value) false && (not (v n) && not (v (from + 1)))) (let e : from ≡ from + 0 = omega arith in e)))
  raised_is (suc w) from value (suc i) one h =
      let e = λ (b : Bool). (let z : from + 2 + rail_place i b ≡ from + suc (suc (rail_place i b)) = omega arith in z) in
      ap (λ b. (b && (not (v from) && not (v (from + 1)))) || raises_value v (value / 2) (rails_of (pairs_from w (from + 2)))
      (from + suc (suc (rail_place i one))))
      (side_ne (is_odd value) from (from + suc (suc (rail_place i one))) (λ z. absurd (omega (arith, z))) (λ z. absurd (omega (arith, z))))
      ∙ (ap (λ n. raises_value v (value / 2) (rails_of (pairs_from w (from + 2))) n) (sym (e one))
      ∙ (raised_is w (from + 2) (value / 2) i one (omega arith)
      ∙ (ap (λ n. number_rail w (value / 2) i one && (not (v n) && not (v (from + 2 + rail_place i false)))) (e true)
      ∙ ap (λ n. number_rail w (value / 2) i one && (not (v (from + suc (suc (rail_place i true)))) && not (v n))) (e false))))

module _ (P : TypedProgram) (script : List OfferValue) (done : ℕ → ℕ) (v : ℕ → Bool) where
  -- the wires of a channel
  abbrev pub wires_at : ℕ → Channel → NetWires
  wires_at k c = record { channel = c; rails = rails_of (rails_at P k); ack = ack_at P k }

  pub moves_none : (k : ℕ) (cs : List Channel) (n : ℕ) → ((j : ℕ) → k ≤ j → j < k + length cs → (c : Channel)
      → offer_moves v (wires_at j c) (offer_at script j) (done j) n ≡ false) → channels_move v (offer_at script) done k (wires_from P k cs) n ≡ false
  moves_none k [] n h = refl
  moves_none k (c ∷ cs) n h =
      ap (λ b. b || channels_move v (offer_at script) done (suc k) (wires_from P (suc k) cs) n) (h k (omega arith) (omega arith) c)
      ∙ moves_none (suc k) cs n (λ j low up. h j (omega arith) (omega arith))

  pub moves_some : (k : ℕ) (cs : List Channel) (n m : ℕ) (b : Bool) → k ≤ m → m < k + length cs
      → ((j : ℕ) → k ≤ j → j < k + length cs → j ≢ m → (c : Channel) → offer_moves v (wires_at j c) (offer_at script j) (done j) n ≡ false)
      → ((c : Channel) → offer_moves v (wires_at m c) (offer_at script m) (done m) n ≡ b) → channels_move v (offer_at script) done k (wires_from P k cs) n ≡ b
  moves_some k [] n m b low up far here = absurd (omega arith)
  moves_some k (c ∷ cs) n m b low up far here =
      ⊎_elim
      (λ (same : k ≡ m).
      ap (λ r. offer_moves v (wires_at k c) (offer_at script k) (done k) n || r)
      (moves_none (suc k) cs n (λ j l u. far j (omega arith) (omega arith) (λ z. absurd (omega (arith, z, same, l)))))
      ∙ (or_nothing (offer_moves v (wires_at k c) (offer_at script k) (done k) n)
      ∙ (ap (λ i. offer_moves v (wires_at i c) (offer_at script i) (done i) n) same ∙ here c)))
      (λ (other : k ≢ m).
      ap (λ r. r || channels_move v (offer_at script) done (suc k) (wires_from P (suc k) cs) n) (far k (omega arith) (omega arith) other c)
      ∙ moves_some (suc k) cs n m b (past k m low other) (omega arith) (λ j l u. far j (omega arith) (omega arith)) here)
      (cases_eq k m)
    where
      past : (k m : ℕ) → k ≤ m → k ≢ m → suc k ≤ m
      past k m low other = omega arith

  -- no move of a channel's environment is at a node that isn't one of its wires
  pub quiet_offer : (j n : ℕ) → n ≢ ack_at P j → ((i : ℕ) (one : Bool) → i < channel_width P.channels j → n ≢ channel_from P j + rail_place i one)
      → (offer : OfferValue) (c : Channel) → offer_moves v (wires_at j c) offer (done j) n ≡ false
  quiet_offer j n ack far nothing c = refl
  quiet_offer j n ack far (takes count) c =
      ap (λ b. b && (if v (ack_at P j) then neutral v (rails_of (rails_at P j)) else valid v (rails_of (rails_at P j)) && is_over count (done j)))
      (ne_eqb n (ack_at P j) ack)
  quiet_offer j n ack far (gives values) c = by (v (ack_at P j)) (slice_get values (done j))
    where
      never : (b : Bool) → (b && false) ≡ false
      never true = refl
      never false = refl

      by : (a : Bool) (next : Option ℕ) → (if a then lowers v (rails_of (rails_at P j)) n else raises_next v next (rails_of (rails_at P j)) n) ≡ false
      by true next = ap (λ b. v n && b) (not_listed v (channel_width P.channels j) (channel_from P j) n far) ∙ never (v n)
      by false None = refl
      by false (Some value) = not_raised v (channel_width P.channels j) (channel_from P j) n value far

-- what passes on the channels

module _ (P : TypedProgram) (v : ℕ → Bool) where
  pub values_none : (k : ℕ) (cs : List Channel) (hs : List (List ℕ)) (n : ℕ) → length hs ≡ length cs → ((j : ℕ) → k ≤ j → j < k + length cs → n ≢ ack_at P j)
      → with_values v n (wires_from P k cs) hs ≡ hs
  values_none k [] hs n e h = refl
  values_none k (c ∷ cs) [] n e h = absurd (omega (arith, e))
  values_none k (c ∷ cs) (x ∷ hs) n e h =
      let z : completes v (record { channel = c; rails = rails_of (rails_at P k); ack = ack_at P k }) n ≡ None = ap
      (λ b. if b && not (v n) then rail_value_of v (rails_of (rails_at P k)) else None) (ne_eqb n (ack_at P k) (h k (omega arith) (omega arith))) in
      ap (λ o. with_value o x ∷ with_values v n (wires_from P (suc k) cs) hs) z
      ∙ ap (λ l. x ∷ l) (values_none (suc k) cs hs n (omega (arith, e)) (λ j l u. h j (omega arith) (omega arith)))

  passed_later : (x : List ℕ) (hs : List (List ℕ)) (j : ℕ) (o : Option ℕ) → x ∷ cells_passed hs j o ≡ cells_passed (x ∷ hs) (suc j) o
  passed_later x hs j None = refl
  passed_later x hs j (Some y) = refl

  passed_first : (x : List ℕ) (hs : List (List ℕ)) (o : Option ℕ) → with_value o x ∷ hs ≡ cells_passed (x ∷ hs) 0 o
  passed_first x hs None = refl
  passed_first x hs (Some y) = refl

  pub values_some : (k : ℕ) (cs : List Channel) (hs : List (List ℕ)) (n j : ℕ) → length hs ≡ length cs → j < length cs → n ≡ ack_at P (k + j)
      → ((i : ℕ) → k ≤ i → i < k + length cs → i ≢ k + j → n ≢ ack_at P i)
      → with_values v n (wires_from P k cs) hs ≡ cells_passed hs j (if not (v n) then rail_value_of v (rails_of (rails_at P (k + j))) else None)
  values_some k [] hs n j e lt here far = absurd (omega arith)
  values_some k (c ∷ cs) [] n j e lt here far = absurd (omega (arith, e))
  values_some k (c ∷ cs) (x ∷ hs) n zero e lt here far =
      let s : k + 0 ≡ k = omega arith in
      let test : (n == ack_at P k) ≡ true = eq-eqb n (ack_at P k) (here ∙ ap (ack_at P) s) in
      let rest = values_none (suc k) cs hs n (omega (arith, e)) (λ i l u. far i (omega arith) (omega arith) (λ z. absurd (omega (arith, z, l)))) in
      let z : completes v (record { channel = c; rails = rails_of (rails_at P k); ack = ack_at P k }) n ≡
      (if not (v n) then rail_value_of v (rails_of (rails_at P (k + 0))) else None)
      = ap (λ b. if b && not (v n) then rail_value_of v (rails_of (rails_at P k)) else None) test
      ∙ ap (λ i. if not (v n) then rail_value_of v (rails_of (rails_at P i)) else None) (sym s) in
      ap (λ o. with_value o x ∷ with_values v n (wires_from P (suc k) cs) hs) z
      ∙ (ap (λ l. with_value (if not (v n) then rail_value_of v (rails_of (rails_at P (k + 0))) else None) x ∷ l) rest
      ∙ passed_first x hs (if not (v n) then rail_value_of v (rails_of (rails_at P (k + 0))) else None))
  values_some k (c ∷ cs) (x ∷ hs) n (suc j) e lt here far =
      let s : k + suc j ≡ suc k + j = omega arith in
      let z : completes v (record { channel = c; rails = rails_of (rails_at P k); ack = ack_at P k }) n ≡ None
      = ap (λ b. if b && not (v n) then rail_value_of v (rails_of (rails_at P k)) else None)
      (ne_eqb n (ack_at P k) (far k (omega arith) (omega arith) (λ y. absurd (omega (arith, y))))) in
      let rest = values_some (suc k) cs hs n j (omega (arith, e)) (omega arith) (here ∙ ap (ack_at P) s)
      (λ i l u ne. far i (omega arith) (omega arith) (λ y. ne (y ∙ s))) in
      ap (λ o. with_value o x ∷ with_values v n (wires_from P (suc k) cs) hs) z
      ∙ (ap (λ l. x ∷ l) rest
      ∙ (ap (λ i. x ∷ cells_passed hs j (if not (v n) then rail_value_of v (rails_of (rails_at P i)) else None)) (sym s)
      ∙ passed_later x hs j (if not (v n) then rail_value_of v (rails_of (rails_at P (k + suc j))) else None)))

-- no channel is at fault where each passes
pub position_none : {X : Type 0} (p : X → Bool) (xs : List X) (d : X) → ((k : ℕ) → k < length xs → p (get_or xs k d) ≡ false) → position p xs ≡ None
position_none p xs d h =
    let e = position_or_len_is p xs (length xs) d (omega arith) h (λ lt. absurd (omega arith)) in
    let t : nat_lt (position_or_len p xs) (length xs) ≡ false = grind (arith, nat_tests, e) in
    ap (λ b. cond b (Some (position_or_len p xs)) None) t

pub length-wires_from : (P : TypedProgram) (k : ℕ) (cs : List Channel) → length (wires_from P k cs) ≡ length cs
length-wires_from P k [] = refl
length-wires_from P k (c ∷ cs) = ap suc (length-wires_from P (suc k) cs)

pub wires_are : (P : TypedProgram) (k : ℕ) (cs : List Channel) (j : ℕ) (d : NetWires) → j < length cs
    → ((get_or (wires_from P k cs) j d).rails ≡ rails_of (rails_at P (k + j))) × ((get_or (wires_from P k cs) j d).ack ≡ ack_at P (k + j))
wires_are P k [] j d h = absurd (omega arith)
wires_are P k (c ∷ cs) zero d h = let e : k ≡ k + 0 = omega arith in (ap (λ i. rails_of (rails_at P i)) e, ap (ack_at P) e)
wires_are P k (c ∷ cs) (suc j) d h =
    let e : suc k + j ≡ k + suc j = omega arith in
    let r = wires_are P (suc k) cs j d (omega arith) in
    (r.0 ∙ ap (λ i. rails_of (rails_at P i)) e, r.1 ∙ ap (ack_at P) e)
