-- Two nets of which one is the other with its nodes numbered otherwise: each run of the one is a run of the other.
use Rattle.std.proofs.Common.{◌≡◌, ◌≢◌, ℕ, suc, ◌+◌, ◌<◌, ◌≤◌, ◌==◌, ◌/◌, Bool, true, false, List, [], ◌∷◌, length, Option, Some, None, refl, sym, ap, ◌∙◌, subst, arith, length-set, get_or-set_same, get_or-set_other, ⊎_elim}
use Rattle.std.specs.Prelude.{not, ◌&&◌, ◌||◌, if◌then◌else◌, cond, nat_lt, is_some, position, slice_get}
use Rattle.std.specs.List.{list_any, position_or_len}
use Rattle.std.proofs.lemmas.Bool.{cases_lt, cases_eq, eq-eqb, ne_eqb}
use Rattle.prs_core.specs.declared.wires.Wires.{Wires}
use Rattle.prs_core.specs.Nets.{RulesValue, NetValue, net_of, up_of, down_of}
use Rattle.prs_core.specs.Moves.{high, guard_holds, rule_enabled, both_ways, fired, bit_value, with_bit, rail_value_of, neutral}
use Rattle.env_script.specs.Scripts.{OfferValue, gives, takes, nothing, offer_at, is_over}
use Rattle.env_script.specs.Environment.{env_enabled, raises_go, channels_move, offer_moves, lowers, raises_bit, raises_value, raises_next, valid, is_odd}
use Rattle.env_script.specs.Phases.{rail_keeps, pair_keeps, rails_keep, ack_keeps, phases_keep}
use Rattle.env_script.specs.Runs.{RunState, completed, move_enabled, completes, with_value, with_values, moved, IsRun, after, begin_at, IsAtRest, IsApart, IsSafeMove, IsSafeRun}
use Rattle.net_compose.specs.WiresBelow.{RailsBelow, WiresBelow}

-- the values of all wires are the same, and two nodes are the same one of them, or none
module _ (v u : ℕ → Bool) (k n m : ℕ) (agree : (r : ℕ) → r < k → v r ≡ u r) (here : v n ≡ u m) (tests : (r : ℕ) → r < k → (n == r) ≡ (m == r)) where
  neutral_same : (rails : List ℕ) → RailsBelow k rails → neutral v rails ≡ neutral u rails
  neutral_same [] b = refl
  neutral_same (r ∷ rs) b = ap (λ z. not z && neutral v rs) (agree r b.0) ∙ ap (λ z. not (u r) && z) (neutral_same rs b.1)

  value_same : (rails : List ℕ) → RailsBelow k rails → rail_value_of v rails ≡ rail_value_of u rails
  value_same [] b = refl
  value_same (t ∷ []) b = refl
  value_same (t ∷ f ∷ rs) b =
      ap (λ z. with_bit (bit_value z (v f)) (rail_value_of v rs)) (agree t b.0)
      ∙ (ap (λ z. with_bit (bit_value (u t) z) (rail_value_of v rs)) (agree f b.1.0)
      ∙ ap (λ z. with_bit (bit_value (u t) (u f)) z) (value_same rs b.1.1))

  listed_same : (rails : List ℕ) → RailsBelow k rails → list_any (λ rail. n == rail) rails ≡ list_any (λ rail. m == rail) rails
  listed_same [] b = refl
  listed_same (r ∷ rs) b = ap (λ z. z || list_any (λ rail. n == rail) rs) (tests r b.0) ∙ ap (λ z. (m == r) || z) (listed_same rs b.1)

  lowers_same : (rails : List ℕ) → RailsBelow k rails → lowers v rails n ≡ lowers u rails m
  lowers_same rails b = ap (λ z. z && list_any (λ rail. n == rail) rails) here ∙ ap (λ z. u m && z) (listed_same rails b)

  raises_bit_same : (bit : Bool) (t f : ℕ) → t < k → f < k → raises_bit v bit t f n ≡ raises_bit u bit t f m
  raises_bit_same bit t f bt bf =
      ap (λ z. z && (not (v t) && not (v f))) (side bit)
      ∙ (ap (λ z. (m == (if bit then t else f)) && (not z && not (v f))) (agree t bt)
      ∙ ap (λ z. (m == (if bit then t else f)) && (not (u t) && not z)) (agree f bf))
    where
      side : (bit : Bool) → (n == (if bit then t else f)) ≡ (m == (if bit then t else f))
      side true = tests t bt
      side false = tests f bf

  raises_same : (value : ℕ) (rails : List ℕ) → RailsBelow k rails → raises_value v value rails n ≡ raises_value u value rails m
  raises_same value [] b = refl
  raises_same value (t ∷ []) b = refl
  raises_same value (t ∷ f ∷ rs) b =
      ap (λ z. z || raises_value v (value / 2) rs n) (raises_bit_same (is_odd value) t f b.0 b.1.0)
      ∙ ap (λ z. raises_bit u (is_odd value) t f m || z) (raises_same (value / 2) rs b.1.1)

  next_same : (next : Option ℕ) (rails : List ℕ) → RailsBelow k rails → raises_next v next rails n ≡ raises_next u next rails m
  next_same None rails b = refl
  next_same (Some value) rails b = raises_same value rails b

  offer_same : (w : Wires) (offer : OfferValue) (done : ℕ) → w.ack < k → RailsBelow k w.rails → offer_moves v w offer done n ≡ offer_moves u w offer done m
  offer_same w nothing done a b = refl
  offer_same w (gives values) done a b =
      ap (λ z. if z then lowers v w.rails n else raises_next v (slice_get values done) w.rails n) (agree w.ack a)
      ∙ (ap (λ z. if u w.ack then z else raises_next v (slice_get values done) w.rails n) (lowers_same w.rails b)
      ∙ ap (λ z. if u w.ack then lowers u w.rails m else z) (next_same (slice_get values done) w.rails b))
  offer_same w (takes count) done a b =
      ap (λ z. z && (if v w.ack then neutral v w.rails else valid v w.rails && is_over count done)) (tests w.ack a)
      ∙ (ap (λ z. (m == w.ack) && (if z then neutral v w.rails else valid v w.rails && is_over count done)) (agree w.ack a)
      ∙ (ap (λ z. (m == w.ack) && (if u w.ack then z else valid v w.rails && is_over count done)) (neutral_same w.rails b)
      ∙ ap (λ z. (m == w.ack) && (if u w.ack then neutral u w.rails else is_some z && is_over count done)) (value_same w.rails b)))

  pub channels_same : (offers : ℕ → OfferValue) (done : ℕ → ℕ) (c : ℕ) (ws : List Wires) → WiresBelow k ws
      → channels_move v offers done c ws n ≡ channels_move u offers done c ws m
  channels_same offers done c [] b = refl
  channels_same offers done c (w ∷ ws) b =
      ap (λ z. z || channels_move v offers done (suc c) ws n) (offer_same w (offers c) (done c) b.0 b.1)
      ∙ ap (λ z. offer_moves u w (offers c) (done c) m || z) (channels_same offers done (suc c) ws b.2)

  pub go_same : 0 < k → raises_go v n ≡ raises_go u m
  go_same some = ap (λ z. z && not (v 0)) (tests 0 some) ∙ ap (λ z. (m == 0) && not z) (agree 0 some)

  -- the phases
  rail_same : (ack r s : ℕ) → ack < k → r < k → s < k → rail_keeps v ack r s ≡ rail_keeps u ack r s
  rail_same ack r s a b c =
      ap (λ z. if z then v ack else not (v ack) && not (v s)) (agree r b)
      ∙ (ap (λ z. if u r then z else not z && not (v s)) (agree ack a) ∙ ap (λ z. if u r then u ack else not (u ack) && not z) (agree s c))

  rails_same : (ack : ℕ) (rails : List ℕ) → ack < k → RailsBelow k rails → rails_keep v ack rails n ≡ rails_keep u ack rails m
  rails_same ack [] a b = refl
  rails_same ack (t ∷ []) a b = refl
  rails_same ack (t ∷ f ∷ rs) a b =
      ap (λ z. ((not z || rail_keeps v ack t f) && (not (n == f) || rail_keeps v ack f t)) && rails_keep v ack rs n) (tests t b.0)
      ∙ (ap (λ z. ((not (m == t) || z) && (not (n == f) || rail_keeps v ack f t)) && rails_keep v ack rs n) (rail_same ack t f a b.0 b.1.0)
      ∙ (ap (λ z. ((not (m == t) || rail_keeps u ack t f) && (not z || rail_keeps v ack f t)) && rails_keep v ack rs n) (tests f b.1.0)
      ∙ (ap (λ z. ((not (m == t) || rail_keeps u ack t f) && (not (m == f) || z)) && rails_keep v ack rs n) (rail_same ack f t a b.1.0 b.0)
      ∙ ap (λ z. pair_keeps u ack t f m && z) (rails_same ack rs a b.1.1))))

  ack_same : (ack : ℕ) (rails : List ℕ) → ack < k → RailsBelow k rails → ack_keeps v ack rails ≡ ack_keeps u ack rails
  ack_same ack rails a b =
      ap (λ z. if z then neutral v rails else valid v rails) (agree ack a)
      ∙ (ap (λ z. if u ack then z else valid v rails) (neutral_same rails b) ∙ ap (λ z. if u ack then neutral u rails else is_some z) (value_same rails b))

  keeps_same : (w : Wires) → w.ack < k → RailsBelow k w.rails → phases_keep v w n ≡ phases_keep u w m
  keeps_same w a b =
      ap (λ z. z && (not (n == w.ack) || ack_keeps v w.ack w.rails)) (rails_same w.ack w.rails a b)
      ∙ (ap (λ z. rails_keep u w.ack w.rails m && (not z || ack_keeps v w.ack w.rails)) (tests w.ack a)
      ∙ ap (λ z. rails_keep u w.ack w.rails m && (not (m == w.ack) || z)) (ack_same w.ack w.rails a b))

  place_same : (ws : List Wires) → WiresBelow k ws
      → position_or_len (λ (w : Wires). not (phases_keep v w n)) ws ≡ position_or_len (λ (w : Wires). not (phases_keep u w m)) ws
  place_same [] b = refl
  place_same (w ∷ ws) b =
      ap (λ z. cond (not (not z)) (1 + position_or_len (λ (w : Wires). not (phases_keep v w n)) ws) 0) (keeps_same w b.0 b.1)
      ∙ ap (λ z. cond (not (not (phases_keep u w m))) (1 + z) 0) (place_same ws b.2)

  pub fault_same : (ws : List Wires) → WiresBelow k ws
      → position (λ (w : Wires). not (phases_keep v w n)) ws ≡ position (λ (w : Wires). not (phases_keep u w m)) ws
  fault_same ws b = ap (λ z. cond (nat_lt z (length ws)) (Some z) None) (place_same ws b)

  -- what passes
  completes_same : (w : Wires) → w.ack < k → RailsBelow k w.rails → completes v w n ≡ completes u w m
  completes_same w a b =
      ap (λ z. if z && not (v n) then rail_value_of v w.rails else None) (tests w.ack a)
      ∙ (ap (λ z. if (m == w.ack) && not z then rail_value_of v w.rails else None) here
      ∙ ap (λ z. if (m == w.ack) && not (u m) then z else None) (value_same w.rails b))

  pub values_same : (ws : List Wires) (hs : List (List ℕ)) → WiresBelow k ws → with_values v n ws hs ≡ with_values u m ws hs
  values_same [] hs b = refl
  values_same (w ∷ ws) [] b = refl
  values_same (w ∷ ws) (h ∷ hs) b =
      ap (λ z. with_value z h ∷ with_values v n ws hs) (completes_same w b.0 b.1) ∙ ap (λ z. with_value (completes u w m) h ∷ z) (values_same ws hs b.2)

-- beyond all wires nothing moves
module _ (v : ℕ → Bool) (k n : ℕ) (beyond : (r : ℕ) → r < k → (n == r) ≡ false) where
  unlisted : (rails : List ℕ) → RailsBelow k rails → list_any (λ rail. n == rail) rails ≡ false
  unlisted [] b = refl
  unlisted (r ∷ rs) b = ap (λ z. z || list_any (λ rail. n == rail) rs) (beyond r b.0) ∙ unlisted rs b.1

  unraised : (value : ℕ) (rails : List ℕ) → RailsBelow k rails → raises_value v value rails n ≡ false
  unraised value [] b = refl
  unraised value (t ∷ []) b = refl
  unraised value (t ∷ f ∷ rs) b = ap (λ z. (z && (not (v t) && not (v f))) || raises_value v (value / 2) rs n) (side (is_odd value))
      ∙ unraised (value / 2) rs b.1.1
    where
      side : (bit : Bool) → (n == (if bit then t else f)) ≡ false
      side true = beyond t b.0
      side false = beyond f b.1.0

  quiet_at : (w : Wires) (offer : OfferValue) (done : ℕ) → w.ack < k → RailsBelow k w.rails → offer_moves v w offer done n ≡ false
  quiet_at w nothing done a b = refl
  quiet_at w (takes count) done a b = ap (λ z. z && (if v w.ack then neutral v w.rails else valid v w.rails && is_over count done)) (beyond w.ack a)
  quiet_at w (gives values) done a b = by (v w.ack) (slice_get values done)
    where
      never : (b : Bool) → (b && false) ≡ false
      never true = refl
      never false = refl

      by : (a : Bool) (next : Option ℕ) → (if a then lowers v w.rails n else raises_next v next w.rails n) ≡ false
      by true next = ap (λ z. v n && z) (unlisted w.rails b) ∙ never (v n)
      by false None = refl
      by false (Some value) = unraised value w.rails b

  pub quiet : (offers : ℕ → OfferValue) (done : ℕ → ℕ) (c : ℕ) (ws : List Wires) → WiresBelow k ws → channels_move v offers done c ws n ≡ false
  quiet offers done c [] b = refl
  quiet offers done c (w ∷ ws) b = ap (λ z. z || channels_move v offers done (suc c) ws n) (quiet_at w (offers c) (done c) b.0 b.1)
      ∙ quiet offers done (suc c) ws b.2

  never_completes : (w : Wires) → w.ack < k → completes v w n ≡ None
  never_completes w a = ap (λ z. if z && not (v n) then rail_value_of v w.rails else None) (beyond w.ack a)

  pub values_stay : (ws : List Wires) (hs : List (List ℕ)) → WiresBelow k ws → with_values v n ws hs ≡ hs
  values_stay [] hs b = refl
  values_stay (w ∷ ws) [] b = refl
  values_stay (w ∷ ws) (h ∷ hs) b =
      ap (λ z. with_value z h ∷ with_values v n ws hs) (never_completes w b.0) ∙ ap (λ z. h ∷ z) (values_stay ws hs b.2)

-- Node n of the second net is node f n of the first. Nodes with low numbers, among them go and all wires, keep these.
pub record IsRenaming (A B : NetValue) (f : ℕ → ℕ) (count low : ℕ) : Type 0 where
  pub below : (n : ℕ) → n < count → f n < count
  pub back : (m : ℕ) → m < count → (n : ℕ) × (n < count) × (f n ≡ m)
  pub apart : (n m : ℕ) → n < count → m < count → f n ≡ f m → n ≡ m
  pub still : (n : ℕ) → n < low → f n ≡ n
  pub some : 0 < low
  pub within : low ≤ count
  pub rules : (v u : ℕ → Bool) → ((n : ℕ) → n < count → v (f n) ≡ u n) → (n : ℕ) → n < count
      → (guard_holds v (up_of A (f n)) ≡ guard_holds u (up_of B n)) × (guard_holds v (down_of A (f n)) ≡ guard_holds u (down_of B n))
  pub past : (n : ℕ) → count ≤ n → (up_of A n ≡ []) × (down_of A n ≡ [])
  pub past_there : (n : ℕ) → count ≤ n → (up_of B n ≡ []) × (down_of B n ≡ [])
  pub wires : WiresBelow low A.channels
  pub long : length A.first ≡ count
  pub long_there : length B.first ≡ count
  pub first : (n : ℕ) → n < count → high A.first (f n) ≡ high B.first n

module _ (names : List (List ℕ)) (first : List Bool) (rules : RulesValue) (ws : List Wires) (low : ℕ) (wires : WiresBelow low ws) (some : 0 < low) where
  abbrev net : NetValue
  net = net_of names first rules ws None

  -- beyond the last node nothing moves
  still_past : (script : List OfferValue) (st : RunState) (n : ℕ) → low ≤ n → up_of net n ≡ [] → down_of net n ≡ [] → move_enabled net script st n ≡ false
  still_past script st n le up down =
      let beyond : (r : ℕ) → r < low → (n == r) ≡ false = λ r l. ne_eqb n r (λ e. absurd (let g : ⊥ = omega (arith, e, l, le) in g)) in
      ap (λ g. (if high st.values n then guard_holds (high st.values) (down_of net n) else guard_holds (high st.values) g) || env_enabled net script
      (completed st.histories) (high st.values) n) up
      ∙ (ap (λ g. (if high st.values n then guard_holds (high st.values) g else false) || env_enabled net script (completed st.histories) (high st.values) n)
      down
      ∙ (none (high st.values n)
      ∙ (ap (λ z. (z && not (high st.values 0)) || channels_move (high st.values) (offer_at script) (completed st.histories) 0 ws n) (beyond 0 some)
      ∙ quiet (high st.values) low n beyond (offer_at script) (completed st.histories) 0 ws wires)))
    where
      none : (b : Bool) → ((if b then false else false) || env_enabled net script (completed st.histories) (high st.values) n) ≡ env_enabled net script
          (completed st.histories) (high st.values) n
      none true = refl
      none false = refl

module _ (names more_names : List (List ℕ)) (firsts more_firsts : List Bool) (rules more_rules : RulesValue) (ws : List Wires) (f : ℕ → ℕ) (count low : ℕ) where
  abbrev A : NetValue
  A = net_of names firsts rules ws None

  abbrev B : NetValue
  B = net_of more_names more_firsts more_rules ws None

  module _ (is : IsRenaming A B f count low) (script : List OfferValue) where
    -- a state of the one and a state of the other
    pub record Mirrors (st there : RunState) : Type 0 where
      pub long : length st.values ≡ count
      pub long_there : length there.values ≡ count
      pub same : (n : ℕ) → n < count → high st.values (f n) ≡ high there.values n
      pub histories : st.histories ≡ there.histories

    tests : (i : ℕ) → i < count → (r : ℕ) → r < low → (f i == r) ≡ (i == r)
    tests i l r h =
        let w = is.within in
        ⊎_elim
        (λ (e : i ≡ r). eq-eqb (f i) r (ap f e ∙ is.still r h) ∙ sym (eq-eqb i r e))
        (λ (ne : i ≢ r). ne_eqb (f i) r (λ e. ne (is.apart i r l (omega (arith, h, w)) (e ∙ sym (is.still r h)))) ∙ sym (ne_eqb i r ne))
        (cases_eq i r)

    agree : {st there : RunState} → Mirrors st there → (r : ℕ) → r < low → high st.values r ≡ high there.values r
    agree {st = st} m r h = let w = is.within in ap (high st.values) (sym (is.still r h)) ∙ m.same r (omega (arith, h, w))

    pub enabled_same : (st there : RunState) → Mirrors st there → (i : ℕ) → i < count → move_enabled A script st (f i) ≡ move_enabled B script there i
    enabled_same st there m i l =
        let v = high st.values in
        let u = high there.values in
        let r = is.rules v u m.same i l in
        ap (λ z. (if z then guard_holds v (down_of A (f i)) else guard_holds v (up_of A (f i))) || env_enabled A script (completed st.histories) v (f i))
        (m.same i l)
        ∙ (ap (λ z. (if u i then z else guard_holds v (up_of A (f i))) || env_enabled A script (completed st.histories) v (f i)) r.1
        ∙ (ap (λ z. (if u i then guard_holds u (down_of B i) else z) || env_enabled A script (completed st.histories) v (f i)) r.0
        ∙ (ap (λ hs. rule_enabled B u i || env_enabled A script (completed hs) v (f i)) m.histories
        ∙ (ap (λ z. rule_enabled B u i || (z || channels_move v (offer_at script) (completed there.histories) 0 ws (f i)))
        (go_same v u low (f i) i (agree m) (m.same i l) (tests i l) is.some)
        ∙ ap (λ z. rule_enabled B u i || (raises_go u i || z))
        (channels_same v u low (f i) i (agree m) (m.same i l) (tests i l) (offer_at script) (completed there.histories) 0 ws is.wires)))))

    pub moved_same : (st there : RunState) → Mirrors st there → (i : ℕ) → i < count → Mirrors (moved A st (f i)) (moved B there i)
    moved_same st there m i l = record {
      long = length-set st.values (f i) (not (high st.values (f i))) ∙ m.long;
      long_there = length-set there.values i (not (high there.values i)) ∙ m.long_there;
      same = λ n h. ⊎_elim
          (λ (e : n ≡ i).
          ap (λ k. high (fired st.values (f i)) (f k)) e
          ∙ (get_or-set_same st.values (f i) (not (high st.values (f i))) false (let a = is.below i l in let b = m.long in omega (arith, a, b))
          ∙ (ap not (m.same i l)
          ∙ (sym (get_or-set_same there.values i (not (high there.values i)) false (let b = m.long_there in omega (arith, l, b)))
          ∙ ap (λ k. high (fired there.values i) k) (sym e)))))
          (λ (ne : n ≢ i).
          get_or-set_other st.values (f i) (f n) (not (high st.values (f i))) false (λ e. ne (is.apart n i h l e))
          ∙ (m.same n h ∙ sym (get_or-set_other there.values i n (not (high there.values i)) false ne)))
          (cases_eq n i);
      histories = ap (λ hs. with_values (high st.values) (f i) ws hs) m.histories
          ∙ values_same (high st.values) (high there.values) low (f i) i (agree m) (m.same i l) (tests i l) ws there.histories is.wires;
    }

    pub past_here : (st : RunState) (n : ℕ) → count ≤ n → move_enabled A script st n ≡ false
    past_here st n le =
        let w = is.within in
        let p = is.past n le in
        still_past names firsts rules ws low is.wires is.some script st n (omega (arith, le, w)) p.0 p.1

    pub past_other : (st : RunState) (n : ℕ) → count ≤ n → move_enabled B script st n ≡ false
    past_other st n le =
        let w = is.within in
        let p = is.past_there n le in
        still_past more_names more_firsts more_rules ws low is.wires is.some script st n (omega (arith, le, w)) p.0 p.1

    pub rest_there : (st there : RunState) → Mirrors st there → IsAtRest A script st → IsAtRest B script there
    rest_there st there m rest n = ⊎_elim (λ (l : n < count). sym (enabled_same st there m n l) ∙ rest (f n)) (λ (le : count ≤ n). past_other there n le)
        (cases_lt n count)

    apart_here : (st there : RunState) → Mirrors st there → IsApart B there → IsApart A st
    apart_here st there m apart n = ⊎_elim
        (λ (l : n < count). let b = is.back n l in at b.0 n b.1 b.2)
        (λ (le : count ≤ n). let p = is.past n le in
        ap (λ g. guard_holds (high st.values) g && guard_holds (high st.values) (down_of A n)) p.0) (cases_lt n count)
      where
        at : (i n : ℕ) → i < count → f i ≡ n → both_ways A (high st.values) n ≡ false
        at i n l e =
            let r = is.rules (high st.values) (high there.values) m.same i l in
            ap (λ k. both_ways A (high st.values) k) (sym e)
            ∙ (ap (λ z. z && guard_holds (high st.values) (down_of A (f i))) r.0
            ∙ (ap (λ z. guard_holds (high there.values) (up_of B i) && z) r.1 ∙ apart i))

    -- a node that may move is that of a node of the other
    pub found : (st : RunState) (n : ℕ) → move_enabled A script st n ≡ true → (i : ℕ) × (i < count) × (f i ≡ n)
    found st n on = ⊎_elim (λ (l : n < count). is.back n l) (λ (le : count ≤ n). absurd (cc (past_here st n le, on))) (cases_lt n count)

    safe_here : (st there : RunState) → Mirrors st there → (i : ℕ) → i < count → IsSafeMove B script there i → IsSafeMove A script st (f i)
    safe_here st there m i l safe = record {
      stable = λ n ne on. let b = found st n on in others n ne on b.0 b.1 b.2;
      phases = fault_same (high st.values) (high there.values) low (f i) i (agree m) (m.same i l) (tests i l) ws is.wires ∙ safe.phases;
    }
      where
        others : (n : ℕ) → n ≢ f i → move_enabled A script st n ≡ true → (j : ℕ) → j < count → f j ≡ n → move_enabled A script (moved A st (f i)) n ≡ true
        others n ne on j h e =
            ap (move_enabled A script (moved A st (f i))) (sym e)
            ∙ (enabled_same (moved A st (f i)) (moved B there i) (moved_same st there m i l) j h
            ∙ safe.stable j (λ z. ne (sym e ∙ ap f z)) (sym (enabled_same st there m j h) ∙ (ap (move_enabled A script st) e ∙ on)))

    -- a run of the one as a run of the other
    pub record Mirrored (st there : RunState) (ns : List ℕ) : Type 0 where
      pub moves : List ℕ
      pub long : length moves ≡ length ns
      pub run : IsRun B script there moves
      pub last : Mirrors (after A st ns) (after B there moves)
      pub safe : IsSafeRun B script there moves → IsSafeRun A script st ns

    pub mirror : (ns : List ℕ) (st there : RunState) → Mirrors st there → IsRun A script st ns → Mirrored st there ns
    mirror [] st there m run = record { moves = []; long = refl; run = tt; last = m; safe = λ s. apart_here st there m s }
    mirror (n ∷ ns) st there m run =
        let b = found st n run.0 in
        subst (λ k. (move_enabled A script st k ≡ true) → IsRun A script (moved A st k) ns → Mirrored st there (k ∷ ns)) b.2
        (λ on rest. one_more b.0 b.1 on (mirror ns (moved A st (f b.0)) (moved B there b.0) (moved_same st there m b.0 b.1) rest)) run.0 run.1
      where
        one_more : (i : ℕ) → i < count → move_enabled A script st (f i) ≡ true → Mirrored (moved A st (f i)) (moved B there i) ns → Mirrored st there (f i ∷ ns)
        one_more i l on r = record {
          moves = i ∷ r.moves;
          long = ap suc r.long;
          run = (sym (enabled_same st there m i l) ∙ on, r.run);
          last = r.last;
          safe = λ s. (apart_here st there m s.0, safe_here st there m i l s.1, r.safe s.2);
        }

    pub mirrors_first : Mirrors (begin_at A firsts) (begin_at B more_firsts)
    mirrors_first = record { long = is.long; long_there = is.long_there; same = is.first; histories = refl }
