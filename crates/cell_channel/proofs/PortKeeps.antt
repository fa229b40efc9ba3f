-- A receive port of any width keeps its contract: each bit is as in a port of one bit.
use Rattle.std.proofs.Common.{◌≡◌, ◌≢◌, ℕ, zero, suc, ◌+◌, ◌*◌, ◌<◌, Bool, true, false, not, List, ◌∷◌, length, refl, sym, ap, subst, ◌∙◌, inl, arith}
use Rattle.std.specs.Prelude.{◌&&◌, ◌||◌, ◌==◌, if◌then◌else◌, All, Contains}
use Rattle.std.specs.List.{list_all}
use Rattle.std.proofs.Math.Logic.{⊎_elim}
use Rattle.std.proofs.lemmas.Bool.{cases_eq, cases_Bool, or_cases, not-true, not_from_false}
use Rattle.std.proofs.lemmas.List.Elements.{All-cons, All-contains}
use Rattle.prs_core.specs.Moves.{guard_holds}
use Rattle.prs_core.specs.Parts.{Part, Owned, Wire, Moment, IsFirstState, Keeps, is_valid, turned, moment_after, fires, may_move}
use Rattle.prs_core.specs.Keeping.{OwnKeeps, EachKeeps, kept_by_each}
use Rattle.prs_core.specs.Turning.{turned_here, turned_apart}
use Rattle.prs_core.specs.Deciding.{implies, implies_at, implies_both, at_2, left_of, right_of, both_of, at_6}
use Rattle.cell_channel.specs.Handshakes.{PortBit, channel_pairs, taken_pairs, is_neutral, rail_wire, rail_wires, port_ack, port_request, taken_wire, port_part}
use Rattle.cell_channel.proofs.PortTable.{legal, takes, neutral, valid, lets_request, lets_ack, lets_rail, exchanged_legal, request_goes, ack_goes, rail_goes, taking_goes, as_promised, one_way, under_request, under_rail, still, idle_neutral, let_go, taken_valid, may_rise, may_fall}
use Rattle.cell_channel.proofs.PortPlaces.{bit_at, node, IsDistinct, request_ack, request_apart, ack_apart, roles_apart, role_turned, all_two, first_of_two, second_of_two, taken_t, taken_f, own_is, each_pair, all_pairs, some_pair, low_taken, low_rails}

same_legal : (r s a b x y t f q p u w : Bool) → r ≡ s → a ≡ b → x ≡ t → y ≡ f → q ≡ u → p ≡ w → legal s b t f u w ≡ true → legal r a x y q p ≡ true
same_legal r s a b x y t f q p u w er ea ex ey eq ep h =
    ap (λ k. legal k a x y q p) er ∙ ap (λ k. legal s k x y q p) ea ∙ ap (λ k. legal s b k y q p) ex ∙ ap (λ k. legal s b t k q p) ey
    ∙ ap (λ k. legal s b t f k p) eq ∙ ap (legal s b t f u) ep ∙ h

same_takes : (r s x y q p : Bool) → r ≡ s → x ≡ y → q ≡ p → takes s y p ≡ true → takes r x q ≡ true
same_takes r s x y q p er ex eq h = ap (λ k. takes k x q) er ∙ ap (λ k. takes s k q) ex ∙ ap (takes s y) eq ∙ h

swapped : (q p : Bool) → neutral q p ≡ true → neutral p q ≡ true
swapped q p h = implies_at _ _ (at_2 (λ q p. implies (neutral q p) (neutral p q)) refl q p) h

-- what all bits let, each bit lets
request_lets : (r a all q p : Bool) → (if r then a else not a && all) ≡ true → (all ≡ true → neutral q p ≡ true) → lets_request r a q p ≡ true
request_lets true a all q p may each = may
request_lets false true all q p may each = may
request_lets false false all q p may each = each may

ack_lets : (r a rails_neutral taken_neutral rails_valid taken_valid x y q p : Bool) →
    (if a then rails_neutral && taken_neutral else rails_valid && (not r || taken_valid)) ≡ true → (rails_neutral ≡ true → neutral x y ≡ true) →
    (taken_neutral ≡ true → neutral q p ≡ true) → (rails_valid ≡ true → valid x y ≡ true) → (taken_valid ≡ true → valid q p ≡ true) →
    lets_ack r a x y q p ≡ true
ack_lets r true rn tn rv tv x y q p may on_rn on_tn on_rv on_tv = both_of _ _ (on_rn (left_of rn tn may)) (on_tn (right_of rn tn may))
ack_lets true false rn tn rv tv x y q p may on_rn on_tn on_rv on_tv = both_of _ _ (on_rv (left_of rv tv may)) (on_tv (right_of rv tv may))
ack_lets false false rn tn rv tv x y q p may on_rn on_tn on_rv on_tv = both_of _ _ (on_rv (left_of rv true may)) refl

module _ (request ack : ℕ) (bits : List PortBit) (distinct : IsDistinct request ack bits) where
  abbrev part : Part
  part = port_part request ack bits

  abbrev bit_legal : (ℕ → Bool) → ℕ → Bool
  bit_legal v i = legal (v request) (v ack) (v (node bits i 0)) (v (node bits i 1)) (v (node bits i 2)) (v (node bits i 3))

  abbrev Holds : Moment → Type 0
  Holds m = (i : ℕ) → i < length bits → bit_legal m.value i ≡ true

  -- a node that is none of a bit's leaves it as it is
  legal_apart : (v : ℕ → Bool) (n i : ℕ) → n ≢ request → n ≢ ack → ((k : ℕ) → k < 4 → n ≢ node bits i k) → bit_legal v i ≡ true →
      bit_legal (turned v n) i ≡ true
  legal_apart v n i not_r not_a far h =
      same_legal _ _ _ _ _ _ _ _ _ _ _ _ (turned_apart v n request (λ e. not_r (sym e))) (turned_apart v n ack (λ e. not_a (sym e)))
      (turned_apart v n (node bits i 0) (λ e. far 0 (omega arith) (sym e))) (turned_apart v n (node bits i 1) (λ e. far 1 (omega arith) (sym e)))
      (turned_apart v n (node bits i 2) (λ e. far 2 (omega arith) (sym e))) (turned_apart v n (node bits i 3) (λ e. far 3 (omega arith) (sym e)))
      h

  -- one node of a bit: it is enough to look at that bit
  bit_goes : (m : Moment) (i k : ℕ) → i < length bits → k < 4 → Holds m → bit_legal (turned m.value (node bits i k)) i ≡ true →
      Holds (moment_after part m (node bits i k))
  bit_goes m i k within few holds here j inside =
      ⊎_elim
      (λ (e : j ≡ i). subst (λ l. bit_legal (turned m.value (node bits i k)) l ≡ true) (sym e) here)
      (λ (ne : j ≢ i).
      legal_apart m.value (node bits i k) j (λ e. request_apart request ack bits distinct i k within few (sym e))
      (λ e. ack_apart request ack bits distinct i k within few (sym e))
      (λ l few_l. roles_apart request ack bits distinct i k j l within few inside few_l (omega (arith, ne))) (holds j inside))
      (cases_eq j i)

  turned_bit : (v : ℕ → Bool) (i k : ℕ) → i < length bits → k < 4 →
      legal (v request) (v ack) (if 0 == k then not (v (node bits i 0)) else v (node bits i 0)) (if 1 == k then not (v (node bits i 1)) else v (node bits i 1))
      (if 2 == k then not (v (node bits i 2)) else v (node bits i 2)) (if 3 == k then not (v (node bits i 3)) else v (node bits i 3)) ≡ true →
      bit_legal (turned v (node bits i k)) i ≡ true
  turned_bit v i k within few h =
      same_legal _ _ _ _ _ _ _ _ _ _ _ _ (turned_apart v (node bits i k) request (request_apart request ack bits distinct i k within few))
      (turned_apart v (node bits i k) ack (ack_apart request ack bits distinct i k within few))
      (role_turned request ack bits distinct v i k 0 within few (omega arith)) (role_turned request ack bits distinct v i k 1 within few (omega arith))
      (role_turned request ack bits distinct v i k 2 within few (omega arith)) (role_turned request ack bits distinct v i k 3 within few (omega arith))
      h

-- which wire may move where, once neither node of any bit does
request_rises : (r a n : Bool) → r ≡ false → a ≡ false → n ≡ true → (if r then a else not a && n) ≡ true
request_rises true a n er ea en = absurd (cc er)
request_rises false true n er ea en = absurd (cc ea)
request_rises false false n er ea en = en

request_falls : (r a n : Bool) → r ≡ true → a ≡ true → (if r then a else not a && n) ≡ true
request_falls true a n er ea = ea
request_falls false a n er ea = absurd (cc er)

ack_rises : (r a rn tn rv tv : Bool) → a ≡ false → rv ≡ true → tv ≡ true → (if a then rn && tn else rv && (not r || tv)) ≡ true
ack_rises r true rn tn rv tv ea ev et = absurd (cc ea)
ack_rises true false rn tn rv tv ea ev et = both_of _ _ ev et
ack_rises false false rn tn rv tv ea ev et = both_of _ _ ev refl

ack_falls : (r a rn tn rv tv : Bool) → a ≡ true → rn ≡ true → tn ≡ true → (if a then rn && tn else rv && (not r || tv)) ≡ true
ack_falls r true rn tn rv tv ea er et = both_of _ _ er et
ack_falls r false rn tn rv tv ea er et = absurd (cc ea)

low_high : (r a : Bool) → r ≡ false → a ≡ true → (not r && a) ≡ true
low_high r a er ea = both_of _ _ (not_from_false r er) ea

low_low : (r a : Bool) → r ≡ false → a ≡ false → (not r && not a) ≡ true
low_low r a er ea = both_of _ _ (not_from_false r er) (not_from_false a ea)

high_low : (r a : Bool) → r ≡ true → a ≡ false → (r && not a) ≡ true
high_low r a er ea = both_of _ _ er (not_from_false a ea)

module _ (request ack : ℕ) (bits : List PortBit) (distinct : IsDistinct request ack bits) (m : Moment) (holds : Holds request ack bits distinct m) where
  abbrev value : (i k : ℕ) → Bool
  value i k = m.value (node bits i k)

  abbrev r : Bool
  r = m.value request

  abbrev a : Bool
  a = m.value ack

  abbrev Next : ℕ → Type 0
  Next n = Holds request ack bits distinct (moment_after (part request ack bits distinct) m n)

  abbrev to_bit : (i k : ℕ) → i < length bits → k < 4 → bit_legal request ack bits distinct (turned m.value (node bits i k)) i ≡ true → Next (node bits i k)
  to_bit i k within few h = bit_goes request ack bits distinct m i k within few holds h

  taken_t_goes : (i : ℕ) → i < length bits → takes r (value i 0) (value i 2) ≡ true → Next (node bits i 2)
  taken_t_goes i within fire =
      to_bit i 2 within (omega arith)
      (turned_bit request ack bits distinct m.value i 2 within (omega arith) (taking_goes r a (value i 0) (value i 1) (value i 2) (value i 3) (holds i within)
      fire))

  taken_f_goes : (i : ℕ) → i < length bits → takes r (value i 1) (value i 3) ≡ true → Next (node bits i 3)
  taken_f_goes i within fire =
      to_bit i 3 within (omega arith)
      (turned_bit request ack bits distinct m.value i 3 within (omega arith)
      (exchanged_legal r a (value i 1) (value i 0) (not (value i 3)) (value i 2)
      (taking_goes r a (value i 1) (value i 0) (value i 3) (value i 2)
      (exchanged_legal r a (value i 0) (value i 1) (value i 2) (value i 3) (holds i within)) fire)))

  rail_t_goes : (i : ℕ) → i < length bits → lets_rail a (value i 0) (value i 1) ≡ true → Next (node bits i 0)
  rail_t_goes i within may =
      to_bit i 0 within (omega arith)
      (turned_bit request ack bits distinct m.value i 0 within (omega arith)
      (rail_goes r a (value i 0) (value i 1) (value i 2) (value i 3) (holds i within) may))

  rail_f_goes : (i : ℕ) → i < length bits → lets_rail a (value i 1) (value i 0) ≡ true → Next (node bits i 1)
  rail_f_goes i within may =
      to_bit i 1 within (omega arith)
      (turned_bit request ack bits distinct m.value i 1 within (omega arith)
      (exchanged_legal r a (not (value i 1)) (value i 0) (value i 3) (value i 2)
      (rail_goes r a (value i 1) (value i 0) (value i 3) (value i 2) (exchanged_legal r a (value i 0) (value i 1) (value i 2) (value i 3) (holds i within))
      may)))

  request_bits : may_move m (port_request request ack bits) ≡ true → (i : ℕ) → i < length bits → lets_request r a (value i 2) (value i 3) ≡ true
  request_bits may i within =
      request_lets r a (list_all (is_neutral m.value) (taken_pairs bits)) (value i 2) (value i 3) may
      (λ all. each_pair (is_neutral m.value) (λ (b : PortBit). b.taken) bits all i within)

  request_next : may_move m (port_request request ack bits) ≡ true → Next request
  request_next may i within =
      same_legal _ _ _ _ _ _ _ _ _ _ _ _ (turned_here m.value request) (turned_apart m.value request ack (λ e. request_ack request ack bits distinct (sym e)))
      (turned_apart m.value request (node bits i 0) (λ e. request_apart request ack bits distinct i 0 within (omega arith) (sym e)))
      (turned_apart m.value request (node bits i 1) (λ e. request_apart request ack bits distinct i 1 within (omega arith) (sym e)))
      (turned_apart m.value request (node bits i 2) (λ e. request_apart request ack bits distinct i 2 within (omega arith) (sym e)))
      (turned_apart m.value request (node bits i 3) (λ e. request_apart request ack bits distinct i 3 within (omega arith) (sym e)))
      (request_goes r a (value i 0) (value i 1) (value i 2) (value i 3) (holds i within) (request_bits may i within))

  ack_bits : may_move m (port_ack request ack bits) ≡ true → (i : ℕ) → i < length bits → lets_ack r a (value i 0) (value i 1) (value i 2) (value i 3) ≡ true
  ack_bits may i within =
      ack_lets r a (list_all (is_neutral m.value) (channel_pairs bits)) (list_all (is_neutral m.value) (taken_pairs bits))
      (list_all (is_valid m.value) (channel_pairs bits)) (list_all (is_valid m.value) (taken_pairs bits)) (value i 0) (value i 1) (value i 2) (value i 3)
      may
      (λ all. each_pair (is_neutral m.value) (λ (b : PortBit). b.rail) bits all i within)
      (λ all. each_pair (is_neutral m.value) (λ (b : PortBit). b.taken) bits all i within)
      (λ all. each_pair (is_valid m.value) (λ (b : PortBit). b.rail) bits all i within)
      (λ all. each_pair (is_valid m.value) (λ (b : PortBit). b.taken) bits all i within)

  ack_next : may_move m (port_ack request ack bits) ≡ true → Next ack
  ack_next may i within =
      same_legal _ _ _ _ _ _ _ _ _ _ _ _ (turned_apart m.value ack request (request_ack request ack bits distinct)) (turned_here m.value ack)
      (turned_apart m.value ack (node bits i 0) (λ e. ack_apart request ack bits distinct i 0 within (omega arith) (sym e)))
      (turned_apart m.value ack (node bits i 1) (λ e. ack_apart request ack bits distinct i 1 within (omega arith) (sym e)))
      (turned_apart m.value ack (node bits i 2) (λ e. ack_apart request ack bits distinct i 2 within (omega arith) (sym e)))
      (turned_apart m.value ack (node bits i 3) (λ e. ack_apart request ack bits distinct i 3 within (omega arith) (sym e)))
      (ack_goes r a (value i 0) (value i 1) (value i 2) (value i 3) (holds i within) (ack_bits may i within))

  -- what a fact of each wire, and of each own node, is
  each_wire : (P : Wire → Type 0) → P (port_request request ack bits) → P (port_ack request ack bits) →
      ((i : ℕ) → i < length bits → P (rail_wire ack (node bits i 1) (node bits i 0))) →
      ((i : ℕ) → i < length bits → P (rail_wire ack (node bits i 0) (node bits i 1))) → All P (part request ack bits distinct).allows
  each_wire P the_request the_ack the_t the_f =
      All-cons P (port_request request ack bits) (port_ack request ack bits ∷ rail_wires ack bits) the_request
      (All-cons P (port_ack request ack bits) (rail_wires ack bits) the_ack
      (all_two P (λ (b : PortBit). rail_wire ack b.rail.f b.rail.t) (λ (b : PortBit). rail_wire ack b.rail.t b.rail.f) bits the_t the_f))

  each_own : (P : Owned → Type 0) → ((i : ℕ) → i < length bits → P (taken_t request (bit_at bits i))) →
      ((i : ℕ) → i < length bits → P (taken_f request (bit_at bits i))) → All P (part request ack bits distinct).own
  each_own P the_t the_f = subst (All P) (sym (own_is request bits)) (all_two P (taken_t request) (taken_f request) bits the_t the_f)

  takes_apart : (n x q : ℕ) → n ≢ request → n ≢ x → n ≢ q → takes r (m.value x) (m.value q) ≡ true →
      takes (turned m.value n request) (turned m.value n x) (turned m.value n q) ≡ true
  takes_apart n x q not_r not_x not_q fire =
      same_takes _ _ _ _ _ _ (turned_apart m.value n request (λ e. not_r (sym e))) (turned_apart m.value n x (λ e. not_x (sym e)))
      (turned_apart m.value n q (λ e. not_q (sym e))) fire

  -- no two nodes are one where bit or role differ
  abbrev apart : (i k j l : ℕ) → i < length bits → k < 4 → j < length bits → l < 4 → 4 * i + k ≢ 4 * j + l → node bits i k ≢ node bits j l
  apart = roles_apart request ack bits distinct

  not_request : (j l : ℕ) → j < length bits → l < 4 → node bits j l ≢ request
  not_request j l inside few e = request_apart request ack bits distinct j l inside few (sym e)

  -- the node by which a bit takes a rail goes on, whatever else moves
  abbrev Firm : (i k n : ℕ) → Type 0
  Firm i k n = takes (turned m.value n request) (turned m.value n (node bits i k)) (turned m.value n (node bits i (k + 2))) ≡ true

  -- with the rail that it takes and the other two nodes of the bit
  abbrev TakenAt : (i k l : ℕ) → Type 0
  TakenAt i k l = legal r a (value i k) (value i l) (value i (k + 2)) (value i (l + 2)) ≡ true

  firm_request : (i k l : ℕ) → i < length bits → k < 2 → TakenAt i k l → takes r (value i k) (value i (k + 2)) ≡ true →
      lets_request r a (value i (k + 2)) (value i (l + 2)) ≡ true → Firm i k request
  firm_request i k l within few h fire may =
      same_takes _ _ _ _ _ _ (turned_here m.value request) (turned_apart m.value request (node bits i k) (not_request i k within (omega arith)))
      (turned_apart m.value request (node bits i (k + 2)) (not_request i (k + 2) within (omega arith)))
      (under_request r a (value i k) (value i l) (value i (k + 2)) (value i (l + 2)) h fire may)

  firm_ack : (i k : ℕ) → i < length bits → k < 2 → takes r (value i k) (value i (k + 2)) ≡ true → Firm i k ack
  firm_ack i k within few fire =
      takes_apart ack (node bits i k) (node bits i (k + 2)) (λ e. request_ack request ack bits distinct (sym e))
      (ack_apart request ack bits distinct i k within (omega arith)) (ack_apart request ack bits distinct i (k + 2) within (omega arith)) fire

  firm_own : (i k j c : ℕ) → i < length bits → k < 2 → j < length bits → c < 2 → takes r (value i k) (value i (k + 2)) ≡ true →
      node bits j (c + 2) ≢ node bits i (k + 2) → Firm i k (node bits j (c + 2))
  firm_own i k j c within few inside few_c fire ne =
      takes_apart (node bits j (c + 2)) (node bits i k) (node bits i (k + 2)) (not_request j (c + 2) inside (omega arith))
      (apart j (c + 2) i k inside (omega arith) within (omega arith) (omega arith)) ne fire

  firm_rail : (i k l j c d : ℕ) → i < length bits → k < 2 → l < 2 → k ≢ l → j < length bits → c < 2 → d < 2 → c ≢ d → TakenAt i k l →
      takes r (value i k) (value i (k + 2)) ≡ true → lets_rail a (value j c) (value j d) ≡ true → Firm i k (node bits j c)
  firm_rail i k l j c d within few_k few_l kl inside few_c few_d cd h fire may =
      ⊎_elim
      (λ (e : 4 * j + c ≡ 4 * i + k).
      let same_j : j ≡ i = omega (arith, e) in
      let same_c : c ≡ k = omega (arith, e) in
      let same_d : d ≡ l = omega (arith, same_c, kl, cd) in
      let at : node bits j c ≡ node bits i k = ap (λ n. node bits n c) same_j ∙ ap (node bits i) same_c in
      let other : node bits j d ≡ node bits i l = ap (λ n. node bits n d) same_j ∙ ap (node bits i) same_d in
      let lets : lets_rail a (value i k) (value i l) ≡ true = ap (λ n. lets_rail a (m.value n) (value i l)) (sym at)
      ∙ ap (λ n. lets_rail a (value j c) (m.value n)) (sym other) ∙ may in
      subst (Firm i k) (sym at)
      (same_takes _ _ _ _ _ _ (turned_apart m.value (node bits i k) request (λ e. not_request i k within (omega arith) (sym e)))
      (turned_here m.value (node bits i k)) (turned_apart m.value (node bits i k) (node bits i (k + 2))
      (apart i (k + 2) i k within (omega arith) within (omega arith) (omega arith)))
      (under_rail r a (value i k) (value i l) (value i (k + 2)) (value i (l + 2)) h fire lets)))
      (λ (ne : 4 * j + c ≢ 4 * i + k).
      takes_apart (node bits j c) (node bits i k) (node bits i (k + 2)) (not_request j c inside (omega arith))
      (apart j c i k inside (omega arith) within (omega arith) ne) (apart j c i (k + 2) inside (omega arith) within (omega arith) (omega arith)) fire)
      (cases_eq (4 * j + c) (4 * i + k))

  promised_at : (i k j c : ℕ) → i < length bits → k < 2 → j < length bits → c < 2 → takes r (value i k) (value i (k + 2)) ≡ true →
      node bits j (c + 2) ≡ node bits i (k + 2) → (if value j (c + 2) then not r && not (value j c) else r && value j c) ≡ true
  promised_at i k j c within few inside few_c fire same =
      ⊎_elim
      (λ (e : 4 * j + (c + 2) ≡ 4 * i + (k + 2)).
      let same_j : j ≡ i = omega (arith, e) in
      let same_c : c ≡ k = omega (arith, e) in
      ap (λ n. if value n (c + 2) then not r && not (value n c) else r && value n c) same_j
      ∙ ap (λ n. if value i (n + 2) then not r && not (value i n) else r && value i n) same_c
      ∙ as_promised r (value i k) (value i (k + 2)) fire)
      (λ (ne : 4 * j + (c + 2) ≢ 4 * i + (k + 2)). absurd (apart j (c + 2) i (k + 2) inside (omega arith) within (omega arith) ne same))
      (cases_eq (4 * j + (c + 2)) (4 * i + (k + 2)))

  taken_t_keeps : (i : ℕ) → i < length bits → fires m.value (taken_t request (bit_at bits i)) ≡ true →
      OwnKeeps (part request ack bits distinct) (Holds request ack bits distinct) m (taken_t request (bit_at bits i))
  taken_t_keeps i within fire = record {
    goes = taken_t_goes i within fire;
    promised =
        all_two (λ (w : Wire). w.node ≡ node bits i 2 → may_move m w ≡ true) (λ (b : PortBit). taken_wire request b.rail.t b.taken.t)
        (λ (b : PortBit). taken_wire request b.rail.f b.taken.f) bits
        (λ j inside. promised_at i 0 j 0 within (omega arith) inside (omega arith) fire)
        (λ j inside. promised_at i 0 j 1 within (omega arith) inside (omega arith) fire);
    firm =
        each_own (λ (other : Owned). fires m.value other ≡ true → other.node ≢ node bits i 2 → Firm i 0 other.node)
        (λ j inside _ ne. firm_own i 0 j 0 within (omega arith) inside (omega arith) fire ne)
        (λ j inside _ ne. firm_own i 0 j 1 within (omega arith) inside (omega arith) fire ne);
    firm_outside =
        each_wire (λ (w : Wire). may_move m w ≡ true → w.node ≢ node bits i 2 → Firm i 0 w.node)
        (λ may _. firm_request i 0 1 within (omega arith) (holds i within) fire (request_bits may i within))
        (λ may _. firm_ack i 0 within (omega arith) fire)
        (λ j inside may _. firm_rail i 0 1 j 0 1 within (omega arith) (omega arith) (omega arith) inside (omega arith) (omega arith) (omega arith)
        (holds i within) fire may)
        (λ j inside may _. firm_rail i 0 1 j 1 0 within (omega arith) (omega arith) (omega arith) inside (omega arith) (omega arith) (omega arith)
        (holds i within) fire may);
  }

  taken_f_keeps : (i : ℕ) → i < length bits → fires m.value (taken_f request (bit_at bits i)) ≡ true →
      OwnKeeps (part request ack bits distinct) (Holds request ack bits distinct) m (taken_f request (bit_at bits i))
  taken_f_keeps i within fire =
      let h : TakenAt i 1 0 = exchanged_legal r a (value i 0) (value i 1) (value i 2) (value i 3) (holds i within) in record {
        goes = taken_f_goes i within fire;
        promised =
            all_two (λ (w : Wire). w.node ≡ node bits i 3 → may_move m w ≡ true) (λ (b : PortBit). taken_wire request b.rail.t b.taken.t)
            (λ (b : PortBit). taken_wire request b.rail.f b.taken.f) bits
            (λ j inside. promised_at i 1 j 0 within (omega arith) inside (omega arith) fire)
            (λ j inside. promised_at i 1 j 1 within (omega arith) inside (omega arith) fire);
        firm =
            each_own (λ (other : Owned). fires m.value other ≡ true → other.node ≢ node bits i 3 → Firm i 1 other.node)
            (λ j inside _ ne. firm_own i 1 j 0 within (omega arith) inside (omega arith) fire ne)
            (λ j inside _ ne. firm_own i 1 j 1 within (omega arith) inside (omega arith) fire ne);
        firm_outside =
            each_wire (λ (w : Wire). may_move m w ≡ true → w.node ≢ node bits i 3 → Firm i 1 w.node)
            (λ may _. firm_request i 1 0 within (omega arith) h fire (request_lets r a (list_all (is_neutral m.value) (taken_pairs bits)) (value i 3)
            (value i 2) may (λ all. swapped (value i 2) (value i 3) (each_pair (is_neutral m.value) (λ (b : PortBit). b.taken) bits all i within))))
            (λ may _. firm_ack i 1 within (omega arith) fire)
            (λ j inside may _. firm_rail i 1 0 j 0 1 within (omega arith) (omega arith) (omega arith) inside (omega arith) (omega arith) (omega arith) h fire
            may)
            (λ j inside may _. firm_rail i 1 0 j 1 0 within (omega arith) (omega arith) (omega arith) inside (omega arith) (omega arith) (omega arith) h fire
            may);
      }

  abbrev Waiting : Type 0
  Waiting = (w : Wire) × Contains (part request ack bits distinct).allows w × (may_move m w ≡ true)

  request_waits : may_move m (port_request request ack bits) ≡ true → Waiting
  request_waits may = (port_request request ack bits, (zero, omega arith, refl), may)

  ack_waits : may_move m (port_ack request ack bits) ≡ true → Waiting
  ack_waits may = (port_ack request ack bits, (suc zero, omega arith, refl), may)

  rail_t_waits : (i : ℕ) → i < length bits → lets_rail a (value i 0) (value i 1) ≡ true → Waiting
  rail_t_waits i within may =
      let (at, inside, is) = first_of_two (λ (b : PortBit). rail_wire ack b.rail.f b.rail.t) (λ (b : PortBit). rail_wire ack b.rail.t b.rail.f) bits i within in
      (rail_wire ack (node bits i 1) (node bits i 0), (suc (suc at), omega (arith, inside), is), may)

  rail_f_waits : (i : ℕ) → i < length bits → lets_rail a (value i 1) (value i 0) ≡ true → Waiting
  rail_f_waits i within may =
      let (at, inside, is) = second_of_two (λ (b : PortBit). rail_wire ack b.rail.f b.rail.t) (λ (b : PortBit). rail_wire ack b.rail.t b.rail.f) bits i within
      in
      (rail_wire ack (node bits i 0) (node bits i 1), (suc (suc at), omega (arith, inside), is), may)

  module _ (none : All (λ (o : Owned). fires m.value o ≡ false) (part request ack bits distinct).own) where
    still_at : (i : ℕ) → i < length bits → still r (value i 0) (value i 1) (value i 2) (value i 3) ≡ true
    still_at i within =
        let each : All (λ (o : Owned). fires m.value o ≡ false) _ = subst (All (λ (o : Owned). fires m.value o ≡ false)) (own_is request bits) none in
        both_of _ _
        (not_from_false _ (All-contains (λ (o : Owned). fires m.value o ≡ false) _ (taken_t request (bit_at bits i)) each
        (first_of_two (taken_t request) (taken_f request) bits i within)))
        (not_from_false _ (All-contains (λ (o : Owned). fires m.value o ≡ false) _ (taken_f request (bit_at bits i)) each
        (second_of_two (taken_t request) (taken_f request) bits i within)))

    abbrev rails_neutral : Bool
    rails_neutral = list_all (is_neutral m.value) (channel_pairs bits)

    abbrev taken_neutral : Bool
    taken_neutral = list_all (is_neutral m.value) (taken_pairs bits)

    abbrev rails_valid : Bool
    rails_valid = list_all (is_valid m.value) (channel_pairs bits)

    abbrev taken_all_valid : Bool
    taken_all_valid = list_all (is_valid m.value) (taken_pairs bits)

    waits_idle : r ≡ false → a ≡ false → Waiting
    waits_idle er ea =
        request_waits (request_rises r a taken_neutral er ea (all_pairs (is_neutral m.value) (λ (b : PortBit). b.taken) bits
        (λ i within. idle_neutral r a (value i 0) (value i 1) (value i 2) (value i 3) (holds i within) (low_low r a er ea))))

    waits_over : r ≡ true → a ≡ true → Waiting
    waits_over er ea = request_waits (request_falls r a taken_neutral er ea)

    waits_returning : r ≡ false → a ≡ true → Waiting
    waits_returning er ea =
        ⊎_elim
        (λ (all : rails_neutral ≡ true).
        ack_waits (ack_falls r a rails_neutral taken_neutral rails_valid taken_all_valid ea all (all_pairs (is_neutral m.value) (λ (b : PortBit). b.taken) bits
        (λ i within. let_go r a (value i 0) (value i 1) (value i 2) (value i 3) (holds i within) (still_at i within) (low_high r a er ea)
        (each_pair (is_neutral m.value) (λ (b : PortBit). b.rail) bits all i within)))))
        (λ (some : rails_neutral ≡ false).
        let (i, within, is) = some_pair (is_neutral m.value) (λ (b : PortBit). b.rail) bits some in
        ⊎_elim
        (λ (t : (value i 0 && lets_rail a (value i 0) (value i 1)) ≡ true). rail_t_waits i within (right_of (value i 0) _ t))
        (λ (f : (value i 1 && lets_rail a (value i 1) (value i 0)) ≡ true). rail_f_waits i within (right_of (value i 1) _ f))
        (or_cases _ _ (may_fall a (value i 0) (value i 1) ea (not_from_false _ is))))
        (cases_Bool rails_neutral)

    waits_asking : r ≡ true → a ≡ false → Waiting
    waits_asking er ea =
        ⊎_elim
        (λ (all : rails_valid ≡ true).
        ack_waits (ack_rises r a rails_neutral taken_neutral rails_valid taken_all_valid ea all (all_pairs (is_valid m.value) (λ (b : PortBit). b.taken) bits
        (λ i within. taken_valid r a (value i 0) (value i 1) (value i 2) (value i 3) (holds i within) (still_at i within) (high_low r a er ea)
        (each_pair (is_valid m.value) (λ (b : PortBit). b.rail) bits all i within)))))
        (λ (some : rails_valid ≡ false).
        let (i, within, is) = some_pair (is_valid m.value) (λ (b : PortBit). b.rail) bits some in
        rail_t_waits i within (may_rise r a (value i 0) (value i 1) (value i 2) (value i 3) (holds i within) (high_low r a er ea) (not_from_false _ is)))
        (cases_Bool rails_valid)

    waits : Waiting
    waits =
        ⊎_elim
        (λ (er : r ≡ true). ⊎_elim (λ (ea : a ≡ true). waits_over er ea) (λ (ea : a ≡ false). waits_asking er ea) (cases_Bool a))
        (λ (er : r ≡ false). ⊎_elim (λ (ea : a ≡ true). waits_returning er ea) (λ (ea : a ≡ false). waits_idle er ea) (cases_Bool a))
        (cases_Bool r)

  each : EachKeeps (part request ack bits distinct) (Holds request ack bits distinct) m
  each = record {
    own = each_own (λ (o : Owned). fires m.value o ≡ true → OwnKeeps (part request ack bits distinct) (Holds request ack bits distinct) m o) taken_t_keeps
        taken_f_keeps;
    outside = each_wire (λ (w : Wire). may_move m w ≡ true → Next w.node) request_next ack_next rail_t_goes rail_f_goes;
    apart =
        each_own (λ (o : Owned). (guard_holds m.value o.rules.up && guard_holds m.value o.rules.down) ≡ false)
        (λ i within. one_way r (value i 0) (value i 2)) (λ i within. one_way r (value i 1) (value i 3));
    lows = λ low. right_of (not r) _ low;
    bits = λ low. refl;
    waits = λ none. inl (waits none);
  }

-- at first all is neutral
first_legal : (r a x y q p : Bool) → r ≡ false → a ≡ false → neutral x y ≡ true → neutral q p ≡ true → legal r a x y q p ≡ true
first_legal r a x y q p er ea nx nq =
    implies_both _ _ _ (implies_both _ _ _ (at_6
    (λ r a x y q p. implies (not r) (implies (not a) (implies (neutral x y) (implies (neutral q p) (legal r a x y q p))))) refl r a x y q p)
    (not_from_false r er) (not_from_false a ea)) nx nq

at_start : (request ack : ℕ) (bits : List PortBit) (distinct : IsDistinct request ack bits) (v : ℕ → Bool) → IsFirstState (port_part request ack bits) v →
    Holds request ack bits distinct (record { value = v; noted = λ n. false })
at_start request ack bits distinct v is i within =
    let rails = low_rails v ack bits (right_of (not (v ack)) _ (right_of (not (v request)) _ is.outside)) in
    let taken = low_taken v bits is.own in
    first_legal (v request) (v ack) (v (node bits i 0)) (v (node bits i 1)) (v (node bits i 2)) (v (node bits i 3))
    (not-true _ (left_of (not (v request)) _ is.outside)) (not-true _ (left_of (not (v ack)) _ (right_of (not (v request)) _ is.outside)))
    (each_pair (is_neutral v) (λ (b : PortBit). b.rail) bits rails i within) (each_pair (is_neutral v) (λ (b : PortBit). b.taken) bits taken i within)

pub port_kept : (request ack : ℕ) (bits : List PortBit) → IsDistinct request ack bits → Keeps (port_part request ack bits)
port_kept request ack bits distinct = kept_by_each (port_part request ack bits) (Holds request ack bits distinct) (at_start request ack bits distinct)
    (each request ack bits distinct)
