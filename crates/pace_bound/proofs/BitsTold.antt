-- The depths of the gates of an expression, and of the bits of its value: no gate is later than all of these.
use Rattle.std.proofs.Common.{◌≡◌, ℕ, zero, suc, ◌+◌, ◌-◌, ◌/◌, ◌≤◌, List, [], ◌∷◌, ◌++◌, length, map, refl, sym, ap, ◌∙◌, append_assoc, append-nil, arith}
use Rattle.std.specs.Prelude.{max, slice_index}
use Rattle.std.proofs.lemmas.List.{length-append}
use Rattle.width_check.specs.Processes.{Formula, constant, reading, joined, inverted, chained, compared, Formulas, no_parts, and_part, Operations, no_operations, and_operation}
use Rattle.width_check.specs.Values.{width_of, IsWellFormed, AreWellFormed, AreOperations}
use Rattle.function_blocks.specs.Parts.{Input, turned_over, BlockPart, fixed_parts, read_parts, inputs_from, operator_parts, operator_inputs, operator_gates, gate_count, joined_gates, chained_gates, outs_of, joined_outs, chained_outs, block_parts, joined_parts, chained_parts}
use Rattle.function_blocks.proofs.PartSizes.{outs_length, each_output, some_width, operator_length}
use Rattle.round_time.specs.Longest.{greatest, part_depth, depths, depth}
use Rattle.pace_bound.specs.Bits.{ones, op_bits, bits, joined_bits, chained_bits}
use Rattle.pace_bound.proofs.Through.{flat_length}
use Rattle.pace_bound.proofs.Arrivals.{ats, ats_more, Below, below_up, depths_append, operator_applied, seam, longer}

-- What gates do behind earlier ones: their depths, where a value comes from and how late its bits are, and that nothing is later, of what was there
-- before (`base`) neither.
pub record Told (before : List ℕ) (gs : List BlockPart) (outs : List Input) (count base : ℕ) (late : List ℕ) : Type 0 where
  pub own : List ℕ
  pub all : depths before gs ≡ before ++ own
  pub sized : length own ≡ count
  pub below : Below (length before + count) outs
  pub bits : ats (before ++ own) outs ≡ late
  pub top : max base (greatest own) ≡ greatest late

depths_length : (ds : List ℕ) (gs : List BlockPart) → length (depths ds gs) ≡ length ds + length gs
depths_length ds [] = omega arith
depths_length ds (g ∷ gs) = let h = depths_length (ds ++ part_depth ds g ∷ []) gs in let l = length-append ds (part_depth ds g ∷ []) in omega arith

own_length : (ds own : List ℕ) (gs : List BlockPart) → depths ds gs ≡ ds ++ own → length own ≡ length gs
own_length ds own gs is = let h = depths_length ds gs in let l = length-append ds own in let e = ap length is in omega arith

greatest_append : (xs ys : List ℕ) → greatest (xs ++ ys) ≡ max (greatest xs) (greatest ys)
greatest_append [] ys = omega arith
greatest_append (x ∷ xs) ys = let r = greatest_append xs ys in omega arith

ats_append : (ds : List ℕ) (us vs : List Input) → ats ds (us ++ vs) ≡ ats ds us ++ ats ds vs
ats_append ds [] vs = refl
ats_append ds (u ∷ us) vs = ap (λ l. slice_index ds u.at ∷ l) (ats_append ds us vs)

ats_turned : (ds : List ℕ) (us : List Input) → ats ds (map turned_over us) ≡ ats ds us
ats_turned ds [] = refl
ats_turned ds (u ∷ us) = ap (λ l. slice_index ds u.at ∷ l) (ats_turned ds us)

below_append : (n : ℕ) (us vs : List Input) → Below n us → Below n vs → Below n (us ++ vs)
below_append n [] vs h k = k
below_append n (u ∷ us) vs h k = (h.0, below_append n us vs h.1 k)

below_turned : (n : ℕ) (us : List Input) → Below n us → Below n (map turned_over us)
below_turned n [] h = tt
below_turned n (u ∷ us) h = (h.0, below_turned n us h.1)

-- bits that follow the request
fixed_all : (before : List ℕ) (n v : ℕ) → depths before (fixed_parts n v) ≡ before ++ ones n
fixed_all before zero v = sym (append-nil before)
fixed_all before (suc n) v = fixed_all (before ++ 1 ∷ []) n (v / 2) ∙ append_assoc before (1 ∷ []) (ones n)

read_all : (before : List ℕ) (x i n : ℕ) → depths before (read_parts x i n) ≡ before ++ ones n
read_all before x i zero = sym (append-nil before)
read_all before x i (suc n) = read_all (before ++ 1 ∷ []) x (suc i) n ∙ append_assoc before (1 ∷ []) (ones n)

ones_out : (before : List ℕ) (n from : ℕ) → from ≡ length before → ats (before ++ ones n) (inputs_from n from) ≡ ones n
ones_out before zero from at = refl
ones_out before (suc n) from at =
    ap (λ k. k ∷ ats (before ++ 1 ∷ ones n) (inputs_from n (suc from))) (seam before 1 from (ones n) at)
    ∙ ap (λ l. 1 ∷ l) (ap (λ l. ats l (inputs_from n (suc from))) (sym (append_assoc before (1 ∷ []) (ones n)))
    ∙ ones_out (before ++ 1 ∷ []) n (suc from) (longer before 1 from at))

inputs_below : (n from m : ℕ) → from + n ≤ m → Below m (inputs_from n from)
inputs_below zero from m h = tt
inputs_below (suc n) from m h = (omega arith, inputs_below n (suc from) m (omega arith))

-- first some gates, and then more
followed : (before own more : List ℕ) (gs hs : List BlockPart) → depths before gs ≡ before ++ own → depths (before ++ own) hs ≡ (before ++ own) ++ more
    → depths before (gs ++ hs) ≡ before ++ (own ++ more)
followed before own more gs hs p q = depths_append before gs hs ∙ (ap (λ l. depths l hs) p ∙ (q ∙ append_assoc before own more))

sums : (a b c : ℕ) (own : List ℕ) (ds : List ℕ) → a ≡ length ds → length own ≡ b → a + b ≡ length (ds ++ own)
sums a b c own ds p q = let l = length-append ds own in omega arith

in_two : (a b c : ℕ) → max a (max b c) ≡ max (max a b) c
in_two a b c = omega arith

turned_max : (a b : ℕ) → max a b ≡ max b a
turned_max a b = omega arith

over_three : (a b x y z : ℕ) → max 0 x ≡ a → max 0 y ≡ b → max 0 (max x (max y z)) ≡ max a (max b z)
over_three a b x y z p q = omega arith

module _ (before : List ℕ) where
  length_after : (own : List ℕ) (from count : ℕ) → from ≡ length before → length own ≡ count → from + count ≡ length (before ++ own)
  length_after own from count at is = let l = length-append before own in omega arith

chain_top : (l o a r e p s all both : ℕ) → all ≡ max o both → both ≡ max a r → max 0 o ≡ e → max l (max e a) ≡ p → max p r ≡ s → max l all ≡ s
chain_top l o a r e p s all both g k h i j = omega arith

mutual
  pub told : (e : Formula) (before : List ℕ) (from : ℕ) → from ≡ length before → IsWellFormed e
      → Told before (block_parts e from) (outs_of e from) (gate_count e) 0 (bits e)
  told (constant w v) before from at h = record {
    own = ones w;
    all = fixed_all before w v;
    sized = flat_length w;
    below = inputs_below w from _ (omega arith);
    bits = ones_out before w from at;
    top = omega arith;
  }
  told (reading x high low at') before from at h = record {
    own = ones (high + 1 - low);
    all = read_all before x low (high + 1 - low);
    sized = flat_length (high + 1 - low);
    below = inputs_below (high + 1 - low) from _ (omega arith);
    bits = ones_out before (high + 1 - low) from at;
    top = omega arith;
  }
  told (joined parts) before from at h = joined_told parts before from at h.2
  told (inverted e) before from at h =
      let t = told e before from at h in record {
        own = t.own;
        all = t.all;
        sized = t.sized;
        below = below_turned _ (outs_of e from) t.below;
        bits = ats_turned (before ++ t.own) (outs_of e from) ∙ t.bits;
        top = t.top;
      }
  told (chained e more) before from at h =
      let t = told e before from at h.0 in
      let next : from + gate_count e ≡ length (before ++ t.own) = length_after before t.own from (gate_count e) at t.sized in
      let below : Below (from + gate_count e) (outs_of e from) = below_up (length before + gate_count e) _ (outs_of e from) (omega arith) t.below in
      let r = chained_told more (width_of e) (before ++ t.own) (outs_of e from) (bits e) (from + gate_count e) next (some_width e h.0)
      (outs_length e from h.0) h.2 below t.bits in record {
        own = t.own ++ r.own;
        all = followed before t.own r.own (block_parts e from) (chained_parts (width_of e) (outs_of e from) more (from + gate_count e)) t.all r.all;
        sized = let l = length-append t.own r.own in let p = t.sized in let q = r.sized in omega arith;
        below = below_up _ _ (chained_outs (width_of e) (outs_of e from) more (from + gate_count e)) (omega arith) r.below;
        bits = ap (λ l. ats l (chained_outs (width_of e) (outs_of e from) more (from + gate_count e))) (sym (append_assoc before t.own r.own)) ∙ r.bits;
        top = let g = greatest_append t.own r.own in let p = t.top in let q = r.top in omega arith;
      }
  told (compared op e f) before from at h =
      let fb = from + gate_count e in
      let fo = fb + gate_count f in
      let us = outs_of e from in
      let vs = outs_of f fb in
      let t = told e before from at h.2 in
      let one = before ++ t.own in
      let next : fb ≡ length one = length_after before t.own from (gate_count e) at t.sized in
      let u = told f one fb next h.3 in
      let two = one ++ u.own in
      let last : fo ≡ length two = length_after one u.own fb (gate_count f) next u.sized in
      let same : length vs ≡ length us = outs_length f fb h.3 ∙ (h.1 ∙ sym (outs_length e from h.2)) in
      let some : 1 ≤ length us = let l = outs_length e from h.2 in let s = some_width e h.2 in omega arith in
      let ub : Below (length one) us = below_up (length before + gate_count e) _ us (omega arith) t.below in
      let vb : Below (length two) vs = below_up (length one + gate_count f) _ vs (omega arith) u.below in
      let a = operator_applied op two us vs fo last (below_up (length one) (length two) us (let l = length-append one u.own in omega arith) ub) vb same some in
      let left : ats two us ≡ bits e = ats_more one u.own us ub ∙ t.bits in
      let right : ats two vs ≡ bits f = u.bits in
      let gates : length a.own ≡ operator_gates op (width_of e) =
      own_length two a.own (operator_parts op us vs fo) a.all ∙ (operator_length op us vs fo same ∙ ap (operator_gates op) (outs_length e from h.2)) in
      let own = t.own ++ (u.own ++ a.own) in
      let tail : depths one (block_parts f fb ++ operator_parts op us vs fo) ≡ one ++ (u.own ++ a.own) =
      followed one u.own a.own (block_parts f fb) (operator_parts op us vs fo) u.all a.all in
      let place : before ++ own ≡ two ++ a.own = sym (append_assoc before t.own (u.own ++ a.own)) ∙ sym (append_assoc one u.own a.own) in record {
        own = own;
        all = followed before t.own (u.own ++ a.own) (block_parts e from) (block_parts f fb ++ operator_parts op us vs fo) t.all tail;
        sized =
            let l = length-append t.own (u.own ++ a.own) in let m = length-append u.own a.own in let p = t.sized in let q = u.sized in omega (arith, gates);
        below = below_up (fo + length a.own) _ (operator_inputs op us fo) (omega (arith, gates)) a.below;
        bits = ap (λ l. ats l (operator_inputs op us fo)) place
            ∙ (a.bits ∙ (ap (λ l. op_bits op l (ats two vs)) left ∙ ap (op_bits op (bits e)) right));
        top =
            ap (max 0) (greatest_append t.own (u.own ++ a.own) ∙ ap (max (greatest t.own)) (greatest_append u.own a.own))
            ∙ (over_three (greatest (bits e)) (greatest (bits f)) (greatest t.own) (greatest u.own) (greatest a.own) t.top u.top
            ∙ (ap (λ k. max (greatest k) (max (greatest (bits f)) (greatest a.own))) (sym left)
            ∙ (ap (λ k. max (greatest (ats two us)) (max (greatest k) (greatest a.own))) (sym right)
            ∙ (a.top ∙ (ap (λ l. greatest (op_bits op l (ats two vs))) left ∙ ap (λ l. greatest (op_bits op (bits e) l)) right)))));
      }

  joined_told : (parts : Formulas) (before : List ℕ) (from : ℕ) → from ≡ length before → AreWellFormed parts
      → Told before (joined_parts parts from) (joined_outs parts from) (joined_gates parts) 0 (joined_bits parts)
  joined_told no_parts before from at h =
      record { own = []; all = sym (append-nil before); sized = refl; below = tt; bits = refl; top = refl }
  joined_told (and_part e more) before from at h =
      let t = told e before from at h.0 in
      let one = before ++ t.own in
      let fb = from + gate_count e in
      let us = outs_of e from in
      let vs = joined_outs more fb in
      let next : fb ≡ length one = length_after before t.own from (gate_count e) at t.sized in
      let r = joined_told more one fb next h.1 in
      let ub : Below (length one) us = below_up (length before + gate_count e) _ us (omega arith) t.below in
      let place = sym (append_assoc before t.own r.own) in record {
        own = t.own ++ r.own;
        all = followed before t.own r.own (block_parts e from) (joined_parts more fb) t.all r.all;
        sized = let l = length-append t.own r.own in let p = t.sized in let q = r.sized in omega arith;
        below = below_append _ vs us (below_up (length one + joined_gates more) _ vs (omega arith) r.below) (below_up (length one) _ us (omega arith) ub);
        bits = ap (λ l. ats l (vs ++ us)) place ∙ (ats_append (one ++ r.own) vs us
            ∙ (ap (λ l. l ++ ats (one ++ r.own) us) r.bits ∙ ap (λ l. joined_bits more ++ l) (ats_more one r.own us ub ∙ t.bits)));
        top = let g = greatest_append t.own r.own in let k = greatest_append (joined_bits more) (bits e) in let p = t.top in let q = r.top in omega arith;
      }

  chained_told : (more : Operations) (width : ℕ) (before : List ℕ) (left : List Input) (late : List ℕ) (from : ℕ) → from ≡ length before → 1 ≤ width
      → length left ≡ width → AreOperations width more → Below from left → ats before left ≡ late
      → Told before (chained_parts width left more from) (chained_outs width left more from) (chained_gates width more) (greatest late) (chained_bits late more)
  chained_told no_operations width before left late from at some is h below seen = record {
    own = [];
    all = sym (append-nil before);
    sized = refl;
    below = below_up from _ left (omega arith) below;
    bits = ap (λ l. ats l left) (append-nil before) ∙ seen;
    top = omega arith;
  }
  chained_told (and_operation op e more) width before left late from at some is h below seen =
      let next = from + gate_count e in
      let after = next + operator_gates op width in
      let vs = outs_of e from in
      let t = told e before from at h.2 in
      let one = before ++ t.own in
      let here : next ≡ length one = length_after before t.own from (gate_count e) at t.sized in
      let same : length vs ≡ length left = outs_length e from h.2 ∙ (h.1 ∙ sym is) in
      let lb : Below (length before) left = below_up from (length before) left (omega arith) below in
      let vb : Below (length one) vs = below_up (length before + gate_count e) _ vs (omega arith) t.below in
      let a = operator_applied op one left vs next here (below_up (length before) (length one) left (let l = length-append before t.own in omega arith) lb) vb
      same (omega arith) in
      let us : ats one left ≡ late = ats_more before t.own left lb ∙ seen in
      let gates : length a.own ≡ operator_gates op width =
      own_length one a.own (operator_parts op left vs next) a.all ∙ (operator_length op left vs next same ∙ ap (operator_gates op) is) in
      let two = one ++ a.own in
      let outs = operator_inputs op left next in
      let result : ats two outs ≡ op_bits op late (bits e) =
      a.bits ∙ (ap (λ l. op_bits op l (ats one vs)) us ∙ ap (op_bits op late) t.bits) in
      let last : after ≡ length two = length_after one a.own next (operator_gates op width) here gates in
      let r = chained_told more width two outs (op_bits op late (bits e)) after last some (each_output op left next h.0 ∙ is) h.3
      (below_up (next + length a.own) after outs (omega (arith, gates)) a.below) result in
      let rest = chained_parts width outs more after in
      let tail : depths one (operator_parts op left vs next ++ rest) ≡ one ++ (a.own ++ r.own) =
      followed one a.own r.own (operator_parts op left vs next) rest a.all r.all in
      let place : before ++ (t.own ++ (a.own ++ r.own)) ≡ two ++ r.own =
      sym (append_assoc before t.own (a.own ++ r.own)) ∙ sym (append_assoc one a.own r.own) in record {
        own = t.own ++ (a.own ++ r.own);
        all = followed before t.own (a.own ++ r.own) (block_parts e from) (operator_parts op left vs next ++ rest) t.all tail;
        sized = let l = length-append t.own (a.own ++ r.own) in let m = length-append a.own r.own in let p = t.sized in let q = r.sized in omega (arith, gates);
        below = below_up (length two + chained_gates width more) _ (chained_outs width outs more after) (omega arith) r.below;
        bits = ap (λ l. ats l (chained_outs width outs more after)) place ∙ r.bits;
        top =
            let g = greatest_append t.own (a.own ++ r.own) in
            let k = greatest_append a.own r.own in
            let p : max 0 (greatest t.own) ≡ greatest (bits e) = t.top in
            let q : max (greatest late) (max (greatest (bits e)) (greatest a.own)) ≡ greatest (op_bits op late (bits e)) =
            ap (λ x. max (greatest x) (max (greatest (bits e)) (greatest a.own))) (sym us)
            ∙ (ap (λ x. max (greatest (ats one left)) (max (greatest x) (greatest a.own))) (sym t.bits)
            ∙ (a.top ∙ (ap (λ l. greatest (op_bits op l (ats one vs))) us ∙ ap (λ l. greatest (op_bits op late l)) t.bits))) in
            chain_top (greatest late) (greatest t.own) (greatest a.own) (greatest r.own) (greatest (bits e)) _ _ _ _ g k p q r.top;
      }

pub depth_is : (e : Formula) → IsWellFormed e → depth e ≡ greatest (bits e)
depth_is e h = let t = told e [] 0 refl h in ap greatest t.all ∙ (zero_max (greatest t.own) ∙ t.top)
  where
    zero_max : (n : ℕ) → n ≡ max 0 n
    zero_max n = omega arith
