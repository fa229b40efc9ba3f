-- In the gates of an expression each input is an earlier gate, and each gate is an output or an input of a later one.
use Rattle.std.proofs.Common.{◌≡◌, ℕ, zero, suc, ◌+◌, ◌-◌, ◌*◌, ◌/◌, ◌<◌, ◌≤◌, ◌==◌, Bool, true, List, [], ◌∷◌, ◌++◌, length, map, refl, sym, ap, ◌∙◌, arith}
use Rattle.std.specs.Prelude.{nat_lt}
use Rattle.std.specs.List.{list_all}
use Rattle.std.proofs.lemmas.Bool.Decides.{nat_tests}
use Rattle.chp_syntax.specs.declared.tree.Op.{Op}
use Rattle.chp_syntax.specs.declared.tree.Op.TheVariants.{And, Or, Xor, Add, Sub, Eq, Ne, Lt, Le, Gt, Ge}
use Rattle.width_check.specs.Processes.{Formula, constant, reading, joined, inverted, chained, compared, Formulas, no_parts, and_part, Operations, no_operations, and_operation}
use Rattle.width_check.specs.Values.{width_of, IsWellFormed, AreWellFormed, AreOperations}
use Rattle.prs_core.specs.Deciding.{left_of, right_of, both_of}
use Rattle.function_blocks.specs.Gates.{all_one, some_one, odd_ones, carries, alike, borrows}
use Rattle.function_blocks.specs.Parts.{Input, input, turned_over, BlockPart, fixed_parts, read_parts, inputs_from, bitwise_parts, result_inputs, ripple_parts, ripple_inputs, borrow_parts, conjunction_parts, equality_parts, last_from, rest_of, equal_input, less_input, operator_parts, operator_inputs, operator_gates, gate_count, joined_gates, chained_gates, outs_of, joined_outs, chained_outs, block_parts, joined_parts, chained_parts}
use Rattle.function_blocks.proofs.GateLists.{ordered_one, ordered}
use Rattle.function_blocks.proofs.PartSizes.{bitwise_length, operator_length, each_output, outs_length, some_width, parts_length}

pub lt_is : (a b : ℕ) → a < b → nat_lt a b ≡ true
lt_is a b h = grind (arith, nat_tests)

pub lt_from : (a b : ℕ) → nat_lt a b ≡ true → a < b
lt_from a b h = grind (arith, nat_tests)

pub eq_self : (a : ℕ) → (a == a) ≡ true
eq_self a = grind (arith, nat_tests)

abbrev pub below : ℕ → List Input → Bool
below n us = list_all (λ (i : Input). nat_lt i.at n) us

lt_more : (a n m : ℕ) → n ≤ m → nat_lt a n ≡ true → nat_lt a m ≡ true
lt_more a n m l h = lt_is a m (let k = lt_from a n h in omega (arith, k))

below_more : (n m : ℕ) (us : List Input) → n ≤ m → below n us ≡ true → below m us ≡ true
below_more n m [] l h = refl
below_more n m (a ∷ us) l h = both_of _ _ (lt_more a.at n m l (left_of _ _ h)) (below_more n m us l (right_of (nat_lt a.at n) _ h))

ordered_at : (n m : ℕ) (gs : List BlockPart) → n ≡ m → ordered n gs ≡ true → ordered m gs ≡ true
ordered_at n m gs e h = ap (λ k. ordered k gs) (sym e) ∙ h

ordered_append : (from : ℕ) (gs hs : List BlockPart) → ordered from gs ≡ true → ordered (from + length gs) hs ≡ true → ordered from (gs ++ hs) ≡ true
ordered_append from [] hs h k = ordered_at (from + 0) from hs (omega arith) k
ordered_append from (g ∷ gs) hs h k = both_of _ _ (left_of _ _ h)
    (ordered_append (suc from) gs hs (right_of (ordered_one from g) _ h) (ordered_at (from + suc (length gs)) (suc from + length gs) hs (omega arith) k))

bitwise_ordered : (f : List Bool → Bool) (from n : ℕ) (us vs : List Input) → n ≤ from → below n us ≡ true → below n vs ≡ true
    → ordered from (bitwise_parts f us vs) ≡ true
bitwise_ordered f from n [] vs l h k = refl
bitwise_ordered f from n (a ∷ us) [] l h k = refl
bitwise_ordered f from n (a ∷ us) (b ∷ vs) l h k =
    both_of _ _ (both_of _ _ (lt_more a.at n from l (left_of _ _ h)) (both_of _ _ (lt_more b.at n from l (left_of _ _ k)) refl))
    (bitwise_ordered f (suc from) n us vs (omega arith) (right_of (nat_lt a.at n) _ h) (right_of (nat_lt b.at n) _ k))

next_below : (from : ℕ) → below (suc from) (input from ∷ []) ≡ true
next_below from = both_of _ _ (lt_is from (suc from) (omega arith)) refl

ripple_ordered : (k : List Bool → Bool) (c : List Input) (from n : ℕ) (us vs : List Input) → n ≤ from → below from c ≡ true → below n us ≡ true
    → below n vs ≡ true → ordered from (ripple_parts k us vs c from) ≡ true
ripple_ordered k c from n [] vs l i h j = refl
ripple_ordered k c from n (a ∷ us) [] l i h j = refl
ripple_ordered k c from n (a ∷ []) (b ∷ vs) l i h j =
    both_of _ _ (both_of _ _ (lt_more a.at n from l (left_of _ _ h)) (both_of _ _ (lt_more b.at n from l (left_of _ _ j)) i)) refl
ripple_ordered k c from n (a ∷ d ∷ us) (b ∷ vs) l i h j =
    both_of _ _ (both_of _ _ (lt_more a.at n from l (left_of _ _ h)) (both_of _ _ (lt_more b.at n from l (left_of _ _ j)) i))
    (both_of _ _ (both_of _ _ (lt_more a.at n (suc from) (omega arith) (left_of _ _ h))
    (both_of _ _ (lt_more b.at n (suc from) (omega arith) (left_of _ _ j)) (below_more from (suc from) c (omega arith) i)))
    (ripple_ordered k (input (suc from) ∷ []) (suc (suc from)) n (d ∷ us) vs (omega arith) (next_below (suc from)) (right_of (nat_lt a.at n) _ h)
    (right_of (nat_lt b.at n) _ j)))

borrow_ordered : (c : List Input) (from n : ℕ) (us vs : List Input) → n ≤ from → below from c ≡ true → below n us ≡ true → below n vs ≡ true
    → ordered from (borrow_parts us vs c from) ≡ true
borrow_ordered c from n [] vs l i h j = refl
borrow_ordered c from n (a ∷ us) [] l i h j = refl
borrow_ordered c from n (a ∷ us) (b ∷ vs) l i h j =
    both_of _ _ (both_of _ _ (lt_more a.at n from l (left_of _ _ h)) (both_of _ _ (lt_more b.at n from l (left_of _ _ j)) i))
    (borrow_ordered (input from ∷ []) (suc from) n us vs (omega arith) (next_below from) (right_of (nat_lt a.at n) _ h) (right_of (nat_lt b.at n) _ j))

conjunction_ordered : (c : Input) (from n : ℕ) (us : List Input) → n ≤ from → nat_lt c.at from ≡ true → below n us ≡ true
    → ordered from (conjunction_parts c us from) ≡ true
conjunction_ordered c from n [] l i h = refl
conjunction_ordered c from n (a ∷ us) l i h =
    both_of _ _ (both_of _ _ i (both_of _ _ (lt_more a.at n from l (left_of _ _ h)) refl))
    (conjunction_ordered (input from) (suc from) n us (omega arith) (lt_is from (suc from) (omega arith)) (right_of (nat_lt a.at n) _ h))

results_below : (from n : ℕ) (us : List Input) → from + length us ≤ n → below n (result_inputs us from) ≡ true
results_below from n [] l = refl
results_below from n (a ∷ us) l = both_of _ _ (lt_is from n (omega arith)) (results_below (suc from) n us (omega arith))

equality_ordered : (from : ℕ) (us vs : List Input) → length vs ≡ length us → below from us ≡ true → below from vs ≡ true
    → ordered from (equality_parts us vs from) ≡ true
equality_ordered from [] vs e h j = refl
equality_ordered from (a ∷ us) [] e h j = absurd (omega arith)
equality_ordered from (a ∷ us) (b ∷ vs) e h j =
    let n = bitwise_length alike (a ∷ us) (b ∷ vs) e in
    ordered_append from (bitwise_parts alike (a ∷ us) (b ∷ vs)) (conjunction_parts (input from) (result_inputs us (suc from)) (from + length (a ∷ us)))
    (bitwise_ordered alike from from (a ∷ us) (b ∷ vs) (omega arith) h j)
    (ordered_at (from + length (a ∷ us)) (from + length (bitwise_parts alike (a ∷ us) (b ∷ vs)))
    (conjunction_parts (input from) (result_inputs us (suc from)) (from + length (a ∷ us))) (omega (arith, n))
    (conjunction_ordered (input from) (from + length (a ∷ us)) (from + length (a ∷ us)) (result_inputs us (suc from)) (omega arith)
    (lt_is from (from + length (a ∷ us)) (omega arith)) (results_below (suc from) (from + length (a ∷ us)) us (omega arith))))

operator_ordered : (op : Op) (from : ℕ) (us vs : List Input) → length vs ≡ length us → below from us ≡ true → below from vs ≡ true
    → ordered from (operator_parts op us vs from) ≡ true
operator_ordered And from us vs e h j = bitwise_ordered all_one from from us vs (omega arith) h j
operator_ordered Or from us vs e h j = bitwise_ordered some_one from from us vs (omega arith) h j
operator_ordered Xor from us vs e h j = bitwise_ordered odd_ones from from us vs (omega arith) h j
operator_ordered Add from us vs e h j = ripple_ordered carries [] from from us vs (omega arith) refl h j
operator_ordered Sub from us vs e h j = ripple_ordered borrows [] from from us vs (omega arith) refl h j
operator_ordered Eq from us vs e h j = equality_ordered from us vs e h j
operator_ordered Ne from us vs e h j = equality_ordered from us vs e h j
operator_ordered Lt from us vs e h j = borrow_ordered [] from from us vs (omega arith) refl h j
operator_ordered Ge from us vs e h j = borrow_ordered [] from from us vs (omega arith) refl h j
operator_ordered Gt from us vs e h j = borrow_ordered [] from from vs us (omega arith) refl j h
operator_ordered Le from us vs e h j = borrow_ordered [] from from vs us (omega arith) refl j h

-- outputs are gates
ripples_below : (from n : ℕ) (us : List Input) → from + 2 * length us ≤ n + 1 → below n (ripple_inputs us from) ≡ true
ripples_below from n [] l = refl
ripples_below from n (a ∷ us) l = both_of _ _ (lt_is from n (omega arith)) (ripples_below (suc (suc from)) n us (omega arith))

last_below : (c : Input) (n m : ℕ) (us : List Input) → c.at < m → n + length us ≤ m → (last_from c n us).at < m
last_below c n m [] h l = h
last_below c n m (a ∷ us) h l = last_below (input n) (suc n) m us (omega arith) (omega arith)

rest_length : (us : List Input) → 1 ≤ length us → length (rest_of us) + 1 ≡ length us
rest_length [] h = absurd (omega arith)
rest_length (a ∷ us) h = omega arith

less_below : (from : ℕ) (us : List Input) → 1 ≤ length us → nat_lt (less_input us from).at (from + length us) ≡ true
less_below from us p = lt_is _ _ (last_below (input from) (suc from) (from + length us) (rest_of us) (omega arith) (omega (arith, rest_length us p)))

equal_below : (from : ℕ) (us : List Input) → 1 ≤ length us → nat_lt (equal_input us from).at (from + (2 * length us - 1)) ≡ true
equal_below from us p =
    lt_is _ _ (last_below (input from) (from + length us) (from + (2 * length us - 1)) (rest_of us) (omega arith) (omega (arith, rest_length us p)))

operator_below : (op : Op) (from : ℕ) (us : List Input) → 1 ≤ length us → below (from + operator_gates op (length us)) (operator_inputs op us from) ≡ true
operator_below And from us p = results_below from _ us (omega arith)
operator_below Or from us p = results_below from _ us (omega arith)
operator_below Xor from us p = results_below from _ us (omega arith)
operator_below Add from us p = ripples_below from _ us (omega arith)
operator_below Sub from us p = ripples_below from _ us (omega arith)
operator_below Eq from us p = both_of _ _ (equal_below from us p) refl
operator_below Ne from us p = both_of _ _ (equal_below from us p) refl
operator_below Lt from us p = both_of _ _ (less_below from us p) refl
operator_below Ge from us p = both_of _ _ (less_below from us p) refl
operator_below Gt from us p = both_of _ _ (less_below from us p) refl
operator_below Le from us p = both_of _ _ (less_below from us p) refl

inputs_below : (from n : ℕ) → below (from + n) (inputs_from n from) ≡ true
inputs_below from zero = refl
inputs_below from (suc n) = both_of _ _ (lt_is from (from + suc n) (omega arith))
    (below_more (suc from + n) (from + suc n) (inputs_from n (suc from)) (omega arith) (inputs_below (suc from) n))

below_append : (n : ℕ) (us vs : List Input) → below n us ≡ true → below n vs ≡ true → below n (us ++ vs) ≡ true
below_append n [] vs h k = k
below_append n (a ∷ us) vs h k = both_of _ _ (left_of _ _ h) (below_append n us vs (right_of (nat_lt a.at n) _ h) k)

below_turned : (n : ℕ) (us : List Input) → below n us ≡ true → below n (map turned_over us) ≡ true
below_turned n [] h = refl
below_turned n (a ∷ us) h = both_of _ _ (left_of _ _ h) (below_turned n us (right_of (nat_lt a.at n) _ h))

fixed_ordered : (w v from : ℕ) → ordered from (fixed_parts w v) ≡ true
fixed_ordered zero v from = refl
fixed_ordered (suc n) v from = fixed_ordered n (v / 2) (suc from)

read_ordered : (x i n from : ℕ) → ordered from (read_parts x i n) ≡ true
read_ordered x i zero from = refl
read_ordered x i (suc n) from = read_ordered x (suc i) n (suc from)

-- The numbers that an operator in a chain, and the one behind it, begin at.
mutual
  pub outs_below : (e : Formula) (from : ℕ) → IsWellFormed e → below (from + gate_count e) (outs_of e from) ≡ true
  outs_below (constant w v) from h = inputs_below from w
  outs_below (reading x high low at) from h = inputs_below from (high + 1 - low)
  outs_below (joined parts) from h = joined_below parts from h.2
  outs_below (inverted e) from h = below_turned _ (outs_of e from) (outs_below e from h)
  outs_below (chained e more) from h =
      below_more _ _ (chained_outs (width_of e) (outs_of e from) more (from + gate_count e)) (omega arith)
      (chained_below (width_of e) (outs_of e from) more (from + gate_count e) (some_width e h.0) (outs_length e from h.0) h.2 (outs_below e from h.0))
  outs_below (compared op e f) from h =
      let us = outs_of e from in
      let next = from + gate_count e + gate_count f in
      let is = outs_length e from h.2 in
      let some = some_width e h.2 in
      below_more (next + operator_gates op (length us)) _ (operator_inputs op us next) (let g = ap (operator_gates op) is in omega (arith, g))
      (operator_below op next us (omega (arith, is, some)))

  joined_below : (parts : Formulas) (from : ℕ) → AreWellFormed parts → below (from + joined_gates parts) (joined_outs parts from) ≡ true
  joined_below no_parts from h = refl
  joined_below (and_part e more) from h =
      below_append _ (joined_outs more (from + gate_count e)) (outs_of e from)
      (below_more (from + gate_count e + joined_gates more) _ (joined_outs more (from + gate_count e)) (omega arith)
      (joined_below more (from + gate_count e) h.1))
      (below_more (from + gate_count e) _ (outs_of e from) (omega arith) (outs_below e from h.0))

  chained_below : (width : ℕ) (left : List Input) (more : Operations) (from : ℕ) → 1 ≤ width → length left ≡ width → AreOperations width more
      → below from left ≡ true → below (from + chained_gates width more) (chained_outs width left more from) ≡ true
  chained_below width left no_operations from some is h l = below_more from _ left (omega arith) l
  chained_below width left (and_operation op e more) from some is h l =
      let next = from + gate_count e in
      let own : below (next + operator_gates op width) (operator_inputs op left next) ≡ true =
      below_more (next + operator_gates op (length left)) _ (operator_inputs op left next) (let g = ap (operator_gates op) is in omega (arith, g))
      (operator_below op next left (omega (arith, is, some))) in
      below_more _ _ (chained_outs width (operator_inputs op left next) more (next + operator_gates op width)) (omega arith)
      (chained_below width (operator_inputs op left next) more (next + operator_gates op width) some (each_output op left next h.0 ∙ is) h.3 own)

mutual
  pub parts_ordered : (e : Formula) (from : ℕ) → IsWellFormed e → ordered from (block_parts e from) ≡ true
  parts_ordered (constant w v) from h = fixed_ordered w v from
  parts_ordered (reading x high low at) from h = read_ordered x low (high + 1 - low) from
  parts_ordered (joined parts) from h = joined_ordered parts from h.2
  parts_ordered (inverted e) from h = parts_ordered e from h
  parts_ordered (chained e more) from h =
      let us = outs_of e from in
      ordered_append from (block_parts e from) (chained_parts (width_of e) us more (from + gate_count e)) (parts_ordered e from h.0)
      (ordered_at (from + gate_count e) _ (chained_parts (width_of e) us more (from + gate_count e)) (ap (λ k. from + k) (sym (parts_length e from h.0)))
      (chained_ordered (width_of e) us more (from + gate_count e) (some_width e h.0) (outs_length e from h.0) h.2 (outs_below e from h.0)))
  parts_ordered (compared op e f) from h =
      let us = outs_of e from in
      let fb = from + gate_count e in
      let vs = outs_of f fb in
      let fo = fb + gate_count f in
      let own = operator_parts op us vs fo in
      let same : length vs ≡ length us = outs_length f fb h.3 ∙ (h.1 ∙ sym (outs_length e from h.2)) in
      ordered_append from (block_parts e from) (block_parts f fb ++ own) (parts_ordered e from h.2)
      (ordered_at fb _ (block_parts f fb ++ own) (ap (λ k. from + k) (sym (parts_length e from h.2)))
      (ordered_append fb (block_parts f fb) own (parts_ordered f fb h.3)
      (ordered_at fo _ own (ap (λ k. fb + k) (sym (parts_length f fb h.3)))
      (operator_ordered op fo us vs same (below_more fb fo us (omega arith) (outs_below e from h.2)) (outs_below f fb h.3)))))

  joined_ordered : (parts : Formulas) (from : ℕ) → AreWellFormed parts → ordered from (joined_parts parts from) ≡ true
  joined_ordered no_parts from h = refl
  joined_ordered (and_part e more) from h =
      ordered_append from (block_parts e from) (joined_parts more (from + gate_count e)) (parts_ordered e from h.0)
      (ordered_at (from + gate_count e) _ (joined_parts more (from + gate_count e)) (ap (λ k. from + k) (sym (parts_length e from h.0)))
      (joined_ordered more (from + gate_count e) h.1))

  chained_ordered : (width : ℕ) (left : List Input) (more : Operations) (from : ℕ) → 1 ≤ width → length left ≡ width → AreOperations width more
      → below from left ≡ true → ordered from (chained_parts width left more from) ≡ true
  chained_ordered width left no_operations from some is h l = refl
  chained_ordered width left (and_operation op e more) from some is h l =
      let vs = outs_of e from in
      let next = from + gate_count e in
      let own = operator_parts op left vs next in
      let after = next + operator_gates op width in
      let rest = chained_parts width (operator_inputs op left next) more after in
      let same : length vs ≡ length left = outs_length e from h.2 ∙ (h.1 ∙ sym is) in
      let gates : length own ≡ operator_gates op width = operator_length op left vs next same ∙ ap (operator_gates op) is in
      let outs : below after (operator_inputs op left next) ≡ true =
      below_more (next + operator_gates op (length left)) _ (operator_inputs op left next) (let g = ap (operator_gates op) is in omega (arith, g))
      (operator_below op next left (omega (arith, is, some))) in
      ordered_append from (block_parts e from) (own ++ rest) (parts_ordered e from h.2)
      (ordered_at next _ (own ++ rest) (ap (λ k. from + k) (sym (parts_length e from h.2)))
      (ordered_append next own rest (operator_ordered op next left vs same (below_more from next left (omega arith) l) (outs_below e from h.2))
      (ordered_at after _ rest (ap (λ k. next + k) (sym gates))
      (chained_ordered width (operator_inputs op left next) more after some (each_output op left next h.0 ∙ is) h.3 outs))))
