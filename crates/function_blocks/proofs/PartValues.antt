-- Bits that agree with the gates of an expression say its value.
use Rattle.std.proofs.Common.{◌≡◌, ℕ, zero, suc, ◌+◌, ◌-◌, ◌*◌, ◌/◌, ◌%◌, ◌^◌, ◌≤◌, Bool, true, false, List, [], ◌∷◌, ◌++◌, length, map, refl, sym, ap, ◌∙◌, arith}
use Rattle.std.specs.Prelude.{not, ◌&&◌}
use Rattle.chp_syntax.specs.declared.tree.Op.{Op}
use Rattle.chp_syntax.specs.declared.tree.Op.TheVariants.{And, Or, Xor, Add, Sub, Eq, Ne, Lt, Le, Gt, Ge}
use Rattle.width_check.specs.declared.typed.Var.{Var}
use Rattle.width_check.specs.Processes.{Formula, constant, reading, joined, inverted, chained, compared, Formulas, no_parts, and_part, Operations, no_operations, and_operation}
use Rattle.width_check.specs.Values.{width_of, widths_of, one_if, operated, value, joined_value, chained_value, IsWellFormed, AreWellFormed, AreOperations}
use Rattle.width_check.specs.Typing.{var_width, ReadsFrom, EachReadsFrom, AllReadFrom}
use Rattle.function_blocks.specs.Gates.{all_one, some_one, odd_ones, carries, alike, borrows}
use Rattle.function_blocks.specs.Rails.{Rails, same_bit}
use Rattle.function_blocks.specs.Parts.{Input, input, turned_over, BlockPart, fixed_parts, read_parts, inputs_from, bitwise_parts, result_inputs, ripple_parts, ripple_inputs, borrow_parts, conjunction_parts, equality_parts, last_from, equal_input, less_input, operator_parts, operator_inputs, operator_gates, gate_count, outs_of, joined_outs, chained_outs, block_parts, joined_parts, chained_parts}
use Rattle.function_blocks.specs.Waves.{store_of}
use Rattle.function_blocks.proofs.Guards.{bit_in, bits_in}
use Rattle.function_blocks.proofs.GateRest.{Agrees}
use Rattle.function_blocks.proofs.PartSizes.{bitwise_length, operator_length, each_output, outs_length, joined_outs_length, some_width, parts_length}
use Rattle.function_blocks.proofs.Used.{less_same}
use Rattle.function_blocks.proofs.BitNumbers.{number_of, number_append, number_not, zipped, and_number, or_number, xor_number, ripple_bits, last_of, borrow_first, sum_number, difference_number, less_number, at_least_number, all_alike, equal_number, constant_list, constant_number, read_list, read_number}

cons_is : (x y : Bool) (xs ys : List Bool) → x ≡ y → xs ≡ ys → ◌≡◌ {A = List Bool} (x ∷ xs) (y ∷ ys)
cons_is x y xs ys p q = cc

module _ (v : ℕ → Bool) (bits : ℕ → Rails) where
  agrees_at : (n m : ℕ) (gs : List BlockPart) → n ≡ m → Agrees v bits n gs → Agrees v bits m gs
  agrees_at n m gs e h = rw e at h

  agrees_left : (from : ℕ) (gs hs : List BlockPart) → Agrees v bits from (gs ++ hs) → Agrees v bits from gs
  agrees_left from [] hs h = tt
  agrees_left from (g ∷ gs) hs h = (h.0, agrees_left (suc from) gs hs h.1)

  agrees_right : (from n : ℕ) (gs hs : List BlockPart) → length gs ≡ n → Agrees v bits from (gs ++ hs) → Agrees v bits (from + n) hs
  agrees_right from n [] hs e h = agrees_at from (from + n) hs (omega (arith, e)) h
  agrees_right from zero (g ∷ gs) hs e h = absurd (omega (arith, e))
  agrees_right from (suc n) (g ∷ gs) hs e h = agrees_at (suc from + n) (from + suc n) hs (omega arith) (agrees_right (suc from) n gs hs (omega (arith, e)) h.1)

  pub bits_length : (us : List Input) → length (bits_in v us) ≡ length us
  bits_length [] = refl
  bits_length (a ∷ us) = ap suc (bits_length us)

  bits_same : (us vs : List Input) → length vs ≡ length us → length (bits_in v vs) ≡ length (bits_in v us)
  bits_same us vs e = bits_length vs ∙ (e ∙ sym (bits_length us))

  bits_append : (us vs : List Input) → bits_in v (us ++ vs) ≡ bits_in v us ++ bits_in v vs
  bits_append [] vs = refl
  bits_append (a ∷ us) vs = cons_is _ _ _ _ refl (bits_append us vs)

  turned_bit : (i : Input) → bit_in v (turned_over i) ≡ not (bit_in v i)
  turned_bit i = flips i.crossed (v i.at)
    where
      flips : (c b : Bool) → same_bit (not (not c)) b ≡ not (same_bit (not c) b)
      flips true true = refl
      flips true false = refl
      flips false true = refl
      flips false false = refl

  bits_turned : (us : List Input) → bits_in v (map turned_over us) ≡ map not (bits_in v us)
  bits_turned [] = refl
  bits_turned (a ∷ us) = cons_is _ _ _ _ (turned_bit a) (bits_turned us)

  -- gates bit by bit
  bitwise_is : (f : List Bool → Bool) (us vs : List Input) (from : ℕ) → length vs ≡ length us → Agrees v bits from (bitwise_parts f us vs)
      → bits_in v (result_inputs us from) ≡ zipped f (bits_in v us) (bits_in v vs)
  bitwise_is f [] vs from e h = refl
  bitwise_is f (a ∷ us) [] from e h = absurd (omega arith)
  bitwise_is f (a ∷ us) (b ∷ vs) from e h = cons_is _ _ _ _ h.0 (bitwise_is f us vs (suc from) (omega arith) h.1)

  ripple_is : (k : List Bool → Bool) (us vs c : List Input) (from : ℕ) → length vs ≡ length us → Agrees v bits from (ripple_parts k us vs c from)
      → bits_in v (ripple_inputs us from) ≡ ripple_bits k (bits_in v us) (bits_in v vs) (bits_in v c)
  ripple_is k [] vs c from e h = refl
  ripple_is k (a ∷ us) [] c from e h = absurd (omega arith)
  ripple_is k (a ∷ []) (b ∷ vs) c from e h = cons_is _ _ _ _ h.0 refl
  ripple_is k (a ∷ d ∷ us) (b ∷ vs) c from e h =
      cons_is _ _ _ _ h.0 (ripple_is k (d ∷ us) vs (input (suc from) ∷ []) (suc (suc from)) (omega arith) h.1.1
      ∙ ap (λ z. ripple_bits k (bits_in v (d ∷ us)) (bits_in v vs) (z ∷ [])) h.1.0)

  borrow_is : (c : Input) (us vs : List Input) (from : ℕ) → length vs ≡ length us → Agrees v bits from (borrow_parts us vs (c ∷ []) from)
      → bit_in v (last_from c from us) ≡ last_of borrows (bit_in v c) (bits_in v us) (bits_in v vs)
  borrow_is c [] vs from e h = refl
  borrow_is c (a ∷ us) [] from e h = absurd (omega arith)
  borrow_is c (a ∷ us) (b ∷ vs) from e h =
      borrow_is (input from) us vs (suc from) (omega arith) h.1 ∙ ap (λ z. last_of borrows z (bits_in v us) (bits_in v vs)) h.0

  less_is : (us vs : List Input) (from : ℕ) → length vs ≡ length us → 1 ≤ length us → Agrees v bits from (borrow_parts us vs [] from)
      → bit_in v (less_input us from) ≡ last_of borrows false (bits_in v us) (bits_in v vs)
  less_is [] vs from e p h = absurd (omega arith)
  less_is (a ∷ us) [] from e p h = absurd (omega arith)
  less_is (a ∷ us) (b ∷ vs) from e p h = borrow_is (input from) us vs (suc from) (omega arith) h.1
      ∙ ap (λ z. last_of borrows z (bits_in v us) (bits_in v vs)) (h.0 ∙ borrow_first (bit_in v a) (bit_in v b))

  abbrev all_of : Bool → List Bool → Bool
  all_of b [] = b
  all_of b (x ∷ xs) = all_of (all_one (b ∷ x ∷ [])) xs

  conjunction_is : (c : Input) (us : List Input) (from : ℕ) → Agrees v bits from (conjunction_parts c us from)
      → bit_in v (last_from c from us) ≡ all_of (bit_in v c) (bits_in v us)
  conjunction_is c [] from h = refl
  conjunction_is c (a ∷ us) from h = conjunction_is (input from) us (suc from) h.1 ∙ ap (λ z. all_of z (bits_in v us)) h.0

  all_zipped : (b : Bool) (xs ys : List Bool) → all_of b (zipped alike xs ys) ≡ (b && all_alike xs ys)
  all_zipped b [] ys = and_true b
    where
      and_true : (b : Bool) → b ≡ (b && true)
      and_true true = refl
      and_true false = refl
  all_zipped b (x ∷ xs) [] = and_true b
    where
      and_true : (b : Bool) → b ≡ (b && true)
      and_true true = refl
      and_true false = refl
  all_zipped b (x ∷ xs) (y ∷ ys) = all_zipped (all_one (b ∷ alike (x ∷ y ∷ []) ∷ [])) xs ys ∙ regroup b (alike (x ∷ y ∷ [])) (all_alike xs ys)
    where
      regroup : (a b c : Bool) → ((a && (b && true)) && c) ≡ (a && (b && c))
      regroup true true c = refl
      regroup true false c = refl
      regroup false b c = refl

  last_results : (c : Input) (n k : ℕ) (us : List Input) → last_from c n us ≡ last_from c n (result_inputs us k)
  last_results c n k [] = refl
  last_results c n k (a ∷ us) = last_results (input n) (suc n) (suc k) us

  equal_is : (us vs : List Input) (from : ℕ) → length vs ≡ length us → 1 ≤ length us → Agrees v bits from (equality_parts us vs from)
      → bit_in v (equal_input us from) ≡ all_alike (bits_in v us) (bits_in v vs)
  equal_is [] vs from e p h = absurd (omega arith)
  equal_is (a ∷ us) [] from e p h = absurd (omega arith)
  equal_is (a ∷ us) (b ∷ vs) from e p h =
      let gs = bitwise_parts alike (a ∷ us) (b ∷ vs) in
      let next = from + length (a ∷ us) in
      let hs = conjunction_parts (input from) (result_inputs us (suc from)) next in
      let eqs = agrees_left from gs hs h in
      let z = bitwise_is alike us vs (suc from) (omega arith) eqs.1 in
      let rest = agrees_right from (length (a ∷ us)) gs hs (bitwise_length alike (a ∷ us) (b ∷ vs) e) h in
      ap (bit_in v) (last_results (input from) next (suc from) us)
      ∙ (conjunction_is (input from) (result_inputs us (suc from)) next rest
      ∙ (ap (λ l. all_of (v from) l) z
      ∙ (ap (λ b. all_of b (zipped alike (bits_in v us) (bits_in v vs))) eqs.0
      ∙ all_zipped (alike (bit_in v a ∷ bit_in v b ∷ [])) (bits_in v us) (bits_in v vs))))

  one_number : (b : Bool) → one_if b + 2 * 0 ≡ one_if b
  one_number true = refl
  one_number false = refl

  told : (i : Input) (b : Bool) → bit_in v i ≡ b → number_of (bits_in v (i ∷ [])) ≡ one_if b
  told i b h = ap (λ z. one_if z + 2 * 0) h ∙ one_number b

  not_told : (i : Input) (b : Bool) → bit_in v i ≡ b → number_of (bits_in v (turned_over i ∷ [])) ≡ one_if (not b)
  not_told i b h = told (turned_over i) (not b) (turned_bit i ∙ ap not h)

  -- operators
  operator_is : (op : Op) (us vs : List Input) (from : ℕ) → length vs ≡ length us → 1 ≤ length us → Agrees v bits from (operator_parts op us vs from)
      → number_of (bits_in v (operator_inputs op us from)) ≡ operated op (length us) (number_of (bits_in v us)) (number_of (bits_in v vs))
  operator_is And us vs from e p h = ap number_of (bitwise_is all_one us vs from e h) ∙ and_number (bits_in v us) (bits_in v vs) (bits_same us vs e)
  operator_is Or us vs from e p h = ap number_of (bitwise_is some_one us vs from e h) ∙ or_number (bits_in v us) (bits_in v vs) (bits_same us vs e)
  operator_is Xor us vs from e p h = ap number_of (bitwise_is odd_ones us vs from e h) ∙ xor_number (bits_in v us) (bits_in v vs) (bits_same us vs e)
  operator_is Add us vs from e p h =
      ap number_of (ripple_is carries us vs [] from e h) ∙ (sum_number (bits_in v us) (bits_in v vs) (bits_same us vs e)
      ∙ ap (λ n. (number_of (bits_in v us) + number_of (bits_in v vs)) % 2 ^ n) (bits_length us))
  operator_is Sub us vs from e p h =
      ap number_of (ripple_is borrows us vs [] from e h) ∙ (difference_number (bits_in v us) (bits_in v vs) (bits_same us vs e)
      ∙ ap (λ n. (number_of (bits_in v us) + (2 ^ n - number_of (bits_in v vs))) % 2 ^ n) (bits_length us))
  operator_is Eq us vs from e p h = told (equal_input us from) _ (equal_is us vs from e p h ∙ equal_number (bits_in v us) (bits_in v vs) (bits_same us vs e))
  operator_is Ne us vs from e p h =
      not_told (equal_input us from) _ (equal_is us vs from e p h ∙ equal_number (bits_in v us) (bits_in v vs) (bits_same us vs e))
  operator_is Lt us vs from e p h = told (less_input us from) _ (less_is us vs from e p h ∙ less_number (bits_in v us) (bits_in v vs) (bits_same us vs e))
  operator_is Ge us vs from e p h =
      not_told (less_input us from) _ (less_is us vs from e p h) ∙ ap one_if (at_least_number (bits_in v us) (bits_in v vs) (bits_same us vs e))
  operator_is Gt us vs from e p h =
      told (less_input us from) _ (ap (bit_in v) (less_same us vs from e)
      ∙ (less_is vs us from (sym e) (omega arith) h ∙ less_number (bits_in v vs) (bits_in v us) (bits_same vs us (sym e))))
  operator_is Le us vs from e p h =
      not_told (less_input us from) _ (ap (bit_in v) (less_same us vs from e) ∙ less_is vs us from (sym e) (omega arith) h)
      ∙ ap one_if (at_least_number (bits_in v vs) (bits_in v us) (bits_same vs us (sym e)))

  -- numbers and variables
  fixed_is : (w n from : ℕ) → Agrees v bits from (fixed_parts w n) → bits_in v (inputs_from w from) ≡ constant_list w n
  fixed_is zero n from h = refl
  fixed_is (suc w) n from h = cons_is _ _ _ _ h.0 (fixed_is w (n / 2) (suc from) h.1)

  read_is : (x i n from : ℕ) → Agrees v bits from (read_parts x i n) → bits_in v (inputs_from n from) ≡ read_list (bits x) i n
  read_is x i zero from h = refl
  read_is x i (suc n) from h = cons_is _ _ _ _ h.0 (read_is x (suc i) n (suc from) h.1)

module _ (v : ℕ → Bool) (bits : ℕ → Rails) (vars : List Var) where
  abbrev store : ℕ → ℕ
  store = store_of vars bits

  complement : (n m k : ℕ) → n + m + 1 ≡ k → n ≡ k - 1 - m
  complement n m k h = omega arith

  mutual
    pub value_at : (e : Formula) (from : ℕ) → IsWellFormed e → ReadsFrom vars e → Agrees v bits from (block_parts e from)
        → number_of (bits_in v (outs_of e from)) ≡ value store e
    value_at (constant w n) from h r a = ap number_of (fixed_is v bits w n from a) ∙ constant_number w n h.2
    value_at (reading x high low at) from h r a =
        ap number_of (read_is v bits x low (high + 1 - low) from a) ∙ read_number (var_width vars x) low (high + 1 - low) (bits x) (omega (arith, h.0, r.1))
    value_at (joined parts) from h r a = joined_at parts from h.2 r a
    value_at (inverted e) from h r a =
        let is = value_at e from h r a in
        let wide = ap (λ n. 2 ^ n) (bits_length v bits (outs_of e from) ∙ outs_length e from h) in
        ap number_of (bits_turned v bits (outs_of e from)) ∙ (complement _ (number_of (bits_in v (outs_of e from))) _
        (number_not (bits_in v (outs_of e from)) ∙ wide) ∙ ap (λ n. 2 ^ width_of e - 1 - n) is)
    value_at (chained e more) from h r a =
        let us = outs_of e from in
        let rest = chained_parts (width_of e) us more (from + gate_count e) in
        chained_at (width_of e) us more (from + gate_count e) (some_width e h.0) (outs_length e from h.0) h.2 r.1
        (agrees_right v bits from (gate_count e) (block_parts e from) rest (parts_length e from h.0) a)
        ∙ ap (λ n. chained_value store (width_of e) n more) (value_at e from h.0 r.0 (agrees_left v bits from (block_parts e from) rest a))
    value_at (compared op e f) from h r a =
        let us = outs_of e from in
        let fb = from + gate_count e in
        let vs = outs_of f fb in
        let fo = fb + gate_count f in
        let own = operator_parts op us vs fo in
        let is = outs_length e from h.2 in
        let some = some_width e h.2 in
        let same : length vs ≡ length us = outs_length f fb h.3 ∙ (h.1 ∙ sym is) in
        let right = agrees_right v bits from (gate_count e) (block_parts e from) (block_parts f fb ++ own) (parts_length e from h.2) a in
        operator_is v bits op us vs fo same (omega (arith, is, some))
        (agrees_right v bits fb (gate_count f) (block_parts f fb) own (parts_length f fb h.3) right)
        ∙ (ap (λ n. operated op n (number_of (bits_in v us)) (number_of (bits_in v vs))) is
        ∙ (ap (λ n. operated op (width_of e) n (number_of (bits_in v vs)))
        (value_at e from h.2 r.0 (agrees_left v bits from (block_parts e from) (block_parts f fb ++ own) a))
        ∙ ap (operated op (width_of e) (value store e)) (value_at f fb h.3 r.1 (agrees_left v bits fb (block_parts f fb) own right))))

    joined_at : (parts : Formulas) (from : ℕ) → AreWellFormed parts → EachReadsFrom vars parts → Agrees v bits from (joined_parts parts from)
        → number_of (bits_in v (joined_outs parts from)) ≡ joined_value store parts
    joined_at no_parts from h r a = refl
    joined_at (and_part e more) from h r a =
        let us = outs_of e from in
        let next = from + gate_count e in
        let vs = joined_outs more next in
        let rest = joined_parts more next in
        let one = value_at e from h.0 r.0 (agrees_left v bits from (block_parts e from) rest a) in
        let others = joined_at more next h.1 r.1 (agrees_right v bits from (gate_count e) (block_parts e from) rest (parts_length e from h.0) a) in
        let wide = bits_length v bits vs ∙ joined_outs_length more next h.1 in
        ap number_of (bits_append v bits vs us)
        ∙ (number_append (bits_in v vs) (bits_in v us)
        ∙ (ap (λ n. n + 2 ^ length (bits_in v vs) * number_of (bits_in v us)) others
        ∙ (ap (λ n. joined_value store more + 2 ^ n * number_of (bits_in v us)) wide
        ∙ (ap (λ n. joined_value store more + 2 ^ widths_of more * n) one
        ∙ turned (joined_value store more) (2 ^ widths_of more) (value store e)))))
      where
        turned : (a b c : ℕ) → a + b * c ≡ c * b + a
        turned a b c = grind arith

    chained_at : (width : ℕ) (left : List Input) (more : Operations) (from : ℕ) → 1 ≤ width → length left ≡ width → AreOperations width more
        → AllReadFrom vars more → Agrees v bits from (chained_parts width left more from)
        → number_of (bits_in v (chained_outs width left more from)) ≡ chained_value store width (number_of (bits_in v left)) more
    chained_at width left no_operations from some is h r a = refl
    chained_at width left (and_operation op e more) from some is h r a =
        let vs = outs_of e from in
        let next = from + gate_count e in
        let own = operator_parts op left vs next in
        let after = next + operator_gates op width in
        let result = operator_inputs op left next in
        let rest = chained_parts width result more after in
        let same : length vs ≡ length left = outs_length e from h.2 ∙ (h.1 ∙ sym is) in
        let gates : length own ≡ operator_gates op width = operator_length op left vs next same ∙ ap (operator_gates op) is in
        let right = agrees_right v bits from (gate_count e) (block_parts e from) (own ++ rest) (parts_length e from h.2) a in
        let told = operator_is v bits op left vs next same (omega (arith, is, some)) (agrees_left v bits next own rest right) in
        let one = value_at e from h.2 r.0 (agrees_left v bits from (block_parts e from) (own ++ rest) a) in
        chained_at width result more after some (each_output op left next h.0 ∙ is) h.3 r.1
        (agrees_right v bits next (operator_gates op width) own rest gates right)
        ∙ ap (λ n. chained_value store width n more) (told
        ∙ (ap (λ n. operated op n (number_of (bits_in v left)) (number_of (bits_in v vs))) is
        ∙ ap (operated op width (number_of (bits_in v left))) one))
