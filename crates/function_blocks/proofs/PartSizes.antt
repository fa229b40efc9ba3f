-- As many gates as they are counted, half as many as nodes, and as many outputs as the width.
use Rattle.std.proofs.Common.{◌≡◌, ℕ, zero, suc, ◌+◌, ◌-◌, ◌*◌, ◌/◌, ◌≤◌, Bool, true, false, List, [], ◌∷◌, ◌++◌, length, refl, sym, ap, ◌∙◌, arith, lit≤}
use Rattle.std.proofs.lemmas.List.{length-append, length-map}
use Rattle.chp_syntax.specs.declared.tree.Op.{Op}
use Rattle.chp_syntax.specs.declared.tree.Op.TheVariants.{And, Or, Xor, Add, Sub, Eq, Ne, Lt, Le, Gt, Ge}
use Rattle.width_check.specs.Processes.{Formula, constant, reading, joined, inverted, chained, compared, Formulas, no_parts, and_part, Operations, no_operations, and_operation, formula_count}
use Rattle.width_check.specs.Values.{width_of, widths_of, is_comparison, IsWellFormed, AreWellFormed, AreOperations}
use Rattle.handshake_expand.specs.Layout.{operator_size, formula_size, parts_size, operations_size}
use Rattle.function_blocks.specs.Gates.{all_one, some_one, odd_ones, carries, alike, borrows}
use Rattle.function_blocks.specs.Parts.{Input, input, turned_over, fixed_parts, read_parts, inputs_from, bitwise_parts, result_inputs, ripple_parts, ripple_inputs, borrow_parts, conjunction_parts, all_parts, equality_parts, operator_parts, operator_inputs, operator_gates, gate_count, joined_gates, chained_gates, outs_of, joined_outs, chained_outs, block_parts, joined_parts, chained_parts}

-- two nodes for each gate
operator_doubled : (op : Op) (w : ℕ) → operator_size op w ≡ 2 * operator_gates op w
operator_doubled And w = refl
operator_doubled Or w = refl
operator_doubled Xor w = refl
operator_doubled Add w = omega arith
operator_doubled Sub w = omega arith
operator_doubled Eq w = omega arith
operator_doubled Ne w = omega arith
operator_doubled Lt w = refl
operator_doubled Le w = refl
operator_doubled Gt w = refl
operator_doubled Ge w = refl

mutual
  pub count_doubled : (e : Formula) → formula_size e ≡ 2 * gate_count e
  count_doubled (constant w v) = refl
  count_doubled (reading x high low at) = refl
  count_doubled (joined parts) = joined_doubled parts
  count_doubled (inverted e) = count_doubled e
  count_doubled (chained e more) = omega (arith, count_doubled e, chained_doubled (width_of e) more)
  count_doubled (compared op e f) = omega (arith, count_doubled e, count_doubled f, operator_doubled op (width_of e))

  joined_doubled : (parts : Formulas) → parts_size parts ≡ 2 * joined_gates parts
  joined_doubled no_parts = refl
  joined_doubled (and_part e more) = omega (arith, count_doubled e, joined_doubled more)

  chained_doubled : (width : ℕ) (more : Operations) → operations_size width more ≡ 2 * chained_gates width more
  chained_doubled width no_operations = refl
  chained_doubled width (and_operation op e more) = omega (arith, count_doubled e, operator_doubled op width, chained_doubled width more)

pub operator_counted : (op : Op) (w : ℕ) → operator_size op w ≡ 2 * operator_gates op w
operator_counted op w = operator_doubled op w

-- outputs
inputs_length : (n from : ℕ) → length (inputs_from n from) ≡ n
inputs_length zero from = refl
inputs_length (suc n) from = ap suc (inputs_length n (suc from))

pub results_length : (us : List Input) (from : ℕ) → length (result_inputs us from) ≡ length us
results_length [] from = refl
results_length (a ∷ us) from = ap suc (results_length us (suc from))

ripples_length : (us : List Input) (from : ℕ) → length (ripple_inputs us from) ≡ length us
ripples_length [] from = refl
ripples_length (a ∷ us) from = ap suc (ripples_length us (suc (suc from)))

one_output : (op : Op) (us : List Input) (from : ℕ) → is_comparison op ≡ true → length (operator_inputs op us from) ≡ 1
one_output And us from h = absurd (cc h)
one_output Or us from h = absurd (cc h)
one_output Xor us from h = absurd (cc h)
one_output Add us from h = absurd (cc h)
one_output Sub us from h = absurd (cc h)
one_output Eq us from h = refl
one_output Ne us from h = refl
one_output Lt us from h = refl
one_output Le us from h = refl
one_output Gt us from h = refl
one_output Ge us from h = refl

pub each_output : (op : Op) (us : List Input) (from : ℕ) → is_comparison op ≡ false → length (operator_inputs op us from) ≡ length us
each_output And us from h = results_length us from
each_output Or us from h = results_length us from
each_output Xor us from h = results_length us from
each_output Add us from h = ripples_length us from
each_output Sub us from h = ripples_length us from
each_output Eq us from h = absurd (cc h)
each_output Ne us from h = absurd (cc h)
each_output Lt us from h = absurd (cc h)
each_output Le us from h = absurd (cc h)
each_output Gt us from h = absurd (cc h)
each_output Ge us from h = absurd (cc h)

mutual
  pub outs_length : (e : Formula) (from : ℕ) → IsWellFormed e → length (outs_of e from) ≡ width_of e
  outs_length (constant w v) from h = inputs_length w from
  outs_length (reading x high low at) from h = inputs_length (high + 1 - low) from
  outs_length (joined parts) from h = joined_outs_length parts from h.2
  outs_length (inverted e) from h = length-map (outs_of e from) turned_over ∙ outs_length e from h
  outs_length (chained e more) from h = chained_outs_length (width_of e) (outs_of e from) more (from + gate_count e) (outs_length e from h.0) h.2
  outs_length (compared op e f) from h = one_output op (outs_of e from) (from + gate_count e + gate_count f) h.0

  pub joined_outs_length : (parts : Formulas) (from : ℕ) → AreWellFormed parts → length (joined_outs parts from) ≡ widths_of parts
  joined_outs_length no_parts from h = refl
  joined_outs_length (and_part e more) from h =
      omega (
        arith,
        length-append (joined_outs more (from + gate_count e)) (outs_of e from),
        outs_length e from h.0,
        joined_outs_length more (from + gate_count e) h.1,
      )

  chained_outs_length : (width : ℕ) (left : List Input) (more : Operations) (from : ℕ) → length left ≡ width → AreOperations width more
      → length (chained_outs width left more from) ≡ width
  chained_outs_length width left no_operations from is h = is
  chained_outs_length width left (and_operation op e more) from is h =
      chained_outs_length width (operator_inputs op left (from + gate_count e)) more (from + gate_count e + operator_gates op width)
      (each_output op left (from + gate_count e) h.0 ∙ is) h.3

-- an expression has a bit
mutual
  pub some_width : (e : Formula) → IsWellFormed e → 1 ≤ width_of e
  some_width (constant w v) h = h.0
  some_width (reading x high low at) h = omega (arith, h.0)
  some_width (joined parts) h = some_widths parts h.0 h.2
  some_width (inverted e) h = some_width e h
  some_width (chained e more) h = some_width e h.0
  some_width (compared op e f) h = lit≤ tt

  some_widths : (parts : Formulas) → 1 ≤ formula_count parts → AreWellFormed parts → 1 ≤ widths_of parts
  some_widths no_parts some h = absurd (omega (arith, some))
  some_widths (and_part e more) some h = let one = some_width e h.0 in omega (arith, one)

-- gates
pub fixed_length : (w v : ℕ) → length (fixed_parts w v) ≡ w
fixed_length zero v = refl
fixed_length (suc n) v = ap suc (fixed_length n (v / 2))

pub read_length : (x i n : ℕ) → length (read_parts x i n) ≡ n
read_length x i zero = refl
read_length x i (suc n) = ap suc (read_length x (suc i) n)

pub bitwise_length : (f : List Bool → Bool) (us vs : List Input) → length vs ≡ length us → length (bitwise_parts f us vs) ≡ length us
bitwise_length f [] vs e = refl
bitwise_length f (a ∷ us) [] e = absurd (omega (arith, e))
bitwise_length f (a ∷ us) (b ∷ vs) e = ap suc (bitwise_length f us vs (omega (arith, e)))

pub ripple_length : (k : List Bool → Bool) (us vs c : List Input) (from : ℕ) → length vs ≡ length us → length (ripple_parts k us vs c from) ≡ 2 * length us - 1
ripple_length k [] vs c from e = refl
ripple_length k (a ∷ us) [] c from e = absurd (omega (arith, e))
ripple_length k (a ∷ []) (b ∷ vs) c from e = refl
ripple_length k (a ∷ d ∷ us) (b ∷ vs) c from e = omega (arith, ripple_length k (d ∷ us) vs (input (suc from) ∷ []) (suc (suc from)) (omega (arith, e)))

pub borrow_length : (us vs c : List Input) (from : ℕ) → length vs ≡ length us → length (borrow_parts us vs c from) ≡ length us
borrow_length [] vs c from e = refl
borrow_length (a ∷ us) [] c from e = absurd (omega (arith, e))
borrow_length (a ∷ us) (b ∷ vs) c from e = ap suc (borrow_length us vs (input from ∷ []) (suc from) (omega (arith, e)))

conjunction_length : (p : Input) (us : List Input) (from : ℕ) → length (conjunction_parts p us from) ≡ length us
conjunction_length p [] from = refl
conjunction_length p (a ∷ us) from = ap suc (conjunction_length (input from) us (suc from))

all_length : (us : List Input) (from : ℕ) → length (all_parts us from) ≡ length us - 1
all_length [] from = refl
all_length (a ∷ us) from = omega (arith, conjunction_length a us from)

equality_length : (us vs : List Input) (from : ℕ) → length vs ≡ length us → length (equality_parts us vs from) ≡ 2 * length us - 1
equality_length us vs from e =
    omega (
      arith,
      length-append (bitwise_parts alike us vs) (all_parts (result_inputs us from) (from + length us)),
      bitwise_length alike us vs e,
      all_length (result_inputs us from) (from + length us),
      results_length us from,
    )

pub operator_length : (op : Op) (us vs : List Input) (from : ℕ) → length vs ≡ length us → length (operator_parts op us vs from) ≡ operator_gates op (length us)
operator_length And us vs from e = bitwise_length all_one us vs e
operator_length Or us vs from e = bitwise_length some_one us vs e
operator_length Xor us vs from e = bitwise_length odd_ones us vs e
operator_length Add us vs from e = ripple_length carries us vs [] from e
operator_length Sub us vs from e = ripple_length borrows us vs [] from e
operator_length Eq us vs from e = equality_length us vs from e
operator_length Ne us vs from e = equality_length us vs from e
operator_length Lt us vs from e = borrow_length us vs [] from e
operator_length Ge us vs from e = borrow_length us vs [] from e
operator_length Gt us vs from e = borrow_length vs us [] from (sym e) ∙ e
operator_length Le us vs from e = borrow_length vs us [] from (sym e) ∙ e

mutual
  pub parts_length : (e : Formula) (from : ℕ) → IsWellFormed e → length (block_parts e from) ≡ gate_count e
  parts_length (constant w v) from h = fixed_length w v
  parts_length (reading x high low at) from h = read_length x low (high + 1 - low)
  parts_length (joined parts) from h = joined_parts_length parts from h.2
  parts_length (inverted e) from h = parts_length e from h
  parts_length (chained e more) from h =
      omega (
        arith,
        length-append (block_parts e from) (chained_parts (width_of e) (outs_of e from) more (from + gate_count e)),
        parts_length e from h.0,
        chained_parts_length (width_of e) (outs_of e from) more (from + gate_count e) (outs_length e from h.0) h.2,
      )
  parts_length (compared op e f) from h =
      let us = outs_of e from in
      let vs = outs_of f (from + gate_count e) in
      let own = operator_parts op us vs (from + gate_count e + gate_count f) in
      let same : length vs ≡ length us = outs_length f (from + gate_count e) h.3 ∙ (h.1 ∙ sym (outs_length e from h.2)) in
      let gates : length own ≡ operator_gates op (width_of e) =
      operator_length op us vs (from + gate_count e + gate_count f) same ∙ ap (operator_gates op) (outs_length e from h.2) in
      omega (
        arith,
        length-append (block_parts e from) (block_parts f (from + gate_count e) ++ own),
        length-append (block_parts f (from + gate_count e)) own,
        parts_length e from h.2,
        parts_length f (from + gate_count e) h.3,
        gates,
      )

  joined_parts_length : (parts : Formulas) (from : ℕ) → AreWellFormed parts → length (joined_parts parts from) ≡ joined_gates parts
  joined_parts_length no_parts from h = refl
  joined_parts_length (and_part e more) from h =
      omega (
        arith,
        length-append (block_parts e from) (joined_parts more (from + gate_count e)),
        parts_length e from h.0,
        joined_parts_length more (from + gate_count e) h.1,
      )

  pub chained_parts_length : (width : ℕ) (left : List Input) (more : Operations) (from : ℕ) → length left ≡ width → AreOperations width more
      → length (chained_parts width left more from) ≡ chained_gates width more
  chained_parts_length width left no_operations from is h = refl
  chained_parts_length width left (and_operation op e more) from is h =
      let vs = outs_of e from in
      let next = from + gate_count e in
      let own = operator_parts op left vs next in
      let rest = chained_parts width (operator_inputs op left next) more (next + operator_gates op width) in
      let gates : length own ≡ operator_gates op width =
      operator_length op left vs next (outs_length e from h.2 ∙ (h.1 ∙ sym is)) ∙ ap (operator_gates op) is in
      omega (
        arith,
        length-append (block_parts e from) (own ++ rest),
        length-append own rest,
        parts_length e from h.2,
        gates,
        chained_parts_length width (operator_inputs op left next) more (next + operator_gates op width) (each_output op left next h.0 ∙ is) h.3,
      )
