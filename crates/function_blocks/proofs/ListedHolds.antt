-- The rules that are listed of an expression are those of its gates, in order.
use Rattle.std.proofs.Common.{◌≡◌, ℕ, zero, suc, ◌+◌, ◌-◌, ◌*◌, ◌/◌, ◌%◌, ◌≤◌, ◌==◌, Bool, true, false, List, [], ◌∷◌, ◌++◌, length, map, take, drop, refl, sym, ap, ◌∙◌, arith}
use Rattle.std.specs.Prelude.{not, if◌then◌else◌}
use Rattle.std.proofs.lemmas.List.{length-map, map-append, append_assoc}
use Rattle.std.proofs.Math.Seq.{drop-cons}
use Rattle.chp_syntax.specs.declared.tree.Op.{Op}
use Rattle.chp_syntax.specs.declared.tree.Op.TheVariants.{And, Or, Xor, Add, Sub, Eq, Ne, Lt, Le, Gt, Ge}
use Rattle.prs_core.specs.Nets.{NodeRules}
use Rattle.prs_core.specs.Pairs as nodes
use Rattle.width_check.specs.declared.typed.Var.{Var}
use Rattle.width_check.specs.Processes.{Formula, constant, reading, joined, inverted, chained, compared, Formulas, no_parts, and_part, Operations, no_operations, and_operation}
use Rattle.width_check.specs.Values.{width_of, IsWellFormed, AreWellFormed, AreOperations}
use Rattle.width_check.specs.Typing.{ReadsFrom, EachReadsFrom, AllReadFrom}
use Rattle.handshake_expand.specs.Layout.{operator_size, formula_size}
use Rattle.function_blocks.specs.Gates.{all_one, some_one, odd_ones, carries, alike, borrows, gate, bitwise, ripple, ripple_result, borrow_gates, conjunctions, all_of_bits, result_pairs, equality, operator_rules, last_gate, operator_result}
use Rattle.function_blocks.specs.Expressions.{HasBits, constant_bit, constant_bits, read_rail, read_bits, formula_result, joined_result, chained_result, formula_rules, joined_rules, chained_rules}
use Rattle.function_blocks.specs.Parts.{Input, input, turned_over, BlockPart, fixed_parts, read_parts, inputs_from, bitwise_parts, result_inputs, ripple_parts, ripple_inputs, borrow_parts, conjunction_parts, all_parts, equality_parts, last_from, equal_input, less_input, operator_parts, operator_inputs, operator_gates, gate_count, outs_of, joined_outs, chained_outs, block_parts, joined_parts, chained_parts}
use Rattle.function_blocks.specs.Listed.{placed, part_rules, rules_listed}
use Rattle.function_blocks.proofs.PartSizes.{operator_counted, count_doubled, outs_length, each_output, some_width}

-- numbers of nodes
at_node : (n m : ℕ) → n ≡ m → nodes.pair_at n ≡ nodes.pair_at m
at_node n m e = ap nodes.pair_at e

turned_placed : (base : ℕ) (i : Input) → placed base (turned_over i) ≡ nodes.exchanged (placed base i)
turned_placed base i = here i.crossed
  where
    here : (c : Bool) → (if not c then nodes.exchanged (nodes.pair_at (base + 2 * i.at)) else nodes.pair_at (base + 2 * i.at)) ≡ nodes.exchanged
        (if c then nodes.exchanged (nodes.pair_at (base + 2 * i.at)) else nodes.pair_at (base + 2 * i.at))
    here true = refl
    here false = refl

last_is : (n : ℕ) (us : List Input) → last_from (input n) (suc n) us ≡ input (n + length us)
last_is n [] = let e : n ≡ n + 0 = omega arith in ap input e
last_is n (a ∷ us) = last_is (suc n) us ∙ (let e : suc n + length us ≡ n + suc (length us) = omega arith in ap input e)

less_last : (us : List Input) (from : ℕ) → 1 ≤ length us → less_input us from ≡ input (from + length us - 1)
less_last [] from h = absurd (omega (arith, h))
less_last (a ∷ us) from h = last_is from us ∙ (let e : from + length us ≡ from + suc (length us) - 1 = omega arith in ap input e)

equal_last : (us : List Input) (from : ℕ) → 1 ≤ length us → equal_input us from ≡ input (from + (2 * length us - 1) - 1)
equal_last [] from h = absurd (omega (arith, h))
equal_last (a ∷ []) from h = let e : from ≡ from + (2 * 1 - 1) - 1 = omega arith in ap input e
equal_last (a ∷ d ∷ us) from h = last_is (from + length (a ∷ d ∷ us)) us
    ∙ (let e : from + length (a ∷ d ∷ us) + length us ≡ from + (2 * length (a ∷ d ∷ us) - 1) - 1 = omega arith in ap input e)

module _ (base : ℕ) where
  abbrev put : Input → nodes.Pair
  put = placed base

  cons_pair : (p q : nodes.Pair) (ps qs : List nodes.Pair) → p ≡ q → ps ≡ qs → ◌≡◌ {A = List nodes.Pair} (p ∷ ps) (q ∷ qs)
  cons_pair p q ps qs h k = cc

  inputs_put : (n from N : ℕ) → N ≡ base + 2 * from → nodes.pairs_from n N ≡ map put (inputs_from n from)
  inputs_put zero from N e = refl
  inputs_put (suc n) from N e = cons_pair _ _ _ _ (at_node N (base + 2 * from) e) (inputs_put n (suc from) (N + 2) (omega (arith, e)))

  results_put : (us : List Input) (from N : ℕ) → N ≡ base + 2 * from → result_pairs (map put us) N ≡ map put (result_inputs us from)
  results_put [] from N e = refl
  results_put (a ∷ us) from N e = cons_pair _ _ _ _ (at_node N (base + 2 * from) e) (results_put us (suc from) (N + 2) (omega (arith, e)))

  ripples_put : (us : List Input) (from N : ℕ) → N ≡ base + 2 * from → ripple_result (map put us) N ≡ map put (ripple_inputs us from)
  ripples_put [] from N e = refl
  ripples_put (a ∷ us) from N e = cons_pair _ _ _ _ (at_node N (base + 2 * from) e) (ripples_put us (suc (suc from)) (N + 4) (omega (arith, e)))

  put_length : (us : List Input) → length (map put us) ≡ length us
  put_length us = length-map us put

  last_put : (op : Op) (us : List Input) (from N : ℕ) (i : Input) → N ≡ base + 2 * from → 1 ≤ length us → i ≡ input (from + operator_gates op (length us) - 1)
      → 1 ≤ operator_gates op (length us) → last_gate op (map put us) N ≡ put i
  last_put op us from N i e some h pos =
      let size : operator_size op (length (map put us)) ≡ 2 * operator_gates op (length us) =
      ap (operator_size op) (put_length us) ∙ operator_counted op (length us) in
      at_node (N + operator_size op (length (map put us)) - 2) (base + 2 * (from + operator_gates op (length us) - 1)) (omega (arith, e, size, pos))
      ∙ ap put (sym h)

  one_pair : (p q : nodes.Pair) → p ≡ q → ◌≡◌ {A = List nodes.Pair} (p ∷ []) (q ∷ [])
  one_pair p q h = ap (λ (z : nodes.Pair). z ∷ []) h

  turned_pair : (p : nodes.Pair) (i : Input) → p ≡ put i → ◌≡◌ {A = List nodes.Pair} (nodes.exchanged p ∷ []) (put (turned_over i) ∷ [])
  turned_pair p i h = one_pair _ _ (ap nodes.exchanged h ∙ sym (turned_placed base i))

  operator_put : (op : Op) (us : List Input) (from N : ℕ) → N ≡ base + 2 * from → 1 ≤ length us
      → operator_result op (map put us) N ≡ map put (operator_inputs op us from)
  operator_put And us from N e some = results_put us from N e
  operator_put Or us from N e some = results_put us from N e
  operator_put Xor us from N e some = results_put us from N e
  operator_put Add us from N e some = ripples_put us from N e
  operator_put Sub us from N e some = ripples_put us from N e
  operator_put Eq us from N e some = one_pair _ _ (last_put Eq us from N (equal_input us from) e some (equal_last us from some) (omega (arith, some)))
  operator_put Ne us from N e some =
      turned_pair _ (equal_input us from) (last_put Ne us from N (equal_input us from) e some (equal_last us from some) (omega (arith, some)))
  operator_put Lt us from N e some = one_pair _ _ (last_put Lt us from N (less_input us from) e some (less_last us from some) some)
  operator_put Gt us from N e some = one_pair _ _ (last_put Gt us from N (less_input us from) e some (less_last us from some) some)
  operator_put Ge us from N e some = turned_pair _ (less_input us from) (last_put Ge us from N (less_input us from) e some (less_last us from some) some)
  operator_put Le us from N e some = turned_pair _ (less_input us from) (last_put Le us from N (less_input us from) e some (less_last us from some) some)

  turned_put : (us : List Input) → map nodes.exchanged (map put us) ≡ map put (map turned_over us)
  turned_put [] = refl
  turned_put (a ∷ us) = cons_pair _ _ _ _ (sym (turned_placed base a)) (turned_put us)

  mutual
    pub result_put : (e : Formula) (from N : ℕ) → N ≡ base + 2 * from → IsWellFormed e → formula_result e N ≡ map put (outs_of e from)
    result_put (constant w v) from N e h = inputs_put w from N e
    result_put (reading x high low at) from N e h = inputs_put (high + 1 - low) from N e
    result_put (joined parts) from N e h = joined_put parts from N e h.2
    result_put (inverted f) from N e h = ap (λ (ps : List nodes.Pair). map nodes.exchanged ps) (result_put f from N e h) ∙ turned_put (outs_of f from)
    result_put (chained f more) from N e h =
        ap (λ (ps : List nodes.Pair). chained_result (width_of f) ps more (N + formula_size f)) (result_put f from N e h.0)
        ∙ chained_put (width_of f) (outs_of f from) more (from + gate_count f) (N + formula_size f) (omega (arith, e, count_doubled f)) (some_width f h.0)
        (outs_length f from h.0) h.2
    result_put (compared op f g) from N e h =
        ap (λ (ps : List nodes.Pair). operator_result op ps (N + formula_size f + formula_size g)) (result_put f from N e h.2)
        ∙ operator_put op (outs_of f from) (from + gate_count f + gate_count g) (N + formula_size f + formula_size g)
        (omega (arith, e, count_doubled f, count_doubled g)) (omega (arith, outs_length f from h.2, some_width f h.2))

    joined_put : (parts : Formulas) (from N : ℕ) → N ≡ base + 2 * from → AreWellFormed parts → joined_result parts N ≡ map put (joined_outs parts from)
    joined_put no_parts from N e h = refl
    joined_put (and_part f more) from N e h =
        ap (λ (ps : List nodes.Pair). ps ++ formula_result f N) (joined_put more (from + gate_count f) (N + formula_size f) (omega (arith, e, count_doubled f))
        h.1)
        ∙ (ap (λ (ps : List nodes.Pair). map put (joined_outs more (from + gate_count f)) ++ ps) (result_put f from N e h.0)
        ∙ sym (map-append put (joined_outs more (from + gate_count f)) (outs_of f from)))

    chained_put : (width : ℕ) (left : List Input) (more : Operations) (from N : ℕ) → N ≡ base + 2 * from → 1 ≤ width → length left ≡ width
        → AreOperations width more → chained_result width (map put left) more N ≡ map put (chained_outs width left more from)
    chained_put width left no_operations from N e some is h = refl
    chained_put width left (and_operation op f more) from N e some is h =
        ap (λ (ps : List nodes.Pair). chained_result width ps more (N + formula_size f + operator_size op width))
        (operator_put op left (from + gate_count f) (N + formula_size f) (omega (arith, e, count_doubled f)) (omega (arith, is, some)))
        ∙ chained_put width (operator_inputs op left (from + gate_count f)) more (from + gate_count f + operator_gates op width)
        (N + formula_size f + operator_size op width) (omega (arith, e, count_doubled f, operator_counted op width)) some
        (each_output op left (from + gate_count f) h.0 ∙ is) h.3

module _ (bits : ℕ → List nodes.Pair) (request base : ℕ) where
  abbrev list : List BlockPart → List NodeRules
  list gs = rules_listed bits request base gs

  abbrev at : Input → nodes.Pair
  at = placed base

  append_list : (gs hs : List BlockPart) → list (gs ++ hs) ≡ list gs ++ list hs
  append_list [] hs = refl
  append_list (g ∷ gs) hs = ap (λ (rs : List NodeRules). part_rules bits request base g ++ rs) (append_list gs hs)
      ∙ sym (append_assoc (part_rules bits request base g) (list gs) (list hs))

  bitwise_list : (f : List Bool → Bool) (us vs : List Input) → length vs ≡ length us → bitwise f (map at us) (map at vs) ≡ list (bitwise_parts f us vs)
  bitwise_list f [] vs e = refl
  bitwise_list f (a ∷ us) [] e = absurd (omega (arith, e))
  bitwise_list f (a ∷ us) (b ∷ vs) e = ap (λ (rs : List NodeRules). gate (at a ∷ at b ∷ []) f ++ rs) (bitwise_list f us vs (omega (arith, e)))

  carry_at : (k : List Bool → Bool) (ps qs : List nodes.Pair) (n N M : ℕ) → N ≡ base + 2 * n
      → ripple k ps qs (nodes.pair_at N ∷ []) M ≡ ripple k ps qs (at (input n) ∷ []) M
  carry_at k ps qs n N M e = ap (λ (p : nodes.Pair). ripple k ps qs (p ∷ []) M) (at_node N (base + 2 * n) e)

  ripple_list : (k : List Bool → Bool) (us vs c : List Input) (from N : ℕ) → N ≡ base + 2 * from → length vs ≡ length us
      → ripple k (map at us) (map at vs) (map at c) N ≡ list (ripple_parts k us vs c from)
  ripple_list k [] vs c from N e l = refl
  ripple_list k (a ∷ us) [] c from N e l = absurd (omega (arith, l))
  ripple_list k (a ∷ []) (b ∷ []) c from N e l = refl
  ripple_list k (a ∷ []) (b ∷ f ∷ vs) c from N e l = absurd (omega (arith, l))
  ripple_list k (a ∷ d ∷ us) (b ∷ []) c from N e l = absurd (omega (arith, l))
  ripple_list k (a ∷ d ∷ us) (b ∷ f ∷ vs) c from N e l =
      ap (λ (rs : List NodeRules). gate (at a ∷ at b ∷ map at c) odd_ones ++ (gate (at a ∷ at b ∷ map at c) k ++ rs))
      (carry_at k (map at (d ∷ us)) (map at (f ∷ vs)) (suc from) (N + 2) (N + 4) (omega (arith, e))
      ∙ ripple_list k (d ∷ us) (f ∷ vs) (input (suc from) ∷ []) (suc (suc from)) (N + 4) (omega (arith, e)) (omega (arith, l)))

  borrow_at : (ps qs : List nodes.Pair) (n N M : ℕ) → N ≡ base + 2 * n → borrow_gates ps qs (nodes.pair_at N ∷ []) M ≡ borrow_gates ps qs (at (input n) ∷ []) M
  borrow_at ps qs n N M e = ap (λ (p : nodes.Pair). borrow_gates ps qs (p ∷ []) M) (at_node N (base + 2 * n) e)

  borrow_list : (us vs c : List Input) (from N : ℕ) → N ≡ base + 2 * from → length vs ≡ length us
      → borrow_gates (map at us) (map at vs) (map at c) N ≡ list (borrow_parts us vs c from)
  borrow_list [] vs c from N e l = refl
  borrow_list (a ∷ us) [] c from N e l = absurd (omega (arith, l))
  borrow_list (a ∷ us) (b ∷ vs) c from N e l =
      ap (λ (rs : List NodeRules). gate (at a ∷ at b ∷ map at c) borrows ++ rs)
      (borrow_at (map at us) (map at vs) from N (N + 2) e ∙ borrow_list us vs (input from ∷ []) (suc from) (N + 2) (omega (arith, e)) (omega (arith, l)))

  conjunction_list : (c : Input) (us : List Input) (from N : ℕ) → N ≡ base + 2 * from → conjunctions (at c) (map at us) N ≡ list (conjunction_parts c us from)
  conjunction_list c [] from N e = refl
  conjunction_list c (a ∷ us) from N e =
      ap (λ (rs : List NodeRules). gate (at c ∷ at a ∷ []) all_one ++ rs)
      (ap (λ (p : nodes.Pair). conjunctions p (map at us) (N + 2)) (at_node N (base + 2 * from) e)
      ∙ conjunction_list (input from) us (suc from) (N + 2) (omega (arith, e)))

  all_list : (us : List Input) (from N : ℕ) → N ≡ base + 2 * from → all_of_bits (map at us) N ≡ list (all_parts us from)
  all_list [] from N e = refl
  all_list (a ∷ us) from N e = conjunction_list a us from N e

  equality_list : (us vs : List Input) (from N : ℕ) → N ≡ base + 2 * from → length vs ≡ length us
      → equality (map at us) (map at vs) N ≡ list (equality_parts us vs from)
  equality_list us vs from N e l =
      ap (λ (rs : List NodeRules). rs ++ all_of_bits (result_pairs (map at us) N) (N + 2 * length (map at us))) (bitwise_list alike us vs l)
      ∙ (ap (λ (ps : List nodes.Pair). list (bitwise_parts alike us vs) ++ all_of_bits ps (N + 2 * length (map at us))) (results_put base us from N e)
      ∙ (ap (λ (rs : List NodeRules). list (bitwise_parts alike us vs) ++ rs)
      (all_list (result_inputs us from) (from + length us) (N + 2 * length (map at us)) (omega (arith, e, put_length base us)))
      ∙ sym (append_list (bitwise_parts alike us vs) (all_parts (result_inputs us from) (from + length us)))))

  operator_list : (op : Op) (us vs : List Input) (from N : ℕ) → N ≡ base + 2 * from → length vs ≡ length us
      → operator_rules op (map at us) (map at vs) N ≡ list (operator_parts op us vs from)
  operator_list And us vs from N e l = bitwise_list all_one us vs l
  operator_list Or us vs from N e l = bitwise_list some_one us vs l
  operator_list Xor us vs from N e l = bitwise_list odd_ones us vs l
  operator_list Add us vs from N e l = ripple_list carries us vs [] from N e l
  operator_list Sub us vs from N e l = ripple_list borrows us vs [] from N e l
  operator_list Eq us vs from N e l = equality_list us vs from N e l
  operator_list Ne us vs from N e l = equality_list us vs from N e l
  operator_list Lt us vs from N e l = borrow_list us vs [] from N e l
  operator_list Ge us vs from N e l = borrow_list us vs [] from N e l
  operator_list Gt us vs from N e l = borrow_list vs us [] from N e (sym l)
  operator_list Le us vs from N e l = borrow_list vs us [] from N e (sym l)

  fixed_list : (w v : ℕ) → constant_bits request w v ≡ list (fixed_parts w v)
  fixed_list zero v = refl
  fixed_list (suc n) v = ap (λ (rs : List NodeRules). constant_bit request (v % 2 == 1) ++ rs) (fixed_list n (v / 2))

  -- a slice, where the variable has its bits
  slice_list : (x i n : ℕ) → i + n ≤ length (bits x) → read_bits request (take n (drop i (bits x))) ≡ list (read_parts x i n)
  slice_list x i zero l = refl
  slice_list x i (suc n) l =
      ap (λ (ps : List nodes.Pair). read_bits request (take (suc n) ps)) (drop-cons (bits x) i (nodes.pair_at 0) (omega (arith, l)))
      ∙ ap (λ (rs : List NodeRules). read_rail request (nodes.pair_of (bits x) i).t ∷ read_rail request (nodes.pair_of (bits x) i).f ∷ rs)
      (slice_list x (suc i) n (omega (arith, l)))

module _ (vars : List Var) (bits : ℕ → List nodes.Pair) (has : HasBits vars bits) (request base : ℕ) where
  abbrev rules : List BlockPart → List NodeRules
  rules gs = rules_listed bits request base gs

  mutual
    pub formula_list : (e : Formula) (from N : ℕ) → N ≡ base + 2 * from → IsWellFormed e → ReadsFrom vars e
        → formula_rules bits e request N ≡ rules (block_parts e from)
    formula_list (constant w v) from N e h r = fixed_list bits request base w v
    formula_list (reading x high low at) from N e h r = let all = has x r.0 in
        slice_list bits request base x low (high + 1 - low) (omega (arith, all, h.0, r.1))
    formula_list (joined parts) from N e h r = joined_list parts from N e h.2 r
    formula_list (inverted f) from N e h r = formula_list f from N e h r
    formula_list (chained f more) from N e h r =
        let us = outs_of f from in
        ap (λ (rs : List NodeRules). rs ++ chained_rules bits (width_of f) (formula_result f N) more request (N + formula_size f))
        (formula_list f from N e h.0 r.0)
        ∙ (ap (λ (ps : List nodes.Pair). rules (block_parts f from) ++ chained_rules bits (width_of f) ps more request (N + formula_size f))
        (result_put base f from N e h.0)
        ∙ (ap (λ (rs : List NodeRules). rules (block_parts f from) ++ rs)
        (chained_list (width_of f) us more (from + gate_count f) (N + formula_size f) (omega (arith, e, count_doubled f)) (some_width f h.0)
        (outs_length f from h.0) h.2 r.1)
        ∙ sym (append_list bits request base (block_parts f from) (chained_parts (width_of f) us more (from + gate_count f)))))
    formula_list (compared op f g) from N e h r =
        let fb = from + gate_count f in
        let fo = fb + gate_count g in
        let B = N + formula_size f in
        let O = B + formula_size g in
        let us = outs_of f from in
        let vs = outs_of g fb in
        let own = operator_parts op us vs fo in
        let eB : B ≡ base + 2 * fb = omega (arith, e, count_doubled f) in
        let eO : O ≡ base + 2 * fo = omega (arith, eB, count_doubled g) in
        let same : length vs ≡ length us = outs_length g fb h.3 ∙ (h.1 ∙ sym (outs_length f from h.2)) in
        ap (λ (rs : List NodeRules). rs ++ (formula_rules bits g request B ++ operator_rules op (formula_result f N) (formula_result g B) O))
        (formula_list f from N e h.2 r.0)
        ∙ (ap (λ (rs : List NodeRules). rules (block_parts f from) ++ (rs ++ operator_rules op (formula_result f N) (formula_result g B) O))
        (formula_list g fb B eB h.3 r.1)
        ∙ (ap (λ (ps : List nodes.Pair). rules (block_parts f from) ++ (rules (block_parts g fb) ++ operator_rules op ps (formula_result g B) O))
        (result_put base f from N e h.2)
        ∙ (ap (λ (ps : List nodes.Pair). rules (block_parts f from) ++ (rules (block_parts g fb) ++ operator_rules op (map (placed base) us) ps O))
        (result_put base g fb B eB h.3)
        ∙ (ap (λ (rs : List NodeRules). rules (block_parts f from) ++ (rules (block_parts g fb) ++ rs)) (operator_list bits request base op us vs fo O eO same)
        ∙ (ap (λ (rs : List NodeRules). rules (block_parts f from) ++ rs) (sym (append_list bits request base (block_parts g fb) own))
        ∙ sym (append_list bits request base (block_parts f from) (block_parts g fb ++ own)))))))

    joined_list : (parts : Formulas) (from N : ℕ) → N ≡ base + 2 * from → AreWellFormed parts → EachReadsFrom vars parts
        → joined_rules bits parts request N ≡ rules (joined_parts parts from)
    joined_list no_parts from N e h r = refl
    joined_list (and_part f more) from N e h r =
        ap (λ (rs : List NodeRules). rs ++ joined_rules bits more request (N + formula_size f)) (formula_list f from N e h.0 r.0)
        ∙ (ap (λ (rs : List NodeRules). rules (block_parts f from) ++ rs)
        (joined_list more (from + gate_count f) (N + formula_size f) (omega (arith, e, count_doubled f)) h.1 r.1)
        ∙ sym (append_list bits request base (block_parts f from) (joined_parts more (from + gate_count f))))

    chained_list : (width : ℕ) (left : List Input) (more : Operations) (from N : ℕ) → N ≡ base + 2 * from → 1 ≤ width → length left ≡ width
        → AreOperations width more → AllReadFrom vars more → chained_rules bits width (map (placed base) left) more request N ≡ rules
        (chained_parts width left more from)
    chained_list width left no_operations from N e some is h r = refl
    chained_list width left (and_operation op f more) from N e some is h r =
        let next = from + gate_count f in
        let O = N + formula_size f in
        let after = next + operator_gates op width in
        let A = O + operator_size op width in
        let us = map (placed base) left in
        let vs = outs_of f from in
        let own = operator_parts op left vs next in
        let result = operator_inputs op left next in
        let rest = chained_parts width result more after in
        let eO : O ≡ base + 2 * next = omega (arith, e, count_doubled f) in
        let eA : A ≡ base + 2 * after = omega (arith, eO, operator_counted op width) in
        let same : length vs ≡ length left = outs_length f from h.2 ∙ (h.1 ∙ sym is) in
        ap (λ (rs : List NodeRules). rs ++ (operator_rules op us (formula_result f N) O ++ chained_rules bits width (operator_result op us O) more request A))
        (formula_list f from N e h.2 r.0)
        ∙ (ap (λ (ps : List nodes.Pair). rules (block_parts f from) ++ (operator_rules op us ps O ++ chained_rules bits width (operator_result op us O) more
        request A)) (result_put base f from N e h.2)
        ∙ (ap (λ (rs : List NodeRules). rules (block_parts f from) ++ (rs ++ chained_rules bits width (operator_result op us O) more request A))
        (operator_list bits request base op left vs next O eO same)
        ∙ (ap (λ (ps : List nodes.Pair). rules (block_parts f from) ++ (rules own ++ chained_rules bits width ps more request A))
        (operator_put base op left next O eO (omega (arith, is, some)))
        ∙ (ap (λ (rs : List NodeRules). rules (block_parts f from) ++ (rules own ++ rs))
        (chained_list width result more after A eA some (each_output op left next h.0 ∙ is) h.3 r.1)
        ∙ (ap (λ (rs : List NodeRules). rules (block_parts f from) ++ rs) (sym (append_list bits request base own rest))
        ∙ sym (append_list bits request base (block_parts f from) (own ++ rest)))))))
