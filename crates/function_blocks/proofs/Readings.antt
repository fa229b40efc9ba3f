-- The bits of variables that the gates of an expression read.
use Rattle.std.proofs.Common.{◌≡◌, ℕ, zero, suc, ◌+◌, ◌-◌, ◌/◌, ◌<◌, ◌≤◌, Bool, true, List, [], ◌∷◌, ◌++◌, length, arith}
use Rattle.chp_syntax.specs.declared.tree.Op.{Op}
use Rattle.chp_syntax.specs.declared.tree.Op.TheVariants.{And, Or, Xor, Add, Sub, Eq, Ne, Lt, Le, Gt, Ge}
use Rattle.width_check.specs.declared.typed.Var.{Var}
use Rattle.width_check.specs.Processes.{Formula, constant, reading, joined, inverted, chained, compared, Formulas, no_parts, and_part, Operations, no_operations, and_operation}
use Rattle.width_check.specs.Values.{width_of, IsWellFormed, AreWellFormed, AreOperations}
use Rattle.width_check.specs.Typing.{var_width, ReadsFrom, EachReadsFrom, AllReadFrom}
use Rattle.width_check.specs.Reads.{reads, reads_in_parts, reads_in_operations}
use Rattle.function_blocks.specs.Gates.{all_one, some_one, odd_ones, carries, alike, borrows}
use Rattle.function_blocks.specs.Parts.{Input, input, fixed_parts, read_parts, bitwise_parts, result_inputs, ripple_parts, borrow_parts, conjunction_parts, all_parts, equality_parts, operator_parts, operator_inputs, operator_gates, gate_count, outs_of, block_parts, joined_parts, chained_parts}
use Rattle.function_blocks.specs.BitsRead.{EachRead, EachPart, EachOperation}
use Rattle.function_blocks.proofs.Tables.{or_left, or_right}
use Rattle.function_blocks.proofs.GateRest.{Only, only_append}
use Rattle.function_blocks.proofs.Ordered.{eq_self}

-- an operator's gates read none
module _ (P : ℕ → ℕ → Type 0) where
  bitwise_only : (f : List Bool → Bool) (us vs : List Input) → Only P (bitwise_parts f us vs)
  bitwise_only f [] vs = tt
  bitwise_only f (a ∷ us) [] = tt
  bitwise_only f (a ∷ us) (b ∷ vs) = bitwise_only f us vs

  ripple_only : (k : List Bool → Bool) (us vs c : List Input) (from : ℕ) → Only P (ripple_parts k us vs c from)
  ripple_only k [] vs c from = tt
  ripple_only k (a ∷ us) [] c from = tt
  ripple_only k (a ∷ []) (b ∷ vs) c from = tt
  ripple_only k (a ∷ d ∷ us) (b ∷ vs) c from = ripple_only k (d ∷ us) vs (input (suc from) ∷ []) (suc (suc from))

  borrow_only : (us vs c : List Input) (from : ℕ) → Only P (borrow_parts us vs c from)
  borrow_only [] vs c from = tt
  borrow_only (a ∷ us) [] c from = tt
  borrow_only (a ∷ us) (b ∷ vs) c from = borrow_only us vs (input from ∷ []) (suc from)

  conjunction_only : (c : Input) (us : List Input) (from : ℕ) → Only P (conjunction_parts c us from)
  conjunction_only c [] from = tt
  conjunction_only c (a ∷ us) from = conjunction_only (input from) us (suc from)

  all_only : (us : List Input) (from : ℕ) → Only P (all_parts us from)
  all_only [] from = tt
  all_only (a ∷ us) from = conjunction_only a us from

  equality_only : (us vs : List Input) (from : ℕ) → Only P (equality_parts us vs from)
  equality_only us vs from = only_append P (bitwise_parts alike us vs) (all_parts (result_inputs us from) (from + length us)) (bitwise_only alike us vs)
      (all_only (result_inputs us from) (from + length us))

  operator_only : (op : Op) (us vs : List Input) (from : ℕ) → Only P (operator_parts op us vs from)
  operator_only And us vs from = bitwise_only all_one us vs
  operator_only Or us vs from = bitwise_only some_one us vs
  operator_only Xor us vs from = bitwise_only odd_ones us vs
  operator_only Add us vs from = ripple_only carries us vs [] from
  operator_only Sub us vs from = ripple_only borrows us vs [] from
  operator_only Eq us vs from = equality_only us vs from
  operator_only Ne us vs from = equality_only us vs from
  operator_only Lt us vs from = borrow_only us vs [] from
  operator_only Ge us vs from = borrow_only us vs [] from
  operator_only Gt us vs from = borrow_only vs us [] from
  operator_only Le us vs from = borrow_only vs us [] from

  fixed_only : (w v : ℕ) → Only P (fixed_parts w v)
  fixed_only zero v = tt
  fixed_only (suc n) v = fixed_only n (v / 2)

  read_only : (x i n : ℕ) → ((j : ℕ) → j < i + n → P x j) → Only P (read_parts x i n)
  read_only x i zero f = tt
  read_only x i (suc n) f = (f i (omega arith), read_only x (suc i) n (λ j l. f j (omega (arith, l))))

-- only variables that the expression reads
mutual
  pub parts_only : (P : ℕ → ℕ → Type 0) (e : Formula) (from : ℕ) → ((x i : ℕ) → reads x e ≡ true → P x i) → Only P (block_parts e from)
  parts_only P (constant w v) from f = fixed_only P w v
  parts_only P (reading x high low at) from f = read_only P x low (high + 1 - low) (λ j l. f x j (eq_self x))
  parts_only P (joined parts) from f = joined_only P parts from f
  parts_only P (inverted e) from f = parts_only P e from f
  parts_only P (chained e more) from f =
      only_append P (block_parts e from) (chained_parts (width_of e) (outs_of e from) more (from + gate_count e))
      (parts_only P e from (λ x i h. f x i (or_left _ _ h))) (chained_only P (width_of e) (outs_of e from) more (from + gate_count e)
      (λ x i h. f x i (or_right (reads x e) _ h)))
  parts_only P (compared op e g) from f =
      let fb = from + gate_count e in
      let fo = fb + gate_count g in
      let own = operator_parts op (outs_of e from) (outs_of g fb) fo in
      only_append P (block_parts e from) (block_parts g fb ++ own) (parts_only P e from (λ x i h. f x i (or_left _ _ h)))
      (only_append P (block_parts g fb) own (parts_only P g fb (λ x i h. f x i (or_right (reads x e) _ h)))
      (operator_only P op (outs_of e from) (outs_of g fb) fo))

  joined_only : (P : ℕ → ℕ → Type 0) (parts : Formulas) (from : ℕ) → ((x i : ℕ) → reads_in_parts x parts ≡ true → P x i) → Only P (joined_parts parts from)
  joined_only P no_parts from f = tt
  joined_only P (and_part e more) from f =
      only_append P (block_parts e from) (joined_parts more (from + gate_count e))
      (parts_only P e from (λ x i h. f x i (or_left _ _ h))) (joined_only P more (from + gate_count e) (λ x i h. f x i (or_right (reads x e) _ h)))

  chained_only : (P : ℕ → ℕ → Type 0) (width : ℕ) (left : List Input) (more : Operations) (from : ℕ) → ((x i : ℕ) → reads_in_operations x more ≡ true → P x i)
      → Only P (chained_parts width left more from)
  chained_only P width left no_operations from f = tt
  chained_only P width left (and_operation op e more) from f =
      let next = from + gate_count e in
      let own = operator_parts op left (outs_of e from) next in
      let rest = chained_parts width (operator_inputs op left next) more (next + operator_gates op width) in
      only_append P (block_parts e from) (own ++ rest) (parts_only P e from (λ x i h. f x i (or_left _ _ h)))
      (only_append P own rest (operator_only P op left (outs_of e from) next)
      (chained_only P width (operator_inputs op left next) more (next + operator_gates op width) (λ x i h. f x i (or_right (reads x e) _ h))))

-- only bits that the variables have
abbrev Has : List Var → ℕ → ℕ → Type 0
Has vars x i = i < var_width vars x

mutual
  pub parts_within : (vars : List Var) (e : Formula) (from : ℕ) → IsWellFormed e → ReadsFrom vars e → Only (Has vars) (block_parts e from)
  parts_within vars (constant w v) from h r = fixed_only (Has vars) w v
  parts_within vars (reading x high low at) from h r = read_only (Has vars) x low (high + 1 - low) (λ j l. omega (arith, l, h.0, r.1))
  parts_within vars (joined parts) from h r = joined_within vars parts from h.2 r
  parts_within vars (inverted e) from h r = parts_within vars e from h r
  parts_within vars (chained e more) from h r =
      only_append (Has vars) (block_parts e from) (chained_parts (width_of e) (outs_of e from) more (from + gate_count e))
      (parts_within vars e from h.0 r.0) (chained_within vars (width_of e) (outs_of e from) more (from + gate_count e) h.2 r.1)
  parts_within vars (compared op e g) from h r =
      let fb = from + gate_count e in
      let fo = fb + gate_count g in
      let own = operator_parts op (outs_of e from) (outs_of g fb) fo in
      only_append (Has vars) (block_parts e from) (block_parts g fb ++ own) (parts_within vars e from h.2 r.0)
      (only_append (Has vars) (block_parts g fb) own (parts_within vars g fb h.3 r.1) (operator_only (Has vars) op (outs_of e from) (outs_of g fb) fo))

  joined_within : (vars : List Var) (parts : Formulas) (from : ℕ) → AreWellFormed parts → EachReadsFrom vars parts → Only (Has vars) (joined_parts parts from)
  joined_within vars no_parts from h r = tt
  joined_within vars (and_part e more) from h r =
      only_append (Has vars) (block_parts e from) (joined_parts more (from + gate_count e)) (parts_within vars e from h.0 r.0)
      (joined_within vars more (from + gate_count e) h.1 r.1)

  chained_within : (vars : List Var) (width : ℕ) (left : List Input) (more : Operations) (from : ℕ) → AreOperations width more → AllReadFrom vars more
      → Only (Has vars) (chained_parts width left more from)
  chained_within vars width left no_operations from h r = tt
  chained_within vars width left (and_operation op e more) from h r =
      let next = from + gate_count e in
      let own = operator_parts op left (outs_of e from) next in
      let rest = chained_parts width (operator_inputs op left next) more (next + operator_gates op width) in
      only_append (Has vars) (block_parts e from) (own ++ rest) (parts_within vars e from h.2 r.0)
      (only_append (Has vars) own rest (operator_only (Has vars) op left (outs_of e from) next)
      (chained_within vars width (operator_inputs op left next) more (next + operator_gates op width) h.3 r.1))

-- the bits that the gates read are those that the expression reads

read_between : (P : ℕ → ℕ → Type 0) (x i n : ℕ) → ((j : ℕ) → i ≤ j → j < i + n → P x j) → Only P (read_parts x i n)
read_between P x i zero f = tt
read_between P x i (suc n) f = (f i (omega arith) (omega arith), read_between P x (suc i) n (λ j l m. f j (omega (arith, l)) (omega (arith, m))))

mutual
  pub parts_read : (P : ℕ → ℕ → Type 0) (e : Formula) (from : ℕ) → EachRead P e → Only P (block_parts e from)
  parts_read P (constant w v) from r = fixed_only P w v
  parts_read P (reading x high low at) from r = read_between P x low (high + 1 - low) (λ j l m. r j l (omega (arith, l, m)))
  parts_read P (joined parts) from r = joined_read P parts from r
  parts_read P (inverted e) from r = parts_read P e from r
  parts_read P (chained e more) from r =
      only_append P (block_parts e from) (chained_parts (width_of e) (outs_of e from) more (from + gate_count e))
      (parts_read P e from r.0) (chained_read P (width_of e) (outs_of e from) more (from + gate_count e) r.1)
  parts_read P (compared op e g) from r =
      let fb = from + gate_count e in
      let fo = fb + gate_count g in
      let own = operator_parts op (outs_of e from) (outs_of g fb) fo in
      only_append P (block_parts e from) (block_parts g fb ++ own) (parts_read P e from r.0)
      (only_append P (block_parts g fb) own (parts_read P g fb r.1) (operator_only P op (outs_of e from) (outs_of g fb) fo))

  joined_read : (P : ℕ → ℕ → Type 0) (parts : Formulas) (from : ℕ) → EachPart P parts → Only P (joined_parts parts from)
  joined_read P no_parts from r = tt
  joined_read P (and_part e more) from r =
      only_append P (block_parts e from) (joined_parts more (from + gate_count e)) (parts_read P e from r.0) (joined_read P more (from + gate_count e) r.1)

  chained_read : (P : ℕ → ℕ → Type 0) (width : ℕ) (left : List Input) (more : Operations) (from : ℕ) → EachOperation P more
      → Only P (chained_parts width left more from)
  chained_read P width left no_operations from r = tt
  chained_read P width left (and_operation op e more) from r =
      let next = from + gate_count e in
      let own = operator_parts op left (outs_of e from) next in
      let rest = chained_parts width (operator_inputs op left next) more (next + operator_gates op width) in
      only_append P (block_parts e from) (own ++ rest) (parts_read P e from r.0)
      (only_append P own rest (operator_only P op left (outs_of e from) next)
      (chained_read P width (operator_inputs op left next) more (next + operator_gates op width) r.1))
