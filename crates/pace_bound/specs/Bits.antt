-- How late the bits of an expression's value are: how many gates move for each, one behind the other.
use Rattle.std.specs.Prelude.{ℕ, suc, ◌+◌, ◌-◌, max, List, [], ◌∷◌, ◌++◌, replicate}
use Rattle.chp_syntax.specs.declared.tree.Op.{Op}
use Rattle.chp_syntax.specs.declared.tree.Op.TheVariants.{And, Or, Xor, Add, Sub, Eq, Ne, Lt, Le, Gt, Ge}
use Rattle.width_check.specs.Processes.{Formula, constant, reading, joined, inverted, chained, compared, Formulas, no_parts, and_part, Operations, no_operations, and_operation}
use Rattle.round_time.specs.Longest.{greatest}

-- bit by bit
abbrev pub paired : List ℕ → List ℕ → List ℕ
paired (a ∷ us) (b ∷ vs) = suc (max a (max b 0)) ∷ paired us vs
paired _ _ = []

-- each bit with the carry of the one below
abbrev pub rippled : (carried : List ℕ) → List ℕ → List ℕ → List ℕ
rippled c (a ∷ us) (b ∷ vs) = suc (max a (max b (greatest c))) ∷ rippled (suc (max a (max b (greatest c))) ∷ []) us vs
rippled c _ _ = []

-- of a conjunction, from a bit on
abbrev pub conjoined : ℕ → List ℕ → ℕ
conjoined p [] = p
conjoined p (q ∷ qs) = conjoined (suc (max p (max q 0))) qs

abbrev pub all_of : List ℕ → ℕ
all_of [] = 0
all_of (p ∷ ps) = conjoined p ps

-- of an operator's result, by how late the bits of its operands are
abbrev pub op_bits : Op → List ℕ → List ℕ → List ℕ
op_bits And us vs = paired us vs
op_bits Or us vs = paired us vs
op_bits Xor us vs = paired us vs
op_bits Add us vs = rippled [] us vs
op_bits Sub us vs = rippled [] us vs
op_bits Eq us vs = all_of (paired us vs) ∷ []
op_bits Ne us vs = all_of (paired us vs) ∷ []
op_bits Lt us vs = greatest (rippled [] us vs) ∷ []
op_bits Ge us vs = greatest (rippled [] us vs) ∷ []
op_bits Gt us vs = greatest (rippled [] vs us) ∷ []
op_bits Le us vs = greatest (rippled [] vs us) ∷ []

-- bits that follow the request
abbrev pub ones : ℕ → List ℕ
ones k = replicate k 1

abbrev mutual
  pub bits : Formula → List ℕ
  bits (constant width v) = ones width
  bits (reading var high low at) = ones (high + 1 - low)
  bits (joined parts) = joined_bits parts
  bits (inverted e) = bits e
  bits (chained e more) = chained_bits (bits e) more
  bits (compared op e f) = op_bits op (bits e) (bits f)

  -- the last part has the lowest bits
  pub joined_bits : Formulas → List ℕ
  joined_bits no_parts = []
  joined_bits (and_part e more) = joined_bits more ++ bits e

  -- from a number on, applied from the left
  pub chained_bits : List ℕ → Operations → List ℕ
  chained_bits left no_operations = left
  chained_bits left (and_operation op e more) = chained_bits (op_bits op left (bits e)) more
