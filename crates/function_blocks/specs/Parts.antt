-- The gates of an expression without node numbers, oldest first: gate i has the pair of rails i.
use Rattle.std.specs.Prelude.{ℕ, zero, suc, ◌+◌, ◌-◌, ◌*◌, ◌/◌, ◌%◌, ◌==◌, Bool, false, not, List, [], ◌∷◌, ◌++◌, length, map}
use Rattle.chp_syntax.specs.declared.tree.Op.{Op}
use Rattle.chp_syntax.specs.declared.tree.Op.TheVariants.{And, Or, Xor, Add, Sub, Eq, Ne, Lt, Le, Gt, Ge}
use Rattle.width_check.specs.Processes.{Formula, constant, reading, joined, inverted, chained, compared, Formulas, no_parts, and_part, Operations, no_operations, and_operation}
use Rattle.width_check.specs.Values.{width_of}
use Rattle.function_blocks.specs.Gates.{all_one, some_one, odd_ones, alike, carries, borrows}

-- the result of an earlier gate, perhaps with its rails exchanged
pub record Input : Type 0 where
  pub at : ℕ
  pub crossed : Bool

abbrev pub input : ℕ → Input
input k = record { at = k; crossed = false }

abbrev pub turned_over : Input → Input
turned_over i = record { at = i.at; crossed = not i.crossed }

-- A bit of a number, a bit of a variable that is read, and a gate with a truth function. A gate has at least one input:
-- else its fall would always be enabled.
pub data BlockPart : Type 0 where
  fixed : Bool → BlockPart
  read_bit : (var bit : ℕ) → BlockPart
  made : (List Bool → Bool) → Input → List Input → BlockPart

abbrev pub fixed_parts : (width value : ℕ) → List BlockPart
fixed_parts zero v = []
fixed_parts (suc n) v = fixed (v % 2 == 1) ∷ fixed_parts n (v / 2)

abbrev pub read_parts : (var bit count : ℕ) → List BlockPart
read_parts x i zero = []
read_parts x i (suc n) = read_bit x i ∷ read_parts x (suc i) n

abbrev pub inputs_from : (count from : ℕ) → List Input
inputs_from zero from = []
inputs_from (suc n) from = input from ∷ inputs_from n (suc from)

-- gates bit by bit
abbrev pub bitwise_parts : (List Bool → Bool) → List Input → List Input → List BlockPart
bitwise_parts f [] vs = []
bitwise_parts f (a ∷ us) [] = []
bitwise_parts f (a ∷ us) (b ∷ vs) = made f a (b ∷ []) ∷ bitwise_parts f us vs

abbrev pub result_inputs : List Input → (from : ℕ) → List Input
result_inputs [] from = []
result_inputs (a ∷ us) from = input from ∷ result_inputs us (suc from)

-- for each bit the bit of the result and, below the top bit, its carry
abbrev pub ripple_parts : (List Bool → Bool) → List Input → List Input → (carried : List Input) → (from : ℕ) →
    List BlockPart
ripple_parts carry [] vs carried from = []
ripple_parts carry (a ∷ us) [] carried from = []
ripple_parts carry (a ∷ []) (b ∷ vs) carried from = made odd_ones a (b ∷ carried) ∷ []
ripple_parts carry (a ∷ d ∷ us) (b ∷ vs) carried from =
    made odd_ones a (b ∷ carried) ∷ made carry a (b ∷ carried) ∷ ripple_parts carry (d ∷ us) vs (input (suc from) ∷ [])
    (suc (suc from))

abbrev pub ripple_inputs : List Input → (from : ℕ) → List Input
ripple_inputs [] from = []
ripple_inputs (a ∷ us) from = input from ∷ ripple_inputs us (suc (suc from))

-- the borrow of each bit
abbrev pub borrow_parts : List Input → List Input → (borrowed : List Input) → (from : ℕ) → List BlockPart
borrow_parts [] vs borrowed from = []
borrow_parts (a ∷ us) [] borrowed from = []
borrow_parts (a ∷ us) (b ∷ vs) borrowed from =
    made borrows a (b ∷ borrowed) ∷ borrow_parts us vs (input from ∷ []) (suc from)

-- the conjunction of a bit with the next one, of that with the one after it, and so on
abbrev pub conjunction_parts : Input → List Input → (from : ℕ) → List BlockPart
conjunction_parts p [] from = []
conjunction_parts p (q ∷ qs) from = made all_one p (q ∷ []) ∷ conjunction_parts (input from) qs (suc from)

abbrev pub all_parts : List Input → (from : ℕ) → List BlockPart
all_parts [] from = []
all_parts (p ∷ ps) from = conjunction_parts p ps from

abbrev pub equality_parts : List Input → List Input → (from : ℕ) → List BlockPart
equality_parts us vs from = bitwise_parts alike us vs ++ all_parts (result_inputs us from) (from + length us)

-- the last of so many gates from a number on, or this one where there are none
abbrev pub last_from : Input → (from : ℕ) → List Input → Input
last_from c from [] = c
last_from c from (a ∷ us) = last_from (input from) (suc from) us

abbrev pub rest_of : List Input → List Input
rest_of [] = []
rest_of (a ∷ us) = us

abbrev pub equal_input : List Input → (from : ℕ) → Input
equal_input us from = last_from (input from) (from + length us) (rest_of us)

abbrev pub less_input : List Input → (from : ℕ) → Input
less_input us from = last_from (input from) (suc from) (rest_of us)

abbrev pub operator_parts : Op → List Input → List Input → (from : ℕ) → List BlockPart
operator_parts And us vs from = bitwise_parts all_one us vs
operator_parts Or us vs from = bitwise_parts some_one us vs
operator_parts Xor us vs from = bitwise_parts odd_ones us vs
operator_parts Add us vs from = ripple_parts carries us vs [] from
operator_parts Sub us vs from = ripple_parts borrows us vs [] from
operator_parts Eq us vs from = equality_parts us vs from
operator_parts Ne us vs from = equality_parts us vs from
operator_parts Lt us vs from = borrow_parts us vs [] from
operator_parts Ge us vs from = borrow_parts us vs [] from
operator_parts Gt us vs from = borrow_parts vs us [] from
operator_parts Le us vs from = borrow_parts vs us [] from

abbrev pub operator_inputs : Op → List Input → (from : ℕ) → List Input
operator_inputs And us from = result_inputs us from
operator_inputs Or us from = result_inputs us from
operator_inputs Xor us from = result_inputs us from
operator_inputs Add us from = ripple_inputs us from
operator_inputs Sub us from = ripple_inputs us from
operator_inputs Eq us from = equal_input us from ∷ []
operator_inputs Ne us from = turned_over (equal_input us from) ∷ []
operator_inputs Lt us from = less_input us from ∷ []
operator_inputs Gt us from = less_input us from ∷ []
operator_inputs Ge us from = turned_over (less_input us from) ∷ []
operator_inputs Le us from = turned_over (less_input us from) ∷ []

-- how many gates an operator has on two numbers of a width: half as many as nodes
abbrev pub operator_gates : Op → (width : ℕ) → ℕ
operator_gates And w = w
operator_gates Or w = w
operator_gates Xor w = w
operator_gates Add w = 2 * w - 1
operator_gates Sub w = 2 * w - 1
operator_gates Eq w = 2 * w - 1
operator_gates Ne w = 2 * w - 1
operator_gates Lt w = w
operator_gates Le w = w
operator_gates Gt w = w
operator_gates Ge w = w

-- an expression
abbrev mutual
  pub gate_count : Formula → ℕ
  gate_count (constant width v) = width
  gate_count (reading var high low at) = high + 1 - low
  gate_count (joined parts) = joined_gates parts
  gate_count (inverted e) = gate_count e
  gate_count (chained e more) = gate_count e + chained_gates (width_of e) more
  gate_count (compared op e f) = gate_count e + gate_count f + operator_gates op (width_of e)

  pub joined_gates : Formulas → ℕ
  joined_gates no_parts = 0
  joined_gates (and_part e more) = gate_count e + joined_gates more

  pub chained_gates : (width : ℕ) → Operations → ℕ
  chained_gates width no_operations = 0
  chained_gates width (and_operation op e more) = gate_count e + operator_gates op width + chained_gates width more

-- the bits of its value, the lowest first, where its gates are numbered from a number on
abbrev mutual
  pub outs_of : Formula → (from : ℕ) → List Input
  outs_of (constant width v) from = inputs_from width from
  outs_of (reading var high low at) from = inputs_from (high + 1 - low) from
  outs_of (joined parts) from = joined_outs parts from
  outs_of (inverted e) from = map turned_over (outs_of e from)
  outs_of (chained e more) from = chained_outs (width_of e) (outs_of e from) more (from + gate_count e)
  outs_of (compared op e f) from = operator_inputs op (outs_of e from) (from + gate_count e + gate_count f)

  -- the last part has the lowest bits
  pub joined_outs : Formulas → (from : ℕ) → List Input
  joined_outs no_parts from = []
  joined_outs (and_part e more) from = joined_outs more (from + gate_count e) ++ outs_of e from

  pub chained_outs : (width : ℕ) → List Input → Operations → (from : ℕ) → List Input
  chained_outs width left no_operations from = left
  chained_outs width left (and_operation op e more) from =
      chained_outs width (operator_inputs op left (from + gate_count e)) more
      (from + gate_count e + operator_gates op width)

-- its gates
abbrev mutual
  pub block_parts : Formula → (from : ℕ) → List BlockPart
  block_parts (constant width v) from = fixed_parts width v
  block_parts (reading var high low at) from = read_parts var low (high + 1 - low)
  block_parts (joined parts) from = joined_parts parts from
  block_parts (inverted e) from = block_parts e from
  block_parts (chained e more) from =
      block_parts e from ++ chained_parts (width_of e) (outs_of e from) more (from + gate_count e)
  block_parts (compared op e f) from =
      block_parts e from ++ (block_parts f (from + gate_count e)
      ++ operator_parts op (outs_of e from) (outs_of f (from + gate_count e)) (from + gate_count e + gate_count f))

  pub joined_parts : Formulas → (from : ℕ) → List BlockPart
  joined_parts no_parts from = []
  joined_parts (and_part e more) from = block_parts e from ++ joined_parts more (from + gate_count e)

  pub chained_parts : (width : ℕ) → List Input → Operations → (from : ℕ) → List BlockPart
  chained_parts width left no_operations from = []
  chained_parts width left (and_operation op e more) from =
      block_parts e from ++ (operator_parts op left (outs_of e from) (from + gate_count e)
      ++ chained_parts width (operator_inputs op left (from + gate_count e)) more
      (from + gate_count e + operator_gates op width))
