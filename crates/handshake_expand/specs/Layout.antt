-- How the nodes of a program's circuit are numbered: go and done, the wires of each channel, the block of each
-- variable, the root's child request and latch, and the nodes of the body, each statement's own ones before those of
-- its parts.
use Rattle.std.specs.Prelude.{ℕ, zero, suc, ◌+◌, ◌-◌, ◌*◌, ◌^◌, Bool, true, false, ◌||◌, ◌==◌, if◌then◌else◌, min, List, [], ◌∷◌, length}
use Rattle.chp_base.specs.declared.channel.Channel.{Channel}
use Rattle.chp_syntax.specs.declared.tree.Op.{Op}
use Rattle.chp_syntax.specs.declared.tree.Op.TheVariants.{And, Or, Xor, Add, Sub, Eq, Ne, Lt, Le, Gt, Ge}
use Rattle.width_check.specs.declared.typed.Var.{Var}
use Rattle.width_check.specs.Processes.{Formula, constant, reading, joined, inverted, chained, compared, Formulas, no_parts, and_part, Operations, no_operations, and_operation, Process, skipping, assigning, sending, receiving, in_turn, side_by_side, choosing, repeating, Processes, no_members, and_member, member_count, Choices, no_choices, and_choice, choice_count, TypedProgram}
use Rattle.width_check.specs.Values.{width_of}
use Rattle.width_check.specs.Typing.{channel_width, var_width}
use Rattle.width_check.specs.Reads.{reads}

-- a number as it is counted: it saturates at the greatest one of 64 bits
abbrev pub capped : ℕ → ℕ
capped n = min n (2 ^ 64 - 1)

-- how many nodes the gates of an operator on two numbers of a width have
abbrev pub operator_size : Op → (width : ℕ) → ℕ
operator_size And w = 2 * w
operator_size Or w = 2 * w
operator_size Xor w = 2 * w
operator_size Add w = 4 * w - 2
operator_size Sub w = 4 * w - 2
operator_size Eq w = 4 * w - 2
operator_size Ne w = 4 * w - 2
operator_size Lt w = 2 * w
operator_size Le w = 2 * w
operator_size Gt w = 2 * w
operator_size Ge w = 2 * w

-- of an expression
abbrev mutual
  pub formula_size : Formula → ℕ
  formula_size (constant width v) = 2 * width
  formula_size (reading var high low at) = 2 * (high + 1 - low)
  formula_size (joined parts) = parts_size parts
  formula_size (inverted e) = formula_size e
  formula_size (chained e more) = formula_size e + operations_size (width_of e) more
  formula_size (compared op e f) = formula_size e + formula_size f + operator_size op (width_of e)

  pub parts_size : Formulas → ℕ
  parts_size no_parts = 0
  parts_size (and_part e more) = formula_size e + parts_size more

  pub operations_size : (width : ℕ) → Operations → ℕ
  operations_size width no_operations = 0
  operations_size width (and_operation op e more) = formula_size e + operator_size op width + operations_size width more

-- two rails for each bit, and an acknowledge
abbrev pub wires_size : (width : ℕ) → ℕ
wires_size w = 2 * w + 1

-- a variable's block: for each bit its two rails, the two rails by which it is written, and a node that says it is
-- written; and the completion tree over these
abbrev pub block_size : (width : ℕ) → ℕ
block_size w = 6 * w - 1

-- an assignment through a hidden variable: its block, a Q-element, an answer with the expression, and an answer with
-- what is read back
abbrev pub through_size : (width : ℕ) → Formula → ℕ
through_size w e = block_size w + 3 + (1 + formula_size e) + (1 + 2 * w)

abbrev pub assign_size : TypedProgram → ℕ → Formula → ℕ
assign_size p x e = if reads x e then through_size (var_width p.vars x) e else 1 + formula_size e

abbrev mutual
  pub size_of : TypedProgram → Process → ℕ
  size_of p skipping = 1
  size_of p (assigning x at e) = assign_size p x e
  size_of p (sending chan at e) = 1 + formula_size e
  size_of p (receiving chan chan_at x var_at) = 2 + 2 * channel_width p.channels chan
  size_of p (in_turn members) = turn_size p members
  size_of p (side_by_side members) = branches_size p members + (member_count members - 1)
  size_of p (choosing false choices) = 3 + 2 * choice_count choices + guards_size choices + bodies_size p choices
  size_of p (choosing true choices) = 6 + 2 * choice_count choices + guards_size choices + bodies_size p choices
  size_of p (repeating s) = 2 + size_of p s

  -- a Q-element before each member but the last
  pub turn_size : TypedProgram → Processes → ℕ
  turn_size p no_members = 0
  turn_size p (and_member s no_members) = size_of p s
  turn_size p (and_member s (and_member t more)) = 3 + size_of p s + turn_size p (and_member t more)

  -- a Q-element before each branch
  pub branches_size : TypedProgram → Processes → ℕ
  branches_size p no_members = 0
  branches_size p (and_member s more) = 3 + size_of p s + branches_size p more

  pub guards_size : Choices → ℕ
  guards_size no_choices = 0
  guards_size (and_choice g s more) = formula_size g + guards_size more

  pub bodies_size : TypedProgram → Choices → ℕ
  bodies_size p no_choices = 0
  bodies_size p (and_choice g s more) = size_of p s + bodies_size p more

-- node 0 is the request of the whole circuit, node 1 its answer
abbrev pub go_node : ℕ
go_node = 0

abbrev pub done_node : ℕ
done_node = 1

-- the wires of the channels before one, and the blocks of the variables before one
abbrev pub wires_before : List Channel → ℕ → ℕ
wires_before [] chan = 0
wires_before (c ∷ cs) zero = 0
wires_before (c ∷ cs) (suc chan) = wires_size c.width + wires_before cs chan

abbrev pub blocks_before : List Var → ℕ → ℕ
blocks_before [] x = 0
blocks_before (v ∷ vs) zero = 0
blocks_before (v ∷ vs) (suc x) = block_size v.width + blocks_before vs x

-- where they begin
abbrev pub channel_from : TypedProgram → ℕ → ℕ
channel_from p chan = 2 + wires_before p.channels chan

abbrev pub vars_from : TypedProgram → ℕ
vars_from p = channel_from p (length p.channels)

abbrev pub var_from : TypedProgram → ℕ → ℕ
var_from p x = vars_from p + blocks_before p.vars x

abbrev pub root_request : TypedProgram → ℕ
root_request p = var_from p (length p.vars)

abbrev pub root_latch : TypedProgram → ℕ
root_latch p = root_request p + 1

abbrev pub body_from : TypedProgram → ℕ
body_from p = root_request p + 2

-- how many nodes the circuit has
abbrev pub nodes_of : TypedProgram → ℕ
nodes_of p = body_from p + size_of p p.body

-- the same, saturated
abbrev pub node_count : TypedProgram → ℕ
node_count p = capped (nodes_of p)
