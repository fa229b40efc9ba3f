-- Two moves for each node of a circuit: so many it makes at most between two steps of its program.
use Rattle.std.specs.Prelude.{ℕ, zero, suc, ◌+◌, ◌*◌, false, true, length}
use Rattle.width_check.specs.Processes.{Process, skipping, assigning, sending, receiving, in_turn, side_by_side, choosing, repeating, Processes, no_members, and_member, member_count, Choices, no_choices, and_choice, choice_count, TypedProgram}
use Rattle.width_check.specs.Typing.{channel_width, var_width}
use Rattle.circuit_places.specs.Circuit.{gate_count, joint_count}

-- the sum over the numbers below n
abbrev pub sum_to : ℕ → (ℕ → ℕ) → ℕ
sum_to zero f = 0
sum_to (suc n) f = f n + sum_to n f

-- gates of all guards
abbrev pub gates_in : Choices → ℕ
gates_in no_choices = 0
gates_in (and_choice g p more) = gate_count g + gates_in more

-- twice the own nodes of a statement
abbrev mutual
  pub moves_most : TypedProgram → Process → ℕ
  moves_most P skipping = 2
  moves_most P (assigning x at e) = 2 + 4 * gate_count e
  moves_most P (sending c at e) = 2 + 4 * gate_count e
  moves_most P (receiving c at x to) = 4 + 4 * channel_width P.channels c
  moves_most P (in_turn members) = turn_most P members
  moves_most P (side_by_side members) = 2 * joint_count (member_count members) + each_most P members
  moves_most P (repeating p) = 4 + moves_most P p
  moves_most P (choosing false choices) =
      6 + (4 * choice_count choices + (4 * gates_in choices + choice_most P choices))
  moves_most P (choosing true choices) =
      12 + (4 * choice_count choices + (4 * gates_in choices + choice_most P choices))

  pub turn_most : TypedProgram → Processes → ℕ
  turn_most P no_members = 0
  turn_most P (and_member p no_members) = moves_most P p
  turn_most P (and_member p (and_member q more)) = 6 + (moves_most P p + turn_most P (and_member q more))

  pub each_most : TypedProgram → Processes → ℕ
  each_most P no_members = 0
  each_most P (and_member p more) = 6 + (moves_most P p + each_most P more)

  pub choice_most : TypedProgram → Choices → ℕ
  choice_most P no_choices = 0
  choice_most P (and_choice g p more) = moves_most P p + choice_most P more

-- with go and the root, each variable's block and each channel's wires
abbrev pub circuit_most : TypedProgram → ℕ
circuit_most P =
    8 + moves_most P P.body
    + (sum_to (length P.vars) (λ x. 10 * var_width P.vars x + 2 * joint_count (var_width P.vars x))
    + sum_to (length P.channels) (λ c. 2 + 4 * channel_width P.channels c))
