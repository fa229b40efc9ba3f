-- What a circuit moves at most between two steps of its program is two moves for each node of its net.
use Rattle.std.proofs.Common.{◌≡◌, ℕ, zero, suc, ◌+◌, ◌*◌, ◌≤◌, Bool, true, false, List, [], ◌∷◌, length, refl, arith}
use Rattle.std.specs.Prelude.{if◌then◌else◌}
use Rattle.chp_base.specs.declared.channel.Channel.{Channel}
use Rattle.width_check.specs.declared.typed.Var.{Var}
use Rattle.width_check.specs.Processes.{Formula, Process, skipping, assigning, sending, receiving, in_turn, side_by_side, choosing, repeating, Processes, no_members, and_member, member_count, Choices, no_choices, and_choice, TypedProgram}
use Rattle.width_check.specs.Reads.{reads}
use Rattle.width_check.specs.Typing.{channel_width, var_width}
use Rattle.handshake_expand.specs.Layout.{formula_size, through_size, size_of, turn_size, branches_size, guards_size, bodies_size, wires_before, blocks_before, nodes_of}
use Rattle.function_blocks.proofs.PartSizes.{count_doubled}
use Rattle.circuit_places.specs.Circuit.{joint_count}
use Rattle.circuit_places.specs.Bounds.{sum_to, gates_in, moves_most, turn_most, each_most, choice_most, circuit_most}
use Rattle.net_compose.proofs.FlatTrees.{joint_count_is}

gates_are : (choices : Choices) → guards_size choices ≡ 2 * gates_in choices
gates_are no_choices = refl
gates_are (and_choice g p more) = omega (arith, count_doubled g, gates_are more)

assigned : (P : TypedProgram) (x : ℕ) (e : Formula) (b : Bool) → 1 + formula_size e ≤ (if b then through_size (var_width P.vars x) e else 1 + formula_size e)
assigned P x e true = omega arith
assigned P x e false = omega arith

mutual
  most_within : (P : TypedProgram) (p : Process) → moves_most P p ≤ 2 * size_of P p
  most_within P skipping = omega arith
  most_within P (assigning x at e) = omega (arith, count_doubled e, assigned P x e (reads x e))
  most_within P (sending chan at e) = omega (arith, count_doubled e)
  most_within P (receiving chan at x to) = omega arith
  most_within P (in_turn members) = turn_within P members
  most_within P (side_by_side members) = omega (arith, each_within P members, joint_count_is (member_count members))
  most_within P (repeating p) = omega (arith, most_within P p)
  most_within P (choosing false choices) = omega (arith, gates_are choices, choice_within P choices)
  most_within P (choosing true choices) = omega (arith, gates_are choices, choice_within P choices)

  turn_within : (P : TypedProgram) (members : Processes) → turn_most P members ≤ 2 * turn_size P members
  turn_within P no_members = omega arith
  turn_within P (and_member p no_members) = most_within P p
  turn_within P (and_member p (and_member q more)) = omega (arith, most_within P p, turn_within P (and_member q more))

  each_within : (P : TypedProgram) (members : Processes) → each_most P members ≤ 2 * branches_size P members
  each_within P no_members = omega arith
  each_within P (and_member p more) = omega (arith, most_within P p, each_within P more)

  choice_within : (P : TypedProgram) (choices : Choices) → choice_most P choices ≤ 2 * bodies_size P choices
  choice_within P no_choices = omega arith
  choice_within P (and_choice g p more) = omega (arith, most_within P p, choice_within P more)

-- a sum, from its front
sum_front : (n : ℕ) (f : ℕ → ℕ) → sum_to (suc n) f ≡ f 0 + sum_to n (λ i. f (suc i))
sum_front zero f = omega arith
sum_front (suc n) f = let e = sum_front n f in omega (arith, e)

blocks_within : (vs : List Var) → sum_to (length vs) (λ x. 10 * var_width vs x + 2 * joint_count (var_width vs x)) ≤ 2 * blocks_before vs (length vs)
blocks_within [] = omega arith
blocks_within (v ∷ vs) =
    let e = sum_front (length vs) (λ x. 10 * var_width (v ∷ vs) x + 2 * joint_count (var_width (v ∷ vs) x)) in
    omega (arith, e, blocks_within vs, joint_count_is v.width)

wires_within : (cs : List Channel) → sum_to (length cs) (λ c. 2 + 4 * channel_width cs c) ≤ 2 * wires_before cs (length cs)
wires_within [] = omega arith
wires_within (c ∷ cs) =
    let e = sum_front (length cs) (λ k. 2 + 4 * channel_width (c ∷ cs) k) in
    omega (arith, e, wires_within cs)

pub two_each : (P : TypedProgram) → circuit_most P ≤ 2 * nodes_of P
two_each P = omega (arith, most_within P P.body, blocks_within P.vars, wires_within P.channels)
