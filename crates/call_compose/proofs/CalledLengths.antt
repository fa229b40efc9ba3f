-- How many nodes a statement has: no more with one for each call than with copies of the bodies.
use Rattle.std.proofs.Common.{ℕ, ◌+◌, ◌≤◌, Bool, true, false, List, arith}
use Rattle.std.specs.Prelude.{if◌then◌else◌, slice_index_or}
use Rattle.width_check.specs.Processes.{Process, skipping, assigning, sending, receiving, in_turn, side_by_side, choosing, repeating, no_members, and_member, TypedProgram}
use Rattle.width_check.specs.Reads.{reads}
use Rattle.width_check.specs.Typing.{IsProcess, AreProcesses, AreChoices, var_width}
use Rattle.handshake_expand.specs.Layout.{formula_size, through_size, size_of, turn_size, branches_size, bodies_size}
use Rattle.call_map.specs.Calling.{Called, calling, atom, turned, abreast, chosen, looped, Calleds, no_calleds, and_called, CalledChoices, no_called, or_called, inlined, inlined_each, inlined_choices, called_size, called_turn_size, called_branches_size, called_bodies_size}

some_of : (b : Bool) (m n : ℕ) → 1 ≤ m → 1 ≤ n → 1 ≤ (if b then m else n)
some_of true m n h k = h
some_of false m n h k = k

module _ (p : TypedProgram) where
  some_nodes : (s : Process) → IsProcess p.channels p.vars s → 1 ≤ size_of p s
  some_nodes skipping t = omega arith
  some_nodes (assigning x at e) t =
      some_of (reads x e) (through_size (var_width p.vars x) e) (1 + formula_size e) (omega arith) (omega arith)
  some_nodes (sending chan at e) t = omega arith
  some_nodes (receiving chan chan_at x var_at) t = omega arith
  some_nodes (in_turn no_members) t = absurd (omega (arith, t.0))
  some_nodes (in_turn (and_member s no_members)) t = absurd (omega (arith, t.0))
  some_nodes (in_turn (and_member s (and_member u more))) t = omega arith
  some_nodes (side_by_side no_members) t = absurd (omega (arith, t.0))
  some_nodes (side_by_side (and_member s more)) t = omega arith
  some_nodes (choosing false cs) t = omega arith
  some_nodes (choosing true cs) t = omega arith
  some_nodes (repeating s) t = omega arith

  module _ (bs : List Process) where
    mutual
      pub called_fewer : (x : Called) → IsProcess p.channels p.vars (inlined bs x) → called_size bs p x ≤ size_of p (inlined bs x)
      called_fewer (calling q) t = some_nodes (slice_index_or bs q skipping) t
      called_fewer (atom s) t = omega arith
      called_fewer (turned ms) t = turn_fewer ms t.1
      called_fewer (abreast ms) t = omega (arith, branches_fewer ms t.1)
      called_fewer (chosen false choices) t = omega (arith, bodies_fewer choices t.2)
      called_fewer (chosen true choices) t = omega (arith, bodies_fewer choices t.2)
      called_fewer (looped x) t = let a = called_fewer x t in omega (arith, a)

      pub turn_fewer : (ms : Calleds) → AreProcesses p.channels p.vars (inlined_each bs ms) → called_turn_size bs p ms ≤ turn_size p (inlined_each bs ms)
      turn_fewer no_calleds t = omega arith
      turn_fewer (and_called x no_calleds) t = called_fewer x t.0
      turn_fewer (and_called x (and_called y more)) t =
          let a = called_fewer x t.0 in
          let b = turn_fewer (and_called y more) t.1 in
          omega (arith, a, b)

      pub branches_fewer : (ms : Calleds) → AreProcesses p.channels p.vars (inlined_each bs ms)
          → called_branches_size bs p ms ≤ branches_size p (inlined_each bs ms)
      branches_fewer no_calleds t = omega arith
      branches_fewer (and_called x more) t =
          let a = called_fewer x t.0 in
          let b = branches_fewer more t.1 in
          omega (arith, a, b)

      pub bodies_fewer : (cs : CalledChoices) → AreChoices p.channels p.vars (inlined_choices bs cs)
          → called_bodies_size bs p cs ≤ bodies_size p (inlined_choices bs cs)
      bodies_fewer no_called t = omega arith
      bodies_fewer (or_called g x more) t =
          let a = called_fewer x t.1 in
          let b = bodies_fewer more t.2 in
          omega (arith, a, b)
