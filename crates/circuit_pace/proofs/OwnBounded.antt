-- In a typed program the trail of each own node that may move is two less than `longest` at most.
--
-- P: the program; p: a statement; s: a spot; z: that its rule fires.
use Rattle.std.proofs.Common.{◌≡◌, suc, ◌+◌, ◌≤◌, Bool, true, List, arith}
use Rattle.std.specs.Prelude.{max}
use Rattle.std.proofs.Math.Nat.{le-max_left, le-max_right}
use Rattle.chp_base.specs.declared.channel.Channel.{Channel}
use Rattle.width_check.specs.declared.typed.Var.{Var}
use Rattle.width_check.specs.Processes.{Process, skipping, assigning, sending, receiving, in_turn, side_by_side, choosing, repeating, Processes, no_members, and_member, Choices, no_choices, and_choice, TypedProgram}
use Rattle.width_check.specs.Typing.{IsProcess, AreProcesses, AreChoices}
use Rattle.function_blocks.specs.Rails.{one_rule_fires}
use Rattle.function_blocks.proofs.Ordered.{parts_ordered}
use Rattle.circuit_places.specs.Lines.{Seen}
use Rattle.circuit_places.specs.Circuit.{QElementCells, Cells, GuardedSpot, guarded_rule}
use Rattle.circuit_places.proofs.Meets.{Meets}
use Rattle.round_time.specs.Longest.{first, low, within, longest}
use Rattle.circuit_time.proofs.Trails.{guarded_trail}
use Rattle.circuit_time.proofs.Requests.{first_some}
use Rattle.circuit_time.proofs.OwnTrails.{GuardsOrdered}
use Rattle.circuit_pace.proofs.AllBounded.{guarded_within}
use Rattle.circuit_pace.proofs.Counts.{AllOrdered, EachOrdered, ChoicesOrdered, counts, covered, root_within, counts_leave}

-- gates of typed expressions stand behind their inputs
module _ (channels : List Channel) (vars : List Var) where
  guards_ordered : (cs : Choices) → AreChoices channels vars cs → GuardsOrdered cs
  guards_ordered no_choices t = tt
  guards_ordered (and_choice g p more) t = (parts_ordered g 0 t.0.formed, guards_ordered more t.2)

  mutual
    pub all_ordered : (p : Process) → IsProcess channels vars p → AllOrdered p
    all_ordered skipping t = tt
    all_ordered (assigning x at e) t = parts_ordered e 0 t.1.formed
    all_ordered (sending c at e) t = parts_ordered e 0 t.sent.formed
    all_ordered (receiving c at x to) t = tt
    all_ordered (in_turn ms) t = each_ordered ms t.1
    all_ordered (side_by_side ms) t = each_ordered ms t.1
    all_ordered (repeating p) t = all_ordered p t
    all_ordered (choosing again cs) t = (guards_ordered cs t.2, choices_ordered cs t.2)

    each_ordered : (ms : Processes) → AreProcesses channels vars ms → EachOrdered ms
    each_ordered no_members t = tt
    each_ordered (and_member p more) t = (all_ordered p t.0, each_ordered more t.1)

    choices_ordered : (cs : Choices) → AreChoices channels vars cs → ChoicesOrdered cs
    choices_ordered no_choices t = tt
    choices_ordered (and_choice g p more) t = (all_ordered p t.1, choices_ordered more t.2)

pub own_bounded : (P : TypedProgram) → IsProcess P.channels P.vars P.body → Meets P P.body → (env : Seen) (r : Bool) (x : QElementCells (Cells P.body))
    (s : GuardedSpot P.body) → one_rule_fires (guarded_rule P.body env r x s) ≡ true → suc (suc (guarded_trail P (counts P) 0 0 P.body x s)) ≤ longest P
own_bounded P typed meets env r x s z =
    let b = le-max_right (within P P.body) (max (2 + first P P.body) (low P 2 P.body + 2)) in
    let c = le-max_left (2 + first P P.body) (low P 2 P.body + 2) in
    let f = first_some P P.body in
    guarded_within P (longest P) (counts P) (counts_leave P meets) 0 0 P.body meets (covered P (all_ordered P.channels P.vars P.body typed)) (root_within P)
    (omega (arith, b, c)) (omega (arith, b, c, f)) (omega (arith, b, c, f)) env r x s z
