-- How many moves a circuit makes at most before the program's next step, and that these are two for each node at most.
use Rattle.std.proofs.Common.{ℕ, suc, ◌+◌, ◌*◌, ◌≤◌, Bool, true, false, length, arith}
use Rattle.std.specs.Prelude.{not, ◌&&◌}
use Rattle.width_check.specs.Processes.{TypedProgram}
use Rattle.width_check.specs.Typing.{channel_width, var_width}
use Rattle.circuit_places.specs.Bounds.{circuit_most}
use Rattle.circuit_places.specs.Lines.{of_channel, of_var, Rails}
use Rattle.circuit_places.specs.Circuit.{QElementCells, Cells, joint_count}
use Rattle.circuit_places.specs.Whole.{Wires, line_ack}
use Rattle.circuit_places.proofs.Places.{Mode, idle, running, answered, returning, asks, GuardedAt, guarded_cells, guarded_writing}
use Rattle.circuit_places.specs.Bounds.{moves_most}
use Rattle.circuit_places.proofs.Dues.{mark, bits_twice, mark_most, guarded_of_due, rails_sum, due}
use Rattle.circuit_places.proofs.DuesBound.{guarded_most, due_within}
use Rattle.circuit_places.specs.Bounds.{sum_to}
use Rattle.circuit_places.proofs.BlockDues.{sum_below, phase, phase_most, var_due, var_most}

-- a variable's acknowledge is high, and what it acknowledges is over
abbrev pub over : (P : TypedProgram) {m : Mode} → GuardedAt P.body m → Wires → ℕ → Bool
over P g w x = line_ack P w (of_var x) && not (guarded_writing (line_ack P w) g x)

-- before go has risen all is due
abbrev pub root_due : (P : TypedProgram) → Mode → QElementCells (Cells P.body) → ℕ
root_due P idle x = 7 + moves_most P P.body
root_due P m x = guarded_of_due P P.body (asks m) x

abbrev pub channel_due : (width : ℕ) → (ack : Bool) → Rails → ℕ
channel_due n a q = mark a + rails_sum (phase a) n q

abbrev pub vars_due : (P : TypedProgram) → (ℕ → Bool) → Wires → ℕ
vars_due P o w = sum_to (length P.vars) (λ x. var_due (var_width P.vars x) (o x) (w.bit x) (w.rail (of_var x)) (w.wrote x) (w.joint x))

abbrev pub channels_due : TypedProgram → Wires → ℕ
channels_due P w = sum_to (length P.channels) (λ c. channel_due (channel_width P.channels c) (w.ack c) (w.rail (of_channel c)))

abbrev pub circuit_due : (P : TypedProgram) {m : Mode} → GuardedAt P.body m → Wires → ℕ
circuit_due P {m = m} g w = root_due P m (guarded_cells g) + (vars_due P (over P g w) w + channels_due P w)

root_most : (P : TypedProgram) (m : Mode) (x : QElementCells (Cells P.body)) → root_due P m x ≤ 7 + moves_most P P.body
root_most P idle x = omega arith
root_most P running x =
    omega (arith, guarded_most true x.child x.latch x.next (moves_most P P.body) (due P P.body x.child x.inner) (due_within P P.body x.child x.inner))
root_most P answered x =
    omega (arith, guarded_most true x.child x.latch x.next (moves_most P P.body) (due P P.body x.child x.inner) (due_within P P.body x.child x.inner))
root_most P returning x =
    omega (arith, guarded_most false x.child x.latch x.next (moves_most P P.body) (due P P.body x.child x.inner) (due_within P P.body x.child x.inner))

channel_most : (n : ℕ) (a : Bool) (q : Rails) → channel_due n a q ≤ 2 + 4 * n
channel_most n a q =
    omega (arith, mark_most a, bits_twice (phase a) (phase_most a) n (λ i. q i true), bits_twice (phase a) (phase_most a) n (λ i. q i false))

pub due_fits : (P : TypedProgram) {m : Mode} (g : GuardedAt P.body m) (w : Wires) → suc (circuit_due P g w) ≤ circuit_most P
due_fits P {m = m} g w =
    let r = root_most P m (guarded_cells g) in
    let v = sum_below (length P.vars) (λ x. 10 * var_width P.vars x + 2 * joint_count (var_width P.vars x))
    (λ x. var_due (var_width P.vars x) (over P g w x) (w.bit x) (w.rail (of_var x)) (w.wrote x) (w.joint x))
    (λ x less. var_most (var_width P.vars x) (over P g w x) (w.bit x) (w.rail (of_var x)) (w.wrote x) (w.joint x)) in
    let c = sum_below (length P.channels) (λ c. 2 + 4 * channel_width P.channels c)
    (λ c. channel_due (channel_width P.channels c) (w.ack c) (w.rail (of_channel c)))
    (λ c less. channel_most (channel_width P.channels c) (w.ack c) (w.rail (of_channel c))) in
    omega (arith, r, v, c)
