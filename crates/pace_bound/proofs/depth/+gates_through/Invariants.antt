use Rattle.std.proofs.Common.{◌≡◌, ◌-◌, drop, take}
use Rattle.std.specs.Prelude.{max}
use Rattle.width_check.specs.View.{formula_of}
use Rattle.width_check.specs.Values.{AreWellFormed}
use Rattle.handshake_expand.proofs.Rows.{parts_of, links_of}
use Rattle.pace_bound.specs.Bits.{bits, joined_bits, chained_bits}
use Rattle.pace_bound.specs.Behind.{reached_over}
use Rattle.pace_bound.proofs.depth.+gates_through.Given as goal

abbrev pub invariant-loop-place : goal.invariant-loop-place
invariant-loop-place l = record {
  reached : max l.most (reached_over l.rest (joined_bits (parts_of (drop l.place l.parts.items)))) ≡ reached_over l.fn.behind (bits (formula_of l.fn.e));
  formed : AreWellFormed (parts_of (drop l.place l.parts.items));
}

abbrev pub invariant-loop-done : goal.invariant-loop-done
invariant-loop-done l = max l.most (reached_over l.result (chained_bits (bits (formula_of l.first.value)) (links_of (take (l.count - l.done) l.rest.items)))) ≡
    reached_over l.fn.behind (bits (formula_of l.fn.e))
