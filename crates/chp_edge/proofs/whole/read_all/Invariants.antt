use Rattle.std.proofs.Common.{◌+◌, ◌-◌, length}
use Rattle.chp_edge.proofs.Progress.{ReadSoFar}
use Rattle.chp_edge.proofs.whole.read_all.Given as goal

abbrev pub invariant-loop-piece : goal.invariant-loop-piece
invariant-loop-piece g l =
    let S = g.S.Shelf in
    ReadSoFar (S.faults l.fn.shelf) (S.faults l.shelf) (S.tells l.fn.shelf) (S.tells l.shelf) (S.holds l.fn.shelf) (S.holds l.shelf) l.name l.all.items
    (S.rest l.shelf) l.limit

abbrev pub decreases-loop-piece : goal.decreases-loop-piece
decreases-loop-piece g l = l.limit + 1 - length l.all.items
