use Rattle.std.proofs.Common.{◌≡◌, ◌++◌, take}
use Rattle.prs_file.proofs.Pieces.{joined}
use Rattle.prs_file.proofs.spelled.is_spelled.Given as goal

abbrev pub invariant-loop-piece : goal.invariant-loop-piece
invariant-loop-piece l = l.line ≡ joined (take l.piece-index l.pieces) ++ l.rest
