use Rattle.command_answers.proofs.Pieces.{PiecesSoFar}
use Rattle.command_answers.proofs.say.put_pieces.Given as goal

abbrev pub invariant-loop-piece : goal.invariant-loop-piece
invariant-loop-piece g l =
    let W = g.W.Sink in
    PiecesSoFar (W.faults l.fn.say) (W.faults l.say) (W.tells l.fn.say) (W.tells l.say) (W.written l.fn.say) (W.written l.say) l.pieces l.piece-index
