use Rattle.std.proofs.Common.{sym, ◌∙◌}
use Rattle.prs_file.proofs.Against.{too_short, other_front, one_piece_more, nothing_more, same_front, other}
use Rattle.prs_file.proofs.spelled.is_spelled.Goals as goal

pub returns-then-rest-piece : goal.returns-then-rest-piece
returns-then-rest-piece c =
    too_short c.args.line.now c.loop-piece.rest.now c.args.pieces.now c.loop-piece.piece-index c.loop-piece-test.true c.loop-piece.invariant
    c.if-rest-piece.true

pub returns-then-not-is_same : goal.returns-then-not-is_same
returns-then-not-is_same c =
    other_front c.args.line.now c.loop-piece.rest.now c.split_at.result.0.now c.args.pieces.now c.loop-piece.piece-index c.loop-piece-test.true
    c.loop-piece.invariant c.split_at.ensures.front (other _ _ (sym c.is_same.ensures ∙ c.if-not-is_same.true))

pub loop-piece-preserved : goal.loop-piece-preserved
loop-piece-preserved c =
    one_piece_more c.args.line.now c.loop-piece.rest.now c.split_at.result.0.now c.split_at.result.1.now c.args.pieces.now c.loop-piece.piece-index
    c.loop-piece-test.true c.loop-piece.invariant c.split_at.ensures.front c.split_at.ensures.back
    (same_front _ _ (sym c.is_same.ensures ∙ c.if-not-is_same.false))

pub returns : goal.returns
returns c = c.is_empty.ensures ∙ nothing_more c.args.line.now c.loop-piece.rest.now c.args.pieces.now c.loop-piece.piece-index c.loop-piece-test.false
    c.loop-piece.invariant
